-- `spans::chunks::spans_of` meets its contract. The loop's invariant: the segments so far have the spans of their
-- chunks, and the others are kept ahead.
use Prim.Native.Nat.{◌<◌}
use mathlib.Core.List.{List}
use mathlib.Core.Path.{refl, ap}
use native.Mathlib.Omega.{arith}
use lib.ListN.{length}
use lib.Seq.{take_all}
use Rattle.partial.specs.Segments.{Segment, chunks_of}
use Rattle.partial.specs.Sources.{of_source}
use Rattle.gathering.proofs.KeptLaws.{next_segment}
use Rattle.spans.proofs.ChunkLaws.{spans_none, spans_same, spans_segment, spans_other}
use Rattle.spans.proofs.SpanLaws.{no_spans}
use Rattle.spans.proofs.chunks.spans_of.Goals as goal
use Rattle.spans.proofs.chunks.spans_of.Goals.{then-kept-k, else-kept-k}

pub returns-then-kept-gt-SEGMENT_LIMIT : goal.returns-then-kept-gt-SEGMENT_LIMIT
returns-then-kept-gt-SEGMENT_LIMIT c = (no_spans _ _, λ ss kept. absurd (omega (arith, kept.count, kept.few)))

pub loop-k-init : goal.loop-k-init
unfolding chunks_of of_source
loop-k-init c =
    (omega arith, no_spans _ _, λ ss kept room. (refl, kept.segments, spans_none _ _ _))

pub returns-then-at-count : goal.returns-then-at-count
returns-then-at-count c =
    let (under, spans, so_far) = c.loop-k.invariant in (
      spans,
      λ ss kept room.
          let (here, ahead, _) = so_far ss kept room in
          let some : c.loop-k.k < length ss = omega (arith, kept.count) in
          absurd (omega (arith, (next_segment _ _ _ ss _ _ some kept.chunks here ahead).fits)),
    )

pub loop-k-preserved : goal.loop-k-preserved
loop-k-preserved c =
    let (under, spans, so_far) = c.loop-k.invariant in
    let k = c.loop-k.k in
    elim c.if-kept-k.branch [
      | then-kept-k w ↦
          let (still, more) = w.take_segment-n.ensures in
          rw (w.table-is, w.n-is) (
            omega arith,
            still spans,
            λ ss kept room.
                let (here, ahead, made) = so_far ss kept room in
                let n = next_segment _ _ _ ss k _ (omega (arith, kept.count)) kept.chunks here ahead in
                (n.behind, n.ahead, spans_segment _ _ _ ss k n w.if-kept-k.true (omega (arith, room, c.loop-k.auto.table)) made (more _ n.s.chunks n.count n.kept)),
          )
      | else-kept-k w ↦
          rw (w.table-is, w.n-is) (
            omega arith,
            spans,
            λ ss kept room.
                let (here, ahead, made) = so_far ss kept room in
                let n = next_segment _ _ _ ss k _ (omega (arith, kept.count)) kept.chunks here ahead in
                (n.behind, n.ahead, spans_other _ _ _ ss k n w.if-kept-k.false made),
          )
    ]

pub returns : goal.returns
returns c =
    let (under, spans, so_far) = c.loop-k.invariant in
    (spans, λ ss kept room. spans_same (ap (λ (x : List Segment). chunks_of (of_source c.args.source x)) (take_all c.loop-k.k ss (omega (arith, kept.count)))) (so_far ss kept room).2)
