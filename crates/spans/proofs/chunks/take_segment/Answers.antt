-- `spans::chunks::take_segment` meets its contract. The loop's invariant: the chunks so far have their spans, and the
-- others are kept ahead.
use Prim.Native.Nat.{ℕ, ◌+◌, ◌-◌, ◌^◌, ◌<◌, min}
use mathlib.Core.List.{List, ◌++◌, append-nil}
use mathlib.Core.Path.{refl, ap, ◌∙◌}
use native.Mathlib.Nat.{add-zero}
use native.Mathlib.Omega.{arith}
use lib.ListN.{length}
use lib.Seq.{take_all}
use Rattle.partial.specs.Segments.{Chunk}
use Rattle.gathering.specs.Numbers.{chunk_by}
use Rattle.gathering.proofs.KeptLaws.{next_kept}
use Rattle.spans.proofs.ChunkLaws.{part_at, taken_same, spans_same, spans_next}
use Rattle.spans.proofs.chunks.take_segment.Goals as goal

pub loop-number-init : goal.loop-number-init
loop-number-init c = (λ s. s, λ done cs many kept room s. (rw add-zero kept, rw append-nil s))

pub loop-number-preserved : goal.loop-number-preserved
loop-number-preserved c =
    let (spans, so_far) = c.loop-number.invariant in
    let same = c.chunk_by-c.ensures ∙ ap (λ (n : ℕ). chunk_by c.loop-number.start.0 n) (part_at c.args.numbers.now c.args.at c.args.count c.loop-number.number-index (omega arith) refl) in
    let taken = c.take_chunk-n.ensures in (
      λ s. taken.spans (spans s),
      λ done cs many kept room s.
          let (ahead, made) = so_far done cs many kept room s in
          let less : c.loop-number.number-index < length cs = omega arith in (
            next_kept _ _ cs _ _ less ahead _ (c.saturating_add.ensures ∙ ap (λ (x : Chunk). min (c.loop-number.start.0 + x.size) (2 ^ 64 - 1)) same),
            spans_next _ _ done cs _ _ _ _ less ahead (omega (arith, room, c.loop-number.auto.table)) made (taken_same same taken),
          ),
    )

pub returns : goal.returns
returns c =
    let (spans, so_far) = c.loop-number.invariant in (
      spans,
      λ done cs many kept room s.
          spans_same (ap (λ (l : List Chunk). done ++ l) (take_all c.loop-number.number-index cs (omega arith))) (so_far done cs many kept room s).1,
    )
