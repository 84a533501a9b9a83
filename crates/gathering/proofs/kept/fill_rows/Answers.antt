-- `gathering::kept::fill_rows` meets its contract. The loop's invariant: the segments so far have the rows of their
-- chunks, and the others are kept ahead.
use Prim.Native.Nat.{◌<◌}
use mathlib.Core.Path.{refl, ap}
use native.Mathlib.Omega.{arith}
use borrow.Author.Rules.{rules}
use lib.ListN.{length}
use lib.Seq.{take_all}
use Rattle.partial.specs.Segments.{chunks_of}
use Rattle.partial.specs.Tables.{chunk_rows, chunk_rows_from}
use Rattle.filling.proofs.RowLaws.{put_none, put_same}
use Rattle.gathering.proofs.KeptLaws.{next_segment, rows_more}
use Rattle.gathering.proofs.kept.fill_rows.Goals as goal

pub returns-then-many-gt-SEGMENT_LIMIT : goal.returns-then-many-gt-SEGMENT_LIMIT
returns-then-many-gt-SEGMENT_LIMIT c = λ sources ss kept. absurd (omega (arith, kept.count, kept.few))

pub loop-k-init : goal.loop-k-init
unfolding chunks_of chunk_rows chunk_rows_from
loop-k-init c = (omega arith, omega arith, refl, λ sources ss kept. (refl, kept.segments, put_none _ _))

pub returns-then-at-count : goal.returns-then-at-count
returns-then-at-count c =
    λ sources ss kept.
    let (here, ahead, _) = c.loop-k.invariant.3 sources ss kept in
    let some : c.loop-k.k < length ss = omega (arith, kept.count) in
    absurd (omega (arith, (next_segment _ _ _ ss _ _ some kept.chunks here ahead).fits))

pub loop-k-preserved : goal.loop-k-preserved
loop-k-preserved c =
    let inv = c.loop-k.invariant in (
      omega arith,
      omega arith,
      search rules,
      λ sources ss kept.
          let (here, ahead, put) = inv.3 sources ss kept in
          let some : c.loop-k.k < length ss = omega (arith, kept.count) in
          let n = next_segment _ _ _ ss _ _ some kept.chunks here ahead in
          (n.behind, n.ahead, rows_more ss some here n put (c.put_rows.ensures n.s.chunks n.count n.kept)),
    )

pub returns : goal.returns
returns c =
    λ sources ss kept.
    put_same refl (ap chunk_rows (take_all c.loop-k.k ss (omega (arith, kept.count)))) (c.loop-k.invariant.3 sources ss kept).2
