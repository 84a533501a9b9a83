-- `gathering::kept::fill_rows` meets its contract. The loop's invariant: the segments so far have the rows of their
-- chunks, and the others are kept ahead.
use Prim.Native.Nat.{ℕ, ◌≤◌}
use mathlib.Core.List.{List}
use mathlib.Core.Path.{◌≡◌}
use lib.ListN.{length, take, drop}
use Rattle.partial.specs.Limits.{chunk_limit}
use Rattle.partial.specs.Segments.{Segment, chunks_of}
use Rattle.partial.specs.Tables.{chunk_rows}
use Rattle.filling.specs.Rows.{Put}
use Rattle.gathering.specs.Kept.{SegmentsKept, Kept}
use Rattle.gathering.proofs.kept.fill_rows.Given as goal

abbrev pub invariant-loop-k : goal.invariant-loop-k
invariant-loop-k l = (l.k ≤ l.many)
    × (l.at ≤ chunk_limit)
    × (length l.table ≡ length l.initial.table)
    × ((sources : List ℕ) (ss : List Segment) → Kept l.segments l.many sources l.numbers ss
    → (l.at ≡ length (chunks_of (take l.k ss))) × SegmentsKept l.segments sources l.numbers l.k l.at (drop l.k ss) × Put l.initial.table 0 (chunk_rows (take l.k ss)) l.table)
