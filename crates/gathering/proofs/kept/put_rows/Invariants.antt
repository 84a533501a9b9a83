-- `gathering::kept::put_rows` meets its contract. The loop's invariant: the chunks so far have their rows, and the
-- others are kept ahead.
use Prim.Native.Nat.{◌+◌, ◌*◌, ◌≤◌}
use mathlib.Core.List.{List}
use mathlib.Core.Path.{◌≡◌}
use lib.ListN.{length, take, drop}
use Rattle.partial.specs.Segments.{Chunk}
use Rattle.partial.specs.Tables.{chunk_row_length, chunk_rows_of}
use Rattle.filling.specs.Rows.{Put}
use Rattle.gathering.specs.Kept.{ChunksKept}
use Rattle.gathering.proofs.kept.put_rows.Given as goal

abbrev pub invariant-loop-i : goal.invariant-loop-i
invariant-loop-i l = (l.i ≤ l.count)
    × (length l.table ≡ length l.initial.table)
    × ((cs : List Chunk) → l.count ≡ length cs → ChunksKept l.numbers l.at l.initial.start.0 cs
    → ChunksKept l.numbers (l.at + l.i) l.start.0 (drop l.i cs) × Put l.initial.table (chunk_row_length * l.at) (chunk_rows_of l.segment 0 (take l.i cs)) l.table)
