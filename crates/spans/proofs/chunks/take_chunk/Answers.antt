-- `spans::chunks::take_chunk` meets its contract: by whether the chunk has a span, and whether that has room.
use native.Mathlib.Omega.{arith}
use Rattle.spans.proofs.ChunkLaws.{taken_none, taken_full, taken_span}
use Rattle.spans.proofs.chunks.take_chunk.Goals as goal

pub returns-in_default : goal.returns-in_default
returns-in_default c = taken_none _ _ _ _ _ c.in_default.ensures (omega arith)

pub returns-then-table-n : goal.returns-then-table-n
returns-then-table-n c =
    let (first, some, span) = c.in-Some.ensures in
    taken_full _ _ _ _ _ span some (omega arith)

pub returns : goal.returns
returns c =
    let (first, some, span) = c.in-Some.ensures in
    taken_span _ _ _ _ _ span some (omega arith) (rw first at c.join_span.ensures)
