-- `gathering::rows::put_chunk` meets its contract.
use Rattle.partial.specs.Tables.{chunk_row}
use Rattle.filling.proofs.RowLaws.{put_stored}
use Rattle.gathering.proofs.FormLaws.{put-number, put-row}
use Rattle.gathering.proofs.rows.put_chunk.Goals as goal

pub returns-then-numbered : goal.returns-then-numbered
returns-then-numbered c =
    put-number _ _ _ _ c.if-numbered.true c.number_of.ensures (put_stored _ _ _ c.put_row.ensures)

pub returns : goal.returns
unfolding chunk_row
returns c = put-row _ _ _ _ c.if-numbered.false (rw c.number.ensures at (put_stored _ _ _ c.put_row-2.ensures))
