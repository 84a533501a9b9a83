-- `gathering::rows::put_segment` meets its contract.
use borrow.Author.Rules.{rules}
use Rattle.boxes.specs.Framing.{box_limit, box_of}
use Rattle.filling.proofs.RowLaws.{put_stored}
use Rattle.gathering.proofs.rows.put_segment.Goals as goal

pub overflow_mul-before : goal.overflow_mul-before
unfolding box_limit
overflow_mul-before c = search rules

pub returns : goal.returns
unfolding box_of
returns c = put_stored _ _ _ c.put_row.ensures
