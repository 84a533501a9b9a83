-- `tallying::rules::row_at` meets its contract: the code's table is that of the definitions, entry by entry.
use Rattle.boxes.specs.Kinds.{rules}
use Rattle.tallying.proofs.RuleLaws.{get_d_any}
use Rattle.tallying.proofs.rules.row_at.Goals as goal

pub returns : goal.returns
returns c d = get_d_any rules _ _ d c.requires
