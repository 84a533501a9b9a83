-- `outside::items::goes_out` meets its contract.
use Rattle.additions.specs.Addition.{goes_out}
use Rattle.outside.proofs.items.goes_out.Goals as goal

pub returns-then-outside : goal.returns-then-outside
unfolding goes_out
returns-then-outside c size = rw (c.if-outside.true, c.number.ensures)

pub returns-else-outside : goal.returns-else-outside
unfolding goes_out
returns-else-outside c size = rw c.if-outside.false
