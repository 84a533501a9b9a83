-- `gathering::step::list_of` meets its contract.
use Rattle.gathering.proofs.step.list_of.Goals as goal

pub returns-then-own : goal.returns-then-own
returns-then-own c = rw c.if-own.true c.as_container.ensures

pub returns-else-own : goal.returns-else-own
returns-else-own c = rw c.if-own.false
