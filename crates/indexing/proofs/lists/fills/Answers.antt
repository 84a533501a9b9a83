-- `indexing::lists::fills` meets its contract: each case is one of the definition's.
use Rattle.partial.specs.Index.{wherever}
use Rattle.indexing.proofs.lists.fills.Goals as goal

pub returns-in-Some-Some : goal.returns-in-Some-Some
unfolding wherever
returns-in-Some-Some c = rw (c.in-Some-Some.is-0, c.in-Some-Some.is-1)

pub returns-in_default : goal.returns-in_default
unfolding wherever
returns-in_default c = rw (c.in_default.is-0, c.in_default.is-1)

pub returns-in_default-2 : goal.returns-in_default-2
unfolding wherever
returns-in_default-2 c = rw c.in_default.is-0
