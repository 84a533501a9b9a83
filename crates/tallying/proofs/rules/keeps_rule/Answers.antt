-- `tallying::rules::keeps_rule` meets its contract: each arm is a case of the definition.
use Rattle.boxes.specs.Kinds.{keeps}
use Rattle.tallying.proofs.rules.keeps_rule.Goals as goal

pub returns-in-One : goal.returns-in-One
unfolding keeps
returns-in-One c = rw c.in-One.is

pub returns-in-OneOrMore : goal.returns-in-OneOrMore
unfolding keeps
returns-in-OneOrMore c = rw c.in-OneOrMore.is

pub returns-in-AtMostOne : goal.returns-in-AtMostOne
unfolding keeps
returns-in-AtMostOne c = rw c.in-AtMostOne.is

pub returns-in-Any : goal.returns-in-Any
unfolding keeps
returns-in-Any c = rw c.in-Any.is
