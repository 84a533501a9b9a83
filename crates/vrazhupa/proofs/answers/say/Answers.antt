-- `vrazhupa::answers::say` meets its contract: the numbers of the value and 0, or the number of the refusal.
use mathlib.Core.Path.{ap}
use Rattle.boxes.specs.Answer.{told_as}
use Rattle.vrazhupa.proofs.SayLaws.{says_refused, says_given}
use Rattle.vrazhupa.proofs.answers.say.Goals as goal

pub returns-in-Ok : goal.returns-in-Ok
returns-in-Ok g c = says_given g.T.Tells.tells (ap (told_as (λ t. t)) c.in-Ok.is) c.numbers.ensures

pub returns-in-Err : goal.returns-in-Err
returns-in-Err g c = rw c.number.ensures (says_refused g.T.Tells.tells (ap (told_as (λ t. t)) c.in-Err.is))
