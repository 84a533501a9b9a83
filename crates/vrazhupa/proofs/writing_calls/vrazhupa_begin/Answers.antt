-- `vrazhupa::writing_calls::vrazhupa_begin` meets its contract.
use Rattle.vrazhupa.specs.Says.{one_number}
use Rattle.vrazhupa.proofs.SayLaws.{says_as}
use Rattle.vrazhupa.proofs.writing_calls.vrazhupa_begin.Goals as goal

pub returns : goal.returns
returns c =
    let met = rw c.brand_for.ensures at c.begin.ensures in
    record { said = says_as (λ n. n) one_number _ met.answer c.say.ensures; left = met.left }
