-- `vrazhupa::reading_calls::vrazhupa_map` meets its contract.
use Rattle.vrazhupa.specs.Says.{one_number}
use Rattle.vrazhupa.proofs.SayLaws.{says_as}
use Rattle.vrazhupa.proofs.reading_calls.vrazhupa_map.Goals as goal

pub returns : goal.returns
returns c =
    let met = c.map.ensures in
    record { said = says_as (λ n. n) one_number _ met.answer c.say.ensures; left = met.left }
