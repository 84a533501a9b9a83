-- `vrazhupa::writing_calls::vrazhupa_append` meets its contract.
use Rattle.vrazhupa.specs.Says.{one_number}
use Rattle.vrazhupa.proofs.SayLaws.{says_as, appends_by}
use Rattle.vrazhupa.proofs.writing_calls.vrazhupa_append.Goals as goal

pub returns : goal.returns
returns c =
    let met = appends_by _ _ _ _ _ c.writable-header.ensures c.append.ensures in
    record { said = says_as (λ n. n) one_number _ met.answer c.say.ensures; left = met.left }
