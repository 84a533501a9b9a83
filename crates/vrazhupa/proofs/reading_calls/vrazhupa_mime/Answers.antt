-- `vrazhupa::reading_calls::vrazhupa_mime` meets its contract.
use Rattle.surls.specs.Parts.{part_of}
use Rattle.surls.specs.First.{text_in}
use Rattle.vrazhupa.specs.Says.{part_numbers}
use Rattle.vrazhupa.proofs.SayLaws.{says_as, says_then}
use Rattle.vrazhupa.proofs.reading_calls.vrazhupa_mime.Goals as goal

pub returns : goal.returns
unfolding text_in
returns c = record { said = says_then part_numbers _ _ (says_as part_of part_numbers _ c.text_at.ensures c.say.ensures) }
