-- `vrazhupa::reading_calls::vrazhupa_serve` meets its contract: the part that serve hands back, by its place and its
-- length.
use Rattle.surls.specs.Parts.{part_of}
use Rattle.vrazhupa.specs.Says.{part_numbers}
use Rattle.vrazhupa.proofs.SayLaws.{says_as, says_then}
use Rattle.vrazhupa.proofs.reading_calls.vrazhupa_serve.Goals as goal

pub returns : goal.returns
returns c =
    let met = c.part_at.ensures in
    record { said = says_then part_numbers _ _ (says_as part_of part_numbers _ met.answer c.say.ensures); tables = met.tables }
