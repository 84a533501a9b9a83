-- `vrazhupa::reading_calls::vrazhupa_read` meets its contract.
use Rattle.partial.specs.Answers.{summary_of}
use Rattle.vrazhupa.specs.Says.{summary_numbers}
use Rattle.vrazhupa.proofs.SayLaws.{says_as}
use Rattle.vrazhupa.proofs.reading_calls.vrazhupa_read.Goals as goal

pub returns : goal.returns
returns c =
    let met = c.read.ensures in
    record { said = says_as summary_of summary_numbers _ met.answer c.say.ensures; tables = met.tables }
