-- `vrazhupa::reading_calls::vrazhupa_ask` meets its contract.
use Rattle.partial.specs.Answers.{reply_of}
use Rattle.vrazhupa.specs.Says.{reply_numbers}
use Rattle.vrazhupa.proofs.SayLaws.{says_as}
use Rattle.vrazhupa.proofs.reading_calls.vrazhupa_ask.Goals as goal

pub returns : goal.returns
returns c =
    let met = c.ask.ensures in
    record { said = says_as reply_of reply_numbers _ met.answer c.say.ensures; tables = met.tables }
