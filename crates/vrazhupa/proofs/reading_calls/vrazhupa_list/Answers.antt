-- `vrazhupa::reading_calls::vrazhupa_list` meets its contract.
use Rattle.partial.specs.Answers.{totals_of}
use Rattle.vrazhupa.specs.Says.{totals_numbers}
use Rattle.vrazhupa.proofs.SayLaws.{says_as}
use Rattle.vrazhupa.proofs.reading_calls.vrazhupa_list.Goals as goal

pub returns : goal.returns
returns c =
    let met = c.list.ensures in
    record { said = says_as totals_of totals_numbers _ met.answer c.say.ensures; tables = met.tables; had_table = met.had_table; missing_table = met.missing_table }
