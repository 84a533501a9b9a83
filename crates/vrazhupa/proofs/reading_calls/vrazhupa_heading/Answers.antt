-- `vrazhupa::reading_calls::vrazhupa_heading` meets its contract.
use Rattle.heading.specs.Facts.{facts_by}
use Rattle.vrazhupa.specs.Says.{heading_numbers}
use Rattle.vrazhupa.proofs.SayLaws.{says_as}
use Rattle.vrazhupa.proofs.reading_calls.vrazhupa_heading.Goals as goal

pub returns : goal.returns
returns c = record { said = says_as facts_by heading_numbers _ c.heading_of.ensures c.say.ensures }
