-- `vrazhupa::reading_calls::vrazhupa_texts` meets its contract.
use Rattle.surltexts.specs.Calls.{amounts_of}
use Rattle.vrazhupa.specs.Says.{texts_numbers}
use Rattle.vrazhupa.proofs.SayLaws.{says_as}
use Rattle.vrazhupa.proofs.reading_calls.vrazhupa_texts.Goals as goal

pub returns : goal.returns
returns c =
    let met = c.segment_texts.ensures in
    record { said = says_as amounts_of texts_numbers _ met.answer c.say.ensures; bytes = met.bytes; numbers = met.sizes }
