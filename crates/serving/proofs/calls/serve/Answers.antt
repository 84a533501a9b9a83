-- `serving::calls::serve` meets its contract: the part that was located is handed back.
use mathlib.Core.Path.{ap, ◌∙◌}
use Rattle.reading.specs.Parts.{handed}
use Rattle.reading.proofs.PartLaws.{handed_told, handed_same}
use Rattle.serving.proofs.CallsLaws.{served-handed}
use Rattle.serving.proofs.calls.serve.Goals as goal

pub returns : goal.returns
returns c =
    let met = c.part_at.ensures in
    record { part = handed_same (handed_told _ _ ∙ ap (handed _) met.answer ∙ served-handed _ _ _ _ _) c.part_of.ensures; tables = met.tables }
