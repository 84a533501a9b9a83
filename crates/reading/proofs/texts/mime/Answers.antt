-- `reading::texts::mime` meets its contract.
use mathlib.Core.Path.{ap, ◌∙◌}
use Rattle.reading.specs.Parts.{handed}
use Rattle.surls.specs.First.{text_in}
use Rattle.surls.specs.declared.first.Text.TheVariants.{Mime}
use Rattle.reading.proofs.PartLaws.{handed_told, handed_same}
use Rattle.reading.proofs.TextLaws.{text-handed}
use Rattle.reading.proofs.texts.mime.Goals as goal

pub returns : goal.returns
unfolding text_in
returns c = handed_same (handed_told _ _ ∙ ap (handed _) c.text_at.ensures ∙ text-handed Mime _) c.part_of.ensures
