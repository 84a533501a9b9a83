-- `reading::texts::source_url` meets its contract.
use mathlib.Core.Path.{ap, ◌∙◌}
use Rattle.surls.specs.First.{text_in}
use Rattle.surls.specs.declared.first.Text.TheVariants.{Url}
use Rattle.reading.specs.Parts.{handed}
use Rattle.reading.proofs.PartLaws.{handed_told, handed_same}
use Rattle.reading.proofs.TextLaws.{source_handed}
use Rattle.reading.proofs.texts.source_url.Goals as goal

pub returns : goal.returns
unfolding text_in
returns c = handed_same (handed_told _ _ ∙ ap (handed _) c.source_text_at.ensures ∙ source_handed Url _ _) c.part_of.ensures
