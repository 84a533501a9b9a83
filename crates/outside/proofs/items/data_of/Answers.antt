-- `outside::items::data_of` meets its contract: by whether the item is present.
use mathlib.Core.Path.{sym, ◌∙◌}
use Rattle.outside.proofs.ItemLaws.{data_present, data_absent}
use Rattle.outside.proofs.items.data_of.Goals as goal

pub returns-then-present : goal.returns-then-present
returns-then-present c = data_present _ _ (sym c.present.ensures ∙ c.if-present.true)

pub returns-else-present : goal.returns-else-present
returns-else-present c = data_absent _ _ (sym c.present.ensures ∙ c.if-present.false)
