-- `fields::entry::offset_size` meets its contract.
use mathlib.Core.Path.{sym, ◌∙◌}
use Rattle.fields.proofs.EntryLaws.{bytes_present, bytes_absent}
use Rattle.fields.proofs.entry.offset_size.Goals as goal

pub returns-then-is_present : goal.returns-then-is_present
returns-then-is_present c = c.within.ensures ∙ sym (bytes_present _ _ (sym c.is_present.ensures ∙ c.if-is_present.true))

pub returns-else-is_present : goal.returns-else-is_present
returns-else-is_present c = sym (bytes_absent _ _ (sym c.is_present.ensures ∙ c.if-is_present.false))
