-- `fields::fields::offset_width` meets its contract.
use mathlib.Core.Path.{sym}
use Rattle.fields.proofs.FieldsLaws.{width_first, width_other}
use Rattle.fields.proofs.fields.offset_width.Goals as goal

pub returns-then-version-eq0 : goal.returns-then-version-eq0
returns-then-version-eq0 c = sym (width_first _ c.if-version-eq0.true)

pub returns-else-version-eq0 : goal.returns-else-version-eq0
returns-else-version-eq0 c = sym (width_other _ c.if-version-eq0.false)
