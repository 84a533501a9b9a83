-- `segment::data::holds` meets its contract: each test is one of the definition's.
use mathlib.Core.Path.{sym, ◌∙◌}
use Rattle.boxes.proofs.ToldLaws.{box_fields}
use Rattle.segment.proofs.DataLaws.{holds_other, holds_before, holds_end}
use Rattle.segment.proofs.data.holds.Goals as goal

pub returns-then-ne : goal.returns-then-ne
returns-then-ne c = rw box_fields (sym (holds_other _ _ _ c.if-ne.ensures))

pub returns-then-place-body : goal.returns-then-place-body
returns-then-place-body c = rw box_fields (sym (holds_before _ _ _ c.if-ne.ensures c.if-place-body.true))

pub returns : goal.returns
returns c = rw box_fields (c.ends_by.ensures ∙ sym (holds_end _ _ _ c.if-ne.ensures c.if-place-body.false))
