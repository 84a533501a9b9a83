-- `fields::location::location_of` meets its contract: each test is one of the definition's.
use mathlib.Core.Path.{sym, ◌∙◌}
use Rattle.boxes.proofs.ToldLaws.{box_fields}
use Rattle.fields.proofs.LocationLaws.{head_cut, head_other, length_wide, offset_wide, head_elsewhere, head_given}
use Rattle.fields.proofs.location.location_of.Goals as goal

pub returns-then-not-ends_by : goal.returns-then-not-ends_by
returns-then-not-ends_by c =
    rw box_fields (sym (head_cut _ _ (sym c.ends_by.ensures ∙ c.if-not-ends_by.true)))

pub returns-then-unsigned-ne0 : goal.returns-then-unsigned-ne0
returns-then-unsigned-ne0 c =
    rw box_fields (sym (head_other _ _ (sym c.ends_by.ensures ∙ c.if-not-ends_by.false) c.unsigned.ensures c.if-unsigned-ne0.true))

pub returns-then-widths-gt8 : goal.returns-then-widths-gt8
returns-then-widths-gt8 c =
    rw box_fields
    (sym (length_wide _ _ (sym c.ends_by.ensures ∙ c.if-not-ends_by.false) c.unsigned.ensures c.if-unsigned-ne0.false c.unsigned-widths.ensures c.if-widths-gt8.true))

pub returns-then-widths-gt8-2 : goal.returns-then-widths-gt8-2
returns-then-widths-gt8-2 c =
    rw box_fields
    (sym (offset_wide _ _ (sym c.ends_by.ensures ∙ c.if-not-ends_by.false) c.unsigned.ensures c.if-unsigned-ne0.false c.unsigned-widths.ensures c.if-widths-gt8.false c.if-widths-gt8-2.true))

pub returns-then-unsigned-ne0-2 : goal.returns-then-unsigned-ne0-2
returns-then-unsigned-ne0-2 c =
    rw box_fields
    (sym (head_elsewhere _ _ (sym c.ends_by.ensures ∙ c.if-not-ends_by.false) c.unsigned.ensures c.if-unsigned-ne0.false c.unsigned-widths.ensures c.if-widths-gt8.false c.if-widths-gt8-2.false c.unsigned-2.ensures c.if-unsigned-ne0-2.true))

pub returns : goal.returns
returns c =
    rw box_fields
    (sym (head_given _ _ (sym c.ends_by.ensures ∙ c.if-not-ends_by.false) c.unsigned.ensures c.if-unsigned-ne0.false c.unsigned-widths.ensures c.if-widths-gt8.false c.if-widths-gt8-2.false c.unsigned-2.ensures c.if-unsigned-ne0-2.false c.unsigned-3.ensures))
