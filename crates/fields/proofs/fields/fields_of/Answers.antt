-- `fields::fields::fields_of` meets its contract: the length of the body is compared with that of the fields.
use mathlib.Core.Path.{sym, ap, ◌∙◌}
use native.Mathlib.Omega.{arith}
use Rattle.boxes.proofs.ToldLaws.{box_fields}
use Rattle.partial.specs.Reading.{offset_width_of}
use Rattle.fields.proofs.FieldsLaws.{width_most, fields_other, fields_whole}
use Rattle.fields.proofs.fields.fields_of.Goals as goal

pub returns-then-end-body : goal.returns-then-end-body
returns-then-end-body c = rw box_fields (sym (fields_other _ _ (c.offset_width-width.ensures ∙ ap offset_width_of c.unsigned.ensures) (λ h. omega arith)))

pub overflow_add-width : goal.overflow_add-width
overflow_add-width c = omega (arith, width_most c.unsigned.result, c.offset_width-width.ensures)

pub returns-then-end-body-2 : goal.returns-then-end-body-2
returns-then-end-body-2 c = rw box_fields (sym (fields_other _ _ (c.offset_width-width.ensures ∙ ap offset_width_of c.unsigned.ensures) (λ h. omega arith)))

pub returns : goal.returns
returns c =
    rw box_fields (sym (fields_whole _ _ (c.offset_width-width.ensures ∙ ap offset_width_of c.unsigned.ensures) (omega arith) c.unsigned-2.ensures c.unsigned-3.ensures c.unsigned-4.ensures))
