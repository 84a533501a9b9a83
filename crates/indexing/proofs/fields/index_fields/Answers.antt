-- `indexing::fields::index_fields` meets its contract: each test is one of the definition's.
use mathlib.Core.Path.{sym, ◌∙◌}
use native.Mathlib.Omega.{arith}
use Rattle.numerals.proofs.NumberLaws.{number_below}
use Rattle.boxes.proofs.ToldLaws.{box_fields}
use Rattle.indexing.proofs.FieldsLaws.{fields_short, fields_cut, fields_whole}
use Rattle.indexing.proofs.fields.index_fields.Goals as goal

pub returns-then-not-ends_by : goal.returns-then-not-ends_by
returns-then-not-ends_by c =
    rw box_fields (sym (fields_short _ _ (sym c.ends_by.ensures ∙ c.if-not-ends_by.true)))

pub overflow_cast-code : goal.overflow_cast-code
overflow_cast-code c =
    record { fits = rw c.unsigned-code.ensures (number_below _ _ 4 (λ k. omega (arith, c.type_inv.file k))) }

pub returns-then-not-ends_by-2 : goal.returns-then-not-ends_by-2
returns-then-not-ends_by-2 c =
    rw box_fields
    (sym (fields_cut _ _ c.unsigned-short.ensures c.unsigned-code.ensures c.front_of-front.ensures (sym c.ends_by.ensures ∙ c.if-not-ends_by.false) (sym c.ends_by-2.ensures ∙ c.if-not-ends_by-2.true)))

pub returns : goal.returns
returns c =
    rw box_fields
    (sym
    (fields_whole _ _ c.unsigned-short.ensures c.unsigned-code.ensures c.front_of-front.ensures (sym c.ends_by.ensures ∙ c.if-not-ends_by.false) c.size_of.ensures (sym c.ends_by-2.ensures ∙ c.if-not-ends_by-2.false)))
