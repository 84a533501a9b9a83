-- `supplying::rows::of_source` meets its contract.
use mathlib.Core.Bool.{false≢true}
use mathlib.Core.Path.{sym, ◌∙◌}
use native.Mathlib.Omega.{arith}
use borrow.Author.Tests.{eq-eqb, ne_eqb}
use Rattle.supplying.proofs.RowsLaws.{row_past, row_by}
use Rattle.supplying.proofs.rows.of_source.Goals as goal

pub returns-in_err-told : goal.returns-in_err-told
returns-in_err-told c =
    rw c.from_residual.ensures (λ this. false≢true (row_past _ _ _ _ (omega (arith, c.in_err-told.ensures)) ∙ this))

pub returns-then-source_at-source : goal.returns-then-source_at-source
returns-then-source_at-source c =
    let (there, same) = c.in_ok-told.ensures in
    (sym (row_by _ _ _ _ there) ∙ eq-eqb _ _ (sym c.source_at.ensures ∙ c.if-source_at-source.true), same)

pub returns-else-source_at-source : goal.returns-else-source_at-source
returns-else-source_at-source c =
    let (there, same) = c.in_ok-told.ensures in
    λ this. false≢true (sym (ne_eqb _ _ (λ e. c.if-source_at-source.false (c.source_at.ensures ∙ e))) ∙ row_by _ _ _ _ there ∙ this)
