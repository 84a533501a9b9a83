-- `fields::entry::entry_at` meets its contract: the flags decide the state, and `rest_of` reads the rest.
use mathlib.Core.Path.{sym, ◌∙◌}
use native.Mathlib.Omega.{arith}
use Rattle.boxes.proofs.ToldLaws.{handed_on}
use Rattle.numerals.proofs.NumberLaws.{number_below}
use Rattle.fields.specs.Entry.{entry_of}
use Rattle.fields.proofs.EntryLaws.{entry-cut, entry_refused, entry_known}
use Rattle.fields.proofs.entry.entry_at.Goals as goal

pub returns-then-end-at : goal.returns-then-end-at
returns-then-end-at c = sym (entry-cut _ _ _ c.if-end-at.true)

pub overflow_cast-unsigned : goal.overflow_cast-unsigned
overflow_cast-unsigned c =
    record { fits = rw c.unsigned.ensures (number_below _ _ 1 (λ k. omega (arith, c.type_inv.s k))) }

pub returns-in_err-state : goal.returns-in_err-state
returns-in_err-state c =
    handed_on entry_of _ _ c.from_residual.ensures.1
    ∙ sym (entry_refused _ _ _ c.if-end-at.false c.unsigned.ensures _ c.state_of.ensures c.in_err-state.was)

pub returns : goal.returns
returns c =
    c.rest_of.ensures
    ∙ sym (entry_known _ _ _ c.if-end-at.false c.unsigned.ensures _ c.state_of.ensures c.in_ok-state.was)
