-- `segment::placed::offset_place` meets its contract: a place fits 64 bits, and a place past them is past every file.
use Rattle.std.specs.Prelude.{Some}
use mathlib.Core.Path.{sym, ap, ◌∙◌}
use native.Mathlib.Omega.{arith}
use Rattle.segment.proofs.PlacedLaws.{reaches_at, ahead_at, ahead_past, back_at, back_past}
use Rattle.segment.proofs.placed.offset_place.Goals as goal

pub returns-in_err-checked_add-in-Ahead : goal.returns-in_err-checked_add-in-Ahead
returns-in_err-checked_add-in-Ahead c =
    rw c.from_residual.ensures (ahead_past _ c.in-Ahead.is (omega (arith, c.in_err-checked_add-in-Ahead.ensures)))

pub returns-in_ok-checked_add-in-Ahead : goal.returns-in_ok-checked_add-in-Ahead
returns-in_ok-checked_add-in-Ahead c =
    reaches_at _ (ahead_at _ c.in-Ahead.is ∙ ap Some (sym c.in_ok-checked_add-in-Ahead.ensures.1))

pub returns-in_err-checked_sub-in-Back : goal.returns-in_err-checked_sub-in-Back
returns-in_err-checked_sub-in-Back c =
    rw c.from_residual-in_err-checked_sub-in-Back.ensures (back_past _ c.in-Back.is (omega (arith, c.in_err-checked_sub-in-Back.ensures)))

pub returns-in_ok-checked_sub-in-Back : goal.returns-in_ok-checked_sub-in-Back
returns-in_ok-checked_sub-in-Back c =
    let (low, same) = c.in_ok-checked_sub-in-Back.ensures in
    reaches_at _ (back_at _ c.in-Back.is low ∙ ap Some (sym same))
