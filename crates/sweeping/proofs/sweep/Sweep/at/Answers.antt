-- `sweeping::sweep::Sweep::at` meets its contract: by whether the sweep stands in the position's range already.
use native.Mathlib.Omega.{arith}
use Rattle.sweeping.proofs.SweepLaws.{ready_passed, ready_moved}
use Rattle.sweeping.proofs.sweep.Sweep.at.Goals as goal

pub returns-then-p-self : goal.returns-then-p-self
returns-then-p-self c =
    (record { on = omega arith; some = λ below. omega arith }, λ o ready below. ready)

pub overflow_add-result : goal.overflow_add-result
overflow_add-result c = omega (arith, c.range_at-found.ensures.0.ends)

pub returns : goal.returns
returns c =
    let finds = c.range_at-found.ensures in (
      record { on = omega arith; some = λ below. omega (arith, finds.0.some below) },
      λ o ready below. rw c.number.ensures (ready_moved _ _ _ below (finds.1 o (ready_passed ready (omega arith)) below)),
    )
