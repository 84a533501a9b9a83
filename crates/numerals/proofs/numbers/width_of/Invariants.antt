-- `numerals::numbers::width_of` meets its contract. The loop's invariant: no width passed holds the number.
use Prim.Native.Nat.{ℕ, ◌<◌}
use mathlib.Core.Path.{◌≡◌}
use mathlib.Core.Bool.{false}
use Rattle.numerals.specs.Numbers.{holds}
use Rattle.numerals.proofs.numbers.width_of.Given as goal

abbrev pub invariant-loop-w : goal.invariant-loop-w
invariant-loop-w l = (k : ℕ) → k < l.w → holds k l.n ≡ false
