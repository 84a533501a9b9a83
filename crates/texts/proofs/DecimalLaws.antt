-- Laws of a number in decimal: the fewest digits that hold it are the least.
use Prim.Native.Nat.{ℕ, zero, suc, ◌-◌, ◌^◌, ◌≤◌, ◌<◌}
use mathlib.Core.Path.{◌≡◌, sym, ap}
use native.Mathlib.Decide.{dec_le}
use native.Mathlib.Nat.{pow-suc, pow-le-pow_right, zero-lt-suc, le_trans}
use native.Mathlib.Omega.{arith}
use borrow.Author.Tests.{lt-ltb, le-ltb}
use lib.Dec.{ltb}
use Rattle.io.specs.Digits.{last_digits, IsDigitCount}
use Rattle.numerals.specs.Numbers.{least}
use Rattle.numerals.proofs.WidthLaws.{least-is}
use Rattle.partial.specs.Map.{decimal}

-- a power of ten is above its exponent
power_above : (k : ℕ) → k < 10 ^ k
power_above zero = omega arith
power_above (suc k) = rw pow-suc (omega (arith, power_above k))

fewest_least : (n k : ℕ) → IsDigitCount 10 1 n k → least (λ j. ltb n (10 ^ j)) n 1 ≡ k
fewest_least n k (some, holds, few) =
    least-is (λ j. ltb n (10 ^ j)) n 1 k some
    (elim (dec_le k 1) [
      | yes one ↦ omega arith
      | no more ↦ omega (arith, few (omega arith), power_above (k - 1))
    ])
    (λ j low less. le-ltb n (10 ^ j) (le_trans (pow-le-pow_right (zero-lt-suc 9) (omega arith)) (few (omega arith))))
    (λ _. lt-ltb n (10 ^ k) holds)

-- a number of 64 bits has twenty digits at most
pub digits_few : (n k : ℕ) → n < 2 ^ 64 → IsDigitCount 10 1 n k → k ≤ 20
digits_few n k small (some, holds, few) =
    elim (dec_le k 20) [
      | yes low ↦ low
      | no more ↦
          let beyond : 20 ≤ k - 1 = omega arith in
          let above : 10 ^ 20 ≤ n = le_trans (pow-le-pow_right (zero-lt-suc 9) beyond) (few (omega arith)) in
          absurd (omega arith)
    ]

pub decimal_by : (n k : ℕ) → IsDigitCount 10 1 n k → last_digits 10 k n ≡ decimal n
unfolding decimal
decimal_by n k few = ap (λ (j : ℕ). last_digits 10 j n) (sym (fewest_least n k few))
