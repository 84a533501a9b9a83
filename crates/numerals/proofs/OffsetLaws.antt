-- Laws of offsets in two's complement, each over the width: how a number is read as one, and that what was written is
-- read back.
use mathlib.Core.Path.{◌≡◌, refl, ap}
use mathlib.Core.Bool.{true}
use mathlib.Core.List.{List, ◌++◌}
use Prim.Native.Nat.{ℕ, zero, suc, ◌+◌, ◌-◌, ◌*◌, ◌/◌, ◌^◌, ◌≤◌, ◌<◌}
use native.Mathlib.Nat.{mod_self, sub-zero}
use native.Mathlib.Omega.{arith}
use borrow.Author.Tests.{lt-ltb, le-ltb}
use lib.ListN.{length}
use Rattle.numerals.specs.Numbers.{number, bytes_of, signed, twos_complement, holds_offset}
use Rattle.numerals.specs.declared.numbers.Offset.{Offset}
use Rattle.numerals.specs.declared.numbers.Offset.TheVariants.{Ahead, Back}
use Rattle.numerals.proofs.NumberLaws.{bytes_of_mod, number-bytes_of, power_pos}
use Rattle.numerals.proofs.WidthLaws.{ahead_below, back-within}

-- By the largest number of w bytes, since 256 to the 8 is past 64 bits.
module _ (w n top : ℕ) (largest : top + 1 ≡ 256 ^ w) where
  -- a number of the lower half is ahead
  pub signed-ahead : n ≤ top / 2 → Ahead n ≡ signed w n
  unfolding signed
  signed-ahead h = rw (lt-ltb (2 * n) (256 ^ w) (omega arith), signed)

  -- a number of the upper half is back
  pub signed_back : top / 2 < n → n ≤ top → Back (top - n + 1) ≡ signed w n
  unfolding signed
  signed_back h l = rw (le-ltb (2 * n) (256 ^ w) (omega arith), signed) (ap Back (omega arith))

  -- so many back, as a number
  pub twos_complement-back : n ≤ top → twos_complement w (Back n) ≡ top - n + 1
  unfolding twos_complement
  twos_complement-back h = omega arith

-- none back is the power of 256 itself, whose bytes are those of 0
pub twos_complement_none : (w : ℕ) → bytes_of w 0 ≡ bytes_of w (twos_complement w (Back 0))
unfolding twos_complement
twos_complement_none w = rw (sub-zero, ← bytes_of_mod w (256 ^ w), mod_self)

-- a field of width 0 has value 0
pub signed_none : signed 0 0 ≡ Ahead 0
unfolding signed
signed_none = refl

-- reading back, as numbers
pub signed-twos_complement : (w : ℕ) (z : Offset) → holds_offset w z ≡ true → signed w (twos_complement w z) ≡ z
unfolding signed twos_complement
signed-twos_complement w (Ahead n) h = rw (lt-ltb (2 * n) (256 ^ w) (ahead_below w n h), signed)
signed-twos_complement w (Back n) h =
    let half = back-within w n h in
    rw (le-ltb (2 * (256 ^ w - n)) (256 ^ w) (omega arith), signed) (ap Back (omega arith))

-- an offset that w bytes hold is a number of w bytes, but for the second name of 0
pub twos_complement_below : (w : ℕ) (z : Offset) → holds_offset w z ≡ true → (z ≡ Back 0 → ⊥) → twos_complement w z < 256 ^ w
unfolding twos_complement
twos_complement_below w (Ahead n) h some = omega (arith, ahead_below w n h)
twos_complement_below w (Back zero) h some = absurd (some refl)
twos_complement_below w (Back (suc n)) h some = omega (arith, power_pos w)

-- reading back the bytes that were written
pub offset_back : (p t : List ℕ) (w : ℕ) (z : Offset) → holds_offset w z ≡ true → (z ≡ Back 0 → ⊥)
    → signed w (number (p ++ (bytes_of w (twos_complement w z) ++ t)) (length p) w) ≡ z
offset_back p t w z h some = rw (number-bytes_of p t w (twos_complement w z) (twos_complement_below w z h some)) (signed-twos_complement w z h)
