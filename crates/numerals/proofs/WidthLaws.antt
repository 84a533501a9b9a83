-- Laws of widths: what so many bytes hold, and the least width that passes a test: how a loop finds it, that it passes,
-- and that no lesser one does.
use mathlib.Core.Path.{◌≡◌, refl, sym, ◌∙◌}
use mathlib.Core.Bool.{Bool, true, false}
use Prim.Native.Nat.{ℕ, zero, suc, ◌+◌, ◌-◌, ◌*◌, ◌/◌, ◌%◌, ◌^◌, ◌≤◌, ◌<◌, zero-le, min}
use mathlib.Core.Logic.{⊎_elim}
use native.Mathlib.Nat.{eq-or-lt_of_le, pow-le-pow_right, zero-lt-suc, le_refl, add-zero, add-suc, suc-add}
use native.Mathlib.Omega.{arith}
use borrow.Author.Tests.{lt-ltb, le-ltb, le-leb, ltb-true, leb-true, leb-false}
use lib.Dec.{leb}
use Rattle.numerals.specs.Numbers.{least, least_width, holds, holds_offset}
use Rattle.numerals.specs.declared.numbers.Offset.TheVariants.{Ahead, Back}
use Rattle.numerals.proofs.NumberLaws.{power_pos}

module _ (test : ℕ → Bool) where
  -- the loop ends at a number that passes
  least-found : (more from : ℕ) → test from ≡ true → least test more from ≡ from
  unfolding least
  least-found zero from h = refl
  least-found (suc more) from h = rw (h, least)

  -- a number that fails is passed over
  least_next : (more from : ℕ) → test from ≡ false → least test (suc more) from ≡ least test more (suc from)
  unfolding least
  least_next more from h = rw (h, least)

  -- a number that passes, where no lesser one does, is the least; so is the last one
  pub least-is : (more from w : ℕ) → from ≤ w → w ≤ from + more → ((k : ℕ) → from ≤ k → k < w → test k ≡ false)
      → (w < from + more → test w ≡ true)
      → least test more from ≡ w
  unfolding least
  least-is zero from w low high below here = omega arith
  least-is (suc more) from w low high below here =
      ⊎_elim
      (λ same. least-found (suc more) from (rw same (here (omega arith))) ∙ same)
      (λ above. least_next more from (below from (le_refl from) above)
      ∙ least-is more (suc from) w above (omega arith) (λ k l h. below k (omega arith) h) (λ h. here (omega arith)))
      (eq-or-lt_of_le low)

  -- what holds of a number that passes, and of what is found after one that fails, holds of the least
  step : (P : ℕ → Type 0) (more from : ℕ) → (test from ≡ true → P from)
      → (test from ≡ false → P (least test more (suc from)))
      → P (least test (suc more) from)
  step P more from found next = go (test from) refl
    where
      go : (b : Bool) → test from ≡ b → P (least test (suc more) from)
      go true e = rw (least-found (suc more) from e) (found e)
      go false e = rw (least_next more from e) (next e)

  -- the least number passes, if the last one does
  least_passes : (more from : ℕ) → test (from + more) ≡ true → test (least test more from) ≡ true
  unfolding least
  least_passes zero from h = rw add-zero at h
  least_passes (suc more) from h =
      step (λ w. test w ≡ true) more from (λ e. e) (λ e. least_passes more (suc from) (rw (add-suc, ← suc-add) at h))

  -- it is not past the last
  least-within : (more from : ℕ) → least test more from ≤ from + more
  unfolding least
  least-within zero from = omega arith
  least-within (suc more) from =
      step (λ w. w ≤ from + suc more) more from (λ e. omega arith) (λ e. omega (arith, least-within more (suc from)))

  -- the same of widths
  pub least_width-within : least_width test ≤ 8
  unfolding least_width
  least_width-within = least-within 8 0

  pub least_width_passes : test 8 ≡ true → test (least_width test) ≡ true
  unfolding least_width
  least_width_passes h = least_passes 8 0 h

  -- what a loop over the widths has shown when it ends
  pub least_width-is : (w : ℕ) → w ≤ 8 → ((k : ℕ) → k < w → test k ≡ false) → (w < 8 → test w ≡ true)
      → w ≡ least_width test
  unfolding least_width
  least_width-is w high below here = sym (least-is 8 0 w zero-le high (λ k low h. below k h) here)

module _ (t u : ℕ → Bool) where
  least_same : (more from : ℕ) → ((k : ℕ) → k < from + more → t k ≡ u k) → least t more from ≡ least u more from
  unfolding least
  least_same zero from same = refl
  least_same (suc more) from same =
      step t (λ w. w ≡ least u (suc more) from) more from
      (λ e. sym (least-found u (suc more) from (sym (same from (omega arith)) ∙ e)))
      (λ e. least_same more (suc from) (λ k h. same k (omega arith))
      ∙ sym (least_next u more from (sym (same from (omega arith)) ∙ e)))

  -- two tests that agree on the widths below 8 have the same least width
  pub least_width_same : ((k : ℕ) → k < 8 → t k ≡ u k) → least_width t ≡ least_width u
  unfolding least_width
  least_width_same same = least_same 8 0 same

-- tests of two orders, each of which implies the other
leb_same : (a b c d : ℕ) → (a ≤ b → c ≤ d) → (c ≤ d → a ≤ b) → leb a b ≡ leb c d
leb_same a b c d to from = go (leb a b) refl (leb c d) refl
  where
    go : (x : Bool) → leb a b ≡ x → (y : Bool) → leb c d ≡ y → leb a b ≡ leb c d
    go true e true f = e ∙ sym f
    go true e false f = absurd (omega (arith, to (leb-true a b e), leb-false c d f))
    go false e true f = absurd (omega (arith, from (leb-true c d f), leb-false a b e))
    go false e false f = e ∙ sym f

-- what w bytes hold, as orders of numbers
module _ (w n : ℕ) where
  pub below_holds : n < 256 ^ w → holds w n ≡ true
  unfolding holds
  below_holds h = lt-ltb n (256 ^ w) h

  pub over_holds : 256 ^ w ≤ n → holds w n ≡ false
  unfolding holds
  over_holds h = le-ltb n (256 ^ w) h

  pub holds_below : holds w n ≡ true → n < 256 ^ w
  unfolding holds
  holds_below h = ltb-true n (256 ^ w) h

  pub below_ahead : 2 * n < 256 ^ w → holds_offset w (Ahead n) ≡ true
  unfolding holds_offset
  below_ahead h = lt-ltb (2 * n) (256 ^ w) h

  pub ahead_below : holds_offset w (Ahead n) ≡ true → 2 * n < 256 ^ w
  unfolding holds_offset
  ahead_below h = ltb-true (2 * n) (256 ^ w) h

  pub within-back : 2 * n ≤ 256 ^ w → holds_offset w (Back n) ≡ true
  unfolding holds_offset
  within-back h = le-leb (2 * n) (256 ^ w) h

  pub back-within : holds_offset w (Back n) ≡ true → 2 * n ≤ 256 ^ w
  unfolding holds_offset
  back-within h = leb-true (2 * n) (256 ^ w) h

-- the same by the largest number of w bytes, since 256 to the 8 is past 64 bits
module _ (w n top : ℕ) (largest : top + 1 ≡ 256 ^ w) where
  pub holds_up_to : n ≤ top → holds w n ≡ true
  holds_up_to h = below_holds w n (omega arith)

  pub holds_none_above : top < n → holds w n ≡ false
  holds_none_above h = over_holds w n (omega arith)

  pub ahead_half : leb n (top / 2) ≡ holds_offset w (Ahead n)
  unfolding holds_offset
  ahead_half = leb_same n (top / 2) (suc (2 * n)) (256 ^ w) (λ h. omega arith) (λ h. omega arith)

  pub back_half : leb n (top / 2 + top % 2) ≡ holds_offset w (Back n)
  unfolding holds_offset
  back_half = leb_same n (top / 2 + top % 2) (2 * n) (256 ^ w) (λ h. omega arith) (λ h. omega arith)

module _ (w : ℕ) (narrow : w < 8) (n : ℕ) where
  small : 256 ^ w ≤ 2 ^ 56
  small = pow-le-pow_right (zero-lt-suc 255) {j = 7} (omega arith)

  -- an offset ahead is as wide as its size twice
  pub holds-ahead : holds w (2 * min n (2 ^ 62)) ≡ holds_offset w (Ahead n)
  unfolding holds holds_offset
  holds-ahead =
      leb_same (suc (2 * min n (2 ^ 62))) (256 ^ w) (suc (2 * n)) (256 ^ w) (λ h. omega (arith, small)) (λ h. omega (arith, small))

  -- an offset back is as wide as its size twice less one
  pub holds-back : holds w (2 * min n (2 ^ 62) - 1) ≡ holds_offset w (Back n)
  unfolding holds holds_offset
  holds-back =
      leb_same (suc (2 * min n (2 ^ 62) - 1)) (256 ^ w) (2 * n) (256 ^ w)
      (λ h. omega (arith, small)) (λ h. omega (arith, small, power_pos w))
