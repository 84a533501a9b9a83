-- Laws of the compatible brands, as a loop by fours meets them.
use Prim.Native.Nat.{ℕ, suc, ◌+◌, ◌-◌, ◌*◌, ◌/◌, ◌^◌, ◌<◌, min}
use native.Mathlib.Decide.{dec_le}
use mathlib.Core.Bool.{Bool, true, false, or-true, or-false}
use mathlib.Core.List.{List}
use mathlib.Core.Path.{◌≡◌, sym, ap, ap₂, ◌∙◌}
use native.Mathlib.Omega.{arith}
use borrow.Author.Tests.{eq-eqb, ne_eqb}
use lib.Dec.{eqb}
use Rattle.numerals.specs.Numbers.{number}
use Rattle.boxes.specs.Framing.{Box, box_of}
use Rattle.boxes.specs.Kinds.{box_at}
use Rattle.boxes.specs.declared.framing.Framed.{Framed}
use Rattle.boxes.proofs.ToldLaws.{box_fields}
use Rattle.partial.specs.Heading.{brands_from, brands, branded, paff, pmff, brand_right}
use Rattle.partial.specs.Sequences.{some_of}

-- whether one of so many brands from a place on is that one
abbrev pub branded_from : ℕ → List ℕ → ℕ → ℕ → Bool
branded_from brand f many at = some_of (eqb brand) (brands_from f many at)

-- of those from a place on the next decides, or those behind it
module _ (brand : ℕ) (f : List ℕ) (from i many : ℕ) (few : i < many) where
  one_more : many - i ≡ suc (many - (i + 1))
  one_more = omega arith

  pub brand_found : number f (from + 4 * i) 4 ≡ brand → branded_from brand f (many - i) (from + 4 * i) ≡ true
  unfolding some_of brands_from
  brand_found e = ap (λ n. some_of (eqb brand) (brands_from f n (from + 4 * i))) one_more ∙ simp (eq-eqb brand (number f (from + 4 * i) 4) (sym e))

  pub brand_passed : (number f (from + 4 * i) 4 ≡ brand → ⊥) → branded_from brand f (many - i) (from + 4 * i) ≡ branded_from brand f (many - (i + 1)) (from + 4 * (i + 1))
  unfolding some_of brands_from
  brand_passed other =
      let next : from + 4 * i + 4 ≡ from + 4 * (i + 1) = omega arith in
      ap (λ n. some_of (eqb brand) (brands_from f n (from + 4 * i))) one_more
      ∙ (simp (ne_eqb brand (number f (from + 4 * i) 4) (λ e. other (sym e))))
      ∙ ap (λ at. some_of (eqb brand) (brands_from f (many - (i + 1)) at)) next

pub brand_none : (brand : ℕ) (f : List ℕ) (at : ℕ) {left : ℕ} → left ≡ 0 → branded_from brand f left at ≡ false
unfolding some_of brands_from
brand_none brand f at none = ap (λ n. some_of (eqb brand) (brands_from f n at)) none

-- the compatible brands of the first box, from a place in 64 bits on
pub brands-of : (brand : ℕ) (f : List ℕ) (b : Framed) (bs : List Box) {from size : ℕ} → box_of b ≡ box_at 0 bs → b.end.0 < 2 ^ 64 → from ≡ min (b.body.0 + 8) (2 ^ 64 - 1) → size ≡ b.end.0 - from
    → branded brand f bs ≡ branded_from brand f (size / 4) from
unfolding branded brands
brands-of brand f b bs {from} {size} same high start left =
    rw (← same, box_fields b)
    (elim (dec_le (b.body.0 + 8) (2 ^ 64 - 1)) [
      | yes low ↦
          let there : b.body.0 + 8 ≡ from = omega arith in
          let many : b.end.0 - b.body.0 - 8 ≡ size = omega arith in
          ap₂ (λ size from. branded_from brand f (size / 4) from) many there
      | no past ↦ brand_none brand f (b.body.0 + 8) (omega arith) ∙ sym (brand_none brand f from (omega arith))
    ])

-- 8, by whether the file is mixed
module _ (f : List ℕ) (bs : List Box) where
  pub mixed-right : branded pmff f bs ≡ true → brand_right f bs ≡ true
  unfolding brand_right
  mixed-right mixed = rw (mixed, or-true)

  pub unmixed_right : branded pmff f bs ≡ false → brand_right f bs ≡ branded paff f bs
  unfolding brand_right
  unmixed_right unmixed = rw (unmixed, or-false)
