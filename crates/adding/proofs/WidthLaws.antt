-- Laws of the widths that append writes: the least that holds the largest size, and the least that holds all data.
use Prim.Native.Nat.{ℕ, ◌≤◌, ◌<◌, ◌^◌, max}
use mathlib.Core.Bool.{Bool, false, ◌&&◌}
use mathlib.Core.List.{List, [], ◌∷◌, map}
use mathlib.Core.Logic.{inl, inr}
use mathlib.Core.Path.{◌≡◌, sym, ap, ◌∙◌}
use native.Mathlib.Omega.{arith}
use borrow.Author.Tests.{ltb-false}
use lib.Dec.{eqb}
use Rattle.numerals.specs.Numbers.{holds, holds_offset, least_width}
use Rattle.numerals.specs.declared.numbers.Offset.TheVariants.{Back}
use Rattle.numerals.proofs.NumberLaws.{power_pos}
use Rattle.numerals.proofs.WidthLaws.{least_width_same, below_holds, over_holds, holds_below}
use Rattle.partial.specs.Sequences.{all_of, largest}
use Rattle.partial.specs.Reading.{offset_width_of}
use Rattle.additions.specs.Addition.{Item, size_of, goes_out}
use Rattle.additions.specs.Append.{placed_with, placed, length_size_of, offset_size_of, version_for}
use Rattle.partial.proofs.Meaning.SequenceLaws.{which}
use Rattle.additions.proofs.PlacedLaws.{offsets-hold}
use Rattle.adding.specs.Counts.{Whole, counts_of}
use Rattle.adding.specs.declared.counts.Counts.{Counts}

holds_over : (w n : ℕ) → holds w n ≡ false → 256 ^ w ≤ n
unfolding holds
holds_over w n h = ltb-false n (256 ^ w) h

-- w bytes hold two numbers where they hold the larger
holds-max : (w a b : ℕ) → (holds w a && holds w b) ≡ holds w (max a b)
holds-max w a b =
    elim (which (holds w a)) [
      | inl e ↦
          elim (which (holds w b)) [
            | inl f ↦ rw (e, f) (sym (below_holds w (max a b) (omega (arith, holds_below w a e, holds_below w b f))))
            | inr f ↦ rw (e, f) (sym (over_holds w (max a b) (omega (arith, holds_over w b f))))
          ]
      | inr e ↦ rw e (sym (over_holds w (max a b) (omega (arith, holds_over w a e))))
    ]

-- w bytes hold every size where they hold the largest
sizes_with : (w : ℕ) (outside : Bool) (out : ℕ) (is : List Item)
    → all_of (λ p. holds w p.size) (placed_with outside out is) ≡ holds w (largest (map (λ i. i.size) is))
unfolding all_of placed_with largest
sizes_with w outside out [] = sym (below_holds w 0 (power_pos w))
sizes_with w outside out (i ∷ is) = rw (sizes_with w outside out is) (holds-max w i.size (largest (map (λ i. i.size) is)))

pub sizes_hold : (w : ℕ) (outside : Bool) (is : List Item) → all_of (λ p. holds w p.size) (placed outside is) ≡ holds w (largest (map (λ i. i.size) is))
unfolding placed
sizes_hold w outside is = sizes_with w outside (size_of (goes_out outside) is) is

-- the widths, by what was counted
module _ (outside : Bool) (is : List Item) (c : Counts) (whole : Whole is c) where
  pub length_wide : least_width (λ w. holds w c.largest) ≡ length_size_of (placed outside is)
  unfolding length_size_of counts_of
  length_wide = least_width_same _ _ (λ k _. ap (λ (x : Counts). holds k x.largest) whole.counts ∙ sym (sizes_hold k outside is))

  pub offset_wide : least_width (λ w. holds_offset w (Back c.bytes)) ≡ offset_size_of (placed outside is)
  unfolding offset_size_of
  offset_wide = least_width_same _ _ (λ k _. ap (λ (n : ℕ). holds_offset k (Back n)) whole.bytes ∙ sym (offsets-hold k outside is))

-- the bytes of a source offset, by the version that it needs
module _ (n : ℕ) where
  pub offset_near : n ≤ 0xffff_ffff → offset_width_of (version_for n) ≡ 4
  unfolding version_for offset_width_of
  offset_near h = rw (version_for, below_holds 4 n (omega arith))

  pub offset_far : 0xffff_ffff < n → offset_width_of (version_for n) ≡ 8
  unfolding version_for offset_width_of
  offset_far h = rw (version_for, over_holds 4 n (omega arith))

offset_most : (version : ℕ) → offset_width_of version ≤ 8
unfolding offset_width_of
offset_most version =
    elim (which (eqb version 0)) [
      | inl e ↦ rw (offset_width_of, e) (omega arith)
      | inr e ↦ rw (offset_width_of, e) (omega arith)
    ]
