-- Laws of the ranges of one class by the positions alone that are of it: two ways to class positions that agree on a
-- class have the same ranges of it, and a class holds as many positions as there are of it.
use Prim.Native.Nat.{ℕ, zero, suc, ◌+◌}
use mathlib.Core.Bool.{Bool, true, false, ◌||◌}
use mathlib.Core.List.{List, [], ◌∷◌}
use mathlib.Core.Logic.{inl, inr}
use mathlib.Core.Path.{◌≡◌, refl, sym, ap, ◌∙◌}
use native.Mathlib.Omega.{arith}
use native.Mathlib.Decide.{ℕ_discrete}
use borrow.Author.Tests.{eqb-true, ne_eqb}
use lib.Dec.{eqb}
use Rattle.partial.specs.Sequences.{sum}
use Rattle.partial.specs.Ranges.{Range, joined, ranges, of_class, total}
use Rattle.partial.proofs.Meaning.SequenceLaws.{which}
use Rattle.partial.proofs.Meaning.RangeLaws.{joins, parts}

-- how many of so many positions from p on pass a test
unfoldable pub count : (ℕ → Bool) → ℕ → ℕ → ℕ
count test zero p = 0
count test (suc more) p = (elim (test p) [ true ↦ 1 | false ↦ 0 ]) + count test more (suc p)

-- one position more, before the ranges of a class that follow it, by whether it is of the class and whether the next
-- one is
grown : ℕ → ℕ → Bool → Bool → List Range → List Range
grown c p false next rs = rs
grown c p true true (r ∷ rs) = record { class = c; first = p; length = suc r.length } ∷ rs
grown c p true true [] = record { class = c; first = p; length = 1 } ∷ []
grown c p true false rs = record { class = c; first = p; length = 1 } ∷ rs

-- the ranges of a class by the positions that are of it
runs : ℕ → (ℕ → Bool) → ℕ → ℕ → List Range
runs c test zero p = []
runs c test (suc more) p = grown c p (test p) (test (suc p)) (runs c test more (suc p))

runs_alike : (c : ℕ) (one two : ℕ → Bool) → ((i : ℕ) → one i ≡ two i) → (k p : ℕ) → runs c one k p ≡ runs c two k p
unfolding runs
runs_alike c one two same zero p = refl
runs_alike c one two same (suc k) p = rw (same p, same (suc p), runs_alike c one two same k (suc p))

module _ (c : ℕ) where
  -- the first of some ranges is of the class, or is not
  first_of : (r : Range) (rs : List Range) → eqb r.class c ≡ true → of_class c (r ∷ rs) ≡ r ∷ of_class c rs
  unfolding of_class
  first_of r rs here = rw (of_class, here)

  first_other : (r : Range) (rs : List Range) → eqb r.class c ≡ false → of_class c (r ∷ rs) ≡ of_class c rs
  unfolding of_class
  first_other r rs other = rw (of_class, other)

  -- one position more of some class
  joined_one : (d p : ℕ) (r : Range) (rs : List Range)
      → of_class c (joined d p (r ∷ rs)) ≡ grown c p (eqb d c) (eqb r.class c) (of_class c (r ∷ rs))
  unfolding grown
  joined_one d p r rs =
      elim (ℕ_discrete d r.class) [
        | yes e ↦
            let new : Range = record { class = d; first = p; length = suc r.length } in
            elim (which (eqb d c)) [
              | inl here ↦
                  let too : eqb r.class c ≡ true = rw (← e) here in
                  rw (joins d p r rs e, here, too, first_of new rs here, first_of r rs too, eqb-true d c here)
              | inr other ↦ rw (joins d p r rs e, other, first_other new rs other, first_other r rs (rw (← e) other))
            ]
        | no apart ↦
            let new : Range = record { class = d; first = p; length = 1 } in
            elim (which (eqb d c)) [
              | inl here ↦
                  let not-too : eqb r.class c ≡ false = ne_eqb r.class c (λ f. apart (eqb-true d c here ∙ sym f)) in
                  rw (parts d p r rs apart, here, not-too, first_of new (r ∷ rs) here, eqb-true d c here)
              | inr other ↦ rw (parts d p r rs apart, other, first_other new (r ∷ rs) other)
            ]
      ]

  joined_alone : (d p : ℕ) (next : Bool) → of_class c (joined d p []) ≡ grown c p (eqb d c) next []
  unfolding joined grown of_class
  joined_alone d p next =
      let new : Range = record { class = d; first = p; length = 1 } in
      elim (which (eqb d c)) [
        | inl here ↦ rw (here, first_of new [] here, eqb-true d c here) (alone next)
        | inr other ↦ rw (other, first_other new [] other)
      ]
    where
      alone : (next : Bool) → record { class = c; first = p; length = 1 } ∷ [] ≡ grown c p true next []
      alone true = refl
      alone false = refl

-- the first range is of the class of the first position
first_class : (class : ℕ → ℕ) (k p : ℕ) → (r : Range) × (rs : List Range) × (ranges class (suc k) p ≡ r ∷ rs) × (r.class ≡ class p)
unfolding ranges
first_class class k p = go (ranges class k (suc p))
  where
    go : (rs : List Range) → (r : Range) × (ts : List Range) × (joined (class p) p rs ≡ r ∷ ts) × (r.class ≡ class p)
    go [] = unfold joined in (record { class = class p; first = p; length = 1 }, [], refl, refl)
    go (r ∷ rs) =
        elim (ℕ_discrete (class p) r.class) [
          | yes e ↦ (record { class = class p; first = p; length = suc r.length }, rs, joins (class p) p r rs e, refl)
          | no d ↦ (record { class = class p; first = p; length = 1 }, r ∷ rs, parts (class p) p r rs d, refl)
        ]

class_runs : (class : ℕ → ℕ) (c k p : ℕ) → of_class c (ranges class k p) ≡ runs c (λ i. eqb (class i) c) k p
unfolding ranges runs
class_runs class c zero p = unfold of_class in refl
class_runs class c (suc zero) p = joined_alone c (class p) p (eqb (class (suc p)) c)
class_runs class c (suc (suc k)) p =
    let (r, rs, here, first) = first_class class k (suc p) in
    ap (λ (ts : List Range). of_class c (joined (class p) p ts)) here
    ∙ joined_one c (class p) p r rs
    ∙ ap (λ (d : ℕ). grown c p (eqb (class p) c) (eqb d c) (of_class c (r ∷ rs))) first
    ∙ ap (λ (ts : List Range). grown c p (eqb (class p) c) (eqb (class (suc p)) c) (of_class c ts)) (sym here)
    ∙ ap (λ (ts : List Range). grown c p (eqb (class p) c) (eqb (class (suc p)) c) ts) (class_runs class c (suc k) (suc p))

-- two ways to class positions that agree on a class
pub ranges_alike : (one two : ℕ → ℕ) (c : ℕ) → ((i : ℕ) → eqb (one i) c ≡ eqb (two i) c) → (k p : ℕ)
    → of_class c (ranges one k p) ≡ of_class c (ranges two k p)
ranges_alike one two c same k p =
    class_runs one c k p ∙ runs_alike c (λ i. eqb (one i) c) (λ i. eqb (two i) c) same k p ∙ sym (class_runs two c k p)

-- how many positions the ranges of a class hold
grown_total : (c p : ℕ) (here next : Bool) (rs : List Range) → total (grown c p here next rs) ≡ (elim here [ true ↦ 1 | false ↦ 0 ]) + total rs
unfolding grown total sum
grown_total c p false next rs = omega arith
grown_total c p true true (r ∷ rs) = omega arith
grown_total c p true true [] = omega arith
grown_total c p true false rs = omega arith

runs_total : (c : ℕ) (test : ℕ → Bool) (k p : ℕ) → total (runs c test k p) ≡ count test k p
unfolding runs count
runs_total c test zero p = unfold total sum in refl
runs_total c test (suc k) p =
    grown_total c p (test p) (test (suc p)) (runs c test k (suc p)) ∙ ap (λ (n : ℕ). (elim (test p) [ true ↦ 1 | false ↦ 0 ]) + n) (runs_total c test k (suc p))

pub class_total : (class : ℕ → ℕ) (c k p : ℕ) → total (of_class c (ranges class k p)) ≡ count (λ i. eqb (class i) c) k p
class_total class c k p = ap total (class_runs class c k p) ∙ runs_total c (λ i. eqb (class i) c) k p

-- what is of one of two kinds, by both together
pub count_both : (one two either : ℕ → Bool) → ((i : ℕ) → either i ≡ (one i || two i)) → ((i : ℕ) → one i ≡ true → two i ≡ false) → (k p : ℕ)
    → count one k p + count two k p ≡ count either k p
unfolding count
count_both one two either sum apart zero p = refl
count_both one two either sum apart (suc k) p =
    let more = count_both one two either sum apart k (suc p) in
    elim (which (one p)) [
      | inl here ↦ rw (count, sum p, here, apart p here) (omega arith)
      | inr other ↦
          elim (which (two p)) [
            | inl here ↦ rw (count, sum p, other, here) (omega arith)
            | inr none ↦ rw (count, sum p, other, none) (omega arith)
          ]
    ]
