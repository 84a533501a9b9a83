-- Laws of ranges, for any class of positions: which positions they hold, that those of one class lie apart, that their
-- lengths add up, and the step by which a run of one class becomes a range.
use Prim.Native.Nat.{ℕ, zero, suc, ◌+◌, ◌-◌, ◌≤◌, ◌<◌}
use mathlib.Core.Bool.{Bool, true, false, ◌&&◌, ◌||◌, and-true, and-false, or-false}
use mathlib.Core.List.{List, [], ◌∷◌, ◌++◌}
use mathlib.Core.Logic.{◌⊎◌, ⊎_elim, inl, inr}
use mathlib.Core.Path.{◌≡◌, refl, sym, ap, ◌∙◌}
use native.Mathlib.Decide.{dec_le, ℕ_discrete}
use native.Mathlib.Nat.{zero-add, suc-add, add-suc, add-sub_of_le, eq-or-lt_of_le, le_antisymm, le_of_suc-le-suc, le_refl}
use native.Mathlib.Omega.{arith}
use borrow.Author.Tests.{le-leb, lt-leb, lt-ltb, le-ltb, eq-eqb, ne_eqb}
use lib.Dec.{T, leb, ltb, eqb}
use Rattle.partial.specs.Sequences.{some_of, sum, within}
use Rattle.partial.specs.Ranges.{Range, joined, ranges, of_class, total, among, apart, in_row}
use Rattle.partial.proofs.Meaning.SequenceLaws.{which}

-- the positions from p to an end, cut into maximal ranges of one class, the first of them from p to q
pub data Cut (class : ℕ → ℕ) (end : ℕ) : ℕ → List Range → Type 0 where
  done : {p : ℕ} → p ≡ end → Cut class end p []
  next : {p q : ℕ} {rs : List Range}
      → p < q
      → ((i : ℕ) → p ≤ i → i < q → class i ≡ class p)
      → (q < end → class q ≡ class p → ⊥)
      → Cut class end q rs
      → Cut class end p (record { class = class p; first = p; length = q - p } ∷ rs)

-- what the test decides
module _ (c p : ℕ) (r : Range) (rs : List Range) where
  pub joins : c ≡ r.class → joined c p (r ∷ rs) ≡ record { class = c; first = p; length = suc r.length } ∷ rs
  unfolding joined
  joins e = simp (joined, eq-eqb c r.class e)

  pub parts : (c ≡ r.class → ⊥) → joined c p (r ∷ rs) ≡ record { class = c; first = p; length = 1 } ∷ (r ∷ rs)
  unfolding joined
  parts d = simp (joined, ne_eqb c r.class d)

module _ (class : ℕ → ℕ) where
  alone : {end p : ℕ} {rs : List Range} → (suc p < end → class (suc p) ≡ class p → ⊥) → Cut class end (suc p) rs
      → Cut class end p (record { class = class p; first = p; length = 1 } ∷ rs)
  alone {end} {p} {rs} differs rest =
      let one : suc p - p ≡ 1 = omega arith in
      rw (← one) (next {p = p} {q = suc p} (omega arith) (λ i from to. ap class (le_antisymm (le_of_suc-le-suc to) from)) differs rest)

  one_more : {end p : ℕ} {rs : List Range} → Cut class end (suc p) rs → Cut class end p (joined (class p) p rs)
  unfolding joined
  one_more {end} {p} (done e) = alone (λ h. absurd (omega arith)) (done e)
  one_more {end} {p} (next {q = q} {rs = rs} some same differs rest) =
      elim (ℕ_discrete (class p) (class (suc p))) [
        | yes e ↦
            let long : q - p ≡ suc (q - suc p) = omega arith in
            rw (joins, ← long)
            (next {p = p} {q = q} (omega arith)
            (λ i from to. ⊎_elim (λ here. ap class (sym here)) (λ on. same i on to ∙ sym e) (eq-or-lt_of_le from))
            (λ short f. differs short (f ∙ e))
            rest)
        | no d ↦ rw parts (alone (λ h e. d (sym e)) (next some same differs rest))
      ]

  pub cut : (k p : ℕ) → Cut class (p + k) p (ranges class k p)
  unfolding ranges
  cut zero p = done {p = p} (omega arith)
  cut (suc k) p = one_more (rw (add-suc p k) (rw (suc-add p k) at (cut k (suc p))))

  pub ordered : {end p : ℕ} {rs : List Range} → Cut class end p rs → p ≤ end
  ordered (done e) = omega arith
  ordered (next some same differs rest) = omega (arith, ordered rest)

  -- a position is held by a range whose class passes a test exactly if it lies between the ends and its own class
  -- passes
  holds : {end p : ℕ} {rs : List Range} → Cut class end p rs → (test : ℕ → Bool) (i : ℕ)
      → some_of (λ r. test r.class && within r.first r.length i) rs ≡ (leb p i && ltb i end && test (class i))
  unfolding some_of within
  holds {end} {p} (done e) test i =
      elim (dec_le p i) [
        | yes from ↦ simp (le-leb p i from, le-ltb i end (omega arith))
        | no short ↦ simp (lt-leb p i (omega arith))
      ]
  holds {end} {p} (next {q = q} some same differs rest) test i =
      let more = holds rest test i in
      let last = ordered rest in
      elim (dec_le p i) [
        | no short ↦ simp (lt-leb p i (omega arith), lt-leb q i (omega arith), and-false, more)
        | yes from ↦
            elim (dec_le q i) [
              | yes past ↦ simp (le-leb p i from, le-leb q i past, le-ltb i (p + (q - p)) (omega arith), and-false, more)
              | no here ↦
                  let one_class = same i from (omega arith) in
                  simp (le-leb p i from, lt-leb q i (omega arith), lt-ltb i (p + (q - p)) (omega arith), lt-ltb i end (omega arith), and-true, or-false, more, one_class)
            ]
      ]

  -- the lengths of the ranges of a cut add up to what is cut
  lengths : {end p : ℕ} {rs : List Range} → Cut class end p rs → p + total rs ≡ end
  unfolding total sum
  lengths (done e) = omega arith
  lengths (next some same differs rest) = omega (arith, lengths rest)

  -- and those of two classes, where each position has one of them
  two_totals : {end p : ℕ} {rs : List Range} → Cut class end p rs → (c d : ℕ) → (c ≡ d → ⊥) → ((i : ℕ) → (class i ≡ c) ⊎ (class i ≡ d))
      → total (of_class c rs) + total (of_class d rs) ≡ total rs
  unfolding total sum of_class
  two_totals (done e) c d apart either = zero-add 0
  two_totals {p = p} (next some same differs rest) c d apart either =
      let more = two_totals rest c d apart either in
      ⊎_elim
      (λ e. simp (of_class, eq-eqb (class p) c e, ne_eqb (class p) d (λ f. apart (sym e ∙ f))) (omega arith))
      (λ f. simp (of_class, ne_eqb (class p) c (λ e. apart (sym e ∙ f)), eq-eqb (class p) d f) (omega arith))
      (either p)

  -- the ranges of one class lie apart
  lies_apart : {end p : ℕ} {rs : List Range} → Cut class end p rs → (c from : ℕ) → from ≤ suc p → (p < end → class p ≡ c → from ≤ p)
      → T (apart from (of_class c rs))
  unfolding apart of_class
  lies_apart (done e) c from near here = tt
  lies_apart {end} {p} (next {q = q} some same differs rest) c from near here =
      elim (ℕ_discrete (class p) c) [
        | yes e ↦
            simp (of_class, apart, eq-eqb (class p) c e, le-leb from p (here (omega (arith, ordered rest)) e), lt-ltb 0 (q - p) (omega arith))
            (lies_apart rest c (suc (p + (q - p))) (omega arith) (λ short f. absurd (differs short (f ∙ sym e))))
        | no d ↦ simp (of_class, ne_eqb (class p) c d) (lies_apart rest c from (omega arith) (λ short e. omega arith))
      ]

  -- each range starts where the one before it ends
  stands_in_row : {end p : ℕ} {rs : List Range} → Cut class end p rs → T (in_row p end rs)
  unfolding in_row
  stands_in_row {end} {p} (done e) = rw (eq-eqb p end e) tt
  stands_in_row {end} {p} (next {q = q} some same differs rest) =
      let to : p + (q - p) ≡ q = omega arith in
      simp (in_row, eq-eqb p p refl, lt-ltb 0 (q - p) (omega arith), to) (stands_in_row rest)

among_class : (c i : ℕ) (rs : List Range) → among i (of_class c rs) ≡ some_of (λ r. eqb r.class c && within r.first r.length i) rs
unfolding among of_class some_of
among_class c i [] = refl
among_class c i (r ∷ rs) =
    let test : Range → Bool = λ r. within r.first r.length i in
    let more = among_class c i rs in
    let rest : Bool = some_of (λ r. eqb r.class c && test r) rs in
    elim (eqb r.class c) as (λ b. some_of test (elim b [ true ↦ r ∷ of_class c rs | false ↦ of_class c rs ]) ≡ (b && test r || rest)) [
      | true ↦ ap (λ b. test r || b) more
      | false ↦ more
    ]

-- a position before one of another class is a range of its own
parted : (c p d q : ℕ) (rs : List Range) → (c ≡ d → ⊥) → joined c p (joined d q rs) ≡ record { class = c; first = p; length = 1 } ∷ joined d q rs
parted c p d q [] differ = unfold joined in parts c p (record { class = d; first = q; length = 1 }) [] differ
parted c p d q (r ∷ rs) differ =
    elim (ℕ_discrete d r.class) [
      | yes e ↦ rw joins (parts c p (record { class = d; first = q; length = suc r.length }) rs differ)
      | no n ↦ rw (parts d q r rs n) (parts c p (record { class = d; first = q; length = 1 }) (r ∷ rs) differ)
    ]

module _ (class : ℕ → ℕ) where
  run : (l m p q : ℕ) → p + suc l ≡ q → ((i : ℕ) → p ≤ i → i < q → class i ≡ class p) → (0 < m → class q ≡ class p → ⊥)
      → ranges class (suc l + m) p ≡ record { class = class p; first = p; length = suc l } ∷ ranges class m q
  unfolding ranges
  run zero zero p q to same differs = unfold joined in refl
  run zero (suc m) p q to same differs =
      let one : 1 + suc m ≡ suc (suc m) = omega arith in
      let after : q ≡ suc p = omega arith in
      rw (one, after) (parted (class p) p (class (suc p)) (suc p) (ranges class m (suc (suc p))) (λ e. differs (omega arith) (ap class after ∙ sym e)))
  run (suc l) m p q to same differs =
      let second : class (suc p) ≡ class p = same (suc p) (omega arith) (omega arith) in
      rw (suc-add (suc l) m, run l m (suc p) q (omega arith) (λ i from to. same i (omega arith) to ∙ sym second) (λ some e. differs some (e ∙ second)))
      (joins (class p) p (record { class = class (suc p); first = suc p; length = suc l }) (ranges class m q) (sym second))

  -- the step by which code makes ranges, by positions: those from p to q have one class, and q, if it is before the
  -- end, another
  pub range_to : (end p q : ℕ) → p < q → q ≤ end → ((i : ℕ) → p ≤ i → i < q → class i ≡ class p) → (q < end → class q ≡ class p → ⊥)
      → ranges class (end - p) p ≡ record { class = class p; first = p; length = q - p } ∷ ranges class (end - q) q
  range_to end p q some most same differs =
      let long : suc (q - suc p) ≡ q - p = omega arith in
      let all : q - p + (end - q) ≡ end - p = omega arith in
      rw (long, all) at (run (q - suc p) (end - q) p q (omega arith) same (λ more. differs (omega arith)))

  -- and by counts: the first l of k positions have one class, and the next, if there is one, another
  pub first_range : (k l p : ℕ) → 0 < l → l ≤ k → ((i : ℕ) → i < l → class (p + i) ≡ class p) → (l < k → class (p + l) ≡ class p → ⊥)
      → ranges class k p ≡ record { class = class p; first = p; length = l } ∷ ranges class (k - l) (p + l)
  first_range k l p some most same differs =
      let all : p + k - p ≡ k = omega arith in
      let long : p + l - p ≡ l = omega arith in
      let left : p + k - (p + l) ≡ k - l = omega arith in
      rw (all, long, left) at
      (range_to (p + k) p (p + l) (omega arith) (omega arith)
      (λ i from to. rw (add-sub_of_le from) at (same (i - p) (omega arith)))
      (λ more. differs (omega arith)))

  -- the positions that the ranges of one class hold
  pub among-ranges : (c k p i : ℕ) → among i (of_class c (ranges class k p)) ≡ (within p k i && eqb (class i) c)
  unfolding within
  among-ranges c k p i = among_class c i (ranges class k p) ∙ holds class (cut class k p) (λ d. eqb d c) i

  pub among_all : (k p i : ℕ) → among i (ranges class k p) ≡ within p k i
  unfolding among within
  among_all k p i = holds class (cut class k p) (λ d. true) i ∙ and-true (within p k i)

  pub ranges_apart : (c k p : ℕ) → T (apart p (of_class c (ranges class k p)))
  ranges_apart c k p = lies_apart class (cut class k p) c p (omega arith) (λ _ _. le_refl p)

  pub ranges_in_row : (k p : ℕ) → T (in_row p (p + k) (ranges class k p))
  ranges_in_row k p = stands_in_row class (cut class k p)

  pub ranges-total : (k p : ℕ) → total (ranges class k p) ≡ k
  ranges-total k p = omega (arith, lengths class (cut class k p))

  pub ranges-totals : (c d : ℕ) → (c ≡ d → ⊥) → ((i : ℕ) → (class i ≡ c) ⊎ (class i ≡ d)) → (k p : ℕ)
      → total (of_class c (ranges class k p)) + total (of_class d (ranges class k p)) ≡ k
  ranges-totals c d differ either k p = two_totals class (cut class k p) c d differ either ∙ ranges-total k p

-- ---- one range more, behind the others

module _ (c : ℕ) (r : Range) where
  pub last_in : r.class ≡ c → (rs : List Range) → of_class c (rs ++ (r ∷ [])) ≡ of_class c rs ++ (r ∷ [])
  unfolding of_class
  last_in same [] = rw (of_class, eq-eqb r.class c same)
  last_in same (x ∷ rs) =
      elim (which (eqb x.class c)) [
        | inl here ↦ rw (of_class, here) (ap (λ (xs : List Range). x ∷ xs) (last_in same rs))
        | inr other ↦ rw (of_class, other) (last_in same rs)
      ]

  pub last_out : (r.class ≡ c → ⊥) → (rs : List Range) → of_class c (rs ++ (r ∷ [])) ≡ of_class c rs
  unfolding of_class
  last_out differ [] = rw (of_class, ne_eqb r.class c differ)
  last_out differ (x ∷ rs) =
      elim (which (eqb x.class c)) [
        | inl here ↦ rw (of_class, here) (ap (λ (xs : List Range). x ∷ xs) (last_out differ rs))
        | inr other ↦ rw (of_class, other) (last_out differ rs)
      ]

pub total_last : (rs : List Range) (r : Range) → total (rs ++ (r ∷ [])) ≡ total rs + r.length
unfolding total sum
total_last [] r = omega arith
total_last (x ∷ rs) r = omega (arith, total_last rs r)
