-- Laws of a test's two values, of `within`, and of what is said of a list: some or all pass a test, the largest.
use Prim.Native.Nat.{ℕ, zero, suc, ◌+◌, ◌≤◌, ◌<◌}
use mathlib.Core.Bool.{Bool, true, false, ◌&&◌, ◌||◌, and-false, and_assoc, or_assoc, or-true, false≢true}
use mathlib.Core.List.Memᴰ
use mathlib.Core.List.{List, [], ◌∷◌, ◌++◌, map, Memᴰ}
use mathlib.Core.Logic.{◌⊎◌, inl, inr, ⊎_elim}
use mathlib.Core.Path.{◌≡◌, refl, sym, ap, subst, ◌∙◌}
use native.Mathlib.Omega.{arith}
use borrow.Author.Tests.{le-leb, lt-ltb, le-ltb, leb-true, ltb-true}
use lib.Dec.{T}
use lib.ListN.{length, get_or}
use Rattle.partial.specs.Sequences.{some_of, all_of, largest, within}

-- a test passes or fails
pub which : (b : Bool) → (b ≡ true) ⊎ (b ≡ false)
which true = inl refl
which false = inr refl

-- both of two tests pass where the one and the other does
pub both : (a b : Bool) → (a && b) ≡ true → (a ≡ true) × (b ≡ true)
both true b h = (refl, h)
both false b h = (h, absurd (false≢true h))

-- and neither passes where not even one does
pub neither : (a b : Bool) → (a || b) ≡ false → (a ≡ false) × (b ≡ false)
neither false b h = (refl, h)
neither true b h = (h, absurd (false≢true (sym h)))

-- a test as a type
pub passes : (b : Bool) → T b → b ≡ true
passes true h = refl
passes false h = absurd h

-- what the tests of `within` decide
module _ (first many n : ℕ) where
  pub inside : first ≤ n → n < first + many → within first many n ≡ true
  unfolding within
  inside from to = simp (le-leb first n from, lt-ltb n (first + many) to)

  pub past : first + many ≤ n → within first many n ≡ false
  unfolding within
  past h = simp (le-ltb n (first + many) h, and-false)

  pub within_true : within first many n ≡ true → (first ≤ n) × (n < first + many)
  unfolding within
  within_true h = let (from, to) = both _ _ h in (leb-true _ _ from, ltb-true _ _ to)

-- what holds of each of a list
abbrev pub Each : {A : Type 0} → (A → Type 0) → List A → Type 0
Each P [] = Unit {0}
Each P (x ∷ xs) = P x × Each P xs

module _ {A : Type 0} where
  pub each_append : (P : A → Type 0) (xs ys : List A) → Each P xs → Each P ys → Each P (xs ++ ys)
  each_append P [] ys one two = two
  each_append P (x ∷ xs) ys (here, one) two = (here, each_append P xs ys one two)

  pub each_member : (P : A → Type 0) (xs : List A) → Each P xs → (x : A) → Memᴰ x xs → P x
  each_member P [] each x there = absurd (Memᴰ.not-nil there)
  each_member P (y ∷ ys) (here, each) x there = ⊎_elim (λ same. subst P (sym same) here) (each_member P ys each x) (Memᴰ.cases_cons there)

  pub some_append : (test : A → Bool) (xs ys : List A) → some_of test (xs ++ ys) ≡ (some_of test xs || some_of test ys)
  unfolding some_of
  some_append test [] ys = refl
  some_append test (x ∷ xs) ys = ap (λ b. test x || b) (some_append test xs ys) ∙ sym (or_assoc (test x) (some_of test xs) (some_of test ys))

  pub all_append : (test : A → Bool) (xs ys : List A) → all_of test (xs ++ ys) ≡ (all_of test xs && all_of test ys)
  unfolding all_of
  all_append test [] ys = refl
  all_append test (x ∷ xs) ys = ap (λ b. test x && b) (all_append test xs ys) ∙ sym (and_assoc (test x) (all_of test xs) (all_of test ys))

  -- all pass a test exactly where each member does
  pub member_passes : (test : A → Bool) (xs : List A) → all_of test xs ≡ true → (x : A) → Memᴰ x xs → test x ≡ true
  unfolding all_of
  member_passes test [] all x there = absurd (Memᴰ.not-nil there)
  member_passes test (y ∷ ys) all x there =
      let (here, others) = both (test y) (all_of test ys) all in
      ⊎_elim (λ same. rw same here) (member_passes test ys others x) (Memᴰ.cases_cons there)

  pub all_members : (test : A → Bool) (xs : List A) → ((x : A) → Memᴰ x xs → test x ≡ true) → all_of test xs ≡ true
  unfolding all_of
  all_members test [] each = refl
  all_members test (x ∷ xs) each = rw (each x (Memᴰ.head refl)) (all_members test xs (λ y there. each y (Memᴰ.tail there)))

  -- by a test that says the same
  pub all_same : (test other : A → Bool) → ((x : A) → test x ≡ other x) → (xs : List A) → all_of test xs ≡ all_of other xs
  unfolding all_of
  all_same test other same [] = refl
  all_same test other same (x ∷ xs) = rw (same x, all_same test other same xs)

  -- none passes a test where all pass one that rules it out
  pub none_by : (test other : A → Bool) → ((x : A) → other x ≡ true → test x ≡ false) → (xs : List A) → all_of other xs ≡ true → some_of test xs ≡ false
  unfolding some_of all_of
  none_by test other out [] all = refl
  none_by test other out (x ∷ xs) all =
      let (here, there) = both (other x) (all_of other xs) all in
      rw (out x here) (none_by test other out xs there)

  -- by number
  pub some_at : (test : A → Bool) (d : A) (xs : List A) → some_of test xs ≡ true → (k : ℕ) × (k < length xs) × (test (get_or xs k d) ≡ true)
  unfolding some_of
  some_at test d [] h = absurd (false≢true h)
  some_at test d (x ∷ xs) h =
      elim (which (test x)) [
        | inl e ↦ (0, omega arith, e)
        | inr e ↦
            let (k, less, there) = some_at test d xs (rw e at h) in
            (suc k, omega arith, there)
      ]

  pub some_by : (test : A → Bool) (d : A) (xs : List A) (k : ℕ) → k < length xs → test (get_or xs k d) ≡ true → some_of test xs ≡ true
  unfolding some_of
  some_by test d [] k l h = absurd (omega arith)
  some_by test d (x ∷ xs) zero l h = rw h
  some_by test d (x ∷ xs) (suc k) l h = rw (some_by test d xs k (omega arith) h, or-true)

  pub all_at : (test : A → Bool) (d : A) (xs : List A) → all_of test xs ≡ true → (k : ℕ) → k < length xs → test (get_or xs k d) ≡ true
  unfolding all_of
  all_at test d [] h k l = absurd (omega arith)
  all_at test d (x ∷ xs) h zero l = (both _ _ h).0
  all_at test d (x ∷ xs) h (suc k) l = all_at test d xs (both (test x) _ h).1 k (omega arith)

  pub all_by : (test : A → Bool) (d : A) (xs : List A) → ((k : ℕ) → k < length xs → test (get_or xs k d) ≡ true) → all_of test xs ≡ true
  unfolding all_of
  all_by test d [] each = refl
  all_by test d (x ∷ xs) each = rw (each 0 (omega arith)) (all_by test d xs (λ k l. each (suc k) (omega arith)))

  -- the largest is at most n where each is, and no smaller of a longer list
  pub largest_most : (of : A → ℕ) (test : A → Bool) (n : ℕ) → ((x : A) → test x ≡ true → of x ≤ n) → (xs : List A) → all_of test xs ≡ true
      → largest (map of xs) ≤ n
  unfolding all_of largest
  largest_most of test n each [] h = omega arith
  largest_most of test n each (x ∷ xs) h =
      let (here, there) = both (test x) (all_of test xs) h in
      omega (arith, each x here, largest_most of test n each xs there)

  pub largest-append : (of : A → ℕ) (xs ys : List A) → largest (map of xs) ≤ largest (map of (xs ++ ys))
  unfolding largest
  largest-append of [] ys = omega arith
  largest-append of (x ∷ xs) ys = omega (arith, largest-append of xs ys)
