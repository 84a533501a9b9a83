-- Laws of the known size and the largest end, as code gathers them: with segments more, and what 25 and the described
-- length are by them.
use Prim.Native.Nat.{ℕ, max}
use mathlib.Core.Bool.{Bool, true, false, not, ◌&&◌, ◌||◌, and-false, true≢false, false≢true}
use mathlib.Core.List.{List, [], ◌∷◌, ◌++◌, map}
use mathlib.Core.Logic.{inl, inr}
use Rattle.std.specs.Prelude.{Option, None, Some, unwrap_or}
use mathlib.Core.Path.{◌≡◌, refl, ◌∙◌}
use native.Mathlib.Decide.{dec_le}
use native.Mathlib.Omega.{arith}
use borrow.Author.Tests.{le-leb, lt-leb}
use lib.Dec.{leb, eqb}
use Rattle.partial.specs.Sequences.{all_of, largest, or_else}
use Rattle.partial.specs.Segments.{Segment, end_of}
use Rattle.partial.specs.Meaning.{gives_size, known_size, described_length, is_closed, agree}
use Rattle.partial.proofs.Meaning.SequenceLaws.{which}
use Rattle.partial.proofs.Meaning.DescribedLaws.{known_append}

-- the largest of two lists
pub largest_both : {A : Type 0} (of : A → ℕ) (xs ys : List A) → largest (map of (xs ++ ys)) ≡ max (largest (map of xs)) (largest (map of ys))
unfolding largest
largest_both of [] ys = omega arith
largest_both of (x ∷ xs) ys = omega (arith, largest_both of xs ys)

-- all are at most n exactly if the largest is
pub all_at_most : {A : Type 0} (of : A → ℕ) (test : A → Bool) (n : ℕ) (xs : List A)
    → all_of (λ x. leb (of x) n && test x) xs ≡ (leb (largest (map of xs)) n && all_of test xs)
unfolding all_of largest
all_at_most of test n [] = rw (le-leb 0 n (omega arith))
all_at_most of test n (x ∷ xs) =
    let rest : ℕ = largest (map of xs) in
    rw (all_at_most of test n xs)
    (elim (dec_le (of x) n) [
      | no over ↦ rw (lt-leb (of x) n (omega arith), lt-leb (max (of x) rest) n (omega arith))
      | yes here ↦
          elim (dec_le rest n) [
            | no over ↦ rw (lt-leb rest n (omega arith), lt-leb (max (of x) rest) n (omega arith)) (rw (le-leb (of x) n here) (and-false (test x)))
            | yes there ↦ rw (le-leb (of x) n here, le-leb rest n there, le-leb (max (of x) rest) n (omega arith))
          ]
    ])

module _ (ss : List Segment) where
  pub known_open : is_closed ss ≡ false → known_size ss ≡ None
  unfolding is_closed
  known_open = go (known_size ss)
    where
      go : (known : Option ℕ) → (elim known [ Some n ↦ true | None ↦ false ]) ≡ false → known ≡ None
      go None e = refl
      go (Some n) e = absurd (true≢false e)

  pub known_closed : is_closed ss ≡ true → known_size ss ≡ Some (unwrap_or (known_size ss) 0)
  unfolding is_closed
  known_closed = go (known_size ss)
    where
      go : (known : Option ℕ) → (elim known [ Some n ↦ true | None ↦ false ]) ≡ true → known ≡ Some (unwrap_or known 0)
      go None e = absurd (false≢true e)
      go (Some n) e = refl

  -- 25 and the described length, by whether the size is known
  pub agree_open : is_closed ss ≡ false → agree ss ≡ true
  unfolding agree
  agree_open e = rw (agree, known_open e)

  pub described_open : is_closed ss ≡ false → described_length ss ≡ largest (map end_of ss)
  unfolding described_length
  described_open e = rw (described_length, known_open e)

  module _ (closed : is_closed ss ≡ true) where
    pub agree_closed : agree ss
        ≡ (leb (largest (map end_of ss)) (unwrap_or (known_size ss) 0)
        && all_of (λ s. not (gives_size s) || eqb (end_of s) (unwrap_or (known_size ss) 0)) ss)
    unfolding agree
    agree_closed = go (known_size ss) (known_closed closed)
      where
        go : (known : Option ℕ) → known ≡ Some (unwrap_or known 0)
            → (elim known [ Some n ↦ all_of (λ s. leb (end_of s) n && (not (gives_size s) || eqb (end_of s) n)) ss | None ↦ true ])
            ≡ (leb (largest (map end_of ss)) (unwrap_or known 0) && all_of (λ s. not (gives_size s) || eqb (end_of s) (unwrap_or known 0)) ss)
        go None e = absurd (let z : ◌≡◌ {A = ℕ} 0 1 = cc in omega arith)
        go (Some n) e = all_at_most end_of (λ s. not (gives_size s) || eqb (end_of s) n) n ss

    pub described_closed : described_length ss ≡ unwrap_or (known_size ss) 0
    unfolding described_length
    described_closed = go (known_size ss) (known_closed closed)
      where
        go : (known : Option ℕ) → known ≡ Some (unwrap_or known 0) → (elim known [ Some n ↦ n | None ↦ largest (map end_of ss) ]) ≡ unwrap_or known 0
        go None e = absurd (let z : ◌≡◌ {A = ℕ} 0 1 = cc in omega arith)
        go (Some n) e = refl

-- one segment more
module _ (ss : List Segment) (s : Segment) where
  -- where the size is known, or the segment does not make it known, it stays
  pub known_stays : gives_size s ≡ false → known_size (ss ++ (s ∷ [])) ≡ known_size ss
  unfolding known_size or_else
  known_stays lacks = known_append ss (s ∷ []) ∙ rw (known_size, lacks) (or_none (known_size ss))
    where
      or_none : (known : Option ℕ) → or_else known None ≡ known
      or_none None = refl
      or_none (Some n) = refl

  pub known_first : is_closed ss ≡ true → known_size (ss ++ (s ∷ [])) ≡ known_size ss
  unfolding or_else
  known_first closed = known_append ss (s ∷ []) ∙ rw (known_closed ss closed)

  pub known_new : is_closed ss ≡ false → gives_size s ≡ true → known_size (ss ++ (s ∷ [])) ≡ Some (end_of s)
  unfolding known_size or_else
  known_new lacks gives = known_append ss (s ∷ []) ∙ rw (known_open ss lacks, known_size, gives)

-- whether the size is known goes by the known size
pub closed_same : (ss ts : List Segment) → known_size ss ≡ known_size ts → is_closed ss ≡ is_closed ts
unfolding is_closed
closed_same ss ts e = rw (is_closed, e)

pub closed_some : (ss : List Segment) (n : ℕ) → known_size ss ≡ Some n → is_closed ss ≡ true
unfolding is_closed
closed_some ss n e = rw (is_closed, e)

-- where it is not known no segment makes it so
pub none_gives : (test : Segment → Bool) (ss : List Segment) → known_size ss ≡ None → all_of (λ s. not (gives_size s) || test s) ss ≡ true
unfolding known_size all_of
none_gives test [] e = refl
none_gives test (s ∷ ss) e =
    elim (which (gives_size s)) [
      | inl gives ↦
          let known : Some (end_of s) ≡ None = rw (known_size, gives) at e in
          absurd (let z : ◌≡◌ {A = ℕ} 0 1 = cc in omega arith)
      | inr lacks ↦ rw lacks (none_gives test ss (rw (known_size, lacks) at e))
    ]
