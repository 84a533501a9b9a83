-- Sizes agree, as the test of 25 has it, exactly where no segment ends above the end of one that makes the size known.
use Prim.Native.Nat.{ℕ, ◌≤◌}
use mathlib.Core.Bool.{true, false, not, ◌&&◌, ◌||◌, true≢false}
use mathlib.Core.List.Memᴰ
use mathlib.Core.List.{List, [], ◌∷◌, Memᴰ}
use mathlib.Core.Logic.{inl, inr, ⊎_elim}
use Rattle.std.specs.Prelude.{Option, None, Some}
use mathlib.Core.Path.{◌≡◌, refl, sym, ◌∙◌}
use native.Mathlib.Omega.{arith}
use borrow.Author.Tests.{le-leb, eq-eqb, leb-true, eqb-true}
use lib.Dec.{T, leb, eqb}
use Rattle.partial.specs.Segments.{Segment, end_of}
use Rattle.partial.specs.Meaning.{gives_size, known_size, agree}
use Rattle.partial.proofs.Meaning.SequenceLaws.{which, both, passes, member_passes, all_members}

-- a known size is the end of a segment that makes it known
known_there : (ss : List Segment) {n : ℕ} → known_size ss ≡ Some n → (s : Segment) × Memᴰ s ss × (gives_size s ≡ true) × (end_of s ≡ n)
unfolding known_size
known_there [] e = absurd (let z : ◌≡◌ {A = ℕ} 0 1 = cc in omega arith)
known_there (s ∷ ss) {n} e =
    elim (which (gives_size s)) [
      | inl gives ↦
          let same : Some (end_of s) ≡ Some n = rw (known_size, gives) at e in
          (s, Memᴰ.head refl, gives, cc)
      | inr lacks ↦
          let (t, there, gives, end) = known_there ss (rw (known_size, lacks) at e) in
          (t, Memᴰ.tail there, gives, end)
    ]

-- where no size is known, no segment makes it known
none_known : (ss : List Segment) → known_size ss ≡ None → (s : Segment) → Memᴰ s ss → gives_size s ≡ false
unfolding known_size
none_known [] e s there = absurd (Memᴰ.not-nil there)
none_known (t ∷ ss) e s there =
    elim (which (gives_size t)) [
      | inl gives ↦ absurd (let z : ◌≡◌ {A = ℕ} 0 1 = cc (rw (known_size, gives) at e) in omega arith)
      | inr lacks ↦ ⊎_elim (λ same. rw same lacks) (none_known ss (rw (known_size, lacks) at e) s) (Memᴰ.cases_cons there)
    ]

-- no segment ends above, or differs from, a size that one of them makes known, whatever their sources
abbrev pub OneSize : List Segment → Type 0
OneSize ss = (s t : Segment) → Memᴰ s ss → Memᴰ t ss → T (gives_size s) → end_of t ≤ end_of s

module _ (ss : List Segment) (one : OneSize ss) where
  -- a segment beside one that ends at the known size
  passes_beside : (s t : Segment) (n : ℕ) → Memᴰ s ss → Memᴰ t ss → gives_size s ≡ true → end_of s ≡ n
      → (leb (end_of t) n && (not (gives_size t) || eqb (end_of t) n)) ≡ true
  passes_beside s t n here there gives end =
      let under = one s t here there (rw gives tt) in
      elim (which (gives_size t)) [
        | inl also ↦
            let over = one t s there here (rw also tt) in
            rw (le-leb (end_of t) n (omega arith), also, eq-eqb (end_of t) n (omega arith))
        | inr lacks ↦ rw (le-leb (end_of t) n (omega arith), lacks)
      ]

  pub one_agrees : agree ss ≡ true
  unfolding agree
  one_agrees = go (known_size ss) refl
    where
      go : (known : Option ℕ) → known_size ss ≡ known → agree ss ≡ true
      go None e = rw (agree, e)
      go (Some n) e =
          let (s, here, gives, end) = known_there ss e in
          rw (agree, e) (all_members _ ss (λ t there. passes_beside s t n here there gives end))

pub agrees_one : (ss : List Segment) → agree ss ≡ true → OneSize ss
unfolding agree
agrees_one ss passed s t here there gives = go (known_size ss) refl
  where
    go : (known : Option ℕ) → known_size ss ≡ known → end_of t ≤ end_of s
    go None e = absurd (true≢false (sym (passes _ gives) ∙ none_known ss e s here))
    go (Some n) e =
        let all = rw (agree, e) at passed in
        let (_, ends) = both (leb (end_of s) n) (not (gives_size s) || eqb (end_of s) n) (member_passes _ ss all s here) in
        let (under, _) = both (leb (end_of t) n) (not (gives_size t) || eqb (end_of t) n) (member_passes _ ss all t there) in
        let same : end_of s ≡ n = eqb-true (end_of s) n (rw (passes (gives_size s) gives) at ends) in
        omega (arith, leb-true (end_of t) n under)
