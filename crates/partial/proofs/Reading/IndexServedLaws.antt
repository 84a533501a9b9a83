-- Whether none, some or all of the bytes of an indexed box are served, position by position.
use Prim.Native.Nat.{ℕ, ◌+◌, ◌≤◌, ◌<◌}
use mathlib.Core.Bool.{Bool, true, false, not, true≢false}
use mathlib.Core.List.{List}
use mathlib.Core.Path.{◌≡◌, refl, sym, ap, subst, ◌∙◌}
use native.Mathlib.Decide.{dec_le}
use native.Mathlib.Omega.{arith}
use borrow.Author.Tests.{eq-eqb, eqb-true}
use lib.Dec.{eqb}
use Rattle.partial.specs.Sequences.{stretch}
use Rattle.partial.specs.Segments.{Segment}
use Rattle.partial.specs.Meaning.{supplied}
use Rattle.partial.specs.Index.{served_of}
use Rattle.partial.specs.IndexShape.{ServedAsSaid}
use Rattle.partial.proofs.Meaning.StretchLaws.{stretch_first}

-- a stretch is full exactly if each number passes
module _ (test : ℕ → Bool) (size place : ℕ) where
  full_each : eqb (stretch test size place) size ≡ true → (i : ℕ) → i < size → test (place + i) ≡ true
  full_each e i low = (stretch_first test size place).before i (omega (arith, low, eqb-true (stretch test size place) size e))

  each_full : ((i : ℕ) → i < size → test (place + i) ≡ true) → eqb (stretch test size place) size ≡ true
  each_full each =
      let first = stretch_first test size place in
      let n : ℕ = stretch test size place in
      elim (dec_le size n) [
        | yes all ↦ eq-eqb n size (omega (arith, all, first.most))
        | no short ↦ absurd (true≢false (sym (each n (omega arith)) ∙ first.there (omega arith)))
      ]

negated : (b : Bool) → not b ≡ true → b ≡ false
negated true e = absurd (true≢false (sym e))
negated false e = refl

-- the answer by its two tests
abbrev told : Bool → Bool → ℕ
told all nothing = elim all [ true ↦ 2 | false ↦ elim nothing [ true ↦ 0 | false ↦ 1 ] ]

told_all : (a n : Bool) → told a n ≡ 2 → a ≡ true
told_all true n e = refl
told_all false true e = absurd (omega (arith, e))
told_all false false e = absurd (omega (arith, e))

told-nothing : (a n : Bool) → told a n ≡ 0 → (a ≡ false) × (n ≡ true)
told-nothing true n e = absurd (omega (arith, e))
told-nothing false true e = (refl, refl)
told-nothing false false e = absurd (omega (arith, e))

told_most : (a n : Bool) → told a n ≤ 2
told_most true n = omega arith
told_most false true = omega arith
told_most false false = omega arith

module _ (ss : List Segment) (place size : ℕ) where
  abbrev all : Bool
  all = eqb (stretch (supplied ss) size place) size

  abbrev nothing : Bool
  nothing = eqb (stretch (λ p. not (supplied ss p)) size place) size

  by_tests : served_of ss place size ≡ told all nothing
  unfolding served_of
  by_tests = refl

  pub served_as_said : ServedAsSaid ss place size
  served_as_said =
      record {
        all = (
          λ e. full_each (supplied ss) size place (told_all all nothing (sym by_tests ∙ e)),
          λ each. by_tests ∙ ap (λ (b : Bool). told b nothing) (each_full (supplied ss) size place each),
        );
        nothing = λ some_byte. (
          λ e i low. negated (supplied ss (place + i)) (full_each (λ p. not (supplied ss p)) size place (told-nothing all nothing (sym by_tests ∙ e)).1 i low),
          λ each. by_tests ∙ nothing-told some_byte (each 0 some_byte) (each_full (λ p. not (supplied ss p)) size place (λ i low. ap not (each i low))),
        );
        most = subst (λ (n : ℕ). n ≤ 2) (sym by_tests) (told_most all nothing);
      }
    where
      nothing-told : 0 < size → supplied ss (place + 0) ≡ false → nothing ≡ true → told all nothing ≡ 0
      nothing-told some_byte first None-passes = go all refl
        where
          go : (a : Bool) → all ≡ a → told all nothing ≡ 0
          go true e = absurd (true≢false (sym (full_each (supplied ss) size place e 0 some_byte) ∙ first))
          go false e = ap (λ (b : Bool). told b nothing) e ∙ ap (λ (b : Bool). told false b) None-passes
