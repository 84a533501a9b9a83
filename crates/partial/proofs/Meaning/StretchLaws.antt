-- Laws of the first number at which a test has a value: there is only one, and `stretch` counts up to the first that
-- fails.
use Prim.Native.Nat.{ℕ, zero, suc, ◌+◌, ◌≤◌, ◌<◌}
use mathlib.Core.Bool.{Bool, true, false, not, true≢false, false≢true}
use mathlib.Core.Logic.{inl, inr}
use mathlib.Core.Path.{◌≡◌, sym, ◌∙◌}
use native.Mathlib.Decide.{dec_le}
use native.Mathlib.Nat.{add-zero, add-suc, suc-add, le_antisymm}
use native.Mathlib.Omega.{arith}
use Rattle.partial.specs.Sequences.{stretch}
use Rattle.partial.proofs.Meaning.SequenceLaws.{which}

-- of k numbers from 0 on, the first at which a test has a value; k if it has it at none
pub record First (value : Bool) (test : ℕ → Bool) (k n : ℕ) : Type 0 where
  pub most : n ≤ k
  pub before : (i : ℕ) → i < n → test i ≡ not value
  pub there : n < k → test n ≡ value

-- there is only one
other : (b : Bool) → b ≡ not b → ⊥
other true = true≢false
other false = false≢true

first_least : {value : Bool} {test : ℕ → Bool} {k m n : ℕ} → First value test k m → First value test k n → m ≤ n
first_least {value} {m = m} {n = n} s t =
    elim (dec_le m n) [ yes h ↦ h | no d ↦ absurd (other value (sym (t.there (omega arith)) ∙ s.before n (omega arith))) ]

pub first_one : {value : Bool} {test : ℕ → Bool} {k m n : ℕ} → First value test k m → First value test k n → m ≡ n
first_one s t = le_antisymm (first_least s t) (first_least t s)

-- `stretch` is the first that fails
pub stretch_first : (test : ℕ → Bool) (k at : ℕ) → First false (λ i. test (at + i)) k (stretch test k at)
unfolding stretch
stretch_first test zero at = record { most = omega arith; before = λ i h. absurd (omega arith); there = λ h. absurd (omega arith) }
stretch_first test (suc k) at =
    let s = stretch_first test k (suc at) in
    elim (which (test at)) [
      | inl e ↦
          rw (stretch, e)
          (record {
            most = omega arith;
            before = elim [ zero ↦ λ h. rw add-zero e | suc i ↦ λ h. rw (add-suc at i, ← (suc-add at i)) (s.before i (omega arith)) ];
            there = λ h. rw (add-suc, ← suc-add) (s.there (omega arith));
          })
      | inr e ↦ rw (stretch, e) (record { most = omega arith; before = λ i h. absurd (omega arith); there = λ h. rw add-zero e })
    ]
