-- Document 01, "Refusal numbers and their order": a call answers a value, or the number of the first refusal that it
-- reaches.
use Rattle.std.specs.Prelude.{ℕ, Bool, true, false, Result, Ok, Err}
use Rattle.refusals.specs.Refusals.{refusal_no}
use Rattle.refusals.specs.declared.Refusal.{Refusal}

pub data Answer (A : Type 0) : Type 0 where
  refused : ℕ → Answer A
  given : A → Answer A

-- what follows is reached only by a value; a refusal stays
infixl 20 ◌>>=◌
abbrev pub ◌>>=◌ : {A B : Type 0} → Answer A → (A → Answer B) → Answer B
refused n >>= next = refused n
given a >>= next = next a

-- refusal n exactly where the test does not hold
abbrev pub hold : ℕ → Bool → Answer (Unit {0})
hold n true = given tt
hold n false = refused n

-- what a call's result says: the value that its own says, or the number of its refusal
abbrev pub told_as : {T A : Type 0} → (T → A) → Result T Refusal → Answer A
told_as says (Ok x) = given (says x)
told_as says (Err e) = refused (refusal_no e)
