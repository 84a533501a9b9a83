-- Laws of answers: what is known of a call's parts where the whole of it gave a value, and with which numbers it can
-- refuse.
use Prim.Native.Nat.{ℕ}
use mathlib.Core.Bool.{Bool, true, false}
use mathlib.Core.Path.{◌≡◌, refl, sym, subst}
use native.Mathlib.Omega.{arith}
use Rattle.boxes.specs.Answer.{Answer, refused, given, ◌>>=◌, hold}

pub not_both : {A : Type 0} {n : ℕ} {a : A} → refused n ≡ given a → ⊥
not_both h = let z : ◌≡◌ {A = ℕ} 0 1 = cc in omega arith

pub refused_same : {A : Type 0} {m n : ℕ} → ◌≡◌ {A = Answer A} (refused m) (refused n) → m ≡ n
refused_same h = cc

pub given_same : {A : Type 0} {a b : A} → given a ≡ given b → a ≡ b
given_same h = cc

-- a value at the end comes from a value on the way
pub both_given : {A B : Type 0} (x : Answer A) (next : A → Answer B) {b : B} → (x >>= next) ≡ given b
    → (a : A) × (x ≡ given a) × (next a ≡ given b)
both_given (refused n) next h = absurd (not_both h)
both_given (given a) next h = (a, refl, h)

-- a value after a test comes where the test holds
pub held : {A : Type 0} (n : ℕ) (t : Bool) (next : Unit {0} → Answer A) {a : A} → (hold n t >>= next) ≡ given a → (t ≡ true) × (next tt ≡ given a)
held n true next h = (refl, h)
held n false next h = absurd (not_both h)

pub then-then : {A B C : Type 0} (x : Answer A) (f : A → Answer B) (g : B → Answer C) → (x >>= f >>= g) ≡ (x >>= λ a. f a >>= g)
then-then (refused n) f g = refl
then-then (given a) f g = refl

pub then-given : {A : Type 0} (x : Answer A) → (x >>= given) ≡ x
then-given (refused n) = refl
then-given (given a) = refl

-- the numbers of refusals, part by part
module _ (P : ℕ → Type 0) where
  -- an answer refuses only with numbers of a kind
  abbrev pub Only : {A : Type 0} → Answer A → Type 0
  Only x = (n : ℕ) → x ≡ refused n → P n

  pub only_given : {A : Type 0} (a : A) → Only (given a)
  only_given a n e = absurd (not_both (sym e))

  pub only_refused : {A : Type 0} (n : ℕ) → P n → Only {A = A} (refused n)
  only_refused n p m e = subst P (refused_same e) p

  pub only_then : {A B : Type 0} (x : Answer A) (next : A → Answer B) → Only x → ((a : A) → Only (next a)) → Only (x >>= next)
  only_then (refused n) next first rest = λ m e. first m (cc)
  only_then (given a) next first rest = rest a

  pub only_held : {B : Type 0} (n : ℕ) (b : Bool) (next : Unit {0} → Answer B) → P n → Only (next tt) → Only (hold n b >>= next)
  only_held n true next p rest = rest
  only_held n false next p rest = only_refused n p

  pub only_either : {A : Type 0} (b : Bool) {x y : Answer A} → Only x → Only y → Only {A = A} (elim b [ true ↦ x | false ↦ y ])
  only_either true p q = p
  only_either false p q = q
