-- Laws of what an exported call says: after a refusal, of an answer, and of answers that are the same.
use Prim.Native.Nat.{ℕ}
use mathlib.Core.Bool.{Bool}
use mathlib.Core.List.{List}
use mathlib.Core.Path.{◌≡◌, subst}
use Rattle.std.specs.Prelude.{Result, Ok, Err}
use Rattle.boxes.specs.Answer.{Answer, refused, given, ◌>>=◌, told_as}
use Rattle.refusals.specs.declared.Refusal.{Refusal}
use Rattle.additions.specs.Addition.{asks}
use Rattle.additions.specs.declared.header.SegmentHeader.{SegmentHeader}
use Rattle.writing.specs.Append.{Appends}
use Rattle.vrazhupa.specs.Says.{Says, number_of, numbers_after}

module _ {A : Type 0} (numbers : A → List ℕ) {answer : Answer A} {told : List ℕ} where
  pub says_refused : {n : ℕ} → answer ≡ refused n → Says numbers answer told told n
  unfolding number_of numbers_after
  says_refused e = record { number = rw e; values = rw e }

  pub says_given : {a : A} {told' : List ℕ} → answer ≡ given a → told' ≡ numbers a → Says numbers answer told told' 0
  unfolding number_of numbers_after
  says_given e same = record { number = rw e; values = rw e same }

-- what an answer's own numbers say is what is said of an equal answer, told by the numbers of what that one means
pub says_as : {T A : Type 0} (of : T → A) (numbers : A → List ℕ) (r : Result T Refusal) {answer : Answer A} {told told' : List ℕ} {n : ℕ} → told_as of r ≡ answer
    → Says (λ t. numbers (of t)) (told_as (λ t. t) r) told told' n
    → Says numbers answer told told' n
unfolding number_of numbers_after
says_as of numbers r {told = told} {told'} {n} e s = subst (λ (x : Answer _). Says numbers x told told' n) e (go r s)
  where
    go : (r : Result _ Refusal) → Says (λ t. numbers (of t)) (told_as (λ t. t) r) told told' n → Says numbers (told_as of r) told told' n
    go (Ok t) s = record { number = s.number; values = s.values }
    go (Err e) s = record { number = s.number; values = s.values }

-- the numbers of what follows an answer, told as that answer's
pub says_then : {A B : Type 0} (numbers : B → List ℕ) (of : A → B) (answer : Answer A) {told told' : List ℕ} {r : ℕ} → Says numbers (answer >>= λ a. given (of a)) told told' r
    → Says (λ a. numbers (of a)) answer told told' r
unfolding number_of numbers_after
says_then numbers of (refused n) s = record { number = s.number; values = s.values }
says_then numbers of (given a) s = record { number = s.number; values = s.values }

-- what is appended by a header is what is appended by an equal one
pub appends_by : {buffer buffer' : List ℕ} {n : ℕ} {header header' : SegmentHeader} {r : Result ℕ Refusal} (outside : Bool) (list bytes texts lengths : List ℕ) → header ≡ header'
    → Appends buffer buffer' n (asks header outside list bytes texts lengths) r
    → Appends buffer buffer' n (asks header' outside list bytes texts lengths) r
appends_by {buffer} {buffer'} {n} {r = r} outside list bytes texts lengths e a =
    subst (λ (h : SegmentHeader). Appends buffer buffer' n (asks h outside list bytes texts lengths) r) e a
