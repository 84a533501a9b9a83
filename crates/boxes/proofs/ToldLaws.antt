-- Laws of what answers say: what a box that was read says, and that two answers that say the same are the same.
use Rattle.std.specs.Prelude.{ℕ, Option, None, Some, Result, Ok, Err, IsErrAnd, option_map}
use mathlib.Core.Path.{◌≡◌, refl, sym, ap, ap₂, ◌∙◌}
use native.Mathlib.Omega.{arith}
use Rattle.std.specs.Result.{result_ok}
use Rattle.std.proofs.lemmas.Result.{err_from_is_err_and}
use Rattle.refusals.specs.Refusals.{refusal_no}
use Rattle.refusals.specs.declared.Refusal.{Refusal}
use Rattle.refusals.proofs.NumberLaws.{refusal_told}
use Rattle.boxes.specs.Answer.{Answer, refused, given, told_as}
use Rattle.boxes.specs.Framing.{Box, box_of}
use Rattle.boxes.specs.Walk.{met_of, step_answer}
use Rattle.boxes.specs.declared.framing.Framed.{Framed}
use Rattle.boxes.specs.declared.walk.Walk.{Walk}

abbrev pub Tells : {R A : Type 0} → (R → A) → Type 0
Tells {R} says = (r t : R) → says r ≡ says t → r ≡ t

-- a box that was read, field by field
pub box_fields : (b : Framed) → box_of b ≡ record { kind = b.kind.code; at = b.at.0; user = b.user.0; body = b.body.0; end = b.end.0 }
unfolding box_of
box_fields b = refl

pub box-told : Tells box_of
unfolding box_of
box-told b c e = λ i. record { kind = record { code = (e i).kind }; at = record { 0 = (e i).at }; user = record { 0 = (e i).user }; body = record { 0 = (e i).body }; end = record { 0 = (e i).end } }

-- what each result says of a call's answer
module _ {T A : Type 0} (says : T → A) {r : Result T Refusal} {read : Answer A} (answer : told_as says r ≡ read) where
  pub told-ok : {x : T} → r ≡ Ok x → read ≡ given (says x)
  told-ok e = sym answer ∙ ap (told_as says) e

  pub told-err : {n : Refusal} → r ≡ Err n → read ≡ refused (refusal_no n)
  told-err e = sym answer ∙ ap (told_as says) e

-- what a result was, by what is left of it without its refusal
module _ {T E : Type 0} {r : Result T E} {o : Option T} (left : o ≡ result_ok r) where
  pub was-ok : {x : T} → o ≡ Some x → r ≡ Ok x
  was-ok {x} there = go r (sym left ∙ there)
    where
      go : (r : Result T E) → result_ok r ≡ Some x → r ≡ Ok x
      go (Ok y) e = ap Ok (cc)
      go (Err n) e = cc

  pub was-err : o ≡ None → (n : E) × (r ≡ Err n)
  was-err none = go r (sym left ∙ none)
    where
      go : (r : Result T E) → result_ok r ≡ None → (n : E) × (r ≡ Err n)
      go (Ok y) e = let z : ◌≡◌ {A = ℕ} 0 1 = cc in absurd (omega arith)
      go (Err n) e = (n, refl)

-- a refusal that is handed on is the same refusal
pub handed_on : {T A : Type 0} (says : T → A) (n : Refusal) (r : Result T Refusal) → IsErrAnd r (λ e. e ≡ n) → told_as says r ≡ refused (refusal_no n)
handed_on says n r handed =
    let (e, is, same) = err_from_is_err_and r handed in
    rw (is, same)

-- results that say the same are the same, where values that say the same are
pub result-told : {T A : Type 0} {says : T → A} → Tells says → Tells (told_as says)
result-told values (Ok x) (Ok y) e = ap Ok (values x y (cc))
result-told values (Ok x) (Err m) e = cc
result-told values (Err n) (Ok y) e = cc
result-told values (Err n) (Err m) e = ap Err (refusal_told n m (cc))

pub option-told : {T A : Type 0} {says : T → A} → Tells says → Tells (option_map says)
option-told values (Some x) (Some y) e = ap Some (values x y (cc))
option-told values (Some x) None e = cc
option-told values None (Some y) e = cc
option-told values None None e = refl

met-told : Tells met_of
met-told (Some (b, v)) (Some (c, w)) e =
    let p : ◌≡◌ {A = Box × Walk} (box_of b, v) (box_of c, w) = cc in
    ap₂ (λ b w. Some (b, w)) (box-told b c (ap (λ x. x.0) p)) (ap (λ x. x.1) p)
met-told (Some (b, v)) None e = cc
met-told None (Some (c, w)) e = cc
met-told None None e = refl

pub step_told : Tells step_answer
step_told = result-told met-told
