-- Laws of the walk over a container: it is its step again and again, and where it stands after some boxes.
use Prim.Native.Nat.{ℕ, zero, suc, ◌+◌, ◌-◌, ◌≤◌, ◌<◌}
use mathlib.Core.Bool.{Bool, true, false}
use mathlib.Core.List.{List, [], ◌∷◌, ◌++◌, append_assoc, append-nil}
use Rattle.std.specs.Prelude.{Option, None, Some, Result, Ok, Err}
use mathlib.Core.Path.{◌≡◌, refl, sym, ap, ◌∙◌}
use native.Mathlib.Numerals.{sub-one}
use native.Mathlib.Omega.{arith}
use borrow.Author.Tests.{le-leb, lt-leb, leb-true, leb-false}
use lib.Dec.{leb}
use lib.ListN.{length, length-append}
use Rattle.boxes.specs.Answer.{Answer, refused, given, ◌>>=◌}
use Rattle.boxes.specs.Framing.{Box, Walked, box_of, header, ended, broken, followed, walked, faultless, boxes_from, walked_in, boxes_in, box_limit}
use Rattle.refusals.specs.Refusals.{refusal_no}
use Rattle.refusals.specs.declared.Refusal.{Refusal}
use Rattle.boxes.specs.Walk.{walk_over, stepped, step_answer}
use Rattle.boxes.specs.declared.framing.Framed.{Framed}
use Rattle.boxes.specs.declared.kinds.Container.{Container}
use Rattle.numerals.specs.declared.place.Place.{Place}
use Rattle.boxes.specs.declared.walk.Walk.{Walk}
use Rattle.boxes.proofs.AnswerLaws.{not_both, given_same, both_given, held, then-given}
use Rattle.boxes.proofs.ContainerLaws.{faultless-followed}
use Rattle.boxes.proofs.HeaderLaws.{Inside, header_inside}

-- what a walk has before it, and the boxes of that
abbrev pub onward : List ℕ → Walk → Walked
onward s w = walked w.container s w.end.0 w.left w.at.0

abbrev pub ahead : List ℕ → Walk → Answer (List Box)
ahead s w = boxes_from w.container s w.end.0 w.left w.at.0

-- the same by the walk's step: a fault where it stands, the container's end, or a box and what the walk after it has
-- before it
abbrev pub stepping : List ℕ → Walk → Answer (Option (Box × Walk)) → Walked
stepping s w (refused n) = broken w.at.0 n
stepping s w (given None) = ended
stepping s w (given (Some n)) = followed n.0 (onward s n.1)

abbrev pub after : List ℕ → Option (Box × Walk) → Answer (List Box)
after s None = given []
after s (Some n) = ahead s n.1 >>= λ bs. given (n.0 ∷ bs)

module _ (s : List ℕ) (c : Container) (at end : Place) where
  abbrev standing : ℕ → Walk
  standing left = record { container = c; at = at; end = end; left = left }

  steps_from : (left : ℕ) → onward s (standing left) ≡ stepping s (standing left) (stepped s (standing left))
  unfolding walked stepped
  steps_from zero = go (leb end.0 at.0) refl
    where
      go : (t : Bool) → leb end.0 at.0 ≡ t → walked c s end.0 zero at.0 ≡ stepping s (standing zero) (stepped s (standing zero))
      go true e = simp (walked, stepped, e)
      go false e = simp (walked, stepped, e)
  steps_from (suc left) = go (leb end.0 at.0) refl
    where
      box : (h : Answer Box)
          → (elim h [ refused n ↦ broken at.0 n | given b ↦ followed b (walked c s end.0 left b.end) ])
          ≡ stepping s (standing (suc left)) (h >>= λ b. given (Some (b, record { container = c; at = record { 0 = b.end }; end = end; left = left })))
      box (refused n) = refl
      box (given b) = refl

      go : (t : Bool) → leb end.0 at.0 ≡ t → walked c s end.0 (suc left) at.0 ≡ stepping s (standing (suc left)) (stepped s (standing (suc left)))
      go true e = simp (walked, stepped, e)
      go false e = simp (walked, stepped, e, le-leb 1 (suc left) (omega arith), sub-one) (box (header c s at.0 end.0))

-- the walk over a container is its step, again and again
module _ (s : List ℕ) (w : Walk) where
  pub onward_steps : onward s w ≡ stepping s w (stepped s w)
  onward_steps = steps_from s w.container w.at w.end w.left

  pub walk_steps : ahead s w ≡ (stepped s w >>= after s)
  unfolding boxes_from faultless
  walk_steps = ap faultless onward_steps ∙ go (stepped s w)
    where
      go : (x : Answer (Option (Box × Walk))) → faultless (stepping s w x) ≡ (x >>= after s)
      go (refused n) = refl
      go (given None) = refl
      go (given (Some n)) = faultless-followed n.0 (onward s n.1)

-- the walk after a box
abbrev pub past : Walk → Box → Walk
past w b = record { container = w.container; at = record { 0 = b.end }; end = w.end; left = w.left - 1 }

module _ (s : List ℕ) (w : Walk) where
  pub step_end : w.end.0 ≤ w.at.0 → stepped s w ≡ given None
  unfolding stepped
  step_end h = simp (stepped, le-leb w.end.0 w.at.0 h)

  module _ (short : w.at.0 < w.end.0) where
    pub step_over : w.left ≡ 0 → stepped s w ≡ refused 6
    unfolding stepped
    step_over none_left = simp (stepped, lt-leb w.end.0 w.at.0 short, none_left)

    pub step_header : (w.left ≡ 0 → ⊥) → stepped s w ≡ (header w.container s w.at.0 w.end.0 >>= λ b. given (Some (b, past w b)))
    unfolding stepped
    step_header some_left = simp (stepped, lt-leb w.end.0 w.at.0 short, le-leb 1 w.left (omega arith))

-- what a step says that met a box
pub record Met (s : List ℕ) (w : Walk) (b : Box) (w' : Walk) : Type 0 where
  pub short : w.at.0 < w.end.0
  pub allowed : 1 ≤ w.left
  pub read : header w.container s w.at.0 w.end.0 ≡ given b
  pub inside : Inside w.at.0 w.end.0 b
  pub onward : w' ≡ past w b

box_read : (x : Answer Box) (next : Box → Walk) {b : Box} {w : Walk} → ◌>>=◌ {B = Option (Box × Walk)} x (λ b. given (Some (b, next b))) ≡ given (Some (b, w)) → (x ≡ given b) × (w ≡ next b)
box_read (refused n) next h = absurd (not_both h)
box_read (given a) next {b} {w} h =
    let p : ◌≡◌ {A = Box × Walk} (a, next a) (b, w) = cc in
    (ap (λ p. given p.0) p, ◌∙◌ {b = next a} {c = next b} (sym (ap (λ p. p.1) p)) (ap (λ p. next p.0) p))

pub met : (s : List ℕ) (w : Walk) {b : Box} {w' : Walk} → stepped s w ≡ given (Some (b, w')) → Met s w b w'
unfolding stepped
met s w {b} {w'} h = go (leb w.end.0 w.at.0) refl
  where
    go : (t : Bool) → leb w.end.0 w.at.0 ≡ t → Met s w b w'
    go true e =
        let z : ◌≡◌ {A = Answer (Option (Box × Walk))} (given None) (given (Some (b, w'))) = simp (stepped, e) at h in
        let z : ◌≡◌ {A = ℕ} 0 1 = cc in
        absurd (omega arith)
    go false e =
        let r = held 6 (leb 1 w.left) _ (simp (stepped, e) at h) in
        let q = box_read (header w.container s w.at.0 w.end.0) (past w) r.1 in
        record { short = leb-false _ _ e; allowed = leb-true 1 w.left r.0; read = q.0; inside = header_inside w.container s _ _ q.0; onward = q.1 }

-- a walk whose boxes are known meets them one by one and no fault
module _ (s : List ℕ) (w : Walk) {bs : List Box} (known : ahead s w ≡ given bs) where
  pub known_next : {b : Box} {w' : Walk} → stepped s w ≡ given (Some (b, w')) → (rest : List Box) × (ahead s w' ≡ given rest) × (bs ≡ b ∷ rest)
  known_next {b} {w'} h =
      let rest = both_given (ahead s w') _ (sym (rw h at (walk_steps s w)) ∙ known) in
      (rest.0, rest.1, sym (given_same rest.2))

  pub known_end : stepped s w ≡ given None → bs ≡ []
  known_end h = given_same (sym known ∙ rw h at (walk_steps s w))

  pub known_sound : {n : ℕ} → stepped s w ≡ refused n → ⊥
  known_sound h = not_both (sym (rw h at (walk_steps s w)) ∙ known)

-- a walk that began as w₀ has passed these boxes and stands at w
pub record Passed (s : List ℕ) (w₀ : Walk) (bs : List Box) (w : Walk) : Type 0 where
  pub rest : ahead s w₀ ≡ (ahead s w >>= λ more. given (bs ++ more))
  pub counted : length bs + w.left ≡ w₀.left
  pub same_end : w.end ≡ w₀.end

pub passed_none : (s : List ℕ) (w : Walk) → Passed s w [] w
passed_none s w = record { rest = sym (then-given (ahead s w)); counted = omega arith; same_end = refl }

-- a step that met a box has passed it
pub passed_more : {s : List ℕ} {w₀ w w' : Walk} {bs : List Box} {b : Box} → Passed s w₀ bs w → stepped s w ≡ given (Some (b, w'))
    → Passed s w₀ (bs ++ (b ∷ [])) w'
passed_more {s} {w₀} {w} {w'} {bs} {b} p h =
    let m = met s w h in
    record {
      rest = p.rest ∙ rw (walk_steps s w, h) (box_passed (ahead s w'));
      counted = simp length-append (omega (arith, ap (λ w. w.left) m.onward));
      same_end = ap (λ w. w.end) m.onward ∙ p.same_end;
    }
  where
    box_passed : (x : Answer (List Box)) → (x >>= (λ bs. given (b ∷ bs)) >>= λ more. given (bs ++ more)) ≡ (x >>= λ more. given (bs ++ (b ∷ []) ++ more))
    box_passed (refused n) = refl
    box_passed (given more) = ap given (sym (append_assoc bs (b ∷ []) more))

-- a walk that began at a container's start: at its end the boxes passed are the container's, and its fault is the
-- container's first
module _ {s : List ℕ} {c : Container} {start end : Place} {w₀ w : Walk} {bs : List Box} (new : w₀ ≡ walk_over c start end) (p : Passed s w₀ bs w) where
  pub all_boxes : stepped s w ≡ given None → boxes_in c s start.0 end.0 ≡ given bs
  unfolding boxes_in walked_in boxes_from
  all_boxes h = rw new at p.rest ∙ rw (walk_steps s w, h) (ap given (append-nil bs))

  pub first_fault : {n : ℕ} → stepped s w ≡ refused n → boxes_in c s start.0 end.0 ≡ refused n
  unfolding boxes_in walked_in boxes_from
  first_fault h = rw new at p.rest ∙ rw (walk_steps s w, h)

-- the boxes of a container are those that a walk from its start has before it
pub walk_boxes : (s : List ℕ) {c : Container} {start end : Place} {w : Walk} → w ≡ walk_over c start end → boxes_in c s start.0 end.0 ≡ ahead s w
unfolding boxes_in walked_in boxes_from
walk_boxes s new = rw new

pub over_left : {c : Container} {start end : Place} {w : Walk} → w ≡ walk_over c start end → w.left ≡ 512
unfolding box_limit
over_left new = ap (λ w. w.left) new

-- after a step that met a box fewer are allowed
pub fewer : (s : List ℕ) (w : Walk) {b : Box} {w' : Walk} → stepped s w ≡ given (Some (b, w')) → w'.left < w.left
fewer s w h =
    let m = met s w h in
    omega (arith, ap (λ w. w.left) m.onward)

-- what each answer to a step says of it
module _ {r : Result (Option (Framed × Walk)) Refusal} {step : Answer (Option (Box × Walk))} (answer : step_answer r ≡ step) where
  pub next_box : {b : Framed} {w : Walk} → r ≡ Ok (Some (b, w)) → step ≡ given (Some (box_of b, w))
  next_box e = sym answer ∙ ap step_answer e

  pub no_more : r ≡ Ok None → step ≡ given None
  no_more e = sym answer ∙ ap step_answer e

  pub a_fault : {n : Refusal} → r ≡ Err n → step ≡ refused (refusal_no n)
  a_fault e = sym answer ∙ ap step_answer e
