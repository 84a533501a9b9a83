-- A walk over a file that counts its boxes: which of them it has before it.
use Prim.Native.Nat.{ℕ, suc, ◌+◌, ◌≤◌, ◌<◌}
use mathlib.Core.List.{List}
use mathlib.Core.Logic.{inl, inr}
use Rattle.std.specs.Prelude.{Option, None, Some, Result}
use Rattle.std.specs.Result.{result_unwrap_or}
use mathlib.Core.Path.{◌≡◌, sym, ap, ◌∙◌}
use native.Mathlib.Omega.{arith}
use lib.ListN.{length, drop, length-drop}
use lib.Seq.{drop-cons}
use Rattle.boxes.specs.Answer.{refused, given}
use Rattle.boxes.specs.Framing.{Box, boxes_in}
use Rattle.boxes.specs.Kinds.{no_box, box_at}
use Rattle.boxes.specs.Walk.{walk_over, stepped, step_answer}
use Rattle.boxes.specs.declared.framing.Framed.{Framed}
use Rattle.boxes.specs.declared.kinds.Container.TheVariants.{File}
use Rattle.boxes.specs.declared.walk.Walk.{Walk}
use Rattle.boxes.proofs.WalkLaws.{ahead, known_next, known_end, known_sound, walk_boxes, no_more, a_fault}
use Rattle.refusals.specs.declared.Refusal.{Refusal}
use Rattle.surls.proofs.WithinLaws.{was_last}
use Rattle.numerals.specs.declared.place.Place.{Place}

-- it has passed so many of some boxes
pub record Counting (f : List ℕ) (bs : List Box) (w : Walk) (k : ℕ) : Type 0 where
  pub left : ahead f w ≡ given (drop k bs)
  pub few : k ≤ length bs

pub counting_none : (f : List ℕ) {bs : List Box} {end : Place} {w : Walk} → boxes_in File f 0 (length f) ≡ given bs → w ≡ walk_over File (record { 0 = 0 }) end
    → end.0 ≡ length f
    → Counting f bs w 0
counting_none f {bs} {end} known new ends =
    record { left = sym (walk_boxes f new) ∙ ap (λ (n : ℕ). boxes_in File f 0 n) ends ∙ known; few = omega arith }

module _ {f : List ℕ} {bs : List Box} {w : Walk} {k : ℕ} (c : Counting f bs w k) where
  -- a box that it meets is the next
  pub counting_more : {b : Box} {w' : Walk} → stepped f w ≡ given (Some (b, w')) → (k < length bs) × (b ≡ box_at k bs) × Counting f bs w' (k + 1)
  unfolding box_at
  counting_more {b} {w'} step =
      let (rest, after, split) = known_next f w c.left step in
      let less : k < length bs = omega (arith, ap length split, length-drop k bs, c.few) in
      let cut = sym (drop-cons bs k no_box less) ∙ split in
      let one : k + 1 ≡ suc k = omega arith in
      (less, sym (ap (box_at 0) cut), record { left = after ∙ ap given (sym (ap (drop 1) cut) ∙ ap (λ (n : ℕ). drop n bs) (sym one)); few = omega arith })

  counting_end : stepped f w ≡ given None → k ≡ length bs
  counting_end step = omega (arith, ap length (known_end f w c.left step), length-drop k bs, c.few)

  counting_sound : {n : ℕ} → stepped f w ≡ refused n → ⊥
  counting_sound = known_sound f w c.left

  -- where its step is none, it has passed all: there is no fault
  pub counting_last : (r : Result (Option (Framed × Walk)) Refusal) {o : Option (Framed × Walk)} → step_answer r ≡ stepped f w → o ≡ result_unwrap_or r None → o ≡ None
      → k ≡ length bs
  counting_last r answer left none =
      elim (was_last left none) [
        | inl last ↦ counting_end (no_more answer last)
        | inr (n, fault) ↦ absurd (counting_sound (a_fault answer fault))
      ]
