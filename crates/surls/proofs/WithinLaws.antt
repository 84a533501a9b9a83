-- Laws of a box that lies before an end.
use Prim.Native.Nat.{ℕ, ◌≤◌, zero-le}
use mathlib.Core.Bool.{true}
use mathlib.Core.List.{List}
use Rattle.std.specs.Prelude.{Option, None, Some, Result, Ok, Err}
use Rattle.std.specs.Result.{result_unwrap_or}
use mathlib.Core.Logic.{◌⊎◌, inl, inr}
use mathlib.Core.Path.{◌≡◌, refl, sym, ap, ◌∙◌}
use native.Mathlib.Decide.{dec_le}
use native.Mathlib.Omega.{arith}
use borrow.Author.Tests.{le-leb, leb-true}
use lib.Dec.{leb}
use lib.ListN.{length, get_or-eq_default}
use Rattle.boxes.specs.Answer.{given}
use Rattle.boxes.specs.Framing.{Box, boxes_in, box_of}
use Rattle.boxes.specs.Kinds.{those, no_box, box_at, first_of}
use Rattle.boxes.specs.declared.kinds.Container.{Container}
use Rattle.boxes.specs.declared.kinds.Kind.{Kind}
use Rattle.boxes.proofs.KindLaws.{box_at_get_d, first_of-those}
use Rattle.boxes.specs.Walk.{stepped}
use Rattle.boxes.specs.declared.framing.Framed.{Framed}
use Rattle.boxes.specs.declared.walk.Walk.{Walk}
use Rattle.boxes.proofs.ToldLaws.{box_fields}
use Rattle.boxes.proofs.WalkLaws.{met}
use Rattle.partial.specs.Sequences.{all_of}
use Rattle.partial.proofs.Meaning.SequenceLaws.{both}
use Rattle.partial.proofs.Reading.HeadingAppendLaws.{lies, boxes_lie, all_box_at, those_all}
use Rattle.surls.specs.Parts.{Within}

-- what lies before an end lies before one further on
pub further_within : {end end' : ℕ} {b : Framed} → end ≤ end' → Within end b → Within end' b
further_within on within = record { whole = within.whole; ends = omega arith }

-- a box that was met lies in the container, which ends where it did
module _ (s : List ℕ) (w : Walk) (b : Framed) {w' : Walk} (step : stepped s w ≡ given (Some (box_of b, w'))) where
  pub met_within : Within w.end.0 b
  met_within =
      let inside = rw (box_fields b) at (met s w step).inside in
      record { whole = inside.whole; ends = inside.ends }

  pub end_kept : w'.end ≡ w.end
  end_kept = ap (λ w. w.end) (met s w step).onward

-- what was found lies in its container, a box of nothing too
pub number_lies : (end n : ℕ) (bs : List Box) → all_of (lies end) bs ≡ true → lies end (box_at n bs) ≡ true
number_lies end n bs all =
    elim (dec_le (length bs) n) [
      | yes past ↦ rw (box_at_get_d n bs, get_or-eq_default bs no_box past) (le-leb 0 end zero-le)
      | no there ↦ all_box_at (lies end) bs n (omega arith) all
    ]

lies_within : (end : ℕ) (b : Framed) → lies end (box_of b) ≡ true → Within end b
lies_within end b h =
    let (whole, ends) = both (leb b.body.0 b.end.0) (leb b.end.0 end) (rw (box_fields b) at h) in
    record { whole = leb-true _ _ whole; ends = leb-true _ _ ends }

module _ (c : Container) (s : List ℕ) (start end : ℕ) {bs : List Box} (known : boxes_in c s start end ≡ given bs) (b : Framed) where
  pub number-within : (n : ℕ) → box_of b ≡ box_at n bs → Within end b
  number-within n same = lies_within end b (rw same (number_lies end n bs (boxes_lie c s start end bs known)))

  pub first_within : (k : Kind) → box_of b ≡ first_of k bs → Within end b
  first_within k same =
      lies_within end b (rw (same, first_of-those) (number_lies end 0 (those k bs) (those_all k (lies end) bs (boxes_lie c s start end bs known))))

-- a step's answer, by what is left of it where a fault is none
module _ {A E : Type 0} {r : Result (Option A) E} {o : Option A} (left : o ≡ result_unwrap_or r None) where
  pub was_next : {x : A} → o ≡ Some x → r ≡ Ok (Some x)
  was_next {x} there = go r (sym left ∙ there)
    where
      go : (r : Result (Option A) E) → result_unwrap_or r None ≡ Some x → r ≡ Ok (Some x)
      go (Ok y) e = ap Ok e
      go (Err n) e = cc

  pub was_last : o ≡ None → (r ≡ Ok None) ⊎ ((n : E) × (r ≡ Err n))
  was_last none = go r (sym left ∙ none)
    where
      go : (r : Result (Option A) E) → result_unwrap_or r None ≡ None → (r ≡ Ok None) ⊎ ((n : E) × (r ≡ Err n))
      go (Ok y) e = inl (ap Ok e)
      go (Err n) e = inr (n, refl)
