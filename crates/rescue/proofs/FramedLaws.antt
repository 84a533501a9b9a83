-- The whole boxes of a file alone are a file: it has no framing error, the same boxes and the same first two.
use Prim.Native.Nat.{ℕ, ◌<◌, ◌≤◌}
use mathlib.Core.List.{List, [], ◌∷◌}
use mathlib.Core.Logic.{⊎_elim}
use Rattle.std.specs.Prelude.{Option, None, Some}
use mathlib.Core.Path.{◌≡◌, refl, sym, ap, ◌∙◌}
use native.Mathlib.Decide.{dec_le}
use native.Mathlib.Nat.{le_refl}
use native.Mathlib.Omega.{arith}
use borrow.Author.Tests.{le-leb}
use lib.Dec.{leb}
use lib.ListN.{length, get_or, take, get_or-eq_default}
use lib.Seq.{length-take-le, take-length, take-take, get_or-take}
use Rattle.boxes.specs.Answer.{given}
use Rattle.boxes.specs.Faults.{Follow}
use Rattle.boxes.specs.Framing.{Box, Fault, boxes_in, faultless, box_limit}
use Rattle.boxes.specs.Kinds.{box_at}
use Rattle.boxes.specs.declared.kinds.Container.{Container}
use Rattle.boxes.specs.declared.kinds.Container.TheVariants.{File}
use Rattle.boxes.proofs.AnswerLaws.{held}
use Rattle.boxes.proofs.ContainerLaws.{Filled, full, next, filled_boxes, boxes_filled, boxes_few, boxes_same, boxes_standing}
use Rattle.boxes.proofs.FaultLaws.{no-fault, fault_stands}
use Rattle.boxes.proofs.HeaderLaws.{header_inside}
use Rattle.partial.specs.Heading.{Heading}
use Rattle.partial.specs.Limits.{file_limit}
use Rattle.rescue.specs.Kept.{walk_of, framed, first_two, opening}
use Rattle.rescue.proofs.HeadingLaws.{header_nearer, opened}

-- boxes that follow each other up to a place fill what lies before it
follow_filled : (c : Container) (s : List ℕ) (end from : ℕ) (bs : List Box) (to : ℕ) → to ≤ length s → Follow c s end from bs to
    → (from ≤ to) × Filled c s to from bs
follow_filled c s end from [] to inside same = (omega arith, full {at = from} (omega arith))
follow_filled c s end from (b ∷ bs) to inside (short, read, rest) =
    let i = header_inside c s from end read in
    let (low, filled) = follow_filled c s end b.end bs to inside rest in
    (omega arith, next {at = from} (omega arith) (header_nearer c s from end to read (omega arith) low) filled)

-- where a file is cut so that its whole boxes are all of it
record Cut (f s : List ℕ) : Type 0 where
  to : ℕ
  inside : to ≤ length f
  same : s ≡ take to f
  filled : Filled File f to 0 (walk_of f).boxes
  few : length (walk_of f).boxes ≤ box_limit

module _ (f : List ℕ) where
  -- a file without a framing error is all whole boxes
  pub faultless-framed : (walk_of f).fault ≡ None → framed f ≡ f
  unfolding framed
  faultless-framed faultless = rw (framed, faultless)

  cut : Cut f (framed f)
  unfolding walk_of framed boxes_in faultless
  cut = go (walk_of f).fault refl
    where
      go : (x : Option Fault) → (walk_of f).fault ≡ x → Cut f (elim x as (λ _. List ℕ) [ None ↦ f | Some x ↦ take x.at f ])
      go None e =
          let known : boxes_in File f 0 (length f) ≡ given (walk_of f).boxes = rw e in
          record {
            to = length f;
            inside = le_refl (length f);
            same = sym (take-length f);
            filled = boxes_filled File f 0 (length f) known;
            few = boxes_few File f 0 (length f) known;
          }
      go (Some x) e =
          let fault = fault_stands File f 0 (length f) x e in
          record {
            to = x.at;
            inside = omega arith;
            same = refl;
            filled = (follow_filled File f (length f) 0 (walk_of f).boxes x.at (omega arith) fault.before).1;
            few = ⊎_elim (λ (few, _). omega arith) (λ (many, _). omega arith) fault.wrong;
          }

  framed_long : length (framed f) ≡ cut.to
  framed_long = ap length cut.same ∙ length-take-le cut.to f cut.inside

  pub framed_shorter : length (framed f) ≤ length f
  framed_shorter = rw framed_long cut.inside

  -- its bytes are those of the file
  pub framed_at : (k : ℕ) → k < length (framed f) → get_or (framed f) k 0 ≡ get_or f k 0
  framed_at k less =
      let c = cut in
      rw c.same (get_or-take c.to f k 0 (omega (arith, framed_long)))

  pub framed_bytes : ((k : ℕ) → get_or f k 0 < 256) → (k : ℕ) → get_or (framed f) k 0 < 256
  framed_bytes bytes k =
      elim (dec_le (length (framed f)) k) [
        | yes past ↦ rw (get_or-eq_default (framed f) 0 past) (omega arith)
        | no inside ↦ rw (framed_at k (omega arith)) (bytes k)
      ]

  pub framed_boxes : boxes_in File (framed f) 0 (length (framed f)) ≡ given (walk_of f).boxes
  framed_boxes =
      let c = cut in
      rw (framed_long, c.same)
      (boxes_same f (take c.to f) c.to (λ i less. get_or-take c.to f i 0 less) File 0 ∙ filled_boxes File c.filled c.few)

  pub framed-faultless : walk_of (framed f) ≡ record { boxes = (walk_of f).boxes; fault = None }
  unfolding walk_of boxes_in
  framed-faultless = no-fault (walk_of (framed f)) framed_boxes

  -- the second box does not end behind the cut
  same_two : 2 ≤ length (walk_of f).boxes → first_two (framed f) (walk_of f).boxes ≡ first_two f (walk_of f).boxes
  unfolding first_two
  same_two two =
      let c = cut in
      let bs : List Box = (walk_of f).boxes in
      let second = (boxes_standing File f 0 c.to (filled_boxes File c.filled c.few) 1 (omega arith)).inside in
      rw (le-leb 2 (length bs) two, first_two) (rw c.same (take-take (box_at 1 bs).end c.to f second.ends))

  pub framed_opens : (h : Heading) → opening f ≡ given h → opening (framed f) ≡ given h
  unfolding opening
  framed_opens h opens =
      let o = opened f h opens in
      let (_, e) = held 1 (leb (length f) file_limit) _ opens in
      let small = le-leb (length (framed f)) file_limit (omega (arith, framed_shorter)) in
      rw (small, framed-faultless, same_two (omega (arith, ap length o.boxes))) e
