-- Laws of the boxes that were found: which has a number, and that the body of `pfil` lies in the file.
use Prim.Native.Nat.{ℕ, ◌≤◌}
use mathlib.Core.List.{List}
use mathlib.Core.Path.{◌≡◌, sym, ap, ◌∙◌}
use native.Mathlib.Omega.{arith}
use borrow.Author.Tests.{leb-true}
use lib.Dec.{leb}
use lib.ListN.{length}
use Rattle.std.specs.Prelude.{Option, None, Some, Result, Ok, Err, slice_get}
use Rattle.std.specs.Option.{ok_or}
use Rattle.refusals.specs.declared.Refusal.{Refusal}
use Rattle.boxes.specs.declared.framing.Framed.{Framed}
use Rattle.tallying.specs.Found.{found_of}
use Rattle.tallying.proofs.FoundLaws.{number_found, number_none}
use mathlib.Core.Bool.{false}
use Rattle.boxes.specs.Answer.{given}
use Rattle.boxes.specs.Framing.{Box, box_of}
use Rattle.boxes.specs.Kinds.{no_box, box_at}
use Rattle.boxes.specs.declared.kinds.Container.TheVariants.{File}
use Rattle.boxes.proofs.KindLaws.{is-eqb}
use Rattle.partial.specs.Heading.{Heading, heading, ftyp_right, pfil_right}
use Rattle.partial.proofs.Meaning.SequenceLaws.{both}
use Rattle.partial.proofs.Reading.HeadingAppendLaws.{headed, boxes_lie}
use Rattle.surls.proofs.WithinLaws.{number_lies}
use Rattle.heading.specs.Facts.{pfil_body}

-- the same where a call refuses a file that has none
module _ (n : ℕ) (bs : List Box) (found : Option Framed) (e : Refusal) {r : Result Framed Refusal} (asked : r ≡ ok_or found e) (told : found_of found ≡ slice_get bs n) where
  pub number_there : {b : Framed} → r ≡ Ok b → box_of b ≡ box_at n bs
  number_there {b} ok = number_found n bs (go found told (sym asked ∙ ok))
    where
      go : (found : Option Framed) → found_of found ≡ slice_get bs n → ok_or found e ≡ Ok b → Some (box_of b) ≡ slice_get bs n
      go None told ok = cc
      go (Some x) told ok =
          let same : x ≡ b = cc in
          ap (λ x. Some (box_of x)) (sym same) ∙ told

  pub number_missing : {x : Refusal} → r ≡ Err x → (no_box ≡ box_at n bs) × (x ≡ e)
  number_missing {x} err = go found told (sym asked ∙ err)
    where
      go : (found : Option Framed) → found_of found ≡ slice_get bs n → ok_or found e ≡ Err x → (no_box ≡ box_at n bs) × (x ≡ e)
      go None told err = (number_none n bs told, cc)
      go (Some y) told err = let z : ◌≡◌ {A = ℕ} 0 1 = cc in absurd (omega arith)

-- a file without a first box has no `ftyp`, and one without a second no `pfil`
module _ (bs : List Box) where
  pub no_ftyp : no_box ≡ box_at 0 bs → ftyp_right bs ≡ false
  unfolding ftyp_right
  no_ftyp same = rw (← same, is-eqb)

  pub no_pfil : no_box ≡ box_at 1 bs → pfil_right bs ≡ false
  unfolding pfil_right
  no_pfil same = rw (← same, is-eqb)

-- the body of `pfil` lies in the file
pub pfil_inside : (f : List ℕ) (h : Heading) → heading f ≡ given h → (pfil_body h.boxes).end.0 ≤ length f
pfil_inside f h known =
    let b = box_at 1 h.boxes in
    let lie = number_lies (length f) 1 h.boxes (boxes_lie File f 0 (length f) h.boxes (headed f h known).boxes) in
    leb-true b.end (length f) (both (leb b.body b.end) (leb b.end (length f)) lie).1
