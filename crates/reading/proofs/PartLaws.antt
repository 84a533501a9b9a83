-- Laws of handing back a part: empty after a refusal, whole where it lies in the file, and else empty too.
use Prim.Native.Nat.{ℕ, ◌+◌, ◌≤◌}
use mathlib.Core.Bool.{true, false}
use mathlib.Core.List.{List}
use mathlib.Core.Path.{◌≡◌, refl, ap, subst, ◌∙◌}
use borrow.Author.Tests.{le-leb}
use lib.Dec.{leb}
use lib.ListN.{length}
use Rattle.boxes.specs.Answer.{given}
use Rattle.partial.specs.Heading.{Part}
use Rattle.partial.specs.Tables.{nowhere}
use Rattle.surls.specs.Parts.{part_of}
use Rattle.surls.specs.declared.part.Part as Stated
use Rattle.reading.specs.Parts.{HandedBack, located_answer, handed, handed_by}
use Rattle.std.specs.Prelude.{Result, Ok, Err}
use Rattle.refusals.specs.declared.Refusal.{Refusal}

pub handed_whole : (f : List ℕ) (part : Part) → part.place + part.size ≤ length f → handed f (given part) ≡ part
unfolding handed
handed_whole f part inside = rw (le-leb (part.place + part.size) (length f) inside, handed)

-- by an answer
module _ (f : List ℕ) {E : Type 0} {located : Result Stated.Part E} where
  pub handed_refused : {n : E} → located ≡ Err n → handed_by f located ≡ nowhere
  handed_refused e = ap (λ (x : Result Stated.Part E). handed_by f x) e

  module _ {part : Stated.Part} (e : located ≡ Ok part) where
    pub handed_past : leb (part.place.0 + part.size) (length f) ≡ false → handed_by f located ≡ nowhere
    unfolding handed
    handed_past past = ap (λ (x : Result Stated.Part E). handed_by f x) e ∙ rw (past, handed)

    pub handed_at : leb (part.place.0 + part.size) (length f) ≡ true → handed_by f located ≡ part_of part
    unfolding handed
    handed_at inside = ap (λ (x : Result Stated.Part E). handed_by f x) e ∙ rw (inside, handed)

-- by an answer of a call, it is what the answer says
pub handed_told : (f : List ℕ) (located : Result Stated.Part Refusal) → handed_by f located ≡ handed f (located_answer located)
unfolding handed
handed_told f (Ok part) = refl
handed_told f (Err e) = refl

-- what is handed back as one part is handed back as one that is equal
pub handed_same : {f : List ℕ} {file : ℕ × ℕ} {part part' : Part} {there : ℕ × ℕ} {bytes : List ℕ} → part ≡ part' → HandedBack f file part there bytes
    → HandedBack f file part' there bytes
handed_same {f} {file} {there = there} {bytes = bytes} e h = subst (λ (p : Part). HandedBack f file p there bytes) e h
