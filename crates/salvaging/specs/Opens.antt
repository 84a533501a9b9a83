-- Document 02, [9], "Refusals: 1; 2 to 11 for the first two boxes": what is told of a file before any of its segments is
-- judged.
use Rattle.std.specs.Prelude.{ℕ, List, ◌≡◌, length, take, Option, Result, Ok, Err}
use Rattle.boxes.specs.Answer.{refused, given}
use Rattle.partial.specs.Heading.{Heading}
use Rattle.heading.specs.Facts.{pfil_body}
use Rattle.refusals.specs.Refusals.{refusal_no}
use Rattle.refusals.specs.declared.Refusal.{Refusal}
use Rattle.rescue.specs.Kept.{walk_of, framed, opening}
use Rattle.salvaging.specs.Fault.{fault_at}
use Rattle.salvaging.specs.declared.opening.OpenFile.{OpenFile}

-- where the whole boxes of a file end, and the framing error there, if there is one
pub record Whole (f : List ℕ) (at : ℕ) (fault : Option Refusal) : Type 0 where
  pub cut : take at f ≡ framed f
  pub end : at ≡ length (framed f)
  pub error : (walk_of f).fault ≡ fault_at at fault

-- what is told of an opened file: whether it is mixed, where the list of URLs in its `pfil` stands, and where its whole
-- boxes end
pub record Told (f : List ℕ) (h : Heading) (o : OpenFile) : Type 0 where
  pub mix : o.mixed ≡ h.mixed
  pub list : o.list ≡ pfil_body h.boxes
  pub whole : Whole f o.end.0 o.fault

-- what an answer says: the refusal, or what is told
unfoldable pub Opens : List ℕ → Result OpenFile Refusal → Type 0
Opens f (Err e) = opening f ≡ refused (refusal_no e)
Opens f (Ok o) = (h : Heading) × (opening f ≡ given h) × Told f h o
