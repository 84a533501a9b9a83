-- Document 01, "handed back as parts of the file": where a part that was handed back lies, and its bytes.
use Rattle.std.specs.Prelude.{ℕ, ◌+◌, true, false, List, ◌≡◌, leb, length, Result, Ok, Err}
use Rattle.refusals.specs.declared.Refusal.{Refusal}
use Rattle.boxes.specs.Answer.{Answer, refused, given, told_as}
use Rattle.partial.specs.Heading.{Part, bytes_in}
use Rattle.partial.specs.Tables.{nowhere}
use Rattle.surls.specs.Parts.{part_of}
use Rattle.surls.specs.declared.part.Part as Stated

-- what an answer about where a part lies says
abbrev pub located_answer : Result Stated.Part Refusal → Answer Part
located_answer = told_as part_of

-- the part that is handed back: empty after a refusal, and where it would not lie in the file
unfoldable pub handed : List ℕ → Answer Part → Part
handed f (refused n) = nowhere
handed f (given part) = elim (leb (part.place + part.size) (length f)) [ true ↦ part | false ↦ nowhere ]

-- the same by a result, whatever its error is
abbrev pub handed_by : {E : Type 0} → List ℕ → Result Stated.Part E → Part
handed_by f (Ok part) = handed f (given (part_of part))
handed_by f (Err e) = nowhere

-- it lies in the memory that the file is in, as far behind the file's first byte as the part's place says, and holds
-- the part's bytes
pub record HandedBack (f : List ℕ) (file : ℕ × ℕ) (part : Part) (there : ℕ × ℕ) (bytes : List ℕ) : Type 0 where
  pub memory : there.0 ≡ file.0
  pub place : there.1 ≡ file.1 + part.place
  pub holds : bytes ≡ bytes_in f part
