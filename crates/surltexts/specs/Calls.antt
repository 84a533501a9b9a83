-- Document 02, [8], and refusal 26: what a call answers that tells the texts of a segment's `surl` boxes, and what it
-- leaves in the lent memory.
use Rattle.std.specs.Prelude.{ℕ, ◌&&◌, List, ◌≡◌, length, Result}
use Rattle.boxes.specs.Answer.{Answer, given, ◌>>=◌, hold, told_as}
use Rattle.partial.specs.Memory.{fits, after}
use Rattle.partial.specs.Texts.{Surl, texts_for, lengths_for}
use Rattle.refusals.specs.declared.Refusal.{Refusal}
use Rattle.surltexts.specs.declared.answers.Texts.{Texts}

-- how many bytes texts have, and how many lengths there are
pub record Amounts : Type 0 where
  pub bytes : ℕ
  pub lengths : ℕ

unfoldable pub amounts : List Surl → Amounts
amounts told = record { bytes = length (texts_for told); lengths = length (lengths_for told) }

-- what an answer says
abbrev pub amounts_of : Texts → Amounts
amounts_of t = record { bytes = t.bytes; lengths = t.lengths }

abbrev pub told_answer : Result Texts Refusal → Answer Amounts
told_answer = told_as amounts_of

-- 26 of the two lent memories
unfoldable pub roomy : List Surl → List ℕ → List ℕ → Answer (List Surl)
roomy told texts lengths = do
  _ ← hold 26 (fits (texts_for told) texts && fits (lengths_for told) lengths)
  given told

-- the answer and both memories, by what is decided of the texts
pub record Tells (decided : Answer (List Surl)) (texts texts' lengths lengths' : List ℕ) (r : Result Texts Refusal) : Type 0 where
  pub answer : told_answer r ≡ (decided >>= λ told. given (amounts told))
  pub bytes : texts' ≡ after texts_for decided texts
  pub sizes : lengths' ≡ after lengths_for decided lengths
