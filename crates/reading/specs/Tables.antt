-- Document 01, "Rows" and refusal 26: what reading answers, and what it leaves in the lent tables.
use Rattle.std.specs.Prelude.{ℕ, List, ◌≡◌, Result}
use Rattle.boxes.specs.Answer.{Answer, given, ◌>>=◌}
use Rattle.partial.specs.Answers.{read_answer}
use Rattle.partial.specs.Limits.{source_limit}
use Rattle.partial.specs.Memory.{after}
use Rattle.partial.specs.Segments.{Segment}
use Rattle.partial.specs.Tables.{tabled, segment_rows, chunk_rows, summary}
use Rattle.partial.specs.declared.answers.Tables.{Tables}
use Rattle.refusals.specs.declared.Refusal.{Refusal}

-- both tables at exit: filled by the rows of a file that was read into them, after a refusal as they were
pub record Filled (read : Answer (List Segment)) (segments segments' chunks chunks' : List ℕ) : Type 0 where
  pub segment_table : segments' ≡ after segment_rows read segments
  pub chunk_table : chunks' ≡ after chunk_rows read chunks

-- the answer, of a source, and both tables, by what the file and both tables decide
pub record Reads (f : List ℕ) (source : ℕ) (segments segments' chunks chunks' : List ℕ) (r : Result Tables Refusal) : Type 0 where
  pub answer : read_answer r ≡ (tabled source_limit f segments chunks >>= λ ss. given (summary source ss))
  pub tables : Filled (tabled source_limit f segments chunks) segments segments' chunks chunks'
