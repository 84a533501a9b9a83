-- Document 01, "Lists" and refusal 26: what listing a source answers, and what it leaves in the lent tables and lists.
use Rattle.std.specs.Prelude.{ℕ, ◌+◌, ◌*◌, ◌≤◌, ◌&&◌, List, ◌≡◌, length, take, Result}
use Rattle.boxes.specs.Answer.{Answer, given, ◌>>=◌, hold}
use Rattle.partial.specs.Answers.{listed_answer}
use Rattle.partial.specs.Limits.{source_limit}
use Rattle.partial.specs.Meaning.{described_length}
use Rattle.partial.specs.Memory.{fits, after}
use Rattle.partial.specs.Ranges.{had_list, missing_list, total}
use Rattle.partial.specs.Segments.{Segment, chunks_of}
use Rattle.partial.specs.Sources.{of_source}
use Rattle.partial.specs.Tables.{segment_row_length, segment_rows, listed, had_rows, missing_rows, totals}
use Rattle.partial.specs.declared.answers.Lists.{Lists as Totals}
use Rattle.refusals.specs.declared.Refusal.{Refusal}
use Rattle.spans.specs.KeptOf.{KeptOf}
use Rattle.spans.specs.declared.kept.Kept.{Kept}
use Rattle.reading.specs.Tables.{Filled}

-- what the two lists hold of the segments of a source
pub record Counted (ss : List Segment) (t : Totals) : Type 0 where
  pub had_many : t.had ≡ length (had_list ss)
  pub missing_many : t.missing ≡ length (missing_list ss)
  pub received : t.received_total ≡ total (had_list ss)
  pub missed : t.missing_total ≡ total (missing_list ss)

-- the segments of a file are those that were kept and counted, and a source of theirs is as long as that; neither of
-- its lists has more ranges than half of the segments and chunks, and one
pub record Told (k : Kept) (count source end : ℕ) (ss : List Segment) : Type 0 where
  pub kept : KeptOf k ss
  pub own : take (segment_row_length * k.many) k.segments.now ≡ segment_rows ss
  pub chunks : count ≡ length (chunks_of ss)
  pub long : end ≡ described_length (of_source source ss)
  pub had_few : 2 * length (had_list (of_source source ss)) ≤ 2 + length ss + length (chunks_of ss)
  pub missing_few : 2 * length (missing_list (of_source source ss)) ≤ 2 + length ss + length (chunks_of ss)

-- 26 of the two lists of a source
unfoldable pub roomy : ℕ → List Segment → List ℕ → List ℕ → Answer (List Segment)
roomy source ss had missing = do
  _ ← hold 26 (fits (had_rows source ss) had && fits (missing_rows source ss) missing)
  given ss

-- the answer, both tables and both lists, by what is decided of the file
pub record Leaves (decided : Answer (List Segment)) (source : ℕ) (segments segments' chunks chunks' had had' missing missing' : List ℕ) (r : Result Totals Refusal) : Type 0 where
  pub answer : listed_answer r ≡ (decided >>= λ ss. given (totals source ss))
  pub tables : Filled decided segments segments' chunks chunks'
  pub had_table : had' ≡ after (had_rows source) decided had
  pub missing_table : missing' ≡ after (missing_rows source) decided missing

-- by what the file, the tables and the lists decide
abbrev pub Listing : List ℕ → ℕ → List ℕ → List ℕ → List ℕ → List ℕ → List ℕ → List ℕ → List ℕ → List ℕ → Result Totals Refusal → Type 0
Listing f source segments segments' chunks chunks' had had' missing missing' r =
    Leaves (listed source_limit f source segments chunks had missing) source segments segments' chunks chunks' had had' missing missing' r
