-- Document 02, [7], refusals 36 to 39 in their order: what is told of an index that was read, in `pfil`, in segments or
-- in both.
use Rattle.std.specs.Prelude.{ℕ, Bool, not, List, ◌≡◌, leb, length}
use Rattle.boxes.specs.Answer.{Answer, given, ◌>>=◌, hold}
use Rattle.partial.specs.Heading.{Heading}
use Rattle.partial.specs.Index.{SourceBox, boxes_alone, is_known, level_limit, has_index}
use Rattle.partial.specs.Segments.{Segment}
use Rattle.partial.specs.Sequences.{some_of, all_of}

-- how many boxes an index has: the stages of `indexed`, of an index that is read for any ends of the sources
unfoldable pub staged : Bool → Answer (List SourceBox) → Answer ℕ
staged both index = do
  boxes ← index
  _ ← hold 37 (all_of (λ i. leb i.level level_limit) (boxes_alone boxes))
  _ ← hold 38 (not both)
  _ ← hold 39 (all_of (λ i. is_known i.end) (boxes_alone boxes))
  given (length boxes)

-- whether `pfil` and whether some segment has an index
pub record HasIndexes (h : Heading) (ss : List Segment) (in_pfil in_segments : Bool) : Type 0 where
  pub pfil : in_pfil ≡ has_index h.inner
  pub segments : in_segments ≡ some_of (λ s. has_index s.inner) ss
