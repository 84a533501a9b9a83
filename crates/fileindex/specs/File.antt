-- Document 02, [7], "Read it from `pfil` or from segments", and [8]: what is told of the index of a file, each by where
-- its own source ends.
use Rattle.std.specs.Prelude.{ℕ, ◌+◌, ◌*◌, ◌≤◌, true, false, List, [], ◌∷◌, ◌++◌, map, ◌≡◌, leb, length, take}
use Rattle.std.specs.Prelude.{Option, Result, Ok, Err}
use Rattle.refusals.specs.Refusals.{refusal_no}
use Rattle.refusals.specs.declared.Refusal.{Refusal}
use Rattle.boxes.specs.Answer.{Answer, refused, given, ◌>>=◌}
use Rattle.boxes.specs.declared.kinds.Container.TheVariants.{Pfil}
use Rattle.partial.specs.Heading.{Heading}
use Rattle.partial.specs.Index.{Indexed, indexed_size, level_limit, index_row_length, SourceBox, boxes_alone, index_for, index_of_segments}
use Rattle.partial.specs.Limits.{segment_limit, source_limit}
use Rattle.partial.specs.Segments.{Segment}
use Rattle.ends.specs.Table.{sizes_in}
use Rattle.filling.specs.Rows.{Put}
use Rattle.indexing.specs.Ends.{end_of}
use Rattle.indexing.specs.Marks.{plain_rows, marks_with}
use Rattle.indexing.specs.declared.marks.Marks.{Marks}

-- the index of a file by where each source ends; `index_of` of `partial` takes those ends from the segments
unfoldable pub index_by : List ℕ → Heading → (List (List ℕ) → Option ℕ) → List Segment → Answer (List SourceBox)
index_by f h size ss = do
  first ← index_for source_limit f size h.urls Pfil h.inner 0
  later ← index_of_segments source_limit f size ss
  given (first ++ later)

-- where a source ends, by its number and a table of sizes
unfoldable pub end_in : List ℕ → ℕ → Option ℕ
end_in sizes source = end_of (sizes_in sizes source).size

-- the numbers of sources by their lists of URLs, of which a file has no more than segments: that of the list in `pfil`,
-- and those of segments, in a table in their order
pub record NumberedBy (number : List (List ℕ) → ℕ) (h : Heading) (ss : List Segment) (sources : List ℕ) (in_pfil : ℕ) : Type 0 where
  pub small : (us : List (List ℕ)) → number us ≤ segment_limit
  pub pfil : in_pfil ≡ number h.urls
  pub segments : take (length ss) sources ≡ map (λ s. number s.urls) ss

-- a row before it is known what is served: level, source place, size, type, and behind the three numbers that say that
-- the number of its source
unfoldable pub source_row : ℕ → Indexed → List ℕ
source_row source i = i.level ∷ i.place ∷ indexed_size i ∷ i.kind ∷ (source + 3) ∷ []

unfoldable pub source_rows : ℕ → List Indexed → List ℕ
source_rows source [] = []
source_rows source (i ∷ is) = source_row source i ++ source_rows source is

-- the rows of those that are looked into, each with the number of its own source
unfoldable pub rows_by : (List (List ℕ) → ℕ) → List SourceBox → List ℕ
rows_by number [] = []
rows_by number (i ∷ is) =
    elim (leb i.box.level level_limit) [ true ↦ source_row (number i.urls) i.box ++ rows_by number is | false ↦ rows_by number is ]

-- the boxes are marked, and their rows are put behind those before
pub record MarkedBy (number : List (List ℕ) → ℕ) (before : Marks) (t₀ : List ℕ) (is : List SourceBox) (m : Marks) (t : List ℕ) : Type 0 where
  pub marks : m ≡ marks_with before (boxes_alone is)
  pub rows : Put t₀ (index_row_length * before.count) (rows_by number is) t

-- the rows of so many boxes from a number on had 0 for what is served, and have the number of their source
pub record SourcePut (from to source : ℕ) (before after : List ℕ) : Type 0 where
  pub long : length after ≡ length before
  pub rows :
      (t₀ : List ℕ) (is : List Indexed)
      → source ≤ segment_limit
      → to ≡ from + length is
      → Put t₀ (index_row_length * from) (plain_rows is) before
      → Put t₀ (index_row_length * from) (source_rows source is) after

-- what is marked where there is no box
abbrev pub no_marks : Marks
no_marks = record { count = 0; deep = false; unknown = false }

-- what an answer says of an index: the refusal, or what is marked with its boxes
unfoldable pub Tells : (List (List ℕ) → ℕ) → Answer (List SourceBox) → List ℕ → List ℕ → Result Marks Refusal → Type 0
Tells number x t₀ t (Err n) = x ≡ refused (refusal_no n)
Tells number x t₀ t (Ok m) = (is : List SourceBox) × (x ≡ given is) × MarkedBy number no_marks t₀ is m t
