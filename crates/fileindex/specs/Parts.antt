-- Document 02, [7], "Read it from `pfil` or from segments", and [8]: the containers of a file that may hold an index,
-- each with its source, told in one way, so that one pass over the file's boxes tells all of it.
use Rattle.std.specs.Prelude.{ℕ, suc, ◌*◌, ◌≤◌, true, false, List, [], ◌∷◌, ◌++◌, ◌≡◌}
use Rattle.std.specs.Prelude.{Option, Result, Ok, Err}
use Rattle.refusals.specs.Refusals.{refusal_no}
use Rattle.refusals.specs.declared.Refusal.{Refusal}
use Rattle.boxes.specs.Answer.{Answer, refused, given, ◌>>=◌}
use Rattle.boxes.specs.Framing.{Box, boxes_in}
use Rattle.boxes.specs.Kinds.{pfil, pseg, pshd, is, first_of}
use Rattle.boxes.specs.declared.kinds.Container.{Container}
use Rattle.boxes.specs.declared.kinds.Container.TheVariants.{Pfil, Pseg}
use Rattle.partial.specs.Index.{SourceBox, boxes_alone, index_for}
use Rattle.partial.specs.Limits.{file_limit, source_limit}
use Rattle.partial.specs.Reading.{pshd_fields}
use Rattle.partial.specs.Segments.{Segment}
use Rattle.sources.specs.Numbers.{source_in}
use Rattle.indexing.specs.Index.{marked_with}
use Rattle.indexing.specs.Marks.{Marked}
use Rattle.indexing.specs.declared.marks.Marks.{Marks}

-- what is asked of the segment of a `pseg` box: the boxes inside, and where it starts in the source by its `pshd`
pub record SegmentOf (f : List ℕ) (b : Box) (s : Segment) : Type 0 where
  pub boxes : boxes_in Pseg f b.body b.end ≡ given s.inner
  pub whole : (pshd_fields f (first_of pshd s.inner)).end ≡ (first_of pshd s.inner).end
  pub offset : (pshd_fields f (first_of pshd s.inner)).source_offset ≡ s.source_offset
  pub placed : s.source_offset ≤ source_limit

-- a container with its boxes, the URLs of its source, and where the boxes of its index start there; that of a segment
pub record Part : Type 0 where
  pub container : Container
  pub inner : List Box
  pub urls : List (List ℕ)
  pub from : ℕ

abbrev pub part_in : Container → List Box → List (List ℕ) → ℕ → Part
part_in c bs us place = record { container = c; inner = bs; urls = us; from = place }

abbrev pub segment_part : Segment → Part
segment_part s = part_in Pseg s.inner s.urls s.source_offset

-- the indexes in containers, by where each source ends
unfoldable pub index_of_parts : List ℕ → (List (List ℕ) → Option ℕ) → List Part → Answer (List SourceBox)
index_of_parts f size [] = given []
index_of_parts f size (p ∷ ps) = do
  first ← index_for source_limit f size p.urls p.container p.inner p.from
  later ← index_of_parts f size ps
  given (first ++ later)

-- the numbers of sources by their URLs: those of the segments in a table, and that of the list in `pfil`
pub record Sourcing : Type 0 where
  pub number : List (List ℕ) → ℕ
  pub sources : List ℕ
  pub in_pfil : ℕ

-- which container a box of the file is, if it is one, behind so many segments
pub data Holds (f : List ℕ) (x : Sourcing) (k : ℕ) (b : Box) : List Part → Type 0 where
  file :
      {inner : List Box} {us : List (List ℕ)}
      → is pfil b ≡ true
      → boxes_in Pfil f b.body b.end ≡ given inner
      → x.in_pfil ≡ x.number us
      → Holds f x k b (part_in Pfil inner us 0 ∷ [])
  segment : {s : Segment} → is pfil b ≡ false → is pseg b ≡ true → SegmentOf f b s → source_in x.sources k ≡ x.number s.urls → Holds f x k b (segment_part s ∷ [])
  other : is pfil b ≡ false → is pseg b ≡ false → Holds f x k b []

-- how many segments there are with a box
unfoldable pub segments_with : Box → ℕ → ℕ
segments_with b k = elim (is pseg b) [ true ↦ suc k | false ↦ k ]

-- the number of the source of containers
abbrev pub SourcesAs : (List (List ℕ) → ℕ) → ℕ → List Part → Type 0
SourcesAs number source [] = Unit {0}
SourcesAs number source (p ∷ ps) = (source ≡ number p.urls) × SourcesAs number source ps

-- so it is told, and it is no higher than the numbers that are known
pub record SourceIs (number : List (List ℕ) → ℕ) (in_pfil source : ℕ) (ps : List Part) : Type 0 where
  pub each : SourcesAs number source ps
  pub most : (n : ℕ) → in_pfil ≤ n → ((us : List (List ℕ)) → number us ≤ n) → source ≤ n

-- where the sources of containers end, by a size of each
abbrev pub EndsAs : (List (List ℕ) → Option ℕ) → Option ℕ → List Part → Type 0
EndsAs size end [] = Unit {0}
EndsAs size end (p ∷ ps) = (end ≡ size p.urls) × EndsAs size end ps

-- where a box may be read: it lies in a file, and a row takes sixteen bytes of the file before it
pub record InFile (b : Box) (count : ℕ) : Type 0 where
  pub header : b.at ≤ b.body
  pub whole : b.body ≤ b.end
  pub short : b.end ≤ file_limit
  pub rows : 16 * count ≤ b.at

-- what an answer says of an index: the refusal, or what is marked with its boxes
unfoldable pub Adds : Answer (List SourceBox) → Marks → List ℕ → List ℕ → Result (Option Marks) Refusal → Type 0
Adds x before t₀ t (Err n) = x ≡ refused (refusal_no n)
Adds x before t₀ t (Ok found) = (is : List SourceBox) × (x ≡ given is) × Marked before t₀ (boxes_alone is) (marked_with before found) t
