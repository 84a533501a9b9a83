-- Document 01, "Append": "1, 6, 13, 22, 23 or 25 if the result would have it", and document 02, [7]: "36, 37 or 39 if
-- its result would", and [8]: 41 and 40, by what was read of the file and counted of the addition.
use Rattle.std.specs.Prelude.{ℕ, ◌+◌, ◌%◌, Bool, true, List, [], ◌∷◌, ◌++◌, map, ◌≡◌, ltb, length}
use Rattle.std.specs.Prelude.{Result}
use Rattle.refusals.specs.declared.Refusal.{Refusal}
use Rattle.boxes.specs.Answer.{Answer, given, told_as, ◌>>=◌}
use Rattle.additions.specs.Addition.{Addition}
use Rattle.additions.specs.Append.{added, admission, admitted}
use Rattle.partial.specs.Heading.{Heading, heading}
use Rattle.partial.specs.Index.{has_index, indexed}
use Rattle.partial.specs.Limits.{source_limit}
use Rattle.partial.specs.Reading.{earlier_segments}
use Rattle.partial.specs.Segments.{Segment, is_last}
use Rattle.partial.specs.Sequences.{sum}
use Rattle.partial.specs.Sources.{same_urls, source_beside, of_source}
use Rattle.additions.specs.declared.header.SegmentHeader.{SegmentHeader}
use Rattle.ends.specs.Sizes.{sizes_of}
use Rattle.gathering.specs.Gathered.{gathered_of}
use Rattle.reading.specs.declared.judging.Judged.{Judged}
use Rattle.adding.specs.Counts.{capped, saying, Sorted}
use Rattle.adding.specs.Layout.{Laid}
use Rattle.adding.specs.Texts.{Texted}
use Rattle.adding.specs.declared.admission.Asked.{Asked}
use Rattle.adding.specs.declared.admission.Target.{Target}
use Rattle.adding.specs.declared.counts.Counts.{Counts}

-- what a header and the counts of a chunk list tell of a new segment
pub record Tells (s : Segment) (header : SegmentHeader) (c : Counts) : Type 0 where
  pub offset : header.offset.0 ≡ s.source_offset
  pub flags : header.flags % 2 ≡ s.flags
  pub items : c.items ≡ length s.chunks
  pub sum : c.sum ≡ capped (sum (map (λ c. c.size) s.chunks))

-- a file that append takes: its heading, its segments, and whether its `pfil` has an index
pub record Known (f : List ℕ) (h : Heading) (ss : List Segment) (in_pfil : Bool) : Type 0 where
  pub head : heading f ≡ given h
  pub read : earlier_segments source_limit f ≡ given ss
  pub index : in_pfil ≡ has_index h.inner

-- whether its index is told beside one segment more, or its refusal
unfoldable pub indexed_beside : List ℕ → Heading → List Segment → Segment → Answer (Unit {0})
indexed_beside f h ss s = do
  _ ← indexed source_limit f h (ss ++ (s ∷ []))
  given tt

-- whether a segment is admitted beside those of the file, and then its index beside the segment, or the refusal
unfoldable pub admitted_beside : List ℕ → Heading → List Segment → Segment → Answer (Unit {0})
admitted_beside f h ss s = do
  ts ← admitted source_limit ss s
  _ ← indexed source_limit f h ts
  given tt

-- what an answer about that says
abbrev pub admitted_answer : Result (Unit {0}) Refusal → Answer (Unit {0})
admitted_answer = told_as (λ x. x)

-- what was read of a file: how many boxes it has, what its segments say together, and whether its `pfil` has an index
pub record Beside (f : List ℕ) (h : Heading) (ss : List Segment) (j : Judged) : Type 0 where
  pub file : Known f h ss j.head.indexed
  pub boxes : j.head.boxes ≡ length h.boxes
  pub segments : j.gathered ≡ gathered_of ss

-- the source of a list of URLs beside the segments of a file: its number, what the ends of its segments say, whether the
-- list is that in `pfil`, and whether there is one
pub record Goes (h : Heading) (ss : List Segment) (us : List (List ℕ)) (target : Target) : Type 0 where
  pub number : target.source ≡ source_beside ss us
  pub sizes : target.sizes ≡ sizes_of (of_source target.source ss)
  pub list : target.in_pfil ≡ same_urls h.urls us
  pub listed : target.listed ≡ ltb 0 (length us)

-- what is asked of append: the header, the counts of the chunk list, what goes outside, each chunk whole boxes, the
-- counts of the texts, and the layout
pub record AskedBy (a : Addition) (x : Asked) : Type 0 where
  pub offset : x.header.offset.0 ≡ a.source_offset
  pub last : is_last x.header.flags ≡ a.last
  pub sorted : Sorted a x.counts x.outside
  pub whole : x.outside.right ≡ true
  pub texted : Texted a x.texts
  pub laid : Laid a x.layout

-- what is asked, its counts saying this of whether the items are right
abbrev pub asked_saying : Bool → Asked → Asked
asked_saying right x = record { header = x.header; counts = saying right x.counts; outside = x.outside; texts = x.texts; layout = x.layout }

-- the length of a file of n bytes with the addition, or its refusal
unfoldable pub admitted_length : List ℕ → Heading → List Segment → ℕ → Addition → Answer ℕ
admitted_length f h ss n a = do
  ts ← admission source_limit h ss n a
  _ ← indexed source_limit f h ts
  given (n + length (added a))
