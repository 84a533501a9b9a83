-- Document 01, refusals 1 to 25, and document 02, [8] and [7], 40 and 36 to 39, as the calls are told of them before any
-- table is filled.
use Rattle.std.specs.Prelude.{ℕ, true, false, List, [], ◌≡◌, length, Result}
use Rattle.refusals.specs.declared.Refusal.{Refusal}
use Rattle.boxes.specs.Answer.{Answer, given, ◌>>=◌, hold, told_as}
use Rattle.boxes.specs.Kinds.{pseg, right}
use Rattle.boxes.specs.declared.kinds.Container.TheVariants.{File}
use Rattle.partial.specs.Heading.{Heading, heading}
use Rattle.partial.specs.Index.{indexed}
use Rattle.partial.specs.Limits.{source_limit}
use Rattle.partial.specs.Reading.{segments}
use Rattle.partial.specs.Segments.{Segment}
use Rattle.partial.specs.Tables.{segment_rows}
use Rattle.filling.specs.Rows.{Put}
use Rattle.sources.specs.Held.{Sourced}
use Rattle.ends.specs.Table.{Holds}
use Rattle.heading.specs.Facts.{Facts, facts_of, facts_by}
use Rattle.gathering.specs.Numbers.{numbers_of}
use Rattle.gathering.specs.Gathered.{gathered_of}
use Rattle.gathering.specs.declared.gathered.Gathered.{Gathered}
use Rattle.reading.specs.declared.judging.Judged.{Judged as CodeJudged}

-- what the heading tells, what is gathered of the segments, and how many rows the index has
pub record Judged : Type 0 where
  pub facts : Facts
  pub gathered : Gathered
  pub index : ℕ

-- what is gathered of the segments of a file with that heading: stages 13 to 25 and 40
unfoldable pub gathered_in : List ℕ → Heading → Answer Gathered
gathered_in f h = do
  ss ← segments source_limit f h
  given (gathered_of ss)

-- how many boxes the index has of a file with that heading and these segments: stages 36 to 39
unfoldable pub indexed_told : List ℕ → Heading → List Segment → Answer ℕ
indexed_told f h ss = do
  is ← indexed source_limit f h ss
  given (length is)

-- both, with what the heading tells
unfoldable pub judged_in : List ℕ → Heading → Answer Judged
judged_in f h = do
  ss ← segments source_limit f h
  n ← indexed_told f h ss
  given (record { facts = facts_of f h; gathered = gathered_of ss; index = n })

-- of an acceptable file: all stages
unfoldable pub reading_told : List ℕ → Answer Judged
reading_told f = do
  h ← heading f
  _ ← hold 12 (right File pseg h.boxes)
  judged_in f h

-- of a file that append takes: the same, but of one without a segment, whose only refusal is 12, that it has none,
-- whatever its index
unfoldable pub earlier_told : List ℕ → Answer Judged
earlier_told f = do
  h ← heading f
  elim (right File pseg h.boxes) [ true ↦ reading_told f | false ↦ given (record { facts = facts_of f h; gathered = gathered_of []; index = 0 }) ]

-- what an answer about the segments says
abbrev pub gathered_answer : Result Gathered Refusal → Answer Gathered
gathered_answer = told_as (λ g. g)

-- what was judged of a file
abbrev pub judged_by : CodeJudged → Judged
judged_by j = record { facts = facts_by j.head; gathered = j.gathered; index = j.index }

-- what an answer about a file says
abbrev pub judged_answer : Result CodeJudged Refusal → Answer Judged
judged_answer = told_as judged_by

-- something is so of segments where they were read
abbrev pub WhereRead : Answer (List Segment) → (List Segment → Type 0) → Type 0
WhereRead read P = (ss : List Segment) → read ≡ given ss → P ss

-- their rows and the numbers of their chunks were put into two tables; after a refusal these may hold anything
abbrev pub KeptIn : Answer (List Segment) → List ℕ → List ℕ → List ℕ → List ℕ → Type 0
KeptIn read t₀ t u₀ u = WhereRead read (λ ss. Put t₀ 0 (segment_rows ss) t × Put u₀ 0 (numbers_of ss) u)

-- what their ends say of each source was put into a third
abbrev pub SizedIn : Answer (List Segment) → List ℕ → Type 0
SizedIn read z = WhereRead read (Holds z)

-- and their sources and where the lists of these stand into two more
abbrev pub SourcedIn : List ℕ → Answer (List Segment) → List ℕ → List ℕ → Type 0
SourcedIn f read n l = WhereRead read (λ ss. (h : Heading) → heading f ≡ given h → Sourced f h n l ss)
