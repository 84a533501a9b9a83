-- Document 02, [8], "Segments whose lists of URLs are byte-equal in the same order belong to one source; a segment
-- without any uses the list in `pfil`": tables that hold the sources of these segments, and where their lists stand.
use Rattle.std.specs.Prelude.{ℕ, ◌≤◌, ◌<◌, List, ◌∷◌, map, ◌≡◌, length, take}
use Rattle.boxes.specs.Answer.{given}
use Rattle.boxes.specs.Framing.{Box, boxes_in}
use Rattle.partial.specs.Heading.{Heading, urls_in}
use Rattle.partial.specs.Limits.{file_limit, segment_limit}
use Rattle.partial.specs.Segments.{Segment}
use Rattle.partial.specs.ReadingDemands.{Numbered}
use Rattle.partial.specs.Sources.{source_count, source_beside, of_source}
use Rattle.partial.specs.Texts.{list_boxes}
use Rattle.boxes.specs.declared.body.Body.{Body}
use Rattle.sources.specs.Lists.{all_lists, list_in, ListPut}
use Rattle.sources.specs.Numbers.{source_put}

-- a container that lies in the file has these boxes
pub record Stands (f : List ℕ) (body : Body) (bs : List Box) : Type 0 where
  pub boxes : boxes_in body.container f body.start.0 body.end.0 ≡ given bs
  pub inside : body.end.0 ≤ length f

-- the list of URLs in `pfil` stands in a container of a file that has no more bytes than it may
pub record PfilList (f : List ℕ) (h : Heading) (list : Body) : Type 0 where
  pub within : length f ≤ file_limit
  pub stands : Stands f list h.inner
  pub urls : h.urls ≡ urls_in f h.inner

-- a table that begins with the numbers of the sources of segments, in their order
pub record SourcesHeld (table : List ℕ) (ss : List Segment) : Type 0 where
  pub long : length table ≡ segment_limit
  pub numbers : take (length ss) table ≡ map (λ s. s.source) ss

-- the list of a source stands in a container, which is that of its first segment's list
pub record ListHeld (f : List ℕ) (h : Heading) (ss : List Segment) (source : ℕ) (list : Body) : Type 0 where
  pub first : Segment
  pub others : List Segment
  pub leads : of_source source ss ≡ first ∷ others
  pub stands : Stands f list (list_boxes h first)
  pub urls : urls_in f (list_boxes h first) ≡ first.urls

-- a table that holds that of each source
pub record ListsHeld (f : List ℕ) (h : Heading) (table : List ℕ) (ss : List Segment) : Type 0 where
  pub long : length table ≡ all_lists
  pub each : (source : ℕ) → source < source_count ss → ListHeld f h ss source (list_in table source)

-- both
pub record Sourced (f : List ℕ) (h : Heading) (t u : List ℕ) (ss : List Segment) : Type 0 where
  pub sources : SourcesHeld t ss
  pub lists : ListsHeld f h u ss

-- the source of the list in a container, beside segments of so many sources, by where their lists stand
abbrev pub SourceOf : List ℕ → List ℕ → ℕ → Body → ℕ → Type 0
SourceOf f lists many list source =
    (h : Heading) (ss : List Segment) (bs : List Box) → many ≡ source_count ss → Numbered ss → ListsHeld f h lists ss → Stands f list bs
    → source ≡ source_beside ss (urls_in f bs)

-- one segment more, whose list stands in a container, was put to its source beside segments of so many: that is the
-- source of the list; the segment's number in one table, and where a new source's list stands in the other
pub record Joins (f : List ℕ) (list : Body) (segment many : ℕ) (t u : List ℕ) (source : ℕ) (t' u' : List ℕ) : Type 0 where
  pub found : SourceOf f u many list source
  pub numbers : t' ≡ source_put t segment source
  pub new : source ≡ many → ListPut u source list u'
  pub old : (source ≡ many → ⊥) → u' ≡ u
