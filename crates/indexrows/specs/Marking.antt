-- Document 02, [7], "whether none, some or all of its bytes are served", and [8], each box by its own source: what is
-- known of the file whose index is marked, and its rows while some sources are still to come.
use Rattle.std.specs.Prelude.{ℕ, ◌+◌, ◌≤◌, ◌<◌, true, false, List, [], ◌∷◌, ◌++◌, eqb, ltb, length}
use Rattle.partial.specs.Index.{SourceBox, indexed_size, served_of}
use Rattle.partial.specs.Limits.{segment_limit, chunk_limit}
use Rattle.partial.specs.Ranges.{had_list}
use Rattle.partial.specs.ReadingDemands.{Listing}
use Rattle.partial.specs.Segments.{Segment}
use Rattle.partial.specs.Sources.{source_beside, of_source, of_urls}
use Rattle.ends.specs.Table.{Holds}
use Rattle.spans.specs.KeptOf.{KeptOf}
use Rattle.spans.specs.declared.kept.Kept.{Kept}

-- the ranges that a source may have: one, and one more for each segment and each chunk
abbrev pub range_limit : ℕ
range_limit = 1 + segment_limit + chunk_limit

-- an accepted file is kept with these segments, and a table of sizes has where their sources end
pub record AcceptedIn (file : Kept) (sizes : List ℕ) (ss : List Segment) : Type 0 where
  pub kept : KeptOf file ss
  pub ends : Holds sizes ss
  pub lists : (source : ℕ) → Listing (of_source source ss)
  pub few : (source : ℕ) → length (had_list (of_source source ss)) ≤ range_limit

-- a row: level, source place, size, type, and what is said of the box
unfoldable pub row_with : (SourceBox → ℕ) → SourceBox → List ℕ
row_with say i = i.box.level ∷ i.box.place ∷ indexed_size i.box ∷ i.box.kind ∷ say i ∷ []

unfoldable pub rows_with : (SourceBox → ℕ) → List SourceBox → List ℕ
rows_with say [] = []
rows_with say (i ∷ is) = row_with say i ++ rows_with say is

-- how much of a box is served by segments
abbrev pub served_by : List Segment → SourceBox → ℕ
served_by ss i = served_of ss i.box.place (indexed_size i.box)

-- what is said after a source with these segments was marked: the number of a source stands behind the three that say
-- what is served
unfoldable pub marked : ℕ → List Segment → (SourceBox → ℕ) → SourceBox → ℕ
marked source mine say i = elim (eqb (say i) (source + 3)) [ true ↦ served_by mine i | false ↦ say i ]

-- what is said once the sources below a number were marked, each by its own segments
unfoldable pub marked_below : List Segment → ℕ → SourceBox → ℕ
marked_below ss n i =
    elim (ltb (source_beside ss i.urls) n) [ true ↦ served_by (of_urls i.urls ss) i | false ↦ source_beside ss i.urls + 3 ]

-- the sources of boxes are all below a number
abbrev pub Below : List Segment → ℕ → List SourceBox → Type 0
Below ss n [] = Unit {0}
Below ss n (i ∷ is) = (source_beside ss i.urls < n) × Below ss n is
