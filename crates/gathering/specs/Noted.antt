-- What the tables of a pass that are the caller's own say of segments.
use Rattle.std.specs.Prelude.{ℕ, List, ◌≡◌}
use Rattle.partial.specs.Heading.{Heading}
use Rattle.partial.specs.Segments.{Segment}
use Rattle.ends.specs.Table.{Cleared, Holds}
use Rattle.sources.specs.Held.{Sourced}
use Rattle.sources.specs.Lists.{Unlisted}
use Rattle.sources.specs.Numbers.{no_sources}
use Rattle.gathering.specs.declared.tables.SourceTables.{SourceTables}

-- they say nothing: of no source a size or where its list stands, and the number of each segment's source is 0
pub record Blank (t : SourceTables) : Type 0 where
  pub sizes : Cleared t.sizes
  pub sources : t.sources ≡ no_sources
  pub lists : Unlisted t.lists

-- they hold what the ends of segments say of each source, the source of each segment, and where the list of each source
-- stands
pub record Noted (f : List ℕ) (h : Heading) (t : SourceTables) (ss : List Segment) : Type 0 where
  pub sizes : Holds t.sizes ss
  pub sourced : Sourced f h t.sources t.lists ss
