-- What the segments of a file say together, as the code gathers it.
use Rattle.std.specs.Prelude.{List, length}
use Rattle.partial.specs.Index.{has_index}
use Rattle.partial.specs.Segments.{Segment, chunks_of}
use Rattle.partial.specs.Sequences.{some_of}
use Rattle.partial.specs.Sources.{source_count}
use Rattle.gathering.specs.declared.gathered.Gathered.{Gathered}

-- how many segments there are, how many chunks they have, of how many sources they are, and whether some segment has an
-- index
unfoldable pub gathered_of : List Segment → Gathered
gathered_of ss = record { segments = length ss; chunks = length (chunks_of ss); sources = source_count ss; indexed = some_of (λ s. has_index s.inner) ss }
