-- The numbers of the sources of segments, in a table with an entry for each segment that a file may have.
use Rattle.std.specs.Prelude.{ℕ, true, false, List, ltb, get_or, set, replicate}
use Rattle.partial.specs.Limits.{segment_limit}

-- the number of the source of a segment; past the table 0
unfoldable pub source_in : List ℕ → ℕ → ℕ
source_in t k = elim (ltb k segment_limit) [ true ↦ get_or t k 0 | false ↦ 0 ]

-- a table after the number of a segment was put, where it has an entry for it
unfoldable pub source_put : List ℕ → ℕ → ℕ → List ℕ
source_put t k source = elim (ltb k segment_limit) [ true ↦ set t k source | false ↦ t ]

-- a table of zeros
abbrev pub no_sources : List ℕ
no_sources = replicate segment_limit 0
