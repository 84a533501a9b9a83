-- The two forms in which a pass puts chunks into a table: numbers, or rows.
use Rattle.std.specs.Prelude.{ℕ, Bool, true, false, List, [], ◌∷◌, map}
use Rattle.partial.specs.Segments.{Chunk, Segment}
use Rattle.partial.specs.Tables.{chunk_row_length, chunk_row, chunk_rows_of, chunk_rows}
use Rattle.gathering.specs.Numbers.{number_of, numbers_of}

-- how many numbers of the table a chunk takes
unfoldable pub form_length : Bool → ℕ
form_length numbered = elim numbered [ true ↦ 1 | false ↦ chunk_row_length ]

-- what is put of a chunk by the number of its segment and its index there, of the chunks of one segment, and of all
unfoldable pub put_of : Bool → ℕ → ℕ → Chunk → List ℕ
put_of numbered n i c = elim numbered [ true ↦ number_of c ∷ [] | false ↦ chunk_row n i c ]

unfoldable pub puts_of : Bool → ℕ → List Chunk → List ℕ
puts_of numbered n cs = elim numbered [ true ↦ map number_of cs | false ↦ chunk_rows_of n 0 cs ]

unfoldable pub all_puts : Bool → List Segment → List ℕ
all_puts numbered ss = elim numbered [ true ↦ numbers_of ss | false ↦ chunk_rows ss ]
