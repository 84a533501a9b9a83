-- Document 01, "Rows": the chunks of a table that reading filled; document 02, [8]: those of a source.
use Rattle.std.specs.Prelude.{ℕ, zero, suc, ◌+◌, ◌*◌, ◌/◌, Bool, true, false, ◌&&◌, List, [], ◌∷◌, ltb, eqb, length, get_or}
use Rattle.partial.specs.Segments.{Chunk, no_chunk}
use Rattle.partial.specs.Tables.{chunk_row_length}
use Rattle.sources.specs.Numbers.{source_in}
use Rattle.supplying.specs.declared.rows.Told.{Told}

-- what a chunk as its row tells it says
abbrev pub told_of : Told → Chunk
told_of c = record { start = c.start.0; size = c.size; state = c.state; place = c.place.0 }

-- the chunk of a row: its start, size, state and place are the row's last four numbers; of a row that is not there, no
-- chunk
unfoldable pub chunk_in : List ℕ → ℕ → Chunk
chunk_in table n =
    elim (ltb n (length table / chunk_row_length)) [
      | true ↦
          record {
            start = get_or table (chunk_row_length * n + 2) 0;
            size = get_or table (chunk_row_length * n + 3) 0;
            state = get_or table (chunk_row_length * n + 4) 0;
            place = get_or table (chunk_row_length * n + 5) 0;
          }
      | false ↦ no_chunk
    ]

-- whether a row is there and its chunk is of a source: its first number is that of its segment, whose source stands in
-- a table of the numbers of sources
unfoldable pub row_of : List ℕ → ℕ → List ℕ → ℕ → Bool
row_of sources source table n = ltb n (length table / chunk_row_length) && eqb (source_in sources (get_or table (chunk_row_length * n) 0)) source

-- the chunks of a source in so many rows, from one on
unfoldable pub chunks_from : List ℕ → ℕ → List ℕ → ℕ → ℕ → List Chunk
chunks_from sources source table zero n = []
chunks_from sources source table (suc more) n =
    elim (row_of sources source table n) [
      | true ↦ chunk_in table n ∷ chunks_from sources source table more (suc n)
      | false ↦ chunks_from sources source table more (suc n)
    ]

-- the chunks of a source in the first so many rows
abbrev pub chunks_in : List ℕ → ℕ → List ℕ → ℕ → List Chunk
chunks_in sources source table count = chunks_from sources source table count 0
