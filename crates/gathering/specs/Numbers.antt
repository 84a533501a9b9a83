-- A chunk as one number, and as it is read back where its start is known.
use Rattle.std.specs.Prelude.{ℕ, ◌+◌, ◌*◌, ◌/◌, ◌%◌, ◌^◌, true, false, List, map}
use Rattle.partial.specs.Limits.{file_limit}
use Rattle.partial.specs.Segments.{Chunk, Segment, present, chunks_of}

-- its state in the lowest two bits; above it, of a present chunk, the place in 30 bits and the size in 32, and of any
-- other the size in 62
unfoldable pub number_of : Chunk → ℕ
number_of c =
    c.state % 4 + 4 * (elim (present c.state) [ true ↦ c.place % file_limit + file_limit * (c.size % 2 ^ 32) | false ↦ c.size % 2 ^ 62 ])

-- the chunk of a number that starts there
unfoldable pub chunk_by : ℕ → ℕ → Chunk
chunk_by start n =
    elim (present (n % 4)) [
      | true ↦ record { start = start; size = n / 2 ^ 32; state = n % 4; place = n / 4 % file_limit }
      | false ↦ record { start = start; size = n / 4; state = n % 4; place = 0 }
    ]

-- the numbers of the chunks of segments
unfoldable pub numbers_of : List Segment → List ℕ
numbers_of ss = map number_of (chunks_of ss)
