-- Document 01, "Meaning", and document 02, [4]: what a segment and a chunk are once they are read.
use Rattle.std.specs.Prelude.{ℕ, ◌+◌, ◌%◌, Bool, true, false, ◌&&◌, ◌||◌, List, [], ◌∷◌, ◌++◌, map, ltb, eqb}
use Rattle.boxes.specs.Framing.{Box}
use Rattle.partial.specs.Sequences.{sum}

-- the states: 3 held elsewhere, 2 good, 1 damaged but kept, 0 lost
abbrev pub elsewhere : ℕ
elsewhere = 3

abbrev pub good : ℕ
good = 2

abbrev pub damaged : ℕ
damaged = 1

abbrev pub lost : ℕ
lost = 0

-- the states of the bit present: good, and damaged but kept
unfoldable pub present : ℕ → Bool
present state = eqb state good || eqb state damaged

-- the states of the bit corrupted: damaged but kept, and lost
unfoldable pub corrupted : ℕ → Bool
corrupted state = eqb state damaged || eqb state lost

-- whether a chunk of a state and a size has a place in the file: it is present and not empty
unfoldable pub has_place : ℕ → ℕ → Bool
has_place state size = present state && ltb 0 size

-- a chunk: where it starts in the source, its size, its state, and its place in the file (0 if not present or empty)
pub record Chunk : Type 0 where
  pub start : ℕ
  pub size : ℕ
  pub state : ℕ
  pub place : ℕ

-- what stands past the end of a list of chunks
abbrev pub no_chunk : Chunk
no_chunk = record { start = 0; size = 0; state = lost; place = 0 }

-- a segment: the place of its box, the boxes inside, the URLs of its source and the number of that, its source offset,
-- flags and repair time, the place and length of its `pshd` body, its chunks
pub record Segment : Type 0 where
  pub place : ℕ
  pub inner : List Box
  pub urls : List (List ℕ)
  pub source : ℕ
  pub source_offset : ℕ
  pub flags : ℕ
  pub repair_time : ℕ
  pub header_place : ℕ
  pub header_length : ℕ
  pub chunks : List Chunk

-- `chunk_count` 0 is one chunk of unknown size: an open segment. It counts as no chunk
unfoldable pub is_open : Segment → Bool
is_open s = elim s.chunks [ [] ↦ true | _ ∷ _ ↦ false ]

-- flag 0x000001, last_segment
unfoldable pub is_last : ℕ → Bool
is_last flags = eqb (flags % 2) 1

-- the end of a segment in the source; of an open one its offset
unfoldable pub end_of : Segment → ℕ
end_of s = s.source_offset + sum (map (λ c. c.size) s.chunks)

-- segments in file order, chunks in their order
unfoldable pub chunks_of : List Segment → List Chunk
chunks_of [] = []
chunks_of (s ∷ ss) = s.chunks ++ chunks_of ss
