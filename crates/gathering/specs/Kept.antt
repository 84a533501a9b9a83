-- What is kept of a file's segments: their rows, the numbers of their sources, and a number for each chunk.
use Rattle.std.specs.Prelude.{ℕ, ◌+◌, ◌*◌, ◌≤◌, List, [], ◌∷◌, ◌≡◌, length, get_or}
use Rattle.partial.specs.Limits.{segment_limit, chunk_limit, source_limit}
use Rattle.partial.specs.Segments.{Chunk, Segment, chunks_of}
use Rattle.partial.specs.Tables.{segment_row_length}
use Rattle.gathering.specs.Numbers.{chunk_by}

-- from one of the numbers on chunks are kept that follow each other in the source from a position on
abbrev pub ChunksKept : List ℕ → ℕ → ℕ → List Chunk → Type 0
ChunksKept numbers at start [] = Unit {0}
ChunksKept numbers at start (c ∷ cs) =
    (chunk_by start (get_or numbers at 0) ≡ c) × (start + c.size ≤ source_limit) × ChunksKept numbers (at + 1) (start + c.size) cs

-- from one of the rows and one of the numbers on segments are kept: a row has its source offset and its chunk count, and
-- beside it stands the number of its source
abbrev pub SegmentsKept : List ℕ → List ℕ → List ℕ → ℕ → ℕ → List Segment → Type 0
SegmentsKept rows sources numbers k at [] = Unit {0}
SegmentsKept rows sources numbers k at (s ∷ ss) =
    (get_or rows (segment_row_length * k + 1) 0 ≡ s.source_offset)
    × (get_or rows (segment_row_length * k + 4) 0 ≡ length s.chunks)
    × (get_or sources k 0 ≡ s.source)
    × ChunksKept numbers at s.source_offset s.chunks
    × SegmentsKept rows sources numbers (k + 1) (at + length s.chunks) ss

-- all segments of a file, no more than it may have
pub record Kept (rows : List ℕ) (many : ℕ) (sources numbers : List ℕ) (ss : List Segment) : Type 0 where
  pub count : many ≡ length ss
  pub few : length ss ≤ segment_limit
  pub chunks : length (chunks_of ss) ≤ chunk_limit
  pub segments : SegmentsKept rows sources numbers 0 0 ss
