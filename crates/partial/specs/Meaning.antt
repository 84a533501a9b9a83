-- Document 01, "Meaning" and "Serving", over a list of segments: who supplies a position, the known size, the described
-- length.
use Rattle.std.specs.Prelude.{ℕ, suc, ◌+◌, ◌-◌, Bool, true, false, not, ◌&&◌, ◌||◌, List, [], ◌∷◌, map, length, get_or, leb, ltb, eqb}
use Rattle.std.specs.Prelude.{Option, None, Some}
use Rattle.partial.specs.Sequences.{all_of, largest, within, stretch}
use Rattle.partial.specs.Segments.{Chunk, no_chunk, Segment, good, is_open, is_last, end_of, chunks_of}

-- a last_segment segment that isn't open makes the size of the source known
unfoldable pub gives_size : Segment → Bool
gives_size s = is_last s.flags && not (is_open s)

-- the size of the source, where it is known: that segment's end
unfoldable pub known_size : List Segment → Option ℕ
known_size [] = None
known_size (s ∷ ss) = elim (gives_size s) [ true ↦ Some (end_of s) | false ↦ known_size ss ]

-- the described length: that size, else the largest of all segment ends and all offsets of open segments
unfoldable pub described_length : List Segment → ℕ
described_length ss = elim (known_size ss) [ Some n ↦ n | None ↦ largest (map end_of ss) ]

-- whether the size is known
unfoldable pub is_closed : List Segment → Bool
is_closed ss = elim (known_size ss) [ Some n ↦ true | None ↦ false ]

-- 25: no two known sizes differ, and no segment end or open offset lies above the known size
unfoldable pub agree : List Segment → Bool
agree ss =
    elim (known_size ss) [
      | Some n ↦ all_of (λ s. leb (end_of s) n && (not (gives_size s) || eqb (end_of s) n)) ss
      | None ↦ true
    ]

-- a chunk covers the positions from its start, as many as its size
unfoldable pub covers : ℕ → Chunk → Bool
covers p c = within c.start c.size p

-- whether a chunk is of a state and covers a position
abbrev pub covers_as : ℕ → ℕ → Chunk → Bool
covers_as state p c = eqb c.state state && covers p c

-- whether a chunk is good and covers a position
abbrev pub supplies : ℕ → Chunk → Bool
supplies = covers_as good

-- the number of the first good chunk that covers a position; the number of all chunks where there is none
unfoldable pub supplier : List Chunk → ℕ → ℕ
supplier [] p = 0
supplier (c ∷ cs) p = elim (supplies p c) [ true ↦ 0 | false ↦ suc (supplier cs p) ]

-- whether some good chunk covers a position
unfoldable pub supplied : List Segment → ℕ → Bool
supplied ss p = ltb (supplier (chunks_of ss) p) (length (chunks_of ss))

-- the chunk of a number, and the one that supplies a position
abbrev pub chunk_no : List Segment → ℕ → Chunk
chunk_no ss k = get_or (chunks_of ss) k no_chunk

abbrev pub chunk_for : List Segment → ℕ → Chunk
chunk_for ss p = chunk_no ss (supplier (chunks_of ss) p)

-- the place in the file of a supplied position
unfoldable pub place_of_byte : List Segment → ℕ → ℕ
place_of_byte ss p = (chunk_for ss p).place + (p - (chunk_for ss p).start)

-- the byte that is served for a position: the file's byte at the supplier's place
unfoldable pub served : List ℕ → List Segment → ℕ → Option ℕ
served f ss p = elim (supplied ss p) [ true ↦ Some (get_or f (place_of_byte ss p) 0) | false ↦ None ]

-- how many positions from p on, below the described length, pass a test
unfoldable pub onward : List Segment → (ℕ → Bool) → ℕ → ℕ
onward ss test p = stretch test (described_length ss - p) p

-- how many positions from p on are supplied by the same chunk
unfoldable pub served_run : List Segment → ℕ → ℕ
served_run ss p = onward ss (λ q. eqb (supplier (chunks_of ss) q) (supplier (chunks_of ss) p)) p

-- how many positions from p on are missing, up to the next supplied one or the described length
unfoldable pub missing_run : List Segment → ℕ → ℕ
missing_run ss p = onward ss (λ q. not (supplied ss q)) p

-- what asking of a position answers in an accepted file
pub data Reply : Type 0 where
  served_for : ℕ → Reply
  missing_for : ℕ → Reply
  not_below : Reply

unfoldable pub reply : List Segment → ℕ → Reply
reply ss p =
    elim (ltb p (described_length ss)) [
      | true ↦ elim (supplied ss p) [ true ↦ served_for (served_run ss p) | false ↦ missing_for (missing_run ss p) ]
      | false ↦ not_below
    ]
