-- Document 01, "Rows", "Serving", "Lists" and refusal 26, and document 02, [7], "give a table of each indexed box":
-- what the reading calls answer, hand back and leave in the lent tables. Document 02, [8]: "Described length, lists,
-- serving .. are per source", told by its number.
use Rattle.std.specs.Prelude.{ℕ, suc, Bool, true, false, ◌&&◌, List, [], ◌∷◌, ◌++◌, length}
use Rattle.boxes.specs.Answer.{Answer, refused, given, ◌>>=◌, hold}
use Rattle.boxes.specs.Kinds.{surl, those}
use Rattle.boxes.specs.Framing.{Box}
use Rattle.partial.specs.Segments.{Chunk, Segment, chunks_of}
use Rattle.partial.specs.Heading.{Part, heading}
use Rattle.partial.specs.Meaning.{described_length, is_closed, supplied, place_of_byte, served_run, Reply, reply}
use Rattle.partial.specs.Sources.{source_count, of_source}
use Rattle.partial.specs.Reading.{reading}
use Rattle.partial.specs.Index.{SourceBox, indexed, index_rows}
use Rattle.partial.specs.Ranges.{Range, had_list, missing_list, total}
use Rattle.partial.specs.Memory.{fits}

-- how many numbers there are in the row of a segment, of a chunk and of a range
abbrev pub segment_row_length : ℕ
segment_row_length = 8

abbrev pub chunk_row_length : ℕ
chunk_row_length = 6

abbrev pub range_row_length : ℕ
range_row_length = 2

-- place of the box, source offset, flags, repair time, chunk count, place and length of the `pshd` body, source number
unfoldable pub segment_row : Segment → List ℕ
segment_row s =
    s.place ∷ s.source_offset ∷ s.flags ∷ s.repair_time ∷ length s.chunks ∷ s.header_place ∷ s.header_length ∷ s.source ∷ []

unfoldable pub segment_rows : List Segment → List ℕ
segment_rows [] = []
segment_rows (s ∷ ss) = segment_row s ++ segment_rows ss

-- segment number from 0, index, source start, size, state, file place
unfoldable pub chunk_row : ℕ → ℕ → Chunk → List ℕ
chunk_row n i c = n ∷ i ∷ c.start ∷ c.size ∷ c.state ∷ c.place ∷ []

-- the rows of one segment's chunks, from index i on
unfoldable pub chunk_rows_of : ℕ → ℕ → List Chunk → List ℕ
chunk_rows_of n i [] = []
chunk_rows_of n i (c ∷ cs) = chunk_row n i c ++ chunk_rows_of n (suc i) cs

-- the rows of all chunks, from segment number n on
unfoldable pub chunk_rows_from : ℕ → List Segment → List ℕ
chunk_rows_from n [] = []
chunk_rows_from n (s ∷ ss) = chunk_rows_of n 0 s.chunks ++ chunk_rows_from (suc n) ss

unfoldable pub chunk_rows : List Segment → List ℕ
chunk_rows ss = chunk_rows_from 0 ss

-- a range as it stands in a lent list: first, length
unfoldable pub range_rows : List Range → List ℕ
range_rows [] = []
range_rows (r ∷ rs) = r.first ∷ r.length ∷ range_rows rs

-- the two lists of a source
unfoldable pub had_rows : ℕ → List Segment → List ℕ
had_rows source ss = range_rows (had_list (of_source source ss))

unfoldable pub missing_rows : ℕ → List Segment → List ℕ
missing_rows source ss = range_rows (missing_list (of_source source ss))

-- reading, serving and asking with the two lent tables: all stages of the file, then 26. A table is left as `after`
-- says, by its rows: `segment_rows`, `chunk_rows`, `had_rows` or `missing_rows`
unfoldable pub tabled : ℕ → List ℕ → List ℕ → List ℕ → Answer (List Segment)
tabled limit f segment_table chunk_table = do
  ss ← reading limit f
  _ ← hold 26 (fits (segment_rows ss) segment_table && fits (chunk_rows ss) chunk_table)
  given ss

-- listing a source with the two tables and the two lent lists
unfoldable pub listed : ℕ → List ℕ → ℕ → List ℕ → List ℕ → List ℕ → List ℕ → Answer (List Segment)
listed limit f source segment_table chunk_table had_table missing_table = do
  ss ← tabled limit f segment_table chunk_table
  _ ← hold 26 (fits (had_rows source ss) had_table && fits (missing_rows source ss) missing_table)
  given ss

-- the index with its lent table: the segments and the boxes of the index. The table is left as `after` says, by
-- `index_table`
unfoldable pub index_tabled : ℕ → List ℕ → List ℕ → Answer (List Segment × List SourceBox)
index_tabled limit f table = do
  ss ← reading limit f
  h ← heading f
  is ← indexed limit f h ss
  _ ← hold 26 (fits (index_rows ss is) table)
  given (ss, is)

abbrev pub index_table : List Segment × List SourceBox → List ℕ
index_table told = index_rows told.0 told.1

-- what is answered of the index: how many boxes it has
abbrev pub index_count : List Segment × List SourceBox → ℕ
index_count told = length told.1

-- what reading says of an accepted file: how many rows each table has, and how many sources there are; of one the
-- described length, and whether its size is known
pub record Summary : Type 0 where
  pub segments : ℕ
  pub chunks : ℕ
  pub sources : ℕ
  pub described : ℕ
  pub closed : Bool

unfoldable pub summary : ℕ → List Segment → Summary
summary source ss =
    record {
      segments = length ss;
      chunks = length (chunks_of ss);
      sources = source_count ss;
      described = described_length (of_source source ss);
      closed = is_closed (of_source source ss);
    }

-- what listing says: how many ranges each list of the source has, and the received and missing totals
pub record Totals : Type 0 where
  pub had_ranges : ℕ
  pub missing_ranges : ℕ
  pub received_total : ℕ
  pub missing_total : ℕ

unfoldable pub totals : ℕ → List Segment → Totals
totals source ss =
    record {
      had_ranges = length (had_list (of_source source ss));
      missing_ranges = length (missing_list (of_source source ss));
      received_total = total (had_list (of_source source ss));
      missing_total = total (missing_list (of_source source ss));
    }

-- an empty part
unfoldable pub nowhere : Part
nowhere = record { place = 0; size = 0 }

-- the part that serves a position, by the segments of its source: that of p and the positions after it, as long as the
-- same chunk supplies them
unfoldable pub part_of : List Segment → ℕ → Part
part_of ss p = elim (supplied ss p) [ true ↦ record { place = place_of_byte ss p; size = served_run ss p } | false ↦ nowhere ]

-- the part that serving hands back of a position of a source
unfoldable pub served_part : Answer (List Segment) → ℕ → ℕ → Part
served_part (refused n) source p = nowhere
served_part (given ss) source p = part_of (of_source source ss) p

-- what asking answers of one
unfoldable pub asked : Answer (List Segment) → ℕ → ℕ → Answer Reply
asked read source p = do
  ss ← read
  given (reply (of_source source ss) p)

-- a text of the first `surl` of a container, its URL or its MIME text: empty where there is none
unfoldable pub first_text : (List ℕ → Box → Part) → List ℕ → List Box → Part
first_text which f bs = elim (those surl bs) [ [] ↦ nowhere | b ∷ _ ↦ which f b ]

-- that of the first `surl` in `pfil`; empty after a refusal
unfoldable pub text_of : (List ℕ → Box → Part) → ℕ → List ℕ → Part
text_of which limit f =
    elim (reading limit f) [
      | refused n ↦ nowhere
      | given ss ↦ elim (heading f) [ refused n ↦ nowhere | given h ↦ first_text which f h.inner ]
    ]
