-- What the demands say of reading, as statements over the definitions at a source limit below 2 ^ 64; the product's is
-- `source_limit`. Each field has the sentence that it states. The three demands stand whole in the crate `additions`.
use Rattle.std.specs.Prelude.{ℕ, ◌+◌, ◌-◌, ◌≤◌, ◌<◌, Bool, true, false, not, ◌&&◌, ◌||◌, ◌↔◌, ◌⊎◌, ◌≡◌, length, get_or, T, eqb}
use mathlib.Core.List.{List, [], ◌∷◌, ◌++◌, Memᴰ}
use Rattle.std.specs.Prelude.{Some}
use Rattle.boxes.specs.Answer.{refused, given}
use Rattle.boxes.specs.Faults.{FirstFault}
use Rattle.boxes.specs.Framing.{Box, box_limit, boxes_in}
use Rattle.boxes.specs.Kinds.{pseg, pdat, surl, is, those, box_at}
use Rattle.boxes.specs.declared.kinds.Container.TheVariants.{File}
use Rattle.partial.specs.Limits.{file_limit, segment_limit, layer_limit}
use Rattle.partial.specs.Sequences.{some_of, within}
use Rattle.partial.specs.Segments.{Chunk, Segment, good, elsewhere, end_of, chunks_of}
use Rattle.partial.specs.Heading.{Part, Heading, heading, bytes_in, urls_in}
use Rattle.partial.specs.Mixed.{allowed}
use Rattle.partial.specs.Meaning.{gives_size, described_length, is_closed, covers, supplier, supplied, chunk_no, chunk_for, served, served_run, missing_run}
use Rattle.partial.specs.Meaning.{reply, served_for, missing_for, not_below}
use Rattle.partial.specs.Sources.{source_count, of_source, of_urls}
use Rattle.partial.specs.Index.{SourceBox, boxes_alone, indexed, indexed_size}
use Rattle.partial.specs.IndexShape.{InOrder, ServedAsSaid}
use Rattle.partial.specs.Reading.{segments_from, reading, earlier_segments}
use Rattle.partial.specs.Ranges.{had, ranges_of, of_class, had_list, missing_list, total, among, apart, in_row}
use Rattle.partial.specs.Naming.{damaged_at, named_ranges, held_list, lost_list}
use Rattle.partial.specs.Memory.{after, written, text_written}
use Rattle.partial.specs.Tables.{range_rows, had_rows, missing_rows, tabled, listed, index_tabled, index_table, summary, totals, nowhere, part_of, served_part, asked, text_of}
use Rattle.partial.specs.Texts.{Surl, source_text, source_text_of, texts_tabled}
use Rattle.partial.specs.Map.{decimal, line, refused_line, text_for}
use Rattle.partial.specs.BoxList.{each, box_line, boxes_text}

-- whether a number is one of some
abbrev pub one_of : List ℕ → ℕ → Bool
one_of numbers n = some_of (eqb n) numbers

-- the numbers of document 01 for a file's stages before 25, but for 12: of 1 to 24 all but that one and 21
abbrev pub up_to24 : ℕ → Bool
up_to24 n = within 1 11 n || (within 13 8 n || within 22 3 n)

-- all of those stages: with 41 of document 02, [8]
abbrev pub before_agreement : ℕ → Bool
before_agreement n = up_to24 n || eqb n 41

-- those of the index
abbrev pub of_index : ℕ → Bool
of_index n = within 36 4 n

-- 25, then 40, and these
abbrev pub from_agreement : ℕ → Bool
from_agreement n = eqb n 25 || (eqb n 40 || of_index n)

-- all of a file's stages
abbrev pub of_stages : ℕ → Bool
of_stages n = before_agreement n || from_agreement n

-- a number that no call of reading answers, and that no line of a text tells: those of the map are the reader's, those
-- of the box list the framing's
pub record NeverRead (limit n : ℕ) : Type 0 where
  pub read : (f a b : List ℕ) → tabled limit f a b ≡ refused n → ⊥
  pub ask : (f a b : List ℕ) (source p : ℕ) → asked (tabled limit f a b) source p ≡ refused n → ⊥
  pub list : (f a b h m : List ℕ) (source : ℕ) → listed limit f source a b h m ≡ refused n → ⊥
  pub index : (f t : List ℕ) → index_tabled limit f t ≡ refused n → ⊥
  pub source_text : (which : List ℕ → Box → Part) (f : List ℕ) (source : ℕ) → source_text_of which limit f source ≡ refused n → ⊥
  pub segment_texts : (f t u : List ℕ) (k : ℕ) → texts_tabled limit f k t u ≡ refused n → ⊥
  pub text : (text buffer : List ℕ) → text_written text buffer ≡ refused n → ⊥
  pub mapped : (input : List ℕ) → reading limit input ≡ refused n → ⊥
  pub boxes : (input : List ℕ) → boxes_in File input 0 (length input) ≡ refused n → ⊥

-- demand 1, of reading: any bytes get either their tables or one numbered refusal; after a refusal all lent memory
-- holds what it held
pub record Demand1OfReading (limit : ℕ) : Type 0 where
  -- one numbered refusal, of those that the paper has for the call
  pub read_numbers : (f a b : List ℕ) (n : ℕ) → tabled limit f a b ≡ refused n → T (of_stages n || one_of (12 ∷ 26 ∷ []) n)
  pub list_numbers : (f a b h m : List ℕ) (source n : ℕ) → listed limit f source a b h m ≡ refused n → T (of_stages n || one_of (12 ∷ 26 ∷ []) n)
  pub index_numbers : (f t : List ℕ) (n : ℕ) → index_tabled limit f t ≡ refused n → T (of_stages n || one_of (12 ∷ 26 ∷ []) n)
  pub source_text_numbers :
      (which : List ℕ → Box → Part) (f : List ℕ) (source n : ℕ)
      → source_text_of which limit f source ≡ refused n
      → T (of_stages n || eqb n 12)
  pub segment_texts_numbers : (f t u : List ℕ) (k n : ℕ) → texts_tabled limit f k t u ≡ refused n → T (of_stages n || one_of (12 ∷ 26 ∷ []) n)
  pub text_numbers : (text buffer : List ℕ) (n : ℕ) → text_written text buffer ≡ refused n → n ≡ 33
  -- document 02, [4]: none of them is 21
  pub no21 : NeverRead limit 21
  -- asking answers that number too, and the two texts are empty
  pub ask_numbers : (f a b : List ℕ) (source p n : ℕ) → tabled limit f a b ≡ refused n → asked (tabled limit f a b) source p ≡ refused n
  pub texts_empty : (which : List ℕ → Box → Part) (f : List ℕ) (n : ℕ) → reading limit f ≡ refused n → bytes_in f (text_of which limit f) ≡ []
  -- after a refusal all lent memory holds what it held
  pub tables_kept :
      (rows : List Segment → List ℕ) (f a b table : List ℕ) (n : ℕ)
      → tabled limit f a b ≡ refused n
      → after rows (tabled limit f a b) table ≡ table
  pub lists_kept :
      (rows : List Segment → List ℕ) (f a b h m table : List ℕ) (source n : ℕ)
      → listed limit f source a b h m ≡ refused n
      → after rows (listed limit f source a b h m) table ≡ table
  pub index_kept : (f table : List ℕ) (n : ℕ) → index_tabled limit f table ≡ refused n → after index_table (index_tabled limit f table) table ≡ table
  pub segment_texts_kept :
      (rows : List Surl → List ℕ) (f t u table : List ℕ) (k n : ℕ)
      → texts_tabled limit f k t u ≡ refused n
      → after rows (texts_tabled limit f k t u) table ≡ table
  pub text_kept : (text buffer : List ℕ) (n : ℕ) → text_written text buffer ≡ refused n → written text (text_written text buffer) buffer ≡ buffer

-- "Lists": of the segments of a source of an accepted file
pub record Listing (ss : List Segment) : Type 0 where
  -- each position below the described length is in exactly one list: among the had exactly if it is supplied, else
  -- among the missing
  pub in_had : (p : ℕ) → p < described_length ss → among p (had_list ss) ≡ supplied ss p
  pub in_missing : (p : ℕ) → p < described_length ss → among p (missing_list ss) ≡ not (supplied ss p)
  -- no list holds a position that is not below the described length, and none is supplied there
  pub none_above : (p : ℕ) → described_length ss ≤ p → among p (ranges_of ss) ≡ false
  pub none_supplied : (p : ℕ) → described_length ss ≤ p → supplied ss p ≡ false
  -- both lists are maximal, ascending, never empty and never touching one of the same list
  pub had_apart : T (apart 0 (had_list ss))
  pub missing_apart : T (apart 0 (missing_list ss))
  -- merged they are ascending too, one range behind the other up to the described length
  pub merged : T (in_row 0 (described_length ss) (ranges_of ss))
  -- the sums of the lengths are together the described length
  pub together : total (had_list ss) + total (missing_list ss) ≡ described_length ss

-- document 02, [6]: the missing positions of the segments of a source of an accepted file, by name
pub record Naming (ss : List Segment) : Type 0 where
  -- a missing position below the described length is in exactly one list: among the held exactly if some damaged chunk
  -- covers it, else among the lost
  pub in_held : (p : ℕ) → p < described_length ss → among p (held_list ss) ≡ (not (supplied ss p) && damaged_at ss p)
  pub in_lost : (p : ℕ) → p < described_length ss → among p (lost_list ss) ≡ (not (supplied ss p) && not (damaged_at ss p))
  -- both together are the missing list, and the ranges that are had are those of the had list
  pub as_missing : (p : ℕ) → (among p (held_list ss) || among p (lost_list ss)) ≡ among p (missing_list ss)
  pub as_had : of_class had (named_ranges ss) ≡ had_list ss
  -- each is maximal within its name, ascending, never empty; all merged, one range stands behind the other up to the
  -- described length
  pub held_apart : T (apart 0 (held_list ss))
  pub lost_apart : T (apart 0 (lost_list ss))
  pub merged : T (in_row 0 (described_length ss) (named_ranges ss))
  -- the totals: held and lost are what is missing, and with what is received they are the described length
  pub missing_total : total (held_list ss) + total (lost_list ss) ≡ total (missing_list ss)
  pub together : total (had_list ss) + total (held_list ss) + total (lost_list ss) ≡ described_length ss
  -- a position that chunks held elsewhere alone cover is lost
  pub elsewhere_lost :
      (p : ℕ)
      → p < described_length ss
      → ((k : ℕ) → k < length (chunks_of ss) → covers p (chunk_no ss k) ≡ true → (chunk_no ss k).state ≡ elsewhere)
      → among p (lost_list ss) ≡ true

-- a chunk does not cover a position: the position lies before or behind it
abbrev Beside : ℕ → Chunk → Type 0
Beside p c = (p < c.start) ⊎ (c.start + c.size ≤ p)

-- a chunk lies in one `pdat` body
pub record InData (h : Heading) (c : Chunk) : Type 0 where
  pub number : ℕ
  pub there : number < length h.boxes
  pub kind : is pdat (box_at number h.boxes) ≡ true
  pub from : (box_at number h.boxes).body ≤ c.place
  pub to : c.place + c.size ≤ (box_at number h.boxes).end

-- a good chunk of a mixed file is exactly one or several neighbouring whole boxes, none of type `ftyp`, `pfil`, `pseg`
-- or `pdat`
pub record Whole (h : Heading) (c : Chunk) : Type 0 where
  pub mixed : h.mixed ≡ true
  pub is_good : c.state ≡ good
  pub first : ℕ
  pub more : ℕ
  pub there : first + more < length h.boxes
  pub starts : (box_at first h.boxes).at ≡ c.place
  pub ends : (box_at (first + more) h.boxes).end ≡ c.place + c.size
  pub each : (k : ℕ) → k ≤ more → T (allowed (box_at (first + k) h.boxes))

-- "Serving", by the segments of a source: of a position that is supplied
pub record Serving (f : List ℕ) (h : Heading) (ss : List Segment) (p : ℕ) : Type 0 where
  -- by the first good chunk that covers it
  pub there : supplier (chunks_of ss) p < length (chunks_of ss)
  pub is_good : (chunk_for ss p).state ≡ good
  pub covered : ((chunk_for ss p).start ≤ p) × (p < (chunk_for ss p).start + (chunk_for ss p).size)
  pub earliest : (k : ℕ) → k < supplier (chunks_of ss) p → (chunk_no ss k).state ≡ good → Beside p (chunk_no ss k)
  -- out of one `pdat` body, or of whole boxes
  pub lies : InData h (chunk_for ss p) ⊎ Whole h (chunk_for ss p)
  -- the byte is the file's, as far behind the chunk's place as the position is behind the chunk's start
  pub byte : served f ss p ≡ Some (get_or f ((chunk_for ss p).place + (p - (chunk_for ss p).start)) 0)
  -- the part holds p and the positions after it, as long as they are supplied by the same chunk, and no longer
  pub part : (i : ℕ) → i < served_run ss p → served f ss (p + i) ≡ Some (get_or (bytes_in f (part_of ss p)) i 0)
  pub long : length (bytes_in f (part_of ss p)) ≡ served_run ss p
  pub same_chunk : (i : ℕ) → i < served_run ss p → supplier (chunks_of ss) (p + i) ≡ supplier (chunks_of ss) p
  pub no_longer : supplier (chunks_of ss) (p + served_run ss p) ≡ supplier (chunks_of ss) p → ⊥
  pub not_empty : 0 < served_run ss p
  -- and asking answers its length
  pub told : reply ss p ≡ served_for (served_run ss p)

-- of a position below the described length that is not supplied
pub record Missing (f : List ℕ) (ss : List Segment) (p : ℕ) : Type 0 where
  -- no good chunk covers it
  pub uncovered : (k : ℕ) → k < length (chunks_of ss) → (chunk_no ss k).state ≡ good → Beside p (chunk_no ss k)
  -- the part is empty
  pub part : bytes_in f (part_of ss p) ≡ []
  -- asking answers for how many positions it is missing, up to the next supplied one or the described length
  pub told : reply ss p ≡ missing_for (missing_run ss p)
  pub not_supplied : (i : ℕ) → i < missing_run ss p → supplied ss (p + i) ≡ false
  pub up_to : (p + missing_run ss p ≡ described_length ss) ⊎ T (supplied ss (p + missing_run ss p))
  pub not_empty : 0 < missing_run ss p

-- document 02, [8]: the numbers of the sources of a list of segments
pub record Numbered (ss : List Segment) : Type 0 where
  -- segments whose lists of URLs are byte-equal in the same order belong to one source, and no others do
  pub same_number : (s t : Segment) → Memᴰ s ss → Memᴰ t ss → (s.source ≡ t.source) ↔ (s.urls ≡ t.urls)
  -- given from 0 on, one to each source
  pub below : (s : Segment) → Memᴰ s ss → s.source < source_count ss
  pub used : (n : ℕ) → n < source_count ss → (s : Segment) × Memᴰ s ss × (s.source ≡ n)
  -- in order of first appearance: a segment has the number of a source before it, or the next
  pub in_turn : (before after : List Segment) (s : Segment) → ss ≡ before ++ (s ∷ after) → s.source ≤ source_count before

-- the list of URLs by which a segment of an accepted file is told to be of its source; it is not empty
pub record ListedBy (f : List ℕ) (h : Heading) (s : Segment) : Type 0 where
  pub own : 0 < length (those surl s.inner) → s.urls ≡ urls_in f s.inner
  pub in_pfil : those surl s.inner ≡ [] → s.urls ≡ urls_in f h.inner
  pub some : 0 < length s.urls

-- no segment ends above, or differs from, a size that one of its source makes known
abbrev pub InAgreement : List Segment → Type 0
InAgreement ss = (s t : Segment) → Memᴰ s ss → Memᴰ t ss → s.source ≡ t.source → T (gives_size s) → end_of t ≤ end_of s

-- a file that reaches 25 with these segments: its heading is right, and each of its `pseg` boxes reads, of which there
-- are some and not too many
pub record Reaches25 (limit : ℕ) (f : List ℕ) (ss : List Segment) : Type 0 where
  pub h : Heading
  pub headed : heading f ≡ given h
  pub any : 0 < length (those pseg h.boxes)
  pub few : length (those pseg h.boxes) ≤ segment_limit
  pub read : segments_from limit f h [] (those pseg h.boxes) ≡ given ss

-- segments that pass 25 and 40: their sizes agree, and there is no ninth source
pub record Passes40 (ss : List Segment) : Type 0 where
  pub agreed : InAgreement ss
  pub layers : source_count ss ≤ layer_limit

-- document 02, [7]: the boxes of an accepted file's index
pub record Indexing (h : Heading) (ss : List Segment) (is : List SourceBox) : Type 0 where
  -- each before those of its own list, which lie inside it, on one of eight levels
  pub in_order : InOrder (boxes_alone is)
  -- document 02, [8]: each belongs to the source of the list in `pfil`, or to that of a segment
  pub owned : (i : SourceBox) → Memᴰ i is → (i.urls ≡ h.urls) ⊎ ((s : Segment) × Memᴰ s ss × (i.urls ≡ s.urls))
  -- none is empty, and of each is said whether all, some or none of its positions are served by its source
  pub not_empty : (i : SourceBox) → Memᴰ i is → 0 < indexed_size i.box
  pub served : (i : SourceBox) → Memᴰ i is → ServedAsSaid (of_urls i.urls ss) i.box.place (indexed_size i.box)

-- the segments of a source of an accepted file: its sizes agree, and each source byte is served or listed missing
pub record Mapped (f : List ℕ) (h : Heading) (ss : List Segment) : Type 0 where
  pub agreed : InAgreement ss
  pub listing : Listing ss
  pub naming : Naming ss
  pub serving : (p : ℕ) → T (supplied ss p) → Serving f h ss p
  pub missing : (p : ℕ) → p < described_length ss → supplied ss p ≡ false → Missing f ss p
  pub beyond : (p : ℕ) → described_length ss ≤ p → reply ss p ≡ not_below

-- "Described length, lists, serving .. are per source": what is answered of a source is what its own segments say
pub record Answered (source : ℕ) (ss : List Segment) : Type 0 where
  pub served : (p : ℕ) → served_part (given ss) source p ≡ part_of (of_source source ss) p
  pub told : (p : ℕ) → asked (given ss) source p ≡ given (reply (of_source source ss) p)
  pub described : (summary source ss).described ≡ described_length (of_source source ss)
  pub closed : (summary source ss).closed ≡ is_closed (of_source source ss)
  pub sources : (summary source ss).sources ≡ source_count ss
  pub had : had_rows source ss ≡ range_rows (had_list (of_source source ss))
  pub missing : missing_rows source ss ≡ range_rows (missing_list (of_source source ss))
  pub had_ranges : (totals source ss).had_ranges ≡ length (had_list (of_source source ss))
  pub missing_ranges : (totals source ss).missing_ranges ≡ length (missing_list (of_source source ss))
  -- the totals that listing answers are the sums of the lengths
  pub received_total : (totals source ss).received_total ≡ total (had_list (of_source source ss))
  pub missing_total : (totals source ss).missing_total ≡ total (missing_list (of_source source ss))

-- "Every position of a source number not in the file is above its length": it has no positions, none is served, and its
-- lists and texts are empty
pub record Absent (source : ℕ) (ss : List Segment) : Type 0 where
  pub above : (p : ℕ) → asked (given ss) source p ≡ given not_below
  pub unserved : (f : List ℕ) (p : ℕ) → bytes_in f (served_part (given ss) source p) ≡ []
  pub described : (summary source ss).described ≡ 0
  pub unknown : (summary source ss).closed ≡ false
  pub had : had_rows source ss ≡ []
  pub missing : missing_rows source ss ≡ []
  pub textless : (which : List ℕ → Box → Part) (f : List ℕ) (h : Heading) → source_text which f h ss source ≡ nowhere

-- "The map program": what a program prints for its input that prints that of an accepted file, whatever the most is
-- that it takes, and what the call leaves that writes this into a lent buffer
pub record Printed (of : List Segment → List ℕ) (limit most : ℕ) (input : List ℕ) : Type 0 where
  -- 27 precedes all others
  pub over_long : most < length input → text_for of limit most input ≡ refused_line 27
  -- the refusal line with the reader's number, else the lines of the file's map
  pub refusal : (n : ℕ) → length input ≤ most → reading limit input ≡ refused n → text_for of limit most input ≡ refused_line n
  pub lines : (ss : List Segment) → length input ≤ most → reading limit input ≡ given ss → text_for of limit most input ≡ of ss
  -- the text's length where the buffer has room for it, else 33
  pub room :
      (buffer : List ℕ)
      → length (text_for of limit most input) ≤ length buffer
      → text_written (text_for of limit most input) buffer ≡ given (length (text_for of limit most input))
  pub no_room :
      (buffer : List ℕ)
      → length buffer < length (text_for of limit most input)
      → text_written (text_for of limit most input) buffer ≡ refused 33

-- a program that lends a buffer of so many bytes for its text does not answer 33, whatever it takes and is given
abbrev pub NeverShort : (List Segment → List ℕ) → ℕ → ℕ → Type 0
NeverShort of limit room =
    (most : ℕ) (input buffer : List ℕ)
    → length buffer ≡ room
    → text_written (text_for of limit most input) buffer ≡ given (length (text_for of limit most input))

-- document 02, [1]: what the program prints that lists the boxes of its input, whatever the most is that it takes
pub record BoxesPrinted (most : ℕ) (input : List ℕ) : Type 0 where
  -- 27 and 1 come first
  pub over_long : most < length input → boxes_text most input ≡ refused_line 27
  pub over_limit : length input ≤ most → file_limit < length input → boxes_text most input ≡ refused_line 1
  -- a line for each box
  pub whole :
      (bs : List Box)
      → length input ≤ most
      → length input ≤ file_limit
      → boxes_in File input 0 (length input) ≡ given bs
      → boxes_text most input ≡ each (box_line input) bs
  -- document 02, [9]: of a framing error its place, a tab and its number, behind a line for each box before it
  pub fault :
      (n : ℕ)
      → length input ≤ most
      → length input ≤ file_limit
      → boxes_in File input 0 (length input) ≡ refused n
      → (bs : List Box) × (at : ℕ)
      × FirstFault File input 0 (length input) box_limit bs (record { at = at; number = n })
      × (boxes_text most input ≡ each (box_line input) bs ++ line (decimal at) (decimal n ∷ []))

-- demand 2, of reading: in an accepted file each source byte is served or listed missing as document 01's rules say
pub record Demand2OfReading (limit : ℕ) : Type 0 where
  -- a source number is given in order of first appearance
  pub numbered : (f : List ℕ) (ss : List Segment) → reading limit f ≡ given ss → Numbered ss
  -- of each source
  pub mapped : (f : List ℕ) (h : Heading) (ss : List Segment) → heading f ≡ given h → reading limit f ≡ given ss → (n : ℕ) → Mapped f h (of_source n ss)
  -- the URLs of a segment's source: its own list, and that in `pfil` where it has none
  pub listed :
      (f : List ℕ) (h : Heading) (ss : List Segment)
      → heading f ≡ given h
      → reading limit f ≡ given ss
      → (s : Segment)
      → Memᴰ s ss
      → ListedBy f h s
  -- a file whose segments have none has one source, number 0
  pub one_source :
      (f : List ℕ) (ss : List Segment)
      → reading limit f ≡ given ss
      → ((s : Segment) → Memᴰ s ss → those surl s.inner ≡ [])
      → (of_source 0 ss ≡ ss) × (source_count ss ≡ 1)
  -- 41 is for want of any: a file with a list in `pfil` has no 41
  pub no41 : (f : List ℕ) (h : Heading) → heading f ≡ given h → 0 < length h.urls → reading limit f ≡ refused 41 → ⊥
  -- of a source number that is not in a file
  pub absent : (source : ℕ) (ss : List Segment) → source_count ss ≤ source → Absent source ss
  -- of any
  pub answered : (source : ℕ) (ss : List Segment) → Answered source ss
  -- a file that reaches 25 is accepted exactly if its sizes agree, it has no ninth source and its index is told, and no
  -- other is; it is 25 exactly if they do not agree. Its segments, over which serving, lists and maps are, are those
  -- that it reaches 25 with: the index never changes what is served
  pub agrees :
      (f : List ℕ) (ss : List Segment)
      → (reading limit f ≡ given ss)
      ↔ ((reached : Reaches25 limit f ss) × Passes40 ss × ((is : List SourceBox) × (indexed limit f reached.h ss ≡ given is)))
  pub disagrees : (f : List ℕ) → (reading limit f ≡ refused 25) ↔ ((ss : List Segment) × Reaches25 limit f ss × (InAgreement ss → ⊥))
  -- it is 40 exactly if its sizes agree and it has a ninth source
  pub ninth_source :
      (f : List ℕ)
      → (reading limit f ≡ refused 40) ↔ ((ss : List Segment) × Reaches25 limit f ss × InAgreement ss × (layer_limit < source_count ss))
  -- it is 36 to 39 exactly if its sizes agree, it has no ninth source and its index has that number
  pub index_refused :
      (f : List ℕ) (n : ℕ)
      → ((reading limit f ≡ refused n) × T (of_index n))
      ↔ ((ss : List Segment) × (reached : Reaches25 limit f ss) × Passes40 ss × (indexed limit f reached.h ss ≡ refused n))
  -- what is told of an accepted file's index
  pub indexing :
      (f : List ℕ) (h : Heading) (ss : List Segment) (is : List SourceBox)
      → heading f ≡ given h
      → reading limit f ≡ given ss
      → indexed limit f h ss ≡ given is
      → Indexing h ss is
  -- the part is empty exactly when the file is refused, a table is too short or p is not supplied
  pub part_empty :
      (f a b : List ℕ) (source p : ℕ)
      → (bytes_in f (served_part (tabled limit f a b) source p) ≡ [])
      ↔ (((n : ℕ) × (tabled limit f a b ≡ refused n)) ⊎ ((ss : List Segment) × (tabled limit f a b ≡ given ss) × (supplied (of_source source ss) p ≡ false)))
  pub printed : (of : List Segment → List ℕ) (most : ℕ) (input : List ℕ) → Printed of limit most input

-- "append takes an acceptable file, or one whose only refusal is 12, which counts as serving nothing with described
-- length 0"
pub record Takes (limit : ℕ) (f : List ℕ) : Type 0 where
  pub acceptable : (ss : List Segment) → reading limit f ≡ given ss → earlier_segments limit f ≡ given ss
  pub only_twelve : reading limit f ≡ refused 12 → earlier_segments limit f ≡ given []
  -- any other refusal is the file's own
  pub its_own : (k : ℕ) → reading limit f ≡ refused k → (k ≡ 12 → ⊥) → earlier_segments limit f ≡ refused k
