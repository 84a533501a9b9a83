-- Document 02, [7]: worked examples of the index, computed over the definitions, as one table with one statement.
use Rattle.std.specs.Prelude.{ℕ, zero, suc, ◌+◌, ◌-◌, false, List, [], ◌∷◌, ◌++◌, map, ◌≡◌, length, take, drop, replicate, ℤ, pos}
use Rattle.std.specs.Prelude.{Option, None, Some, unwrap_or}
use Rattle.boxes.specs.Answer.{Answer, given, ◌>>=◌}
use Rattle.numerals.specs.Numbers.{bytes_of}
use Rattle.boxes.specs.Framing.{Box, uuid, boxed, boxes_in}
use Rattle.boxes.specs.Kinds.{pfil, fidx, bidx, frpa}
use Rattle.boxes.specs.declared.kinds.Container.TheVariants.{Pfil, Pseg}
use Rattle.partial.specs.Limits.{source_limit}
use Rattle.partial.specs.Segments.{Chunk, Segment, good, lost}
use Rattle.partial.specs.Index.{Indexed, boxes_alone, index_in, indexed, index_row}
use Rattle.partial.specs.Reading.{reading}
use Rattle.partial.specs.Tables.{index_tabled, index_table}
use Rattle.partial.specs.Map.{ascii}
use Rattle.partial.specs.Lesson.{begun_bytes}
use Rattle.partial.specs.Examples.{Example, says, version0, foreign_with}

-- the types of the boxes that are indexed, and that of an integrity box
abbrev pub moov : ℕ
moov = 0x6d6f6f76

abbrev pub trak : ℕ
trak = 0x7472616b

abbrev pub mdat : ℕ
mdat = 0x6d646174

abbrev dint : ℕ
dint = 0x64696e74

-- a box in the form that has a 64-bit size, which no place in the source counts
abbrev boxed_large : ℕ → List ℕ → List ℕ
boxed_large kind body = bytes_of 4 1 ++ (bytes_of 4 kind ++ (bytes_of 8 (16 + length body) ++ body))

-- the body of a `bidx`: a size and a type with what follows these, its list or first its other fields
abbrev fields_of : ℕ → ℕ → List ℕ → List ℕ
fields_of size kind list = bytes_of 4 size ++ (bytes_of 4 kind ++ list)

abbrev pub indexed_as : ℕ → ℕ → List ℕ → List ℕ
indexed_as size kind list = boxed bidx.code (fields_of size kind list)

-- a front part of so many bytes
abbrev front_part_of : ℕ → List ℕ
front_part_of n = boxed_large frpa.code (replicate n 0)

-- the sixteen bytes of a user type
abbrev user : List ℕ
user = replicate 16 7

-- an index of these boxes
abbrev pub index : List ℕ → List ℕ
index = boxed_large fidx.code

-- what is told of an index: each box as its level, place, end and type; an end that is not known is 0
abbrev numbers_of : List Indexed → List ℤ
numbers_of [] = []
numbers_of (i ∷ is) = pos i.level ∷ pos i.place ∷ pos (unwrap_or i.end 0) ∷ pos i.kind ∷ numbers_of is

abbrev tells : Answer (List Indexed) → List ℤ
tells answer = says (answer >>= λ boxes. given (numbers_of boxes))

-- ---- one index

-- that of a `pfil` that holds an index of these boxes, of a source of that size, from a place on
abbrev index_over : Option ℕ → ℕ → List ℕ → List ℤ
index_over size start list =
    let f = index list in
    tells (boxes_in Pfil f 0 (length f) >>= λ bs. index_in source_limit f Pfil bs size start)

-- a box of 40 bytes with a front part of 4, whose inner boxes of 20 and 8 follow its header and front part, wherever
-- that stands, and fill it; then one of size 0 in a source of 100 bytes. Other boxes are skipped, as they are
abbrev two_levels : Example
two_levels =
    let other = boxed dint (1 ∷ []) in
    record {
      defined =
          index_over (Some 100) 0
          (front_part_of 1
          ++ (front_part_of 1
          ++ (indexed_as 40 moov (boxed_large bidx.code (fields_of 20 trak []) ++ (other ++ (indexed_as 8 trak [] ++ front_part_of 4)))
          ++ (indexed_as 0 mdat (index [] ++ index []) ++ other))));
      paper =
          map pos (1 ∷ 0 ∷ 40 ∷ moov ∷ 2 ∷ 12 ∷ 32 ∷ trak ∷ 2 ∷ 32 ∷ 40 ∷ trak ∷ 1 ∷ 40 ∷ 100 ∷ mdat ∷ []);
    }

-- headers of 16 bytes with a 64-bit size, of 24 with a user type, of 32 with both: the inner boxes follow them
abbrev headers : Example
headers =
    record {
      defined =
          index_over None 0
          (indexed_as 1 moov (bytes_of 8 40 ++ indexed_as 24 trak [])
          ++ (indexed_as 40 uuid (user ++ indexed_as 16 trak [])
          ++ (indexed_as 1 uuid (bytes_of 8 48 ++ (user ++ indexed_as 16 trak []))
          ++ indexed_as 1 mdat (bytes_of 8 0x100000000))));
      paper =
          map pos
          (1 ∷ 0 ∷ 40 ∷ moov ∷ 2 ∷ 16 ∷ 40 ∷ trak ∷ 1 ∷ 40 ∷ 80 ∷ uuid ∷ 2 ∷ 64 ∷ 80 ∷ trak
          ∷ 1 ∷ 80 ∷ 128 ∷ uuid ∷ 2 ∷ 112 ∷ 128 ∷ trak ∷ 1 ∷ 128 ∷ 0x100000080 ∷ mdat ∷ []);
    }

-- from a segment's offset on: an inner size of 0 runs to the end of its box, not of the source, whose size need not be
-- known; where it is not, neither is an end that runs to it, nor is judged how that is filled
abbrev from_offset : Example
from_offset =
    record {
      defined =
          index_over None 1_000
          (indexed_as 40 moov (indexed_as 0 trak []) ++ indexed_as 0 uuid (user ++ (indexed_as 9 trak [] ++ indexed_as 0 trak [])));
      paper =
          map pos
          (1 ∷ 1_000 ∷ 1_040 ∷ moov ∷ 2 ∷ 1_008 ∷ 1_040 ∷ trak
          ∷ 1 ∷ 1_040 ∷ 0 ∷ uuid ∷ 2 ∷ 1_064 ∷ 1_073 ∷ trak ∷ 2 ∷ 1_073 ∷ 0 ∷ trak ∷ []);
    }

-- taken: a front part longer than its box, which has no inner one; an end behind that of the source; one at the limit
abbrev right_indexes : Example
right_indexes =
    record {
      defined =
          index_over None 0 (indexed_as 8 moov (front_part_of 9))
          ++ (index_over (Some 100) 0 (indexed_as 101 mdat []) ++ index_over None (source_limit - 8) (indexed_as 8 mdat []));
      paper = map pos (1 ∷ 0 ∷ 8 ∷ moov ∷ 1 ∷ 0 ∷ 101 ∷ mdat ∷ 1 ∷ (source_limit - 8) ∷ source_limit ∷ mdat ∷ []);
    }

-- what is told of some indexes from the first byte on, each of a source of that size
abbrev each_over : Option ℕ → List (List ℕ) → List ℤ
each_over size [] = []
each_over size (list ∷ lists) = index_over size 0 list ++ each_over size lists

-- 36: a framing fault in the index and in the list of a box; each field that is cut; a size under each header, 0 of 64
-- bits too, and a size of 0 that has no room for its header; a size of 0 that is not last; inner boxes that leave a
-- byte or have one too many, of a box of a stated size or not; a second front part, on either level
abbrev wrong_indexes : Example
wrong_indexes =
    record {
      defined =
          each_over (Some 100)
          (bytes_of 4 9
          ∷ indexed_as 8 moov (0 ∷ [])
          ∷ boxed bidx.code (bytes_of 7 0)
          ∷ indexed_as 1 mdat (bytes_of 7 0)
          ∷ indexed_as 40 uuid (bytes_of 15 0)
          ∷ indexed_as 1 uuid (bytes_of 8 40 ++ bytes_of 15 0)
          ∷ indexed_as 7 mdat []
          ∷ indexed_as 1 mdat (bytes_of 8 15)
          ∷ indexed_as 1 mdat (bytes_of 8 0)
          ∷ indexed_as 23 uuid user
          ∷ (indexed_as 93 moov [] ++ indexed_as 0 mdat [])
          ∷ (indexed_as 0 mdat [] ++ indexed_as 40 moov [])
          ∷ indexed_as 40 moov (indexed_as 31 trak [])
          ∷ indexed_as 40 moov (indexed_as 33 trak [])
          ∷ indexed_as 0 moov (indexed_as 91 trak [])
          ∷ indexed_as 40 moov (front_part_of 1 ++ front_part_of 1)
          ∷ indexed_as 40 moov (indexed_as 32 trak (front_part_of 1 ++ front_part_of 1))
          ∷ []);
      paper = map pos (replicate 17 36);
    }

-- 36, too, where the end of the source, and so of the box around, is not known: an inner box under its header; a size
-- of 0 that is not last; an end over the limit, on either level
abbrev wrong_inside : Example
wrong_inside =
    record {
      defined =
          each_over None (indexed_as 0 moov (indexed_as 7 trak []) ∷ indexed_as 0 moov (indexed_as 0 trak [] ++ indexed_as 8 trak []) ∷ [])
          ++ (index_over None (source_limit - 7) (indexed_as 8 mdat [])
          ++ index_over None (source_limit - 15) (indexed_as 0 moov (indexed_as 8 trak [])));
      paper = map pos (replicate 4 36);
    }

-- ---- the indexes of a file

-- a chunk of a state, from a position on
abbrev chunk_of : ℕ → ℕ → ℕ → Chunk
chunk_of state start size = record { start = start; size = size; state = state; place = 0 }

-- a segment of the source with these URLs and that number, with flags, of one chunk, with these boxes
abbrev segment_of : List (List ℕ) → ℕ → ℕ → Chunk → List Box → Segment
segment_of urls source flags chunk inner =
    record {
      place = 0;
      inner = inner;
      urls = urls;
      source = source;
      source_offset = chunk.start;
      flags = flags;
      repair_time = 0;
      header_place = 0;
      header_length = 0;
      chunks = chunk ∷ [];
    }

-- what is told of the index of a file whose `pfil` has these URLs and boxes, with these segments
abbrev tells_of : List ℕ → List (List ℕ) → List Box → List Segment → List ℤ
tells_of f urls inner ss = tells (indexed source_limit f (record { boxes = []; inner = inner; urls = urls; mixed = false }) ss >>= λ is. given (boxes_alone is))

-- of a file whose `pfil` holds some boxes, and two segments others: one at 4 of 4 bytes, and one at 8 of 88, which is
-- last or not
abbrev indexes : ℕ → List ℕ → List ℕ → List ℕ → List ℤ
indexes flags inFile inFirst inSecond =
    let f = inFile ++ (inFirst ++ inSecond) in
    says
    (boxes_in Pfil f 0 (length inFile)
    >>= λ inner. boxes_in Pseg f (length inFile) (length inFile + length inFirst)
    >>= λ first. boxes_in Pseg f (length inFile + length inFirst) (length f)
    >>= λ second.
    given (tells_of f [] inner (segment_of [] 0 0 (chunk_of lost 4 4) first ∷ segment_of [] 0 flags (chunk_of lost 8 88) second ∷ [])))

-- boxes in boxes, each with a size of 0, on so many levels, with what the list of the last holds
abbrev nested : ℕ → List ℕ → List ℕ
nested zero list = list
nested (suc more) list = indexed_as 0 moov (nested more list)

-- an index of one box that runs to the end, one of a box under its header, and one with a box of a ninth level, which
-- is not looked into: neither are its fields there, nor does it fill its box
abbrev to_the_end : List ℕ
to_the_end = index (indexed_as 0 mdat [])

abbrev pub wrong_index : List ℕ
wrong_index = index (indexed_as 7 mdat [])

abbrev deep : List ℕ
deep = index (nested 7 (indexed_as 40 moov (boxed bidx.code [])))

-- in a segment the places run on from its offset, and a size of 0 runs to the end of the source, not of the segment;
-- the segments stand in file order. A `bidx` that is in no index is skipped
abbrev in_segments : Example
in_segments =
    record {
      defined = indexes 1 (indexed_as 7 mdat []) to_the_end to_the_end;
      paper = map pos (1 ∷ 4 ∷ 96 ∷ mdat ∷ 1 ∷ 8 ∷ 96 ∷ mdat ∷ []);
    }

-- 36: a second `fidx` in `pfil` and in a segment; a fault anywhere before the depth of an index in `pfil`, and of one
-- in a segment
abbrev faults_first : Example
faults_first =
    record {
      defined =
          indexes 1 (index [] ++ index []) [] []
          ++ (indexes 1 [] [] (index [] ++ index []) ++ (indexes 0 deep [] wrong_index ++ indexes 0 [] deep wrong_index));
      paper = map pos (36 ∷ 36 ∷ 36 ∷ 36 ∷ []);
    }

-- 37: eight levels are told and nine are not, before 38 and 39
abbrev depths : Example
depths =
    record {
      defined = indexes 1 (index (nested 8 [])) [] [] ++ indexes 0 deep [] (index []);
      paper =
          map pos
          (1 ∷ 0 ∷ 96 ∷ moov ∷ 2 ∷ 8 ∷ 96 ∷ moov ∷ 3 ∷ 16 ∷ 96 ∷ moov ∷ 4 ∷ 24 ∷ 96 ∷ moov
          ∷ 5 ∷ 32 ∷ 96 ∷ moov ∷ 6 ∷ 40 ∷ 96 ∷ moov ∷ 7 ∷ 48 ∷ 96 ∷ moov ∷ 8 ∷ 56 ∷ 96 ∷ moov
          ∷ 37 ∷ []);
    }

-- 38: an empty `fidx` is an index too, in `pfil` and in a segment, whichever it is; before 39
abbrev in_both : Example
in_both =
    record {
      defined = indexes 1 (index []) to_the_end [] ++ indexes 0 to_the_end [] (index []);
      paper = map pos (38 ∷ 38 ∷ []);
    }

-- 39: the size of the source is not known, though its described length is
abbrev unknown_end : Example
unknown_end =
    record {
      defined = indexes 0 to_the_end [] [] ++ indexes 0 [] to_the_end [];
      paper = map pos (39 ∷ 39 ∷ []);
    }

-- ---- the indexes of sources

-- two lists of URLs
abbrev a : List (List ℕ)
a = ascii "a" ∷ []

abbrev b : List (List ℕ)
b = ascii "b" ∷ []

-- document 02, [8]: an index of one box that runs to the end in a `pfil` with the list a, beside segments: it ends
-- where that source does, known or not, and not where the first does; of a list that no segment uses that is not known
abbrev in_pfil_of_source : Example
in_pfil_of_source =
    let told : List Segment → List ℤ = λ ss. says (boxes_in Pfil to_the_end 0 (length to_the_end) >>= λ inner. given (tells_of to_the_end a inner ss)) in
    let first : Segment = segment_of b 0 1 (chunk_of lost 0 40) [] in
    record {
      defined =
          told (first ∷ segment_of a 1 1 (chunk_of lost 0 9) [] ∷ [])
          ++ (told (first ∷ segment_of a 1 0 (chunk_of lost 0 9) [] ∷ []) ++ told (first ∷ []));
      paper = map pos (1 ∷ 0 ∷ 9 ∷ mdat ∷ 39 ∷ 39 ∷ []);
    }

-- in two segments, each ends with its own source
abbrev in_segments_of_sources : Example
in_segments_of_sources =
    record {
      defined =
          says
          (boxes_in Pseg to_the_end 0 (length to_the_end)
          >>= λ inner. given (tells_of to_the_end b [] (segment_of b 0 1 (chunk_of lost 0 40) inner ∷ segment_of a 1 1 (chunk_of lost 0 9) inner ∷ [])));
      paper = map pos (1 ∷ 0 ∷ 40 ∷ mdat ∷ 1 ∷ 0 ∷ 9 ∷ mdat ∷ []);
    }

-- of a box of a source the bytes of that source alone are served; of a list that no segment uses none are
abbrev served_of_source : Example
served_of_source =
    let row : List (List ℕ) → List ℕ = λ urls. drop 4
    (index_row (segment_of b 0 0 (chunk_of good 0 9) [] ∷ segment_of a 1 0 (chunk_of good 0 4) [] ∷ []) (record {
      urls = urls;
      box = record { level = 1; place = 0; end = Some 9; kind = mdat };
    })) in
    record { defined = map pos (row a ++ (row b ++ row (ascii "c" ∷ []))); paper = map pos (1 ∷ 2 ∷ 0 ∷ []) }

-- ---- whole files

-- P8's file with these boxes besides in its `pfil`
abbrev pub begun_with : List ℕ → List ℕ
begun_with boxes = take 20 begun_bytes ++ boxed pfil.code (drop 28 begun_bytes ++ boxes)

-- the rows of a file's index with a lent table of so many numbers, or its refusal
abbrev pub rows_of : ℕ → List ℕ → List ℤ
rows_of many f = says (index_tabled source_limit f (replicate many 0) >>= λ told. given (map pos (index_table told)))

-- a file whose index is in its segment, of 8 lost bytes at 8: a row where that is last, and 26 for one number less;
-- else every call answers 39
abbrev in_its_segment : Example
in_its_segment =
    let with : ℕ → List ℕ = λ flags. begun_bytes ++ foreign_with to_the_end (version0 flags 8) 0x80 8 [] in
    record {
      defined = rows_of 5 (with 1) ++ (rows_of 4 (with 1) ++ says (reading source_limit (with 0) >>= λ _. given []));
      paper = map pos (1 ∷ 8 ∷ 8 ∷ mdat ∷ 0 ∷ 26 ∷ 39 ∷ []);
    }

-- a file just begun answers 12, whether its index has an end or is wrong
abbrev just_begun : Example
just_begun = record { defined = rows_of 5 (begun_with to_the_end) ++ rows_of 5 (begun_with wrong_index); paper = map pos (12 ∷ 12 ∷ []) }

abbrev pub index_examples : List Example
index_examples =
    two_levels ∷ headers ∷ from_offset ∷ right_indexes ∷ wrong_indexes ∷ wrong_inside ∷
    in_segments ∷ faults_first ∷ depths ∷ in_both ∷ unknown_end ∷
    in_pfil_of_source ∷ in_segments_of_sources ∷ served_of_source ∷ in_its_segment ∷ just_begun ∷ []

-- the definitions say what the paper says
abbrev pub IndexAsThePaperSays : Type 0
IndexAsThePaperSays = map (λ e. e.defined) index_examples ≡ map (λ e. e.paper) index_examples
