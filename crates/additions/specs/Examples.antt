-- Document 01, "Numbers to hold against it" and "Errors this trade makes": worked examples of begin and append as one
-- table with one statement, computed over the definitions. P8 to P11 are the paper's; the others are a case of each
-- error that no P shows, and those of document 02. What is read of files stands in the examples of `partial`.
use Rattle.std.specs.Prelude.{ℕ, Bool, true, false, List, [], ◌∷◌, ◌++◌, map, ◌≡◌, length, drop, replicate, ℤ, pos}
use Rattle.boxes.specs.Answer.{given, ◌>>=◌}
use Rattle.boxes.specs.Framing.{boxed}
use Rattle.boxes.specs.Kinds.{pdat}
use Rattle.partial.specs.declared.brand.Brand.{Brand}
use Rattle.partial.specs.declared.brand.Brand.TheVariants.{Paff, Pmff}
use Rattle.partial.specs.Limits.{program_limit, source_limit}
use Rattle.partial.specs.Map.{ascii, missmap_text}
use Rattle.partial.specs.Lesson.{begun_bytes, first_bytes, second_bytes}
use Rattle.partial.specs.Examples.{Example, says, missing_in}
use Rattle.additions.specs.Addition.{Addition}
use Rattle.additions.specs.Append.{pshd_body, added, appended}
use Rattle.additions.specs.Runs.{lent, file_in, begin, append}

-- a buffer's room past the file in it
abbrev spare : List ℕ
spare = replicate 100 255

-- the file that begin writes with a brand, URL `a` and empty MIME
abbrev begun_file : Brand → List ℕ
begun_file brand = file_in (begin spare brand (97 ∷ []) [])

-- P8: it has 55 bytes, the last fifteen those of its `surl`
abbrev P8 : Example
P8 =
    record {
      defined = pos (length (begun_file Paff)) ∷ map pos (drop 40 (begun_file Paff));
      paper = map pos (55 ∷ 0x00 ∷ 0x00 ∷ 0x00 ∷ 0x0f ∷ 0x73 ∷ 0x75 ∷ 0x72 ∷ 0x6c ∷ 0x00 ∷ 0x00 ∷ 0x00 ∷ 0x00 ∷ 0x61 ∷ 0x00 ∷ 0x00 ∷ []);
    }

-- a segment with its good chunks outside `pdat` or not, at an offset, last or not, with a chunk list and data
abbrev pub segment_with : Bool → ℕ → Bool → List ℕ → List ℕ → Addition
segment_with outside offset last list bytes =
    record { source_offset = offset; repair_time = 0; last = last; outside = outside; list = list; bytes = bytes; texts = []; lengths = [] }

abbrev pub segment_at : ℕ → Bool → List ℕ → List ℕ → Addition
segment_at = segment_with false

-- the file that append makes of a file
abbrev pub grown_by : List ℕ → Addition → List ℕ
grown_by f a = file_in (append source_limit (lent (f ++ spare) (length f)) a)

-- what it answers
abbrev pub answer_to : List ℕ → Addition → List ℤ
answer_to f a = says (appended source_limit (f ++ spare) (length f) a >>= λ size. given (pos size ∷ []))

-- P9: offset 0, good 4, lost 6, last: what append makes of P8's file
abbrev P9 : Example
P9 =
    record {
      defined = map pos (grown_by begun_bytes (segment_at 0 true (4 ∷ 2 ∷ 6 ∷ 0 ∷ []) (11 ∷ 12 ∷ 13 ∷ 14 ∷ [])));
      paper = map pos (begun_bytes ++ first_bytes);
    }

-- P10: P9 and then a segment at 2, good 5
abbrev P10 : Example
P10 =
    record {
      defined = map pos (grown_by (begun_bytes ++ first_bytes) (segment_at 2 false (5 ∷ 2 ∷ []) (21 ∷ 22 ∷ 23 ∷ 24 ∷ 25 ∷ [])));
      paper = map pos (begun_bytes ++ (first_bytes ++ second_bytes));
    }

-- P11: one open segment at 100: described length 100, missing (0, 100), open
abbrev P11 : Example
P11 =
    record {
      defined = map pos (missmap_text source_limit program_limit (grown_by begun_bytes (segment_at 100 false [] [])));
      paper = map pos (ascii "source\t100\topen\nmiss\t0\t100\ntotal\t0\t100\n");
    }

-- a last segment of that size, one that is not last, and an open one at that offset
abbrev last_of : ℕ → Addition
last_of size = segment_at 0 true (size ∷ 0 ∷ []) []

abbrev other_of : ℕ → Addition
other_of size = segment_at 0 false (size ∷ 0 ∷ []) []

abbrev open_at : ℕ → Addition
open_at offset = segment_at offset false [] []

-- a last segment of ten and that one, in both orders: what append answers for the second
abbrev beside_ten : Addition → List ℤ
beside_ten a = answer_to (begun_bytes ++ added (last_of 10)) a ++ answer_to (begun_bytes ++ added a) (last_of 10)

-- "two known sizes differ, or a segment end or open offset lies above the known size": 25, whichever stands first
abbrev sizes_differ : Example
sizes_differ =
    record {
      defined = beside_ten (last_of 5) ++ (beside_ten (other_of 11) ++ beside_ten (open_at 11));
      paper = map pos (replicate 6 25);
    }

-- the same size a second time, and an end and an open offset just there, are taken: to 55 bytes come two segments of
-- 51, or one and an open one of 49
abbrev sizes_agree : Example
sizes_agree =
    record {
      defined = beside_ten (last_of 10) ++ (beside_ten (other_of 10) ++ beside_ten (open_at 10));
      paper =
          map pos (157 ∷ 157 ∷ 157 ∷ 157 ∷ 155 ∷ 155 ∷ []);
    }

-- document 02, [2]: what begin writes with the brand `pmff`, major and the one compatible; the rest is as in P8's file
abbrev mixed_bytes : List ℕ
mixed_bytes =
    0x00 ∷ 0x00 ∷ 0x00 ∷ 0x14 ∷ 0x66 ∷ 0x74 ∷ 0x79 ∷ 0x70 ∷ 0x70 ∷ 0x6d ∷ 0x66 ∷ 0x66 ∷ 0x00 ∷ 0x00 ∷ 0x00 ∷ 0x00 ∷
    0x70 ∷ 0x6d ∷ 0x66 ∷ 0x66 ∷ drop 20 begun_bytes

abbrev begun_mixed : Example
begun_mixed = record { defined = map pos (begun_file Pmff); paper = map pos mixed_bytes }

-- a `free` of 8 bytes and an `mdat` of 16
abbrev free : List ℕ
free = 0x00 ∷ 0x00 ∷ 0x00 ∷ 0x08 ∷ 0x66 ∷ 0x72 ∷ 0x65 ∷ 0x65 ∷ []

abbrev mdat16 : List ℕ
mdat16 = 0x00 ∷ 0x00 ∷ 0x00 ∷ 0x10 ∷ 0x6d ∷ 0x64 ∷ 0x61 ∷ 0x74 ∷ 71 ∷ 72 ∷ 73 ∷ 74 ∷ 75 ∷ 76 ∷ 77 ∷ 78 ∷ []

-- what is added for good 8, damaged 3, good 16: the `pdat`, the two boxes, and the `pseg` with its `pshd` and `ploc`;
-- the chunks lie 24, 27 and 16 bytes before it
abbrev outside_bytes : List ℕ
outside_bytes =
    0x00 ∷ 0x00 ∷ 0x00 ∷ 0x0b ∷ 0x70 ∷ 0x64 ∷ 0x61 ∷ 0x74 ∷ 61 ∷ 62 ∷ 63 ∷
    0x00 ∷ 0x00 ∷ 0x00 ∷ 0x08 ∷ 0x66 ∷ 0x72 ∷ 0x65 ∷ 0x65 ∷
    0x00 ∷ 0x00 ∷ 0x00 ∷ 0x10 ∷ 0x6d ∷ 0x64 ∷ 0x61 ∷ 0x74 ∷ 71 ∷ 72 ∷ 73 ∷ 74 ∷ 75 ∷ 76 ∷ 77 ∷ 78 ∷
    0x00 ∷ 0x00 ∷ 0x00 ∷ 0x3a ∷ 0x70 ∷ 0x73 ∷ 0x65 ∷ 0x67 ∷
    0x00 ∷ 0x00 ∷ 0x00 ∷ 0x18 ∷ 0x70 ∷ 0x73 ∷ 0x68 ∷ 0x64 ∷ 0x00 ∷ 0x00 ∷ 0x00 ∷ 0x00 ∷
    0x00 ∷ 0x00 ∷ 0x00 ∷ 0x00 ∷ 0x00 ∷ 0x00 ∷ 0x00 ∷ 0x00 ∷ 0x00 ∷ 0x00 ∷ 0x00 ∷ 0x00 ∷
    0x00 ∷ 0x00 ∷ 0x00 ∷ 0x1a ∷ 0x70 ∷ 0x6c ∷ 0x6f ∷ 0x63 ∷ 0x00 ∷ 0x00 ∷ 0x00 ∷ 0x00 ∷ 0x11 ∷ 0x00 ∷ 0x00 ∷ 0x00 ∷ 0x03 ∷
    0x40 ∷ 0x08 ∷ 0xe8 ∷ 0xc0 ∷ 0x03 ∷ 0xe5 ∷ 0x40 ∷ 0x10 ∷ 0xf0 ∷ []

-- "append stores all its good chunks outside, in chunk order, after the `pdat` of damaged ones"; what is missing then
-- is the damaged one
abbrev stored_outside : Example
stored_outside =
    let f = mixed_bytes ++ outside_bytes in
    record {
      defined =
          map pos (grown_by mixed_bytes (segment_with true 0 false (8 ∷ 2 ∷ 3 ∷ 1 ∷ 16 ∷ 2 ∷ []) (free ++ (61 ∷ 62 ∷ 63 ∷ mdat16)))) ++ says (missing_in f);
      paper = map pos (f ++ (8 ∷ 3 ∷ []));
    }

-- what append answers to a file of chunks at 0 whose good ones are to go outside
abbrev answer_of : List ℕ → List ℕ → List ℕ → List ℤ
answer_of f list bytes = answer_to f (segment_with true 0 false list bytes)

-- "35, after 32, for a good chunk to go outside that isn't whole allowed boxes or whose file isn't `pmff`": a box and a
-- byte, a `pdat`, a `paff` file; a byte too many is 32. With no good chunk there is nothing to go outside: 55 bytes, a
-- `pdat` of 11 and a `pseg` of 52
abbrev outside_wrong : Example
outside_wrong =
    record {
      defined =
          answer_of mixed_bytes (9 ∷ 2 ∷ []) (free ++ (1 ∷ []))
          ++ (answer_of mixed_bytes (8 ∷ 2 ∷ []) (boxed pdat.code [])
          ++ (answer_of begun_bytes (8 ∷ 2 ∷ []) free
          ++ (answer_of begun_bytes (8 ∷ 2 ∷ []) (free ++ (1 ∷ [])) ++ answer_of begun_bytes (3 ∷ 1 ∷ []) (61 ∷ 62 ∷ 63 ∷ []))));
      paper = map pos (35 ∷ 35 ∷ 35 ∷ 32 ∷ 118 ∷ []);
    }

-- what is added for good 4, elsewhere 5, damaged 3: the `pdat`, and the `pseg` with its `pshd` and `ploc`
abbrev elsewhere_bytes : List ℕ
elsewhere_bytes =
    0x00 ∷ 0x00 ∷ 0x00 ∷ 0x0f ∷ 0x70 ∷ 0x64 ∷ 0x61 ∷ 0x74 ∷ 11 ∷ 12 ∷ 13 ∷ 14 ∷ 61 ∷ 62 ∷ 63 ∷
    0x00 ∷ 0x00 ∷ 0x00 ∷ 0x39 ∷ 0x70 ∷ 0x73 ∷ 0x65 ∷ 0x67 ∷
    0x00 ∷ 0x00 ∷ 0x00 ∷ 0x18 ∷ 0x70 ∷ 0x73 ∷ 0x68 ∷ 0x64 ∷ 0x00 ∷ 0x00 ∷ 0x00 ∷ 0x00 ∷
    0x00 ∷ 0x00 ∷ 0x00 ∷ 0x00 ∷ 0x00 ∷ 0x00 ∷ 0x00 ∷ 0x00 ∷ 0x00 ∷ 0x00 ∷ 0x00 ∷ 0x00 ∷
    0x00 ∷ 0x00 ∷ 0x00 ∷ 0x19 ∷ 0x70 ∷ 0x6c ∷ 0x6f ∷ 0x63 ∷ 0x00 ∷ 0x00 ∷ 0x00 ∷ 0x00 ∷ 0x11 ∷ 0x00 ∷ 0x00 ∷ 0x00 ∷ 0x03 ∷
    0x40 ∷ 0x04 ∷ 0xf9 ∷ 0x00 ∷ 0x05 ∷ 0xc0 ∷ 0x03 ∷ 0xfd ∷ []

-- "The writer accepts state 3 and stores no data for it"; what is missing then is (4, 8)
abbrev elsewhere_stored : Example
elsewhere_stored =
    let f = begun_bytes ++ elsewhere_bytes in
    record {
      defined =
          map pos (grown_by begun_bytes (segment_at 0 false (4 ∷ 2 ∷ 5 ∷ 3 ∷ 3 ∷ 1 ∷ []) (11 ∷ 12 ∷ 13 ∷ 14 ∷ 61 ∷ 62 ∷ 63 ∷ []))) ++ says (missing_in f);
      paper = map pos (f ++ (4 ∷ 8 ∷ []));
    }

-- "31 for states above 3"; data for state 3 is 32; without any there is no `pdat`: 55 bytes and a `pseg` of 51
abbrev elsewhere_wrong : Example
elsewhere_wrong =
    record {
      defined =
          answer_of begun_bytes (5 ∷ 4 ∷ []) []
          ++ (answer_of begun_bytes (5 ∷ 3 ∷ []) (1 ∷ 2 ∷ 3 ∷ 4 ∷ 5 ∷ []) ++ answer_of begun_bytes (5 ∷ 3 ∷ []) []);
      paper = map pos (31 ∷ 32 ∷ 106 ∷ []);
    }

-- document 02, [5]: "Raise the highest source position and end to 1,099,511,627,775": an end and an offset there are
-- taken, and one more is 23, of a lost chunk and open: to 55 bytes comes a `pseg` of 55, or of 53 where it is open
abbrev highest_added : Example
highest_added =
    let of : ℕ → List ℕ → List ℤ = λ offset list. answer_to begun_bytes (segment_at offset false list []) in
    record {
      defined =
          of 1_099_511_627_770 (5 ∷ 0 ∷ [])
          ++ (of 1_099_511_627_775 [] ++ (of 1_099_511_627_770 (6 ∷ 0 ∷ []) ++ of 1_099_511_627_776 []));
      paper = map pos (110 ∷ 108 ∷ 23 ∷ 23 ∷ []);
    }

-- the writer's form of `pshd`: version 0 for the highest offset of 32 bits, version 1 for the next
abbrev writers_form : Example
writers_form =
    record {
      defined = map pos (pshd_body (segment_at 4_294_967_295 true [] []) ++ pshd_body (segment_at 4_294_967_296 true [] []));
      paper =
          map pos
          (0x00 ∷ 0x00 ∷ 0x00 ∷ 0x01 ∷ 0xff ∷ 0xff ∷ 0xff ∷ 0xff ∷ 0x00 ∷ 0x00 ∷ 0x00 ∷ 0x00 ∷ 0x00 ∷ 0x00 ∷ 0x00 ∷ 0x00 ∷
          0x01 ∷ 0x00 ∷ 0x00 ∷ 0x01 ∷ 0x00 ∷ 0x00 ∷ 0x00 ∷ 0x01 ∷ 0x00 ∷ 0x00 ∷ 0x00 ∷ 0x00 ∷
          0x00 ∷ 0x00 ∷ 0x00 ∷ 0x00 ∷ 0x00 ∷ 0x00 ∷ 0x00 ∷ 0x00 ∷ []);
    }

unfoldable pub table : List Example
table =
    P8 ∷ P9 ∷ P10 ∷ P11 ∷ sizes_differ ∷ sizes_agree ∷ begun_mixed ∷ stored_outside ∷ outside_wrong ∷ elsewhere_stored ∷ elsewhere_wrong ∷
    highest_added ∷ writers_form ∷ []

-- at every row the definitions say what the paper says
abbrev pub AsThePaperSays : Type 0
AsThePaperSays = map (λ e. e.defined) table ≡ map (λ e. e.paper) table
