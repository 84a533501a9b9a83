-- Document 02, [9]: worked examples of salvage as one table with one statement, computed over the definitions. The
-- files, the places and numbers of the lines and the bytes of the copies are worked out from the papers.
use Rattle.std.specs.Prelude.{ℕ, ◌+◌, List, [], ◌∷◌, ◌++◌, map, ◌≡◌, length, take, drop, replicate, ℤ, pos}
use Prim.Native.String.{String}
use Rattle.boxes.specs.Answer.{given, ◌>>=◌}
use Rattle.boxes.specs.Kinds.{box_at}
use Rattle.partial.specs.Limits.{program_limit, source_limit}
use Rattle.partial.specs.Map.{ascii}
use Rattle.partial.specs.Segments.{Chunk, Segment, no_chunk}
use Rattle.partial.specs.Lesson.{begun_bytes, first_bytes, second_bytes}
use Rattle.partial.specs.Examples.{Example, says}
use Rattle.rescue.specs.Kept.{opening, beside}
use Rattle.rescue.specs.Copy.{salvage, salvaged}
use Rattle.rescue.specs.Lines.{salvage_text}

-- ---- the bytes of files, written out: no box has 256 bytes

-- a box of a type: 8 bytes and its body; in the large form 16 and its body
abbrev box : String → List ℕ → List ℕ
box kind body = 0x00 ∷ 0x00 ∷ 0x00 ∷ (8 + length body) ∷ (ascii kind ++ body)

abbrev large_box : String → List ℕ → List ℕ
large_box kind body =
    0x00 ∷ 0x00 ∷ 0x00 ∷ 0x01 ∷ (ascii kind ++ (0x00 ∷ 0x00 ∷ 0x00 ∷ 0x00 ∷ 0x00 ∷ 0x00 ∷ 0x00 ∷ (16 + length body) ∷ body))

-- a `pshd` with flags and a source offset: 24 bytes
abbrev header : ℕ → ℕ → List ℕ
header flags start = box "pshd" (0x00 ∷ 0x00 ∷ 0x00 ∷ flags ∷ 0x00 ∷ 0x00 ∷ 0x00 ∷ start ∷ replicate 8 0x00)

-- a `ploc` of so many chunks by entries with those widths: 17 bytes and its entries
abbrev entries_of : ℕ → ℕ → List ℕ → List ℕ
entries_of widths count entries = box "ploc" (0x00 ∷ 0x00 ∷ 0x00 ∷ 0x00 ∷ widths ∷ 0x00 ∷ 0x00 ∷ 0x00 ∷ count ∷ entries)

-- a `pseg` with one byte for a size and one for an offset: 49 bytes and its entries
abbrev segment_of : ℕ → ℕ → ℕ → List ℕ → List ℕ
segment_of flags start count entries = box "pseg" (header flags start ++ entries_of 0x11 count entries)

-- a last segment of so many lost bytes from 0 on: 51 bytes
abbrev last_of : ℕ → List ℕ
last_of size = segment_of 1 0 1 (0x80 ∷ size ∷ [])

-- P10's file of 186 bytes: at 55 a `pdat`, at 67 the first segment, which ends at 10 and is last; at 121 a `pdat` with
-- five bytes at 129, and at 134 the second segment
abbrev lesson : List ℕ
lesson = begun_bytes ++ (first_bytes ++ second_bytes)

-- the lines of a file, and then its copy
abbrev told : List ℕ → List ℤ
told f = map pos (salvage_text source_limit program_limit f) ++ says (salvage source_limit f >>= λ g. given (map pos g))

-- the numbers of these lines and of these bytes
abbrev lines : String → List ℕ → List ℤ
lines text copy = map pos (ascii text ++ copy)

-- ---- which boxes stay

-- P10's file that ends in the body of its last box, in the header of that, in the box before it, and behind a whole
-- box; with a size of 0 in its fifth box; and that ends in the header of the third box: nothing from the first framing
-- error on stays
abbrev cut : Example
cut =
    record {
      defined =
          told (take 183 lesson)
          ++ (told (take 140 lesson)
          ++ (told (take 130 lesson)
          ++ (told (take 134 lesson) ++ (told (take 121 lesson ++ (replicate 4 0x00 ++ drop 125 lesson)) ++ told (take 58 lesson)))));
      paper =
          lines "134\t5\n" (take 134 lesson)
          ++ (lines "134\t2\n" (take 134 lesson)
          ++ (lines "121\t5\n" (take 121 lesson)
          ++ (lines "" (take 134 lesson) ++ (lines "121\t3\n" (take 121 lesson) ++ lines "55\t2\n" begun_bytes))));
    }

-- 24 among all whole boxes before the first framing error: of the segment at 67 one chunk lies before it and one, at
-- 130, behind it. Where the `pdat` of that one is cut, though behind the chunk, the segment is left out with both, and
-- the `pdat` before it stays
abbrev data_behind : Example
data_behind =
    let f =
    begun_bytes
    ++ (box "pdat" (11 ∷ 12 ∷ 13 ∷ 14 ∷ [])
    ++ (segment_of 0 0 2 (0x40 ∷ 4 ∷ 0xfc ∷ 0x40 ∷ 2 ∷ 63 ∷ []) ++ box "pdat" (15 ∷ 16 ∷ 17 ∷ []))) in
    record { defined = told f ++ told (take 132 f); paper = lines "" f ++ lines "67\t24\n122\t5\n" (take 67 f) }

-- "beside the segments already kept": in P10's file a last segment that ends at 5 is left out beside the first, and the
-- second, which ends at 7, stays. Its data lie 56 bytes before it, and 5 in the copy. Where the wrong one stands first
-- it stays, and both others are left out
abbrev contradicting : Example
contradicting =
    record {
      defined =
          told (take 134 lesson ++ (last_of 5 ++ (take 51 (drop 134 lesson) ++ (200 ∷ []))))
          ++ told (begun_bytes ++ (last_of 5 ++ (first_bytes ++ second_bytes)));
      paper =
          lines "134\t25\n" lesson
          ++ lines "118\t25\n185\t25\n" (begun_bytes ++ (last_of 5 ++ (take 12 first_bytes ++ take 13 second_bytes)));
    }

-- a segment is left out with its own number: one for each of 5, 14 to 20, 23 and 24; the last one stays
abbrev left_out : Example
left_out =
    let with : List ℕ → List ℕ = λ ploc. box "pseg" (header 0 0 ++ ploc) in
    record {
      defined =
          told
          (begun_bytes
          ++ (box "pseg" (0x00 ∷ 0x00 ∷ 0x00 ∷ 9 ∷ ascii "free")
          ++ (box "pseg" []
          ++ (with []
          ++ (with (entries_of 0x11 0 [] ++ box "surl" [])
          ++ (with (entries_of 0x11 1 [])
          ++ (with (entries_of 0x91 0 [])
          ++ (with (box "ploc" (0x00 ∷ 0x00 ∷ 0x00 ∷ 0x00 ∷ 0x11 ∷ 0x00 ∷ 0x01 ∷ 0x00 ∷ 0x00 ∷ []))
          ++ (segment_of 0 0 1 (0x41 ∷ 1 ∷ 0 ∷ [])
          ++ (box "pseg" (box "pshd" (0x01 ∷ 0x00 ∷ 0x00 ∷ 0x00 ∷ (replicate 8 0xff ++ replicate 8 0x00)) ++ entries_of 0x11 0 [])
          ++ (segment_of 0 0 1 (0x40 ∷ 1 ∷ 0 ∷ []) ++ last_of 5)))))))))));
      paper =
          lines
          "55\t5\n71\t14\n79\t15\n111\t16\n168\t17\n217\t18\n266\t19\n315\t20\n367\t23\n420\t24\n"
          (begun_bytes ++ last_of 5);
    }

-- 41: without a list in `pfil` a segment stays that has its own
abbrev no_list : Example
no_list =
    let start = take 20 begun_bytes ++ box "pfil" (box "pfhd" (replicate 4 0x00)) in
    let own = box "pseg" (header 0 0 ++ (entries_of 0x11 0 [] ++ drop 40 begun_bytes)) in
    record { defined = told (start ++ (last_of 5 ++ own)); paper = lines "40\t41\n" (start ++ own) }

-- a segment with a URL of that letter, that source number and these chunks
abbrev segment_with : ℕ → ℕ → List Chunk → Segment
segment_with letter source chunks =
    record {
      place = 0;
      inner = [];
      urls = (letter ∷ []) ∷ [];
      source = source;
      source_offset = 0;
      flags = 0;
      repair_time = 0;
      header_place = 0;
      header_length = 0;
      chunks = chunks;
    }

-- a `pseg` at 55, of the source of `a` in `pfil`, beside such segments: its place, or why it is left out
abbrev beside_these : List ℕ → List Segment → List ℤ
beside_these pseg kept =
    let f = begun_bytes ++ pseg in
    says (opening f >>= λ h. beside source_limit f h kept (box_at 2 h.boxes) >>= λ s. given (pos s.place ∷ []))

-- 13 beside 64 segments, broken inside or not, and not beside 63; 22 beside 1,024 chunks, and not beside 1,023
abbrev many : Example
many =
    let segments : ℕ → List Segment = λ n. replicate n (segment_with 0x61 0 []) in
    let chunks : ℕ → List Segment = λ n. segment_with 0x61 0 (replicate n no_chunk) ∷ [] in
    record {
      defined =
          beside_these (last_of 5) (segments 63)
          ++ (beside_these (last_of 5) (segments 64)
          ++ (beside_these (box "pseg" []) (segments 64) ++ (beside_these (last_of 5) (chunks 1_023) ++ beside_these (last_of 5) (chunks 1_024))));
      paper = map pos (55 ∷ 13 ∷ 13 ∷ 55 ∷ 22 ∷ []);
    }

-- 40 beside eight other sources, and neither beside seven nor beside eight of which it is one
abbrev layers : Example
layers =
    let seven = map (λ n. segment_with n n []) (0 ∷ 1 ∷ 2 ∷ 3 ∷ 4 ∷ 5 ∷ 6 ∷ []) in
    record {
      defined =
          beside_these (last_of 5) seven
          ++ (beside_these (last_of 5) (seven ++ (segment_with 7 7 [] ∷ [])) ++ beside_these (last_of 5) (seven ++ (segment_with 0x61 7 [] ∷ [])));
      paper = map pos (55 ∷ 40 ∷ 55 ∷ []);
    }

-- "Other top-level boxes are dropped": a second `ftyp` with 7, a second `pfil` with 9, a vendor's box and an index with
-- 0
abbrev others : Example
others =
    record {
      defined =
          told (begun_bytes ++ (take 20 begun_bytes ++ (box "pfil" [] ++ (box "uuid" (replicate 16 7) ++ (box "fidx" [] ++ first_bytes)))));
      paper = lines "55\t7\n75\t9\n83\t0\n107\t0\n" (begun_bytes ++ first_bytes);
    }

-- ---- mixed files

-- the `ftyp` of a mixed file, 20 bytes; a movie fragment: a `moof` of 10 bytes and an `mdat` of 11
abbrev mixed : List ℕ
mixed = box "ftyp" (ascii "isom" ++ (replicate 4 0x00 ++ ascii "pmff"))

abbrev moof : List ℕ
moof = box "moof" (41 ∷ 42 ∷ [])

abbrev mdat : List ℕ
mdat = box "mdat" (51 ∷ 52 ∷ 53 ∷ [])

-- "in a `pmff` file those that kept chunks lie in stay": the good chunk of the segment at 120 lies in the fragment at
-- 80, its damaged one in the `pdat` at 63, and 200 bytes are lost. No kept chunk lies in the boxes on both sides of the
-- fragment, nor in the `mdat` at 109, since its segment, at 185, is left out. Both containers here lose an index
abbrev fragment : Example
fragment =
    record {
      defined =
          told
          (mixed
          ++ (box "pfil" (drop 28 begun_bytes ++ box "fidx" [])
          ++ (box "pdat" (61 ∷ [])
          ++ (box "free" []
          ++ (moof
          ++ (mdat
          ++ (box "free" []
          ++ (mdat
          ++ (box
          "pseg"
          (header 0 0 ++ (entries_of 0x11 3 (0x40 ∷ 21 ∷ 216 ∷ 0x80 ∷ 200 ∷ 0xc0 ∷ 1 ∷ 207 ∷ []) ++ box "fidx" []))
          ++ (segment_of 1 0 1 (0x40 ∷ 11 ∷ 180 ∷ []) ++ box "free" []))))))))));
      paper =
          lines
          "72\t0\n101\t0\n109\t0\n185\t25\n237\t0\n"
          (mixed
          ++ (drop 20 begun_bytes
          ++ (box "pdat" (61 ∷ [])
          ++ (moof ++ (mdat ++ segment_of 0 0 3 (0x40 ∷ 21 ∷ 235 ∷ 0x80 ∷ 200 ∷ 0xc0 ∷ 1 ∷ 234 ∷ []))))));
    }

-- a box behind the segment whose chunk it is, 8 bytes nearer in the copy; in a `paff` file that chunk is 24
abbrev fragment_behind : Example
fragment_behind =
    let behind : ℕ → List ℕ → List ℕ = λ offset between.
    drop 20 begun_bytes ++ (segment_of 0 0 1 (0x40 ∷ 11 ∷ offset ∷ []) ++ (between ++ mdat)) in
    record {
      defined = told (mixed ++ behind 60 (box "free" [])) ++ told (take 20 begun_bytes ++ behind 60 (box "free" []));
      paper = lines "107\t0\n" (mixed ++ behind 52 []) ++ lines "55\t24\n107\t0\n115\t0\n" begun_bytes;
    }

-- ---- the bytes of what stays

-- "Offsets are rewritten to the new places", in their old width: the segment stands at 72 with chunks at 63 and 149, 9
-- bytes before that and 77 behind it; in the copy it stands at 64 with them at 63 and 133, 1 before and 69 behind
abbrev offsets : Example
offsets =
    let f : List ℕ → ℕ → ℕ → List ℕ = λ free back ahead.
    begun_bytes
    ++ (box "pdat" (30 ∷ [])
    ++ (free
    ++ (box "pseg" (header 0 0 ++ entries_of 0x23 2 (0x40 ∷ 0 ∷ 1 ∷ 0xff ∷ 0xff ∷ back ∷ 0x40 ∷ 0 ∷ 2 ∷ 0 ∷ 0 ∷ ahead ∷ []))
    ++ (free ++ box "pdat" (31 ∷ 32 ∷ []))))) in
    record { defined = told (f (box "free" []) 0xf7 77); paper = lines "64\t0\n133\t0\n" (f [] 0xff 69) }

-- "0 for an empty chunk", good or damaged; a lost one and one held elsewhere have no offset
abbrev empty : Example
empty =
    let f : ℕ → ℕ → List ℕ = λ good damaged.
    begun_bytes
    ++ (box "pdat" (11 ∷ 12 ∷ 13 ∷ 14 ∷ [])
    ++ segment_of 0 0 5 (0x40 ∷ 0 ∷ good ∷ 0xc0 ∷ 0 ∷ damaged ∷ 0x80 ∷ 0 ∷ 0x00 ∷ 3 ∷ 0x40 ∷ 4 ∷ 0xfc ∷ [])) in
    record { defined = told (f 0x7f 0x80); paper = lines "" (f 0 0) }

-- "as is each `fidx` (its container keeps its header form)": two in a `pfil` and one in a segment, both in the large
-- form, with another box that stays; the chunk lies 85 bytes behind the segment's first, and 77 in the copy
abbrev indexes : Example
indexes =
    let f : List ℕ → List ℕ → List ℕ → ℕ → List ℕ = λ first second third ahead.
    take 20 begun_bytes
    ++ (large_box "pfil" (take 12 (drop 28 begun_bytes) ++ (first ++ (drop 40 begun_bytes ++ second)))
    ++ (large_box "pseg" (header 0 0 ++ (third ++ (entries_of 0x11 1 (0x40 ∷ 2 ∷ ahead ∷ []) ++ box "free" (7 ∷ []))))
    ++ box "pdat" (41 ∷ 42 ∷ []))) in
    record { defined = told (f (box "fidx" (1 ∷ 2 ∷ 3 ∷ [])) (large_box "fidx" []) (box "fidx" []) 85); paper = lines "" (f [] [] [] 77) }

-- ---- refusals

-- "2 to 11 for the first two boxes": no box; one; two `ftyp`; another first box; another brand; another second box; a
-- wrong first box before a cut one; a cut `pfil`; one with a fault inside; one without `pfhd`; one with an ill-formed
-- `surl`. Without a segment a file is not refused
abbrev refusals : Example
refusals =
    let start = take 20 begun_bytes in
    let rest = drop 20 begun_bytes in
    let refused : String → ℕ → List ℤ = λ text n. lines text (n ∷ []) in
    record {
      defined =
          told []
          ++ (told start
          ++ (told (start ++ (start ++ rest))
          ++ (told (box "free" [] ++ rest)
          ++ (told (box "ftyp" (ascii "paff" ++ (replicate 4 0x00 ++ ascii "mp42")) ++ rest)
          ++ (told (start ++ (box "free" [] ++ rest))
          ++ (told (box "free" [] ++ take 7 rest)
          ++ (told (take 50 begun_bytes)
          ++ (told (start ++ box "pfil" (0x00 ∷ 0x00 ∷ 0x00 ∷ 7 ∷ ascii "free"))
          ++ (told (start ++ box "pfil" [])
          ++ (told (start ++ box "pfil" (box "pfhd" (replicate 4 0x00) ++ box "surl" [])) ++ told begun_bytes))))))))));
      paper =
          refused "refused\t7\n" 7
          ++ (refused "refused\t9\n" 9
          ++ (refused "refused\t7\n" 7
          ++ (refused "refused\t7\n" 7
          ++ (refused "refused\t8\n" 8
          ++ (refused "refused\t9\n" 9
          ++ (refused "refused\t2\n" 2
          ++ (refused "refused\t5\n" 5
          ++ (refused "refused\t4\n" 4
          ++ (refused "refused\t10\n" 10 ++ (refused "refused\t11\n" 11 ++ lines "" begun_bytes))))))))));
    }

-- an input of 55 bytes where 55 and where 54 are taken, acceptable or not; a copy of 134 in a buffer of 134 and of 133;
-- a refused file in a buffer of none
abbrev room : Example
room =
    let into : List ℕ → ℕ → List ℤ = λ f n. says (salvaged source_limit f (replicate n 9) >>= λ g. given (pos (length g) ∷ [])) in
    record {
      defined =
          map
          pos
          (salvage_text source_limit 55 begun_bytes ++ (salvage_text source_limit 54 begun_bytes ++ salvage_text source_limit 54 (replicate 55 9)))
          ++ (into (take 183 lesson) 134 ++ (into (take 183 lesson) 133 ++ into [] 0));
      paper = lines "refused\t27\nrefused\t27\n" (134 ∷ 33 ∷ 7 ∷ []);
    }

unfoldable pub table : List Example
table =
    cut ∷ data_behind ∷ contradicting ∷ left_out ∷ no_list ∷ many ∷ layers ∷ others ∷
    fragment ∷ fragment_behind ∷
    offsets ∷ empty ∷ indexes ∷
    refusals ∷ room ∷ []

-- at every row the definitions say what the paper says
abbrev pub AsThePaperSays : Type 0
AsThePaperSays = map (λ e. e.defined) table ≡ map (λ e. e.paper) table
