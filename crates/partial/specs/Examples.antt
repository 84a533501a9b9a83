-- Document 01, "Numbers to hold against it" and "Errors this trade makes": worked examples of reading as one table with
-- one statement, computed over the definitions. P1 to P7, P11 and P12 are the paper's, and P9 and P10 what it says of
-- their files; the others are the maps and the rows of P10, a case of each error that no P shows, and those of document
-- 02. The examples of begin and append stand in the crate `additions`.
use Rattle.std.specs.Prelude.{ℕ, ◌-◌, true, false, List, [], ◌∷◌, ◌++◌, map, ◌≡◌, length, take, drop, replicate, ℤ, pos, negsuc}
use Rattle.std.specs.Prelude.{unwrap_or}
use Rattle.boxes.specs.Answer.{Answer, refused, given, ◌>>=◌, hold}
use Rattle.numerals.specs.Numbers.{number, bytes_of, value_of, signed, holds_offset, least_width}
use Rattle.boxes.specs.Framing.{uuid, header, boxed}
use Rattle.boxes.specs.Kinds.{ftyp, pdat, pseg, pshd, ploc, is}
use Rattle.boxes.specs.declared.kinds.Container.TheVariants.{File, Pseg}
use Rattle.numerals.specs.declared.numbers.Offset.TheVariants.{Back}
use Rattle.partial.specs.Limits.{program_limit, source_limit}
use Rattle.partial.specs.Heading.{url, mime, bytes_in}
use Rattle.partial.specs.Entries.{ploc_head, entry}
use Rattle.partial.specs.Meaning.{described_length, is_closed, served}
use Rattle.partial.specs.Reading.{reading}
use Rattle.partial.specs.Memory.{after}
use Rattle.partial.specs.Tables.{missing_rows, tabled, summary, segment_rows, chunk_rows, served_part, text_of}
use Rattle.partial.specs.Segments.{Segment, lost}
use Rattle.partial.specs.Sources.{source_beside, agreed}
use Rattle.partial.specs.Map.{map_of, ascii, source_line, map_text, missmap_text, text_for, refused_line}
use Rattle.partial.specs.BoxList.{boxes_text}
use Rattle.partial.specs.Lesson.{begun_bytes, first_bytes, second_bytes}

-- what the definitions say and what the paper says, each as numbers in a row
pub record Example : Type 0 where
  pub defined : List ℤ
  pub paper : List ℤ

-- a refusal as its number
abbrev pub says : Answer (List ℤ) → List ℤ
says (refused n) = pos n ∷ []
says (given ns) = ns

-- of a `ploc` with one chunk: chunk count, state, size, offset, and how many bytes are left over
abbrev one_chunk : List ℕ → Answer (List ℤ)
one_chunk f = do
  b ← header Pseg f 0 (length f)
  _ ← hold 15 (is ploc b)
  l ← ploc_head f b
  e ← entry f l l.first
  given (pos l.count ∷ pos e.state ∷ pos e.size ∷ value_of e.offset ∷ pos (l.end - e.next) ∷ [])

-- P1: one good chunk, size 5, offset -5
abbrev P1 : Example
P1 =
    record {
      defined =
          says
          (one_chunk
          (0x00 ∷ 0x00 ∷ 0x00 ∷ 0x14 ∷ 0x70 ∷ 0x6c ∷ 0x6f ∷ 0x63 ∷ 0x00 ∷ 0x00 ∷ 0x00 ∷ 0x00 ∷
          0x11 ∷ 0x00 ∷ 0x00 ∷ 0x00 ∷ 0x01 ∷ 0x40 ∷ 0x05 ∷ 0xfb ∷ []));
      paper = pos 1 ∷ pos 2 ∷ pos 5 ∷ negsuc 4 ∷ pos 0 ∷ [];
    }

-- P2: one lost chunk of 300
abbrev P2 : Example
P2 =
    record {
      defined =
          says
          (one_chunk
          (0x00 ∷ 0x00 ∷ 0x00 ∷ 0x14 ∷ 0x70 ∷ 0x6c ∷ 0x6f ∷ 0x63 ∷ 0x00 ∷ 0x00 ∷ 0x00 ∷ 0x00 ∷
          0x20 ∷ 0x00 ∷ 0x00 ∷ 0x00 ∷ 0x01 ∷ 0x80 ∷ 0x01 ∷ 0x2c ∷ []));
      paper = pos 1 ∷ pos 0 ∷ pos 300 ∷ pos 0 ∷ pos 0 ∷ [];
    }

-- the offset that some bytes are
abbrev offset_in : List ℕ → List ℤ
offset_in bs = value_of (signed (length bs) (number bs 0 (length bs))) ∷ []

-- P3, P4, P5: offset bytes `80` are -128, `7f` is 127, `ff 7f` is -129
abbrev P3 : Example
P3 = record { defined = offset_in (0x80 ∷ []); paper = negsuc 127 ∷ [] }

abbrev P4 : Example
P4 = record { defined = offset_in (0x7f ∷ []); paper = pos 127 ∷ [] }

abbrev P5 : Example
P5 = record { defined = offset_in (0xff ∷ 0x7f ∷ []); paper = negsuc 128 ∷ [] }

-- how many bytes so far back needs
abbrev width_back : ℕ → List ℤ
width_back n = pos (least_width (λ w. holds_offset w (Back n))) ∷ []

-- P6, P7: -128 needs one byte, -129 needs two
abbrev P6 : Example
P6 = record { defined = width_back 128; paper = pos 1 ∷ [] }

abbrev P7 : Example
P7 = record { defined = width_back 129; paper = pos 2 ∷ [] }

abbrev pub missing_in : List ℕ → Answer (List ℤ)
missing_in f = do
  ss ← reading source_limit f
  given (map pos (missing_rows 0 ss))

-- P9's file: missing is (4, 6)
abbrev P9 : Example
P9 = record { defined = says (missing_in (begun_bytes ++ first_bytes)); paper = pos 4 ∷ pos 6 ∷ [] }

-- the bytes served for positions 2 and 3
abbrev served_in : List ℕ → Answer (List ℤ)
served_in f = do
  ss ← reading source_limit f
  given (map pos (unwrap_or (served f ss 2) 0 ∷ unwrap_or (served f ss 3) 0 ∷ []))

-- P10's file, which has a segment at 2 besides: positions 2 and 3 still come from the first; missing is (7, 3)
abbrev P10 : Example
P10 =
    let f = begun_bytes ++ (first_bytes ++ second_bytes) in
    record { defined = says (served_in f) ++ says (missing_in f); paper = pos 13 ∷ pos 14 ∷ pos 7 ∷ pos 3 ∷ [] }

-- the body of a `pshd` in its two forms, with flags and a source offset: version 0 with 32 bits for it, and version 1
-- with 64
abbrev pub version0 : ℕ → ℕ → List ℕ
version0 flags start = 0 ∷ (bytes_of 3 flags ++ (bytes_of 4 start ++ bytes_of 8 0))

abbrev version1 : ℕ → ℕ → List ℕ
version1 flags start = 1 ∷ (bytes_of 3 flags ++ (bytes_of 8 start ++ bytes_of 8 0))

-- a `pseg` as any writer makes it: the body of its `pshd`, so many chunks by entries with one byte for a size and one
-- for an offset, and boxes behind its `ploc`
abbrev pseg_of : List ℕ → List ℕ → ℕ → List ℕ → List ℕ
pseg_of boxes header count entries =
    boxed pseg.code
    (boxed pshd.code header ++ (boxed ploc.code (bytes_of 4 0 ++ (0x11 ∷ (bytes_of 2 0 ++ (bytes_of 2 count ++ entries)))) ++ boxes))

-- one chunk of a state and a size, with what follows that; and without boxes
abbrev pub foreign_with : List ℕ → List ℕ → ℕ → ℕ → List ℕ → List ℕ
foreign_with boxes header state size rest = pseg_of boxes header 1 (state ∷ size ∷ rest)

abbrev foreign : List ℕ → ℕ → ℕ → List ℕ → List ℕ
foreign = foreign_with []

-- an open segment
abbrev open_with : List ℕ → List ℕ
open_with header = pseg_of [] header 0 []

-- one chunk of some bytes, which lie in a `pdat` just before the segment
abbrev carrying : List ℕ → ℕ → List ℕ → List ℕ
carrying header state bytes = boxed pdat.code bytes ++ foreign header state (length bytes) ((256 - length bytes) ∷ [])

-- the described length, 1 if the size is known and 0 if not, and what is missing
abbrev length_in : List ℕ → Answer (List ℤ)
length_in f = do
  ss ← reading source_limit f
  given (pos (described_length ss) ∷ elim (is_closed ss) [ true ↦ pos 1 | false ↦ pos 0 ] ∷ map pos (missing_rows 0 ss))

-- P11: one open segment at 100: described length 100, missing (0, 100), open
abbrev P11 : Example
P11 = record { defined = says (length_in (begun_bytes ++ open_with (version0 0 100))); paper = pos 100 ∷ pos 0 ∷ pos 0 ∷ pos 100 ∷ [] }

-- P12: empty input: 7
abbrev P12 : Example
P12 = record { defined = says (missing_in []); paper = pos 7 ∷ [] }

-- what P10's file prints in full, and what P11's prints by the same rules, where damage is not named
abbrev missmap10 : Example
missmap10 =
    record {
      defined = map pos (missmap_text source_limit program_limit (begun_bytes ++ (first_bytes ++ second_bytes)));
      paper = map pos (ascii "source\t10\tclosed\nhave\t0\t7\nmiss\t7\t3\ntotal\t7\t3\n");
    }

abbrev missmap11 : Example
missmap11 =
    record {
      defined = map pos (missmap_text source_limit program_limit (begun_bytes ++ open_with (version0 0 100)));
      paper = map pos (ascii "source\t100\topen\nmiss\t0\t100\ntotal\t0\t100\n");
    }

-- document 02, [6]: "`held` for a missing position that some damaged chunk covers, and `lost` for the rest, in place of
-- `miss`, with totals received, held, lost": P10's file has no damage; of good 4, damaged 3, elsewhere 2 and lost 1
-- three positions are held, two of them covered a second time as lost
abbrev map10 : Example
map10 =
    record {
      defined = map pos (map_text source_limit program_limit (begun_bytes ++ (first_bytes ++ second_bytes)));
      paper = map pos (ascii "source\t10\tclosed\nhave\t0\t7\nlost\t7\t3\ntotal\t7\t0\t3\n");
    }

abbrev map_named : Example
map_named =
    let four = pseg_of [] (version0 1 0) 4 (0x40 ∷ 4 ∷ 249 ∷ 0xc0 ∷ 3 ∷ 253 ∷ 0x00 ∷ 2 ∷ 0x80 ∷ 1 ∷ []) in
    let f = begun_bytes ++ (foreign (version0 0 5) 0x80 2 [] ++ (boxed pdat.code (1 ∷ 2 ∷ 3 ∷ 4 ∷ 5 ∷ 6 ∷ 7 ∷ []) ++ four)) in
    record {
      defined = map pos (map_text source_limit program_limit f);
      paper = map pos (ascii "source\t10\tclosed\nhave\t0\t4\nheld\t4\t3\nlost\t7\t3\ntotal\t4\t3\t3\n");
    }

-- a damaged chunk under a good one is not held there
abbrev map_under : Example
map_under =
    let f = begun_bytes ++ (carrying (version0 0 0) 0xc0 (1 ∷ 2 ∷ 3 ∷ 4 ∷ 5 ∷ 6 ∷ []) ++ carrying (version0 0 2) 0x40 (7 ∷ 8 ∷ [])) in
    record {
      defined = map pos (map_text source_limit program_limit f);
      paper = map pos (ascii "source\t6\topen\nheld\t0\t2\nhave\t2\t2\nheld\t4\t2\ntotal\t2\t4\t0\n");
    }

-- the rows of P10's file, in tables of that many numbers, with the number of segments, of chunks, and what is left of a
-- table
abbrev rows_in : ℕ → ℕ → List ℤ
rows_in m n =
    let answer = tabled source_limit (begun_bytes ++ (first_bytes ++ second_bytes)) (replicate m 9) (replicate n 9) in
    says (answer >>= λ ss. given (map pos ((summary 0 ss).segments ∷ (summary 0 ss).chunks ∷ [])))
    ++ map pos (after segment_rows answer (replicate m 9) ++ after chunk_rows answer (replicate n 9))

-- tables just long enough, and one number longer
abbrev rows_fit : Example
rows_fit =
    record {
      defined = rows_in 16 18 ++ rows_in 17 19;
      paper =
          map pos
          (2 ∷ 3
          ∷ 67 ∷ 0 ∷ 1 ∷ 0 ∷ 2 ∷ 83 ∷ 16 ∷ 0
          ∷ 134 ∷ 2 ∷ 0 ∷ 0 ∷ 1 ∷ 150 ∷ 16 ∷ 0
          ∷ 0 ∷ 0 ∷ 0 ∷ 4 ∷ 2 ∷ 63
          ∷ 0 ∷ 1 ∷ 4 ∷ 6 ∷ 0 ∷ 0
          ∷ 1 ∷ 0 ∷ 2 ∷ 5 ∷ 2 ∷ 129
          ∷ 2 ∷ 3
          ∷ 67 ∷ 0 ∷ 1 ∷ 0 ∷ 2 ∷ 83 ∷ 16 ∷ 0
          ∷ 134 ∷ 2 ∷ 0 ∷ 0 ∷ 1 ∷ 150 ∷ 16 ∷ 0 ∷ 9
          ∷ 0 ∷ 0 ∷ 0 ∷ 4 ∷ 2 ∷ 63
          ∷ 0 ∷ 1 ∷ 4 ∷ 6 ∷ 0 ∷ 0
          ∷ 1 ∷ 0 ∷ 2 ∷ 5 ∷ 2 ∷ 129 ∷ 9 ∷ []);
    }

-- a table one number short: 26, and both as they were
abbrev rows_short : Example
rows_short =
    record {
      defined = rows_in 15 18 ++ rows_in 16 17;
      paper = map pos (26 ∷ (replicate 33 9 ++ (26 ∷ replicate 33 9)));
    }

-- a file with one such segment at 2, whose chunk of 2 is good, and data behind it
abbrev data_behind : ℕ → List ℕ
data_behind offset = begun_bytes ++ (foreign (version0 0 2) 0x40 2 (offset ∷ []) ++ boxed pdat.code (31 ∷ 32 ∷ []))

-- an offset ahead is counted from the first byte of `pseg`, not from its body: the box has 52 bytes, and the header of
-- `pdat` 8
abbrev ahead : Example
ahead = record { defined = says (served_in (data_behind 60)); paper = pos 31 ∷ pos 32 ∷ [] }

-- a chunk that lies in the file but not in a `pdat` body: 24
abbrev over_header : Example
over_header = record { defined = says (missing_in (data_behind 59)); paper = pos 24 ∷ [] }

-- damaged bytes are missing, though they are present
abbrev damaged_bytes : Example
damaged_bytes = record { defined = says (missing_in (begun_bytes ++ carrying (version0 0 0) 0xc0 (1 ∷ 2 ∷ 3 ∷ []))); paper = pos 0 ∷ pos 3 ∷ [] }

-- an open last segment is not the end of the source
abbrev open_last : Example
open_last =
    record {
      defined = says (length_in (begun_bytes ++ (open_with (version0 1 5) ++ foreign (version0 0 0) 0x80 10 [])));
      paper = pos 10 ∷ pos 0 ∷ pos 0 ∷ pos 10 ∷ [];
    }

-- last_segment beside other flags is last_segment, and other flags alone are not
abbrev other_flags : Example
other_flags =
    record {
      defined =
          says (length_in (begun_bytes ++ foreign (version0 0xffffff 0) 0x80 7 []))
          ++ says (length_in (begun_bytes ++ foreign (version0 0xfffffe 0) 0x80 7 []));
      paper = pos 7 ∷ pos 1 ∷ pos 0 ∷ pos 7 ∷ pos 7 ∷ pos 0 ∷ pos 0 ∷ pos 7 ∷ [];
    }

-- a `pfil` with two `surl`: URL `one` with MIME text `a/b`, then `two` with `c/de`
abbrev two_urls : List ℕ
two_urls =
    0x00 ∷ 0x00 ∷ 0x00 ∷ 0x3d ∷ 0x70 ∷ 0x66 ∷ 0x69 ∷ 0x6c ∷
    0x00 ∷ 0x00 ∷ 0x00 ∷ 0x0c ∷ 0x70 ∷ 0x66 ∷ 0x68 ∷ 0x64 ∷ 0x00 ∷ 0x00 ∷ 0x00 ∷ 0x00 ∷
    0x00 ∷ 0x00 ∷ 0x00 ∷ 0x14 ∷ 0x73 ∷ 0x75 ∷ 0x72 ∷ 0x6c ∷ 0x00 ∷ 0x00 ∷ 0x00 ∷ 0x00 ∷
    0x6f ∷ 0x6e ∷ 0x65 ∷ 0x00 ∷ 0x61 ∷ 0x2f ∷ 0x62 ∷ 0x00 ∷
    0x00 ∷ 0x00 ∷ 0x00 ∷ 0x15 ∷ 0x73 ∷ 0x75 ∷ 0x72 ∷ 0x6c ∷ 0x00 ∷ 0x00 ∷ 0x00 ∷ 0x00 ∷
    0x74 ∷ 0x77 ∷ 0x6f ∷ 0x00 ∷ 0x63 ∷ 0x2f ∷ 0x64 ∷ 0x65 ∷ 0x00 ∷ []

-- "The URL and the MIME text of the first `surl`"
abbrev first_texts : Example
first_texts =
    let f = take 20 begun_bytes ++ (two_urls ++ open_with (version0 0 0)) in
    record {
      defined = map pos (bytes_in f (text_of url source_limit f) ++ bytes_in f (text_of mime source_limit f));
      paper = map pos (ascii "onea/b");
    }

-- a `uuid` box's header in the two forms, up to its user type, with that size
abbrev vendor : ℕ → List ℕ
vendor size = bytes_of 4 size ++ bytes_of 4 uuid

abbrev large_vendor : ℕ → List ℕ
large_vendor size = bytes_of 4 1 ++ (bytes_of 4 uuid ++ bytes_of 8 size)

-- of a box in a container that ends there: the places of its user type, of its body and of its end
abbrev places_in : List ℕ → ℕ → List ℤ
places_in f end = says (header File f 0 end >>= λ b. given (pos b.user ∷ pos b.body ∷ pos b.end ∷ []))

-- document 02, [1]: the user type counts as header; 4 below 24, in the large form below 32; 5 where the container ends
-- inside the user type
abbrev vendor_forms : Example
vendor_forms =
    record {
      defined = places_in (vendor 24) 24 ++ (places_in (vendor 23) 32 ++ (places_in (vendor 24) 23 ++ places_in (vendor 20) 20));
      paper = pos 8 ∷ pos 24 ∷ pos 24 ∷ pos 4 ∷ pos 5 ∷ pos 4 ∷ [];
    }

abbrev large_vendor_forms : Example
large_vendor_forms =
    record {
      defined =
          places_in (large_vendor 32) 40
          ++ (places_in (large_vendor 31) 40 ++ (places_in (large_vendor 32) 31 ++ places_in (large_vendor 32) 15));
      paper = pos 16 ∷ pos 32 ∷ pos 32 ∷ pos 4 ∷ pos 5 ∷ pos 2 ∷ [];
    }

-- document 02, [1] and [9]: the boxes of a file with a vendor's box, a type that does not print, and a cut header
abbrev boxes3 : Example
boxes3 =
    let user : List ℕ = 0x00 ∷ 0x01 ∷ 0x23 ∷ 0x45 ∷ 0x67 ∷ 0x89 ∷ 0xab ∷ 0xcd ∷ 0xef ∷ 0x10 ∷ 0x32 ∷ 0x54 ∷ 0x76 ∷ 0x98 ∷ 0xba ∷ 0xdc ∷ [] in
    record {
      defined = map pos (boxes_text 100 (vendor 26 ++ (user ++ (7 ∷ 7 ∷ (bytes_of 4 8 ++ (0x09 ∷ 0x20 ∷ 0x7e ∷ 0x7f ∷ 0 ∷ 0 ∷ 0 ∷ []))))));
      paper = map pos (ascii "0\t26\tuuid\t000123456789abcdef1032547698badc\n26\t8\t\\x09 ~\\x7f\n34\t2\n");
    }

-- the place of the first framing error is that of its box: behind other boxes, and at the file's start
abbrev broken_boxes : Example
broken_boxes =
    let free : ℕ → List ℕ = λ size. bytes_of 4 size ++ ascii "free" in
    record {
      defined = map pos (boxes_text 100 (free 8 ++ (free 8 ++ (free 7 ++ free 8))) ++ boxes_text 100 (free 9));
      paper = map pos (ascii "0\t8\tfree\n8\t8\tfree\n16\t4\n" ++ ascii "0\t5\n");
    }

-- a movie fragment: a `moof` of 10 bytes and an `mdat` of 11
abbrev moof : List ℕ
moof = 0x00 ∷ 0x00 ∷ 0x00 ∷ 0x0a ∷ 0x6d ∷ 0x6f ∷ 0x6f ∷ 0x66 ∷ 41 ∷ 42 ∷ []

abbrev mdat : List ℕ
mdat = 0x00 ∷ 0x00 ∷ 0x00 ∷ 0x0b ∷ 0x6d ∷ 0x64 ∷ 0x61 ∷ 0x74 ∷ 51 ∷ 52 ∷ 53 ∷ []

-- a file with those compatible brands, those boxes and a segment at 0; its one chunk, with that flag byte and size,
-- lies so many bytes before its `pseg`: the part served from 0 on
abbrev served_of : List ℕ → List ℕ → ℕ → ℕ → ℕ → List ℤ
served_of brands boxes flags size back =
    let start = boxed ftyp.code (bytes_of 4 0 ++ (bytes_of 4 0 ++ brands)) ++ drop 20 begun_bytes in
    let f = start ++ (boxes ++ foreign (version0 0 0) flags size ((256 - back) ∷ [])) in
    says (reading source_limit f >>= λ ss. given (map pos (bytes_in f (served_part (given ss) 0 0))))

-- "A good chunk may then also lie in the file outside `pdat`, if it is exactly one or several neighbouring whole
-- top-level boxes": `moof`, `mdat`, both
abbrev whole_served : Example
whole_served =
    let of = served_of (ascii "pmff") (moof ++ mdat) 0x40 in
    record { defined = of 10 21 ++ (of 11 11 ++ of 21 21); paper = map pos (moof ++ (mdat ++ (moof ++ mdat))) }

-- a box and a half, the end of a box and the next, a run with a `pdat` in it, and a damaged chunk: 24
abbrev not_whole : Example
not_whole =
    let of = served_of (ascii "pmff") in
    record {
      defined =
          of (moof ++ mdat) 0x40 15 21
          ++ (of (moof ++ mdat) 0x40 20 20
          ++ (of (moof ++ (boxed pdat.code (7 ∷ []) ++ mdat)) 0x40 30 30 ++ of (moof ++ mdat) 0xc0 10 21));
      paper = map pos (24 ∷ 24 ∷ 24 ∷ 24 ∷ []);
    }

-- "8 only if neither brand is there"; "with both brands present the `pmff` rules hold": neither, `paff`, and both in
-- either order
abbrev by_brand : Example
by_brand =
    let of : List ℕ → List ℤ = λ brands. served_of brands mdat 0x40 11 11 in
    record {
      defined = of (ascii "mp42") ++ (of (ascii "paff") ++ (of (ascii "paffpmff") ++ of (ascii "pmffpaff")));
      paper = map pos (8 ∷ 24 ∷ (mdat ++ mdat));
    }

-- document 02, [4]: a chunk neither corrupted nor present is of state 3 and has no offset; a reserved bit beside it is
-- 20
abbrev elsewhere_read : Example
elsewhere_read =
    let of : ℕ → List ℤ = λ flags.
    says
    (one_chunk
    (0x00 ∷ 0x00 ∷ 0x00 ∷ 0x13 ∷ 0x70 ∷ 0x6c ∷ 0x6f ∷ 0x63 ∷ 0x00 ∷ 0x00 ∷ 0x00 ∷ 0x00 ∷ 0x11 ∷ 0x00 ∷ 0x00 ∷ 0x00 ∷ 0x01 ∷ flags ∷ 0x05 ∷ [])) in
    record { defined = of 0x00 ++ of 0x01; paper = map pos (1 ∷ 3 ∷ 5 ∷ 0 ∷ 0 ∷ 20 ∷ []) }

-- "it covers its positions and supplies none": of a segment at 2 with one such chunk of 7, nine are described and
-- missing
abbrev elsewhere_missing : Example
elsewhere_missing = record { defined = says (length_in (begun_bytes ++ foreign (version0 0 2) 0x00 7 [])); paper = map pos (9 ∷ 0 ∷ 0 ∷ 9 ∷ []) }

-- document 02, [5]: the first line of the map of a file whose one segment, with that `pshd`, has a lost chunk of that
-- size
abbrev source_of : List ℕ → ℕ → List ℤ
source_of header size =
    says (reading source_limit (begun_bytes ++ foreign header 0x80 size []) >>= λ ss. given (map pos (source_line ss)))

-- "Raise the highest source position and end to 1,099,511,627,775": an end and an offset there are read, and one more
-- is 23
abbrev highest_read : Example
highest_read =
    let of : ℕ → ℕ → List ℤ = λ start. source_of (version1 0 start) in
    record {
      defined = of 1_099_511_627_770 5 ++ (of 1_099_511_627_775 0 ++ (of 1_099_511_627_770 6 ++ of 1_099_511_627_776 0));
      paper = map pos (ascii "source\t1099511627775\topen\nsource\t1099511627775\topen\n" ++ (23 ∷ 23 ∷ []));
    }

-- 5.1.4.2: the highest offset of 32 bits in both forms, and the next in 64 bits
abbrev both_forms : Example
both_forms =
    record {
      defined = source_of (version0 1 4_294_967_295) 0 ++ (source_of (version1 1 4_294_967_295) 0 ++ source_of (version1 1 4_294_967_296) 0);
      paper = map pos (ascii "source\t4294967295\tclosed\nsource\t4294967295\tclosed\nsource\t4294967296\tclosed\n");
    }

-- a byte past 4 GiB is served
abbrev served_far : Example
served_far =
    let f = begun_bytes ++ carrying (version1 0 4_294_967_296) 0x40 (81 ∷ 82 ∷ []) in
    record {
      defined = says (reading source_limit f >>= λ ss. given (pos (unwrap_or (served f ss 4_294_967_297) 0) ∷ []));
      paper = pos 82 ∷ [];
    }

-- a segment of a source with these URLs and that number, of so many lost bytes from 0 on, with flags
abbrev segment_with : List (List ℕ) → ℕ → ℕ → ℕ → Segment
segment_with urls source flags size =
    record {
      place = 0;
      inner = [];
      urls = urls;
      source = source;
      source_offset = 0;
      flags = flags;
      repair_time = 0;
      header_place = 0;
      header_length = 0;
      chunks = record { start = 0; size = size; state = lost; place = 0 } ∷ [];
    }

-- the numbers of the sources of segments with these lists of URLs, each beside those before it
abbrev numbers_of : List Segment → List (List (List ℕ)) → List ℤ
numbers_of before [] = map (λ s. pos s.source) before
numbers_of before (us ∷ more) = numbers_of (before ++ (segment_with us (source_beside before us) 0 0 ∷ [])) more

-- document 02, [8]: numbers in order of first appearance, by whole lists of whole URLs
abbrev sources_numbered : Example
sources_numbered =
    let a = ascii "a" in
    let b = ascii "b" in
    record {
      defined = numbers_of [] ((a ∷ []) ∷ (b ∷ a ∷ []) ∷ (a ∷ []) ∷ (b ∷ []) ∷ (a ∷ b ∷ []) ∷ (ascii "ab" ∷ []) ∷ (b ∷ []) ∷ []);
      paper = map pos (0 ∷ 1 ∷ 0 ∷ 2 ∷ 3 ∷ 4 ∷ 2 ∷ []);
    }

-- a source may end above the known size of another, and not above its own
abbrev sizes_per_source : Example
sizes_per_source =
    let a = ascii "a" ∷ [] in
    let b = ascii "b" ∷ [] in
    let others = segment_with a 0 1 4 ∷ segment_with b 1 1 9 ∷ [] in
    record {
      defined = map (λ ss. elim (agreed ss) [ true ↦ pos 1 | false ↦ pos 0 ]) (others ∷ (others ++ (segment_with b 1 0 10 ∷ [])) ∷ []);
      paper = pos 1 ∷ pos 0 ∷ [];
    }

-- the lists of each source, and those of a number that is not in the file
abbrev lists_per_source : Example
lists_per_source =
    let ss = segment_with (ascii "a" ∷ []) 0 1 4 ∷ segment_with (ascii "b" ∷ []) 1 0 9 ∷ segment_with (ascii "a" ∷ []) 0 0 3 ∷ [] in
    record {
      defined = map pos (missing_rows 0 ss ++ (missing_rows 1 ss ++ ((summary 2 ss).described ∷ missing_rows 2 ss)));
      paper = map pos (0 ∷ 4 ∷ 0 ∷ 9 ∷ 0 ∷ []);
    }

-- the map of two sources, whose segments alternate: the lines of the one, then those of the other
abbrev map_per_source : Example
map_per_source =
    let ss = segment_with (ascii "b" ∷ []) 0 0 3 ∷ segment_with (ascii "a" ∷ []) 1 1 2 ∷ segment_with (ascii "b" ∷ []) 0 1 4 ∷ [] in
    record {
      defined = map pos (map_of ss);
      paper = map pos (ascii "source\t4\tclosed\nlost\t0\t4\ntotal\t0\t0\t4\nsource\t2\tclosed\nlost\t0\t2\ntotal\t0\t0\t2\n");
    }

unfoldable pub table : List Example
table =
    P1 ∷ P2 ∷ P3 ∷ P4 ∷ P5 ∷ P6 ∷ P7 ∷ P9 ∷ P10 ∷ P11 ∷ P12 ∷
    missmap10 ∷ missmap11 ∷ rows_fit ∷ rows_short ∷ ahead ∷ over_header ∷ damaged_bytes ∷ open_last ∷ other_flags ∷ first_texts ∷
    vendor_forms ∷ large_vendor_forms ∷ boxes3 ∷ broken_boxes ∷
    whole_served ∷ not_whole ∷ by_brand ∷ elsewhere_read ∷ elsewhere_missing ∷
    highest_read ∷ both_forms ∷ served_far ∷
    map10 ∷ map_named ∷ map_under ∷
    sources_numbered ∷ sizes_per_source ∷ lists_per_source ∷ map_per_source ∷ []

-- at every row the definitions say what the paper says
abbrev pub AsThePaperSays : Type 0
AsThePaperSays = map (λ e. e.defined) table ≡ map (λ e. e.paper) table

-- "The map program takes at most 65,536 bytes": those are read, and one more is 27, whatever they are
pub record AtTheProgramLimit (of : List Segment → List ℕ) : Type 0 where
  pub taken :
      (input : List ℕ) (n : ℕ)
      → length input ≡ 65_536
      → reading source_limit input ≡ refused n
      → text_for of source_limit program_limit input ≡ refused_line n
  pub over : (input : List ℕ) → length input ≡ 65_537 → text_for of source_limit program_limit input ≡ ascii "refused\t27\n"
