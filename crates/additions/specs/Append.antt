-- Document 01, "Append", and document 02, [8]: the bytes that it writes, the segment that they say, and its refusals in
-- order.
use Rattle.std.specs.Prelude.{ℕ, ◌+◌, ◌*◌, Bool, true, false, ◌&&◌, List, [], ◌∷◌, ◌++◌, map, length, take, leb, ltb}
use Rattle.std.specs.Prelude.{unwrap_or}
use Rattle.boxes.specs.Answer.{Answer, given, ◌>>=◌, hold}
use Rattle.numerals.specs.Numbers.{bytes_of, twos_complement, holds, holds_offset, least_width}
use Rattle.boxes.specs.Framing.{Box, front_size, boxed, boxed_at, box_limit}
use Rattle.boxes.specs.Kinds.{pseg, pshd, ploc, pdat, surl}
use Rattle.numerals.specs.declared.numbers.Offset.{Offset}
use Rattle.numerals.specs.declared.numbers.Offset.TheVariants.{Ahead, Back}
use Rattle.partial.specs.Limits.{file_limit, segment_limit, chunk_limit, layer_limit}
use Rattle.partial.specs.Sequences.{some_of, all_of}
use Rattle.partial.specs.Segments.{Chunk, Segment, present, corrupted, has_place, end_of, chunks_of}
use Rattle.partial.specs.Heading.{Heading, heading}
use Rattle.partial.specs.Entries.{offset_place}
use Rattle.partial.specs.Sources.{urls_for, source_count, source_beside, agreed}
use Rattle.partial.specs.Reading.{offset_width_of, earlier_segments}
use Rattle.partial.specs.Index.{indexed}
use Rattle.additions.specs.Begin.{version_and_flags, surl_body, surl_box, is_text}
use Rattle.partial.specs.Mixed.{boxes_many}
use Rattle.partial.specs.Texts.{Surl}
use Rattle.additions.specs.Addition.{Addition, flags_for, Item, items, lists_right, size_of, bytes_right, surls, goes_out, goes_in, data_for, outside_right}

-- the data that goes into `pdat`, and that of the chunks outside, each in chunk order
unfoldable pub inside_data : Addition → List ℕ
inside_data a = data_for (goes_in a.outside) (items a.list) a.bytes

unfoldable pub outside_data : Addition → List ℕ
outside_data a = data_for (goes_out a.outside) (items a.list) a.bytes

-- whether there is a `pdat`: the data of some chunk goes there
unfoldable pub any_inside : Addition → Bool
any_inside a = some_of (goes_in a.outside) (items a.list)

-- one `pdat` with the data that goes there, if any does
unfoldable pub data_box : Addition → List ℕ
data_box a = elim (any_inside a) [ true ↦ boxed pdat.code (inside_data a) | false ↦ [] ]

-- all that stands before the `pseg`: that `pdat`, then the chunks outside
unfoldable pub stored : Addition → List ℕ
stored a = data_box a ++ outside_data a

-- how many boxes append adds to the file: that `pdat`, the boxes outside, and the `pseg`
unfoldable pub added_boxes : Addition → ℕ
added_boxes a = (elim (any_inside a) [ true ↦ 1 | false ↦ 0 ]) + boxes_many (outside_data a) + 1

-- an item with the offset of its data from the first byte of the `pseg` box, 0 where it has no data
pub record Placed : Type 0 where
  pub size : ℕ
  pub state : ℕ
  pub offset : Offset

-- how far before the `pseg` the data of the first of some items lies, as many bytes as there are from it on: behind the
-- data in `pdat` stand so many bytes outside
unfoldable pub back : Bool → ℕ → Item → List Item → ℕ
back outside out i is =
    elim (goes_out outside i) [
      | true ↦ size_of (goes_out outside) (i ∷ is)
      | false ↦ size_of (goes_in outside) (i ∷ is) + out
    ]

-- items of which so many bytes stand outside, with their offsets
unfoldable pub placed_with : Bool → ℕ → List Item → List Placed
placed_with outside out [] = []
placed_with outside out (i ∷ is) =
    record {
      size = i.size;
      state = i.state;
      offset = elim (present i.state) [ true ↦ Back (back outside out i is) | false ↦ Ahead 0 ];
    }
    ∷ placed_with outside out is

-- the items of a chunk list with their offsets
unfoldable pub placed : Bool → List Item → List Placed
placed outside is = placed_with outside (size_of (goes_out outside) is) is

-- `length_size`: the least that holds every size
unfoldable pub length_size_of : List Placed → ℕ
length_size_of ps = least_width (λ w. all_of (λ p. holds w p.size) ps)

-- `offset_size`: the least that holds every offset, 0 when there is none
unfoldable pub offset_size_of : List Placed → ℕ
offset_size_of ps = least_width (λ w. all_of (λ p. holds_offset w p.offset) ps)

-- bit corrupted, bit present, six zero bits
unfoldable pub flag_byte : ℕ → ℕ
flag_byte state = (elim (corrupted state) [ true ↦ 128 | false ↦ 0 ]) + (elim (present state) [ true ↦ 64 | false ↦ 0 ])

-- the entries of a `ploc` with these widths: flags, size and, where present, offset
unfoldable pub entry_bytes : ℕ → ℕ → List Placed → List ℕ
entry_bytes l o [] = []
entry_bytes l o (p ∷ ps) =
    flag_byte p.state
    ∷ (bytes_of l p.size ++ (elim (present p.state) [ true ↦ bytes_of o (twos_complement o p.offset) | false ↦ [] ] ++ entry_bytes l o ps))

-- version 0, flags 0, the two widths, data reference index 0, `chunk_count`, the entries
unfoldable pub ploc_body : List Placed → List ℕ
ploc_body ps =
    let l = length_size_of ps in
    let o = offset_size_of ps in
    version_and_flags ++ ((l * 16 + o) ∷ (bytes_of 2 0 ++ (bytes_of 2 (length ps) ++ entry_bytes l o ps)))

-- the writer's form of `pshd`: version 0 where 32 bits hold the offset, else version 1
unfoldable pub version_for : ℕ → ℕ
version_for offset = elim (holds 4 offset) [ true ↦ 0 | false ↦ 1 ]

-- version, flags, `source_byte_offset`, `last_repair_time`
unfoldable pub pshd_body : Addition → List ℕ
pshd_body a =
    let version = version_for a.source_offset in
    version ∷ (bytes_of 3 (flags_for a.last) ++ (bytes_of (offset_width_of version) a.source_offset ++ bytes_of 8 a.repair_time))

-- `surl` boxes with these texts, in their order
unfoldable pub surl_boxes : List Surl → List ℕ
surl_boxes [] = []
surl_boxes (s ∷ ss) = surl_box s.url s.mime ++ surl_boxes ss

-- the body of the `pseg`: `pshd`, `ploc`, and after it the `surl` boxes
unfoldable pub pseg_body : Addition → List ℕ
pseg_body a =
    boxed pshd.code (pshd_body a)
    ++ (boxed ploc.code (ploc_body (placed a.outside (items a.list))) ++ surl_boxes (surls a))

-- how many boxes the `pseg` holds
unfoldable pub inner_boxes : Addition → ℕ
inner_boxes a = 2 + length (surls a)

-- what append adds to a file: the data, then the `pseg`
unfoldable pub added : Addition → List ℕ
added a = stored a ++ boxed pseg.code (pseg_body a)

-- the place of that `pseg` in a file that had n bytes
unfoldable pub pseg_place : ℕ → Addition → ℕ
pseg_place n a = n + length (stored a)

-- the chunks that placed items tell of, from a source position on, of a `pseg` at a place
unfoldable pub new_chunks : ℕ → ℕ → List Placed → List Chunk
new_chunks at start [] = []
new_chunks at start (p ∷ ps) =
    record {
      start = start;
      size = p.size;
      state = p.state;
      place = elim (has_place p.state p.size) [ true ↦ unwrap_or (offset_place at p.offset) 0 | false ↦ 0 ];
    }
    ∷ new_chunks at (start + p.size) ps

-- those `surl` boxes, from a place on
unfoldable pub surls_at : ℕ → List Surl → List Box
surls_at at [] = []
surls_at at (s ∷ ss) =
    let n = length (surl_body s.url s.mime) in
    boxed_at at surl.code n ∷ surls_at (at + (front_size + n)) ss

-- the boxes inside a new `pseg` at a place: its `pshd`, its `ploc` and its `surl` boxes
unfoldable pub new_inner : ℕ → Addition → List Box
new_inner at a =
    let pshdAt = at + front_size in
    let pshdSize = length (pshd_body a) in
    let plocAt = pshdAt + (front_size + pshdSize) in
    let plocSize = length (ploc_body (placed a.outside (items a.list))) in
    boxed_at pshdAt pshd.code pshdSize ∷ boxed_at plocAt ploc.code plocSize ∷ surls_at (plocAt + (front_size + plocSize)) (surls a)

-- the URLs of the source that an addition goes to: its own, or those of `pfil` where it has none
unfoldable pub new_urls : Heading → Addition → List (List ℕ)
new_urls h a = urls_for (map (λ s. s.url) (surls a)) h.urls

-- the segment that an addition makes beside those of a file with that heading, its `pseg` at a place; the body of its
-- `pshd` stands after two headers
unfoldable pub new_segment : Heading → List Segment → ℕ → Addition → Segment
new_segment h before at a =
    record {
      place = at;
      inner = new_inner at a;
      urls = new_urls h a;
      source = source_beside before (new_urls h a);
      source_offset = a.source_offset;
      flags = flags_for a.last;
      repair_time = a.repair_time;
      header_place = at + front_size + front_size;
      header_length = length (pshd_body a);
      chunks = new_chunks at a.source_offset (placed a.outside (items a.list));
    }

-- 13, 41, 22, 23, 25, 40: a segment beside those before it; the segments with it
unfoldable pub admitted : ℕ → List Segment → Segment → Answer (List Segment)
admitted limit before s = do
  _ ← hold 13 (leb (length before + 1) segment_limit)
  _ ← hold 41 (ltb 0 (length s.urls))
  _ ← hold 22 (leb (length (chunks_of before) + length s.chunks) chunk_limit)
  _ ← hold 23 (leb (end_of s) limit)
  _ ← hold 25 (agreed (before ++ (s ∷ [])))
  _ ← hold 40 (leb (source_count (before ++ (s ∷ []))) layer_limit)
  given (before ++ (s ∷ []))

-- 1, 6, 13, 41, 22, 23, 25 or 40 if the result would have it, 6 also of the new `pseg` itself; else the result's
-- segments
unfoldable pub admission : ℕ → Heading → List Segment → ℕ → Addition → Answer (List Segment)
admission limit h ss n a = do
  _ ← hold 1 (leb (n + length (added a)) file_limit)
  _ ← hold 6 (leb (length h.boxes + added_boxes a) box_limit && leb (inner_boxes a) box_limit)
  admitted limit ss (new_segment h ss (pseg_place n a) a)

-- what append answers for the first n bytes of a buffer: its refusals in order, or the length of the result; 36, 37 and
-- 39 are those of the file's own index beside the result's segments, of which the new one has none. The buffer is left
-- as `written` says, by `result`
unfoldable pub appended : ℕ → List ℕ → ℕ → Addition → Answer ℕ
appended limit buffer n a = do
  _ ← hold 30 (leb n (length buffer))
  let f = take n buffer
  h ← heading f
  ss ← earlier_segments limit f
  _ ← hold 31 (lists_right a)
  _ ← hold 32 (bytes_right a)
  _ ← hold 35 (outside_right h a)
  _ ← hold 34 (is_text a.texts)
  ts ← admission limit h ss n a
  _ ← indexed limit f h ts
  let size = n + length (added a)
  _ ← hold 33 (leb size (length buffer))
  given size

-- the result of append on the first n bytes of a buffer: earlier bytes keep their values
unfoldable pub result : List ℕ → ℕ → Addition → List ℕ
result buffer n a = take n buffer ++ added a
