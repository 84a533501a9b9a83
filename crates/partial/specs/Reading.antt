-- Document 01, refusals 12 to 25, and document 02, [8], 41 among them and 40 after them, and [7], 36 to 39 after that:
-- the segments of a file, each read beside those before it.
use Rattle.std.specs.Prelude.{ℕ, ◌+◌, ◌-◌, Bool, true, false, ◌&&◌, List, [], ◌∷◌, ◌++◌, length, leb, ltb, eqb}
use Rattle.boxes.specs.Answer.{Answer, given, ◌>>=◌, hold}
use Rattle.numerals.specs.Numbers.{number}
use Rattle.boxes.specs.Framing.{Box, boxes_in}
use Rattle.boxes.specs.declared.kinds.Container.TheVariants.{File, Pseg}
use Rattle.boxes.specs.Kinds.{pseg, pshd, ploc, is, right, those, box_at, first_of}
use Rattle.partial.specs.Limits.{segment_limit, chunk_limit, layer_limit}
use Rattle.partial.specs.Segments.{Segment, chunks_of}
use Rattle.partial.specs.Heading.{Heading, heading, surl_right, urls_in}
use Rattle.partial.specs.Entries.{ploc_head, chunks_from}
use Rattle.partial.specs.Sources.{urls_for, source_count, source_beside, agreed}
use Rattle.partial.specs.Index.{indexed}

-- 5.1.4.2: the bytes of `source_byte_offset`, 32 bits in version 0 and 64 in every other
unfoldable pub offset_width_of : ℕ → ℕ
offset_width_of version = elim (eqb version 0) [ true ↦ 4 | false ↦ 8 ]

-- the fields of a `pshd`
pub record Pshd : Type 0 where
  pub flags : ℕ
  pub source_offset : ℕ
  pub repair_time : ℕ
  pub end : ℕ

-- 5.1.4.2: version, flags, `source_byte_offset`, `last_repair_time` of 64 bits, and where that ends
unfoldable pub pshd_fields : List ℕ → Box → Pshd
pshd_fields f b =
    let width = offset_width_of (number f b.body 1) in
    record {
      flags = number f (b.body + 1) 3;
      source_offset = number f (b.body + 4) width;
      repair_time = number f (b.body + 4 + width) 8;
      end = b.body + 4 + width + 8;
    }

-- 14: `pshd` is first, single, and as 5.1.4.2, with nothing more
unfoldable pub pshd_right : List ℕ → List Box → Bool
pshd_right f bs =
    let b = box_at 0 bs in
    is pshd b && right Pseg pshd bs && eqb (pshd_fields f b).end b.end

-- the step: one `pseg` box of the file, beside the segments before it
unfoldable pub segment : ℕ → List ℕ → Heading → List Segment → Box → Answer Segment
segment limit f h before b = do
  inner ← boxes_in Pseg f b.body b.end
  _ ← hold 14 (pshd_right f inner)
  _ ← hold 15 (right Pseg ploc inner)
  _ ← hold 16 (surl_right f inner)
  let urls = urls_for (urls_in f inner) h.urls
  _ ← hold 41 (ltb 0 (length urls))
  l ← ploc_head f (first_of ploc inner)
  _ ← hold 22 (leb (length (chunks_of before) + l.count) chunk_limit)
  let header = first_of pshd inner
  let fields = pshd_fields f header
  _ ← hold 23 (leb fields.source_offset limit)
  chunks ← chunks_from limit f h b.at l l.count (record { at = l.first; start = fields.source_offset })
  given
      (record {
        place = b.at;
        inner = inner;
        urls = urls;
        source = source_beside before urls;
        source_offset = fields.source_offset;
        flags = fields.flags;
        repair_time = fields.repair_time;
        header_place = header.body;
        header_length = header.end - header.body;
        chunks = chunks;
      })

-- the segments of these `pseg` boxes, in file order, after those before them
unfoldable pub segments_from : ℕ → List ℕ → Heading → List Segment → List Box → Answer (List Segment)
segments_from limit f h before [] = given before
segments_from limit f h before (b ∷ bs) = do
  s ← segment limit f h before b
  segments_from limit f h (before ++ (s ∷ [])) bs

-- stages 13 to 25, then 40: no ninth source
unfoldable pub segments : ℕ → List ℕ → Heading → Answer (List Segment)
segments limit f h = do
  let psegs = those pseg h.boxes
  _ ← hold 13 (leb (length psegs) segment_limit)
  ss ← segments_from limit f h [] psegs
  _ ← hold 25 (agreed ss)
  _ ← hold 40 (leb (source_count ss) layer_limit)
  given ss

-- all stages: 1 to 25 and 40, then the index, which changes nothing of the segments
unfoldable pub reading : ℕ → List ℕ → Answer (List Segment)
reading limit f = do
  h ← heading f
  _ ← hold 12 (right File pseg h.boxes)
  ss ← segments limit f h
  _ ← indexed limit f h ss
  given ss

-- the segments of a file that append takes: those of an acceptable file, or, of one whose only refusal is 12, none,
-- since it counts as serving nothing
unfoldable pub earlier_segments : ℕ → List ℕ → Answer (List Segment)
earlier_segments limit f = do
  h ← heading f
  elim (right File pseg h.boxes) [ true ↦ reading limit f | false ↦ given [] ]
