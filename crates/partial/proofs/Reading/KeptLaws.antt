-- What is put behind a file changes no segment that was read from it: a segment is read from the bytes of its own box,
-- and where a chunk may lie there it may lie in the longer file.
use Prim.Native.Nat.{ℕ, zero, suc, ◌+◌, ◌-◌, ◌/◌, ◌%◌, ◌≤◌}
use mathlib.Core.Bool.{Bool, true, false, ◌&&◌}
use mathlib.Core.List.{List, [], ◌∷◌, ◌++◌}
use Rattle.std.specs.Prelude.{Option, None, Some}
use mathlib.Core.Path.{◌≡◌, refl, sym, ap, subst, ◌∙◌}
use native.Mathlib.Omega.{arith}
use borrow.Author.Tests.{leb-true, ltb-true, eqb-true}
use lib.Dec.{leb, ltb, eqb, lit<}
use lib.ListN.{length, get_or, get_or-append}
use Rattle.boxes.specs.Answer.{Answer, refused, given, ◌>>=◌, hold}
use Rattle.numerals.specs.Numbers.{number}
use Rattle.boxes.specs.Framing.{Box, boxes_in}
use Rattle.boxes.specs.Kinds.{pseg, pshd, ploc, is, right, those, box_at, first_of}
use Rattle.boxes.specs.declared.kinds.Container.TheVariants.{Pseg}
use Rattle.boxes.proofs.AnswerLaws.{both_given, held, given_same}
use Rattle.boxes.proofs.ContainerLaws.{boxes_kept}
use Rattle.numerals.proofs.NumberLaws.{number_append}
use Rattle.boxes.proofs.KindLaws.{is_there, right_one, first_is}
use Rattle.partial.specs.Limits.{segment_limit, chunk_limit, layer_limit}
use Rattle.partial.specs.Sequences.{all_of}
use Rattle.partial.specs.Segments.{Chunk, Segment, present, chunks_of, has_place}
use Rattle.partial.specs.Heading.{Heading, surl_right, urls_in}
use Rattle.partial.specs.Entries.{Ploc, Entry, ploc_head, state_of, entry, may_lie, offset_place, place_of, chunks_from, chunk_step, Cursor}
use Rattle.partial.specs.Sources.{urls_for, source_count, source_beside, agreed}
use Rattle.partial.specs.Reading.{offset_width_of, pshd_fields, pshd_right, segment, segments_from, segments}
use Rattle.partial.proofs.Meaning.SequenceLaws.{both, all_append}
use Rattle.partial.proofs.Reading.HeadingAppendLaws.{lies, lies_ends, boxes_lie, all_box_at, further_lie, first_lies, surl_right_kept, urls_kept}

-- what the step tests, of the boxes, the `ploc` and the chunks that it finds
pub record Stepped (limit : ℕ) (f : List ℕ) (h : Heading) (before : List Segment) (b : Box) (inner : List Box) (l : Ploc) (cs : List Chunk) : Type 0 where
  pub boxes : boxes_in Pseg f b.body b.end ≡ given inner
  pub header : pshd_right f inner ≡ true
  pub single : right Pseg ploc inner ≡ true
  pub formed : surl_right f inner ≡ true
  pub listed : ltb 0 (length (urls_for (urls_in f inner) h.urls)) ≡ true
  pub head : ploc_head f (first_of ploc inner) ≡ given l
  pub few : leb (length (chunks_of before) + l.count) chunk_limit ≡ true
  pub low : leb (pshd_fields f (first_of pshd inner)).source_offset limit ≡ true
  pub chunks : chunks_from limit f h b.at l l.count (record { at = l.first; start = (pshd_fields f (first_of pshd inner)).source_offset }) ≡ given cs

-- the segment that it then gives
abbrev pub found : List ℕ → Heading → List Segment → Box → List Box → List Chunk → Segment
found f h before b inner cs =
    record {
      place = b.at;
      inner = inner;
      urls = urls_for (urls_in f inner) h.urls;
      source = source_beside before (urls_for (urls_in f inner) h.urls);
      source_offset = (pshd_fields f (first_of pshd inner)).source_offset;
      flags = (pshd_fields f (first_of pshd inner)).flags;
      repair_time = (pshd_fields f (first_of pshd inner)).repair_time;
      header_place = (first_of pshd inner).body;
      header_length = (first_of pshd inner).end - (first_of pshd inner).body;
      chunks = cs;
    }

module _ (limit : ℕ) (f : List ℕ) (h : Heading) (before : List Segment) (b : Box) where
  pub segment-of : {inner : List Box} {l : Ploc} {cs : List Chunk} → Stepped limit f h before b inner l cs → segment limit f h before b ≡ given (found f h before b inner cs)
  unfolding segment
  segment-of t = rw (t.boxes, t.header, t.single, t.formed, t.listed, t.head, t.few, t.low, t.chunks)

  pub stepped : {s : Segment} → segment limit f h before b ≡ given s
      → (inner : List Box) × (l : Ploc) × (cs : List Chunk) × Stepped limit f h before b inner l cs × (found f h before b inner cs ≡ s)
  unfolding segment
  stepped e =
      let (inner, boxes, e1) = both_given (boxes_in Pseg f b.body b.end) _ e in
      let (header, e2) = held 14 (pshd_right f inner) _ e1 in
      let (single, e3) = held 15 (right Pseg ploc inner) _ e2 in
      let (formed, e4) = held 16 (surl_right f inner) _ e3 in
      let (listed, e5) = held 41 (ltb 0 (length (urls_for (urls_in f inner) h.urls))) _ e4 in
      let (l, head, e6) = both_given (ploc_head f (first_of ploc inner)) _ e5 in
      let (few, e7) = held 22 (leb (length (chunks_of before) + l.count) chunk_limit) _ e6 in
      let start = (pshd_fields f (first_of pshd inner)).source_offset in
      let (low, e8) = held 23 (leb start limit) _ e7 in
      let (cs, chunks, e9) = both_given (chunks_from limit f h b.at l l.count (record { at = l.first; start = start })) _ e8 in
      (inner, l, cs, record { boxes = boxes; header = header; single = single; formed = formed; listed = listed; head = head; few = few; low = low; chunks = chunks }, given_same {a = found f h before b inner cs} e9)

-- what stages 13 to 25 and 40 test, of the segments that they give
pub record Segmented (limit : ℕ) (f : List ℕ) (h : Heading) (ss : List Segment) : Type 0 where
  pub few : leb (length (those pseg h.boxes)) segment_limit ≡ true
  pub read : segments_from limit f h [] (those pseg h.boxes) ≡ given ss
  pub agree : agreed ss ≡ true
  pub layers : leb (source_count ss) layer_limit ≡ true

module _ (limit : ℕ) (f : List ℕ) (h : Heading) where
  pub segments-of : {ss : List Segment} → Segmented limit f h ss → segments limit f h ≡ given ss
  unfolding segments
  segments-of t = rw (t.few, t.read, t.agree, t.layers)

  pub segmented : {ss : List Segment} → segments limit f h ≡ given ss → Segmented limit f h ss
  unfolding segments
  segmented e =
      let (few, e1) = held 13 (leb (length (those pseg h.boxes)) segment_limit) _ e in
      let (ss, read, e2) = both_given (segments_from limit f h [] (those pseg h.boxes)) _ e1 in
      let (agree, e3) = held 25 (agreed ss) _ e2 in
      let (layers, same) = held 40 (leb (source_count ss) layer_limit) _ e3 in
      subst (Segmented limit f h) (given_same same) (record { few = few; read = read; agree = agree; layers = layers })

module _ (f g : List ℕ) where
  -- the fields of a `pshd`
  pub pshd_kept : (b : Box) → (pshd_fields f b).end ≤ length f → pshd_fields (f ++ g) b ≡ pshd_fields f b
  unfolding pshd_fields
  pshd_kept b room =
      let width = offset_width_of (number f b.body 1) in
      rw (
        number_append f g b.body 1 (omega arith),
        number_append f g (b.body + 1) 3 (omega arith),
        number_append f g (b.body + 4) width (omega arith),
        number_append f g (b.body + 4 + width) 8 (omega arith),
      )

  pshd_right_kept : (bs : List Box) → all_of (lies (length f)) bs ≡ true → pshd_right f bs ≡ true
      → (first_of pshd bs ≡ box_at 0 bs) × (pshd_fields (f ++ g) (box_at 0 bs) ≡ pshd_fields f (box_at 0 bs)) × (pshd_right (f ++ g) bs ≡ true)
  unfolding pshd_right
  pshd_right_kept bs l e =
      let b = box_at 0 bs in
      let (two, whole) = both (is pshd b && right Pseg pshd bs) (eqb (pshd_fields f b).end b.end) e in
      let (kind, single) = both (is pshd b) (right Pseg pshd bs) two in
      let there = is_there pshd (lit< tt) 0 bs kind in
      let end-inside = lies_ends (length f) b (all_box_at (lies (length f)) bs 0 there l) in
      let ends : (pshd_fields f b).end ≡ b.end = eqb-true (pshd_fields f b).end b.end whole in
      let same = pshd_kept b (omega arith) in
      (first_is pshd (lit< tt) bs kind, same, rw same e)

  -- the head of a `ploc`
  pub ploc_kept : (b : Box) (l : Ploc) → b.end ≤ length f → ploc_head f b ≡ given l → (ploc_head (f ++ g) b ≡ given l) × (l.end ≡ b.end)
  unfolding ploc_head
  ploc_kept b l ends e =
      let (head, e1) = held 17 (leb (b.body + 9) b.end && eqb (number f b.body 4) 0) _ e in
      let room : b.body + 9 ≤ b.end = leb-true (b.body + 9) b.end (both (leb (b.body + 9) b.end) (eqb (number f b.body 4) 0) head).0 in
      let widths = number f (b.body + 4) 1 in
      let (known, e2) = held 18 (leb (widths / 16) 8 && leb (widths % 16) 8) _ e1 in
      let (own, e3) = held 19 (eqb (number f (b.body + 5) 2) 0) _ e2 in (
        rw (
          number_append f g b.body 4 (omega arith),
          number_append f g (b.body + 4) 1 (omega arith),
          number_append f g (b.body + 5) 2 (omega arith),
          number_append f g (b.body + 7) 2 (omega arith),
        ) e,
        ap (λ (p : Ploc). p.end) (sym (given_same e3)),
      )

  entry_kept : (l : Ploc) (at : ℕ) (x : Entry) → l.end ≤ length f → entry f l at ≡ given x → entry (f ++ g) l at ≡ given x
  unfolding entry
  entry_kept l at x ends e =
      let (more, e1) = held 17 (ltb at l.end) _ e in
      let inside = ltb-true at l.end more in
      let (s, read, e2) = both_given (state_of (get_or f at 0)) _ e1 in
      let width : ℕ = elim (present s) [ true ↦ l.offset_size | false ↦ 0 ] in
      let (fits, e3) = held 17 (leb (at + 1 + l.length_size + width) l.end) _ e2 in
      let room = leb-true (at + 1 + l.length_size + width) l.end fits in
      rw (more, get_or-append f g 0 at (omega arith), read, fits, number_append f g (at + 1) l.length_size (omega arith), number_append f g (at + 1 + l.length_size) width (omega arith)) e3

  -- where a chunk may lie, it may lie in the longer file, which has the same URLs
  module _ (h k : Heading) (urls_same : k.urls ≡ h.urls) (grows : (state place size : ℕ) → may_lie h state place size ≡ true → may_lie k state place size ≡ true) where
    place_kept : (pseg : ℕ) (x : Entry) (p : ℕ) → place_of h pseg x ≡ given p → place_of k pseg x ≡ given p
    unfolding place_of
    place_kept pseg x p = by_test (has_place x.state x.size)
      where
        by_offset : (o : Option ℕ)
            → ◌≡◌ {A = Answer ℕ} (elim o [ None ↦ refused 24 | Some place ↦ hold 24 (may_lie h x.state place x.size) >>= λ _. given place ]) (given p)
            → ◌≡◌ {A = Answer ℕ} (elim o [ None ↦ refused 24 | Some place ↦ hold 24 (may_lie k x.state place x.size) >>= λ _. given place ]) (given p)
        by_offset None e = e
        by_offset (Some place) e =
            let (lies-there, e1) = held 24 (may_lie h x.state place x.size) _ e in
            rw (grows x.state place x.size lies-there) e1

        by_test : (t : Bool)
            → ◌≡◌ {A = Answer ℕ} (elim t [
              | true ↦ elim (offset_place pseg x.offset) [ None ↦ refused 24 | Some place ↦ hold 24 (may_lie h x.state place x.size) >>= λ _. given place ]
              | false ↦ given 0
            ]) (given p)
            → ◌≡◌ {A = Answer ℕ} (elim t [
              | true ↦ elim (offset_place pseg x.offset) [ None ↦ refused 24 | Some place ↦ hold 24 (may_lie k x.state place x.size) >>= λ _. given place ]
              | false ↦ given 0
            ]) (given p)
        by_test true e = by_offset (offset_place pseg x.offset) e
        by_test false e = e

    step_kept : (limit pseg : ℕ) (l : Ploc) → l.end ≤ length f → (c : Cursor) (met : Chunk × Cursor) → chunk_step limit f h pseg l c ≡ given met
        → chunk_step limit (f ++ g) k pseg l c ≡ given met
    unfolding chunk_step
    step_kept limit pseg l ends c met e =
        let (x, read, e1) = both_given (entry f l c.at) _ e in
        let (low, e2) = held 23 (leb (c.start + x.size) limit) _ e1 in
        let (p, place, e3) = both_given (place_of h pseg x) _ e2 in
        rw (entry_kept l c.at x ends read, low, place_kept pseg x p place) e3

    chunks_kept : (limit pseg : ℕ) (l : Ploc) → l.end ≤ length f → (more : ℕ) (c : Cursor) (cs : List Chunk)
        → chunks_from limit f h pseg l more c ≡ given cs
        → chunks_from limit (f ++ g) k pseg l more c ≡ given cs
    unfolding chunks_from
    chunks_kept limit pseg l ends zero c cs e = e
    chunks_kept limit pseg l ends (suc more) c cs e =
        let (met, read, e1) = both_given (chunk_step limit f h pseg l c) _ e in
        let (rest, others, e2) = both_given (chunks_from limit f h pseg l more met.1) _ e1 in
        rw (step_kept limit pseg l ends c met read, chunks_kept limit pseg l ends more met.1 rest others) e2

    pub segment_kept : (limit : ℕ) (before : List Segment) (b : Box) (s : Segment) → b.end ≤ length f
        → segment limit f h before b ≡ given s
        → segment limit (f ++ g) k before b ≡ given s
    segment_kept limit before b s ends e =
        let (inner, l, cs, t, same) = stepped limit f h before b e in
        let lie = further_lie b.end (length f) ends inner (boxes_lie Pseg f b.body b.end inner t.boxes) in
        let (first, fields, header) = pshd_right_kept inner lie t.header in
        let one = right_one Pseg ploc inner refl t.single in
        let ploc-ends = lies_ends (length f) (first_of ploc inner) (first_lies (length f) ploc inner (omega arith) lie) in
        let (head, End-same) = ploc_kept (first_of ploc inner) l ploc-ends t.head in
        let same-fields : pshd_fields (f ++ g) (first_of pshd inner) ≡ pshd_fields f (first_of pshd inner) = rw first fields in
        let there : Stepped limit (f ++ g) k before b inner l cs = record {
          boxes = boxes_kept f g b.end ends Pseg b.body ∙ t.boxes;
          header = header;
          single = t.single;
          formed = surl_right_kept f g inner t.formed lie;
          listed = rw (urls_kept f g inner lie, urls_same) t.listed;
          head = head;
          few = t.few;
          low = rw same-fields t.low;
          chunks = rw same-fields (chunks_kept limit b.at l (omega arith) l.count (record { at = l.first; start = (pshd_fields f (first_of pshd inner)).source_offset }) cs t.chunks);
        } in
        segment-of limit (f ++ g) k before b there ∙ rw (same-fields, urls_kept f g inner lie, urls_same) (ap given same)

    -- the segments of boxes that lie in the file
    pub segments_kept : (limit : ℕ) (bs : List Box) (before ss : List Segment) → all_of (lies (length f)) bs ≡ true
        → segments_from limit f h before bs ≡ given ss
        → segments_from limit (f ++ g) k before bs ≡ given ss
    unfolding segments_from all_of
    segments_kept limit [] before ss l e = e
    segments_kept limit (b ∷ bs) before ss l e =
        let (s, read, e1) = both_given (segment limit f h before b) _ e in
        let (here, there) = both (lies (length f) b) (all_of (lies (length f)) bs) l in
        rw (segment_kept limit before b s (lies_ends (length f) b here) read) (segments_kept limit bs (before ++ (s ∷ [])) ss there e1)

-- the boxes inside segments lie in the file where the boxes of the segments do
module _ (limit : ℕ) (f : List ℕ) (h : Heading) where
  abbrev pub inside_file : Segment → Bool
  inside_file s = all_of (lies (length f)) s.inner

  segment_inside : (before : List Segment) (b : Box) {s : Segment} → b.end ≤ length f → segment limit f h before b ≡ given s → inside_file s ≡ true
  segment_inside before b ends e =
      let (inner, l, cs, t, same) = stepped limit f h before b e in
      subst (λ (s : Segment). inside_file s ≡ true) same (further_lie b.end (length f) ends inner (boxes_lie Pseg f b.body b.end inner t.boxes))

  pub segments_inside : (bs : List Box) (before : List Segment) {ss : List Segment} → all_of (lies (length f)) bs ≡ true → all_of inside_file before ≡ true
      → segments_from limit f h before bs ≡ given ss
      → all_of inside_file ss ≡ true
  unfolding segments_from all_of
  segments_inside [] before lie all e = subst (λ (ss : List Segment). all_of inside_file ss ≡ true) (given_same e) all
  segments_inside (b ∷ bs) before lie all e =
      let (s, read, e1) = both_given (segment limit f h before b) _ e in
      let (here, there) = both (lies (length f) b) (all_of (lies (length f)) bs) lie in
      let one = segment_inside before b (lies_ends (length f) b here) read in
      segments_inside bs (before ++ (s ∷ [])) there (rw (all_append, all, one)) e1
