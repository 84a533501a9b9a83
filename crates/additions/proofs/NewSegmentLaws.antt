-- The segment that append adds is read from its box in the longer file, as what was added.
use Prim.Native.Nat.{ℕ, suc, ◌+◌, ◌-◌, ◌^◌, ◌≤◌, ◌<◌}
use mathlib.Core.Bool.{Bool, true, false}
use mathlib.Core.List.{List, [], ◌∷◌, ◌++◌, map, append-nil}
use mathlib.Core.Path.{◌≡◌, refl, ap, ◌∙◌}
use native.Mathlib.Nat.{add_assoc}
use native.Mathlib.Decide.{dec_le}
use native.Mathlib.Omega.{arith}
use borrow.Author.Tests.{le-leb, lt-leb, eq-eqb}
use lib.Dec.{leb, ltb, lit<}
use lib.ListN.{length}
use Rattle.boxes.specs.Answer.{Answer, refused, given, ◌>>=◌, hold}
use Rattle.numerals.specs.Numbers.{holds}
use Rattle.boxes.specs.Framing.{Box, front_size, boxed_at, box_limit}
use Rattle.boxes.specs.Kinds.{pseg, pshd, ploc, fidx, right, box_at, first_of, those}
use Rattle.boxes.specs.declared.kinds.Container.TheVariants.{Pseg}
use Rattle.boxes.proofs.KindLaws.{first_is, one_right, first_of-those, is-eqb, box_at_get_d}
use Rattle.partial.specs.Limits.{chunk_limit}
use Rattle.partial.specs.Sequences.{all_of, sum}
use Rattle.partial.specs.Segments.{Segment, end_of, chunks_of}
use Rattle.partial.specs.Heading.{Heading}
use Rattle.partial.specs.Sources.{source_beside}
use Rattle.partial.specs.Reading.{pshd_right, segment, pshd_fields}
use Rattle.additions.specs.Begin.{is_text}
use Rattle.additions.specs.Addition.{items, Addition, flags_for, size_of, data_size, data_right, goes_out}
use Rattle.additions.specs.Append.{ploc_body, pshd_body, added, new_chunks, new_inner, new_urls, new_segment, Placed, placed, pseg_body, inner_boxes, pseg_place}
use Rattle.partial.proofs.Reading.HeadingAppendLaws.{with_boxes}
use Rattle.additions.proofs.DataLaws.{sizes_split}
use Rattle.additions.proofs.PlacedLaws.{formed, sizes_placed, length-placed, OutLie, placed_tell, offsets_eight}
use Rattle.additions.proofs.StandsLaws.{Stands}
use Rattle.additions.proofs.EntriesBackLaws.{chunks_back}
use Rattle.additions.proofs.FieldsBackLaws.{fields_back, ploc_of, head_back, sizes_held, offsets-held}
use Rattle.additions.proofs.AddedBoxesLaws.{data_low, InLie}
use Rattle.additions.proofs.InnerLaws.{header_box, location_place, location_box, inners, only_header, only_location, no_index_lem}
use Rattle.additions.proofs.InnerLaws.{header_stands, location_stands, inners_framed, inners_formed, urls_told, body_stands, body_inside}

-- the new chunks are as many as the items, and as long
length_chunks : (at start : ℕ) (ps : List Placed) → length (new_chunks at start ps) ≡ length ps
unfolding new_chunks
length_chunks at start [] = refl
length_chunks at start (p ∷ ps) = ap suc (length_chunks at (start + p.size) ps)

sizes_chunks : (at start : ℕ) (ps : List Placed) → map (λ c. c.size) (new_chunks at start ps) ≡ map (λ p. p.size) ps
unfolding new_chunks
sizes_chunks at start [] = refl
sizes_chunks at start (p ∷ ps) = ap (λ (ns : List ℕ). p.size ∷ ns) (sizes_chunks at (start + p.size) ps)

module _ (h : Heading) (ss : List Segment) (at : ℕ) (a : Addition) where
  pub length_new : length (new_segment h ss at a).chunks ≡ length (items a.list)
  unfolding new_segment
  length_new = length_chunks at a.source_offset (placed a.outside (items a.list)) ∙ length-placed a.outside (items a.list)

  pub end_new : end_of (new_segment h ss at a) ≡ a.source_offset + sum (map (λ i. i.size) (items a.list))
  unfolding new_segment end_of
  end_new = rw (sizes_chunks at a.source_offset (placed a.outside (items a.list)), sizes_placed a.outside (items a.list))

  -- a new segment is of the source with the URLs of the addition, and has no index
  pub urls_new : (new_segment h ss at a).urls ≡ new_urls h a
  unfolding new_segment
  urls_new = refl

  pub source_new : (new_segment h ss at a).source ≡ source_beside ss (new_urls h a)
  unfolding new_segment
  source_new = refl

  pub inner_new : (new_segment h ss at a).inner ≡ inners (at + front_size) a
  unfolding new_segment new_inner
  inner_new = refl

  pub no_index_new : those fidx (new_segment h ss at a).inner ≡ []
  no_index_new = rw inner_new (no_index_lem (at + front_size) a)

  -- it is the same with more boxes in the heading
  pub new_longer : (more : List Box) → new_segment (with_boxes h more) ss at a ≡ new_segment h ss at a
  unfolding new_segment new_urls
  new_longer more = refl

-- what the fields of an addition have to be for its bytes to say them
pub record Sayable (a : Addition) : Type 0 where
  pub offset : a.source_offset < 2 ^ 64
  pub time : a.repair_time < 2 ^ 64
  pub sizes : all_of (λ p. holds 8 p.size) (placed a.outside (items a.list)) ≡ true
  pub count : length (items a.list) < 2 ^ 16

-- what is tested of it beside those before it: 41, 22 and 23
abbrev tested : ℕ → List Segment → Segment → Answer Segment
tested limit before s =
    hold 41 (ltb 0 (length s.urls))
    >>= λ _. hold 22 (leb (length (chunks_of before) + length s.chunks) chunk_limit) >>= λ _. hold 23 (leb (end_of s) limit) >>= λ _. given s

-- the segment of a `pseg` box at a place, whose body stands there and before which its data lies
module _ (limit : ℕ) (g : List ℕ) (h : Heading) (before : List Segment) (a : Addition) (at : ℕ) where
  abbrev here : ℕ
  here = at + front_size

  -- `pshd` is first and single, and `ploc` is single
  first_header : box_at 0 (inners here a) ≡ header_box here a
  first_header = box_at_get_d 0 (inners here a)

  header-found : first_of pshd (inners here a) ≡ header_box here a
  header-found = first_is pshd (lit< tt) (inners here a) (rw first_header (is-eqb pshd (header_box here a))) ∙ first_header

  header-right : (pshd_fields g (header_box here a)).end ≡ (header_box here a).end → pshd_right g (inners here a) ≡ true
  unfolding pshd_right
  header-right whole =
      rw (first_header, is-eqb pshd (header_box here a), one_right Pseg pshd (inners here a) refl (ap length (only_header here a)), eq-eqb _ _ whole)

  location_right : right Pseg ploc (inners here a) ≡ true
  location_right = one_right Pseg ploc (inners here a) refl (ap length (only_location here a))

  location_found : first_of ploc (inners here a) ≡ location_box here a
  location_found = first_of-those ploc (inners here a) ∙ ap (box_at 0) (only_location here a) ∙ box_at_get_d 0 (location_box here a ∷ [])

  segment-at : Sayable a
      → inner_boxes a ≤ box_limit
      → is_text a.texts ≡ true
      → all_of formed (items a.list) ≡ true
      → length (pseg_body a) < 2 ^ 32
      → Stands g here (pseg_body a)
      → here + length (pseg_body a) ≤ length g
      → data_size (items a.list) ≤ at
      → data_size (items a.list) < 2 ^ 63
      → InLie h at a
      → OutLie h at a.outside (items a.list)
      → segment limit g h before (boxed_at at pseg.code (length (pseg_body a))) ≡ tested limit before (new_segment h before at a)
  unfolding segment new_segment new_inner new_urls placed
  segment-at says few texts listed small stands inside data_low data-small lie outer =
      let list = items a.list in
      let ps = placed a.outside list in
      let all = sizes_split a.outside list in
      let second = location_place here a in
      let total : ℕ = a.source_offset + sum (map (λ p. p.size) ps) in
      let fields = fields_back g (header_box here a) a (header_stands g here a stands) says.offset says.time in
      let (head, stands-entries, ends) = head_back g (location_box here a) ps (location_stands g here a stands) (add_assoc second front_size (length (ploc_body ps))) (rw length-placed says.count) in
      let whole : here + front_size + length (pshd_body a) ≡ here + (front_size + length (pshd_body a)) = omega arith in
      let same_end : here + length (pseg_body a) ≡ at + (front_size + length (pseg_body a)) = omega arith in
      let boxes = rw same_end at (inners_framed g here a stands few small) in
      let long : here + (front_size + length (pshd_body a)) - (here + front_size) ≡ length (pshd_body a) = omega arith in
      let right-header = header-right (rw fields whole) in
      let chunks = chunks_back limit g h at (ploc_of (location_box here a) ps) ps (record { at = second + front_size + 9; start = a.source_offset }) stands-entries ends
      (placed_tell h at a.outside (size_of (goes_out a.outside) list) list listed (omega arith) (omega arith) lie outer) (sizes_held ps says.sizes)
      (offsets-held ps (offsets_eight a.outside list data-small)) in
      let sizes = sizes_placed a.outside list in
      let count = length-placed a.outside list in
      let surls-right = inners_formed g here a stands texts in
      let urls = urls_told g here a stands texts inside in
      rw (length_new h before at a, end_new h before at a, ← sizes, ← count)
      (elim (dec_le a.source_offset limit) [
        | yes low ↦
            rw (boxes, right-header, location_right, surls-right, urls, location_found, head, header-found, fields, le-leb a.source_offset limit low, chunks low, long)
            (both_tests (ltb 0 (length (new_urls h a))) (leb (length (chunks_of before) + length ps) chunk_limit) (leb total limit))
        | no over ↦
            rw (boxes, right-header, location_right, surls-right, urls, location_found, head, header-found, fields, lt-leb a.source_offset limit (omega arith), lt-leb total limit (omega arith))
            (one_test (ltb 0 (length (new_urls h a))) (leb (length (chunks_of before) + length ps) chunk_limit))
      ])
    where
      both_tests : (listed few low : Bool)
          → (hold 41 listed >>= λ _. hold 22 few >>= λ _. hold 23 low >>= (λ _. given (new_chunks at a.source_offset (placed a.outside (items a.list)))) >>= λ cs. given (record {
            place = at;
            inner = new_inner at a;
            urls = new_urls h a;
            source = source_beside before (new_urls h a);
            source_offset = a.source_offset;
            flags = flags_for a.last;
            repair_time = a.repair_time;
            header_place = at + front_size + front_size;
            header_length = length (pshd_body a);
            chunks = cs;
          })) ≡ (hold 41 listed >>= λ _. hold 22 few >>= λ _. hold 23 low >>= λ _. given (new_segment h before at a))
      both_tests true true true = refl
      both_tests true true false = refl
      both_tests true false low = refl
      both_tests false few low = refl

      one_test : (listed few : Bool) → ◌≡◌ {A = Answer Segment} (hold 41 listed >>= λ _. hold 22 few >>= λ _. refused 23) (hold 41 listed >>= λ _. hold 22 few >>= λ _. refused 23)
      one_test listed few = refl

-- the same of a file that an addition was put behind
pub new-segment : (limit : ℕ) (f : List ℕ) (h : Heading) (before : List Segment) (a : Addition) → Sayable a
    → inner_boxes a ≤ box_limit
    → is_text a.texts ≡ true
    → all_of formed (items a.list) ≡ true
    → length (pseg_body a) < 2 ^ 32
    → data_right a ≡ true
    → data_size (items a.list) < 2 ^ 63
    → InLie h (pseg_place (length f) a) a
    → OutLie h (pseg_place (length f) a) a.outside (items a.list)
    → segment limit (f ++ added a) h before (boxed_at (pseg_place (length f) a) pseg.code (length (pseg_body a)))
    ≡ tested limit before (new_segment h before (pseg_place (length f) a) a)
unfolding pseg_place
new-segment limit f h before a says few texts listed small right data-small lie outer =
    let stands = rw append-nil at (body_stands f [] a) in
    let inside = rw append-nil at (body_inside f [] a) in
    segment-at limit (f ++ added a) h before a (pseg_place (length f) a) says few texts listed small stands inside (omega (arith, data_low a right)) data-small lie outer
