-- Of a file that begin and append alone made nothing goes.
use Prim.Native.Nat.{ℕ, zero, suc, ◌+◌, ◌-◌, ◌^◌, ◌≤◌, ◌<◌}
use mathlib.Core.Bool.{Bool, true, false, not, ◌&&◌, ◌||◌, or-true, true≢false}
use mathlib.Core.List.{List, [], ◌∷◌, ◌++◌, map, append_assoc, append-nil, Memᴰ}
use mathlib.Core.Logic.{inl, inr}
use mathlib.Core.Path.{◌≡◌, refl, sym, ap, subst, ◌∙◌}
use native.Mathlib.Nat.{add-zero, mod-lt}
use native.Mathlib.Omega.{arith}
use borrow.Author.Tests.{le-leb, lt-ltb, ltb-true, eq-eqb, eqb-true, eqb-false, not-true, ne_eqb}
use lib.Dec.{leb, ltb, eqb, lit<}
use lib.ListN.{length, get_or, take, drop, length-drop}
use lib.Seq.{drop-append-le, get_or-drop}
use Rattle.boxes.specs.Answer.{Answer, refused, given}
use Rattle.boxes.specs.Framing.{Box, boxed_at}
use Rattle.boxes.specs.Kinds.{pseg, ploc, pdat, fidx, is, right, first_of, those, no_box}
use Rattle.boxes.specs.declared.kinds.Container.TheVariants.{File}
use Rattle.boxes.proofs.HeaderLaws.{moved}
use Rattle.boxes.proofs.KindLaws.{is-eqb, box_at_get_d}
use Rattle.boxes.proofs.ContainerLaws.{boxes_none}
use Rattle.boxes.proofs.AnswerLaws.{both_given, held, given_same}
use Rattle.numerals.specs.declared.numbers.Offset.TheVariants.{Ahead}
use Rattle.numerals.proofs.NumberLaws.{number_none}
use Rattle.numerals.proofs.OffsetLaws.{signed_none}
use Rattle.partial.specs.Entries.{Ploc, Entry, Cursor, ploc_head, state_of, entry, in_data, may_lie, place_of, chunk_step, chunks_from}
use Rattle.partial.specs.Heading.{Heading, heading}
use Rattle.partial.specs.Index.{has_index}
use Rattle.partial.specs.Memory.{after}
use Rattle.partial.specs.Mixed.{allowed, fill_up, whole_boxes}
use Rattle.partial.specs.Reading.{segment, segments_from, earlier_segments}
use Rattle.partial.specs.Segments.{Chunk, Segment, good, present, has_place, chunks_of}
use Rattle.partial.specs.Sequences.{some_of, all_of, sum}
use Rattle.partial.specs.declared.brand.Brand.{Brand}
use Rattle.partial.proofs.Meaning.SequenceLaws.{which, both, Each, each_append, each_member, all_append, all_at, member_passes, some_append, none_by}
use Rattle.partial.proofs.Meaning.SupplyLaws.{chunks_append}
use Rattle.partial.proofs.Reading.HeadingAppendLaws.{headed, heading-of, all_kept}
use Rattle.partial.proofs.Reading.IndexedLaws.{has_none}
use Rattle.partial.proofs.Reading.KeptLaws.{stepped, segmented}
use Rattle.partial.proofs.Reading.RefusalLaws.{earlier_read, takes}
use Rattle.additions.specs.Addition.{Item, items, Addition, is_state, size_of, goes_out}
use Rattle.additions.specs.Append.{inside_data, outside_data, any_inside, data_box, stored, back, placed_with, placed, new_chunks, added, new_segment, pseg_place, appended}
use Rattle.additions.specs.Begin.{beginning, begun}
use Rattle.additions.specs.Runs.{Lent, lent, file_in, size_after, begin, append, append_all}
use Rattle.additions.proofs.DataLaws.{out_present, size_on, size_past, length_outside}
use Rattle.additions.proofs.PlacedLaws.{formed, formed_some, list_formed, back_out, place_present, OutLie}
use Rattle.additions.proofs.WholeLaws.{allowed_other, allowed_moved, Row, filled_row, row_moved, row_starts, starts, starts_later}
use Rattle.additions.proofs.OutsideLaws.{out_good, out_boxes, out_filled, out_free, out_whole}
use Rattle.additions.proofs.AddedBoxesLaws.{data_boxes, stored_boxes, segment_box, new_boxes, length-stored}
use Rattle.additions.proofs.NewSegmentLaws.{no_index_new}
use Rattle.additions.proofs.ReadsBackLaws.{Offered, Taken, admits, taken_any, taken, taken_sayable, grown_heading, heading-added, reading-added, file_after}
use Rattle.additions.proofs.RepairTimeLaws.{cut, added-cut, taken_cut}
use Rattle.additions.proofs.BoxesStandLaws.{neither}
use Rattle.additions.proofs.BegunLaws.{begun_heading, begun_headed, begun_taken, begin_given}
use Rattle.rescue.specs.Kept.{lies_in}
use Rattle.rescue.specs.Copy.{salvage}
use Rattle.rescue.specs.Demands.{Bytes, ZeroOffsets, Bare}
use Rattle.rescue.proofs.AcceptedLaws.{two_boxes, accepted_same}

-- ---- where no chunk is empty, the entries without data have offset 0

-- whether a chunk is not empty
abbrev sized : Chunk → Bool
sized c = not (eqb c.size 0)

-- an entry that is not present has offset 0
entry_absent : (f : List ℕ) (l : Ploc) (at : ℕ) (x : Entry) → entry f l at ≡ given x → present x.state ≡ false → x.offset ≡ Ahead 0
unfolding entry
entry_absent f l at x e absent =
    let (_, e1) = held 17 (ltb at l.end) _ e in
    let (s, _, e2) = both_given (state_of (get_or f at 0)) _ e1 in
    let width : ℕ = elim (present s) [ true ↦ l.offset_size | false ↦ 0 ] in
    let (_, e3) = held 17 (leb (at + 1 + l.length_size + width) l.end) _ e2 in
    let same = given_same e3 in
    let lacks : present s ≡ false = ap (λ (y : Entry). present y.state) same ∙ absent in
    let none : width ≡ 0 = rw lacks in
    sym (ap (λ (y : Entry). y.offset) same) ∙ rw (none, number_none f (at + 1 + l.length_size)) signed_none

-- a chunk that is not empty has no place only where it is not present
sized_absent : (state size : ℕ) → not (eqb size 0) ≡ true → has_place state size ≡ false → present state ≡ false
unfolding has_place
sized_absent state size some none =
    elim (which (present state)) [
      | inl e ↦
          let more = eqb-false size 0 (not-true (eqb size 0) some) in
          absurd (true≢false (sym (lt-ltb 0 size (omega arith)) ∙ rw e at none))
      | inr e ↦ e
    ]

module _ (limit : ℕ) (f : List ℕ) (h : Heading) where
  chunks_zero : (pseg : ℕ) (l : Ploc) (more : ℕ) (c : Cursor) (cs : List Chunk) → chunks_from limit f h pseg l more c ≡ given cs → all_of sized cs ≡ true
      → ZeroOffsets f l more c.at
  unfolding chunks_from chunk_step all_of
  chunks_zero pseg l zero c cs e all = tt
  chunks_zero pseg l (suc more) c cs e all = λ x read.
      let (met, step, e1) = both_given (chunk_step limit f h pseg l c) _ e in
      let (rest, others, e2) = both_given (chunks_from limit f h pseg l more met.1) _ e1 in
      let (y, known, e3) = both_given (entry f l c.at) _ step in
      let (_, e4) = held 23 (leb (c.start + y.size) limit) _ e3 in
      let (place, _, e5) = both_given (place_of h pseg y) _ e4 in
      let same_Met = given_same e5 in
      let same : y ≡ x = given_same (sym known ∙ read) in
      let (here, there) = both (sized met.0) (all_of sized rest) (rw (sym (given_same e2)) at all) in
      let size : met.0.size ≡ x.size = ap (λ (p : Chunk × Cursor). p.0.size) (sym same_Met) ∙ ap (λ (z : Entry). z.size) same in
      let next : met.1.at ≡ x.next = ap (λ (p : Chunk × Cursor). p.1.at) (sym same_Met) ∙ ap (λ (z : Entry). z.next) same in (
        λ none. entry_absent f l c.at x read (sized_absent x.state x.size (rw size at here) none),
        rw next at (chunks_zero pseg l more met.1 rest others there),
      )

  -- so of a segment, and of all that were read
  abbrev Zeroed : Segment → Type 0
  Zeroed s = all_of sized s.chunks ≡ true → (l : Ploc) → ploc_head f (first_of ploc s.inner) ≡ given l → ZeroOffsets f l l.count l.first

  segment_zero : (before : List Segment) (b : Box) (s : Segment) → segment limit f h before b ≡ given s → Zeroed s
  segment_zero before b s e =
      let (inner, l, cs, t, same) = stepped limit f h before b e in
      subst Zeroed same
      (λ all k head.
      subst (λ (m : Ploc). ZeroOffsets f m m.count m.first) (given_same (sym t.head ∙ head)) (chunks_zero b.at l l.count _ cs t.chunks all))

  segments_zero : (before : List Segment) (bs : List Box) (ss : List Segment) → Each Zeroed before → segments_from limit f h before bs ≡ given ss → Each Zeroed ss
  unfolding segments_from
  segments_zero before [] ss all e = subst (Each Zeroed) (given_same e) all
  segments_zero before (b ∷ bs) ss all e =
      let (s, read, e1) = both_given (segment limit f h before b) _ e in
      segments_zero (before ++ (s ∷ [])) bs ss (each_append Zeroed before (s ∷ []) all (segment_zero before b s read, tt)) e1

-- ---- each box outside `pdat` is one of those that its chunk lies in

-- a row that ends somewhere starts there or before
row_on : (at end : ℕ) (bs : List Box) → Row at end bs → at ≤ end
row_on at end [] r = omega arith
row_on at end (b ∷ bs) (from, front, whole, rest) = omega (arith, row_on b.end end bs rest)

-- a row of whole boxes up to a place, and what follows
row_split : (at mid end : ℕ) (bs : List Box) → Row at end bs → fill_up bs mid ≡ true
    → (cs : List Box) × (ds : List Box) × (bs ≡ cs ++ ds) × Row at mid cs × Row mid end ds
unfolding fill_up
row_split at mid end [] r h = absurd (true≢false (sym h))
row_split at mid end (b ∷ bs) (from, front, whole, row) h =
    let (_, rest) = both (allowed b) (elim (ltb b.end mid) [ true ↦ fill_up bs mid | false ↦ eqb b.end mid ]) h in
    elim (which (ltb b.end mid)) [
      | inl e ↦
          let (cs, ds, all, mine, others) = row_split b.end mid end bs row (rw e at rest) in
          (b ∷ cs, ds, ap (λ (l : List Box). b ∷ l) all, (from, front, whole, mine), others)
      | inr e ↦
          let to : b.end ≡ mid = eqb-true b.end mid (rw e at rest) in
          (b ∷ [], bs, refl, (from, front, whole, to), rw to at row)
    ]

-- whole boxes are not among those that start before
whole_past : (before bs : List Box) (place end : ℕ) → all_of (starts place) before ≡ true → whole_boxes (before ++ bs) place end ≡ whole_boxes bs place end
unfolding whole_boxes all_of
whole_past [] bs place end first = refl
whole_past (b ∷ before) bs place end first =
    let (here, others) = both (starts place b) (all_of (starts place) before) first in
    let less = ltb-true b.at place here in
    rw (whole_boxes, ne_eqb b.at place (λ same. omega arith)) (whole_past before bs place end others)

-- from a place on, a row starts with them
whole_fills : (bs : List Box) (place mid end : ℕ) → Row place end bs → whole_boxes bs place mid ≡ true → fill_up bs mid ≡ true
unfolding whole_boxes
whole_fills [] place mid end row h = absurd (true≢false (sym h))
whole_fills (b ∷ bs) place mid end row h = rw (whole_boxes, eq-eqb b.at place row.0) at h

-- the boxes of a row that a good chunk has
module _ (c : Chunk) (end : ℕ) (state : eqb c.state good ≡ true) (total : c.place + c.size ≡ end) where
  box_lies : (b : Box) → c.place ≤ b.at → b.end ≤ end → lies_in b c ≡ true
  unfolding lies_in
  box_lies b from to = rw (state, le-leb c.place b.at from, le-leb b.end (c.place + c.size) (omega arith))

  row_lies : (at : ℕ) (bs : List Box) → c.place ≤ at → Row at end bs → all_of (λ b. lies_in b c) bs ≡ true
  unfolding all_of
  row_lies at [] low row = refl
  row_lies at (b ∷ bs) low (from, front, whole, row) =
      rw (box_lies b (omega arith) (row_on b.end end bs row)) (row_lies b.end bs (omega arith) row)

-- boxes in one of some chunks, with one more before these, and boxes that all lie in that one
lie_later : (c : Chunk) (cs : List Chunk) (bs : List Box) → all_of (λ b. some_of (lies_in b) cs) bs ≡ true → all_of (λ b. some_of (lies_in b) (c ∷ cs)) bs ≡ true
unfolding some_of
lie_later c cs bs all = all_kept (λ b. some_of (lies_in b) cs) (λ b. some_of (lies_in b) cs) _ (λ b there _. rw (there, or-true)) bs all all

lie_first : (c : Chunk) (cs : List Chunk) (bs : List Box) → all_of (λ b. lies_in b c) bs ≡ true → all_of (λ b. some_of (lies_in b) (c ∷ cs)) bs ≡ true
unfolding some_of
lie_first c cs bs all = all_kept (λ b. lies_in b c) (λ b. lies_in b c) _ (λ b here _. rw here) bs all all

-- the chunks of items, whose data outside is the row of boxes before a place
module _ (k : Heading) (at : ℕ) (o : Bool) (out : ℕ) (free : all_of allowed k.boxes ≡ true) where
  -- a good chunk that lies among allowed boxes is whole boxes
  outer_whole : (state place size : ℕ) → may_lie k state place size ≡ true → whole_boxes k.boxes place (place + size) ≡ true
  unfolding may_lie in_data
  outer_whole state place size may =
      let none : in_data k.boxes place size ≡ false = none_by _ allowed (λ b other. rw (allowed_other b other).3) k.boxes free in
      (both (k.mixed && eqb state good) (whole_boxes k.boxes place (place + size)) (rw none at may)).1

  outer_lie : (start : ℕ) (is : List Item) (before bs : List Box) (place : ℕ) → k.boxes ≡ before ++ bs → all_of (starts place) before ≡ true
      → Row place at bs
      → place + size_of (goes_out o) is ≡ at
      → all_of formed is ≡ true
      → OutLie k at o is
      → all_of (λ b. some_of (lies_in b) (new_chunks at start (placed_with o out is))) bs ≡ true
  unfolding new_chunks placed_with all_of sum
  outer_lie start [] before [] place boxes first row total listed lie = refl
  outer_lie start [] before (b ∷ bs) place boxes first row total listed lie = absurd (omega (arith, row_on b.end at bs row.3))
  outer_lie start (i ∷ is) before bs place boxes first row total listed lie =
      let (right, others) = both (formed i) (all_of formed is) listed in
      let (some_size, known) = formed_some i right in
      elim (which (goes_out o i)) [
        | inl e ↦
            let more = size_on (goes_out o) i is e in
            let far = back_out o out i is e in
            let n = back o out i is in
            let there : at - size_of (goes_out o) (i ∷ is) ≡ place = omega arith in
            let whole = rw (there, boxes, whole_past before bs place (place + i.size) first) at (outer_whole i.state _ i.size (lie.0 e)) in
            let (cs, ds, all, mine, rest) = row_split place (place + i.size) at bs row (whole_fills bs place (place + i.size) at row whole) in
            let home = place_present at i n (out_present o i e) (omega arith) some_size in
            let later = starts_later place (place + i.size) (omega arith) before first in
            let ours = row_starts place (place + i.size) cs mine (place + i.size) (omega arith) in
            let c : Chunk = record { start = start; size = i.size; state = i.state; place = at - n } in
            let further = new_chunks at (start + i.size) (placed_with o out is) in
            rw (home, all, all_append)
            (rw (
              lie_first c further cs (row_lies c (place + i.size) (out_good o i e) (omega arith) place cs (omega arith) mine),
              lie_later c further ds (outer_lie (start + i.size) is (before ++ cs) ds (place + i.size) (boxes ∙ ap (λ (l : List Box). before ++ l) all ∙ sym (append_assoc before cs ds)) (rw (all_append, later, ours)) rest (omega arith) others lie.1),
            ))
        | inr e ↦ lie_later _ _ bs (outer_lie (start + i.size) is before bs place boxes first row (omega (arith, size_past (goes_out o) i is e)) others lie.1)
      ]

-- ---- an addition

-- whether a box behind the first two has a reason beside some segments: it is a `pdat`, a `pseg`, or a good chunk lies
-- in it
abbrev belongs : List Segment → Box → Bool
belongs ss b = is pdat b || (is pseg b || some_of (lies_in b) (chunks_of ss))

-- it has it beside more segments
belongs_more : (ss ts : List Segment) (b : Box) → belongs ss b ≡ true → belongs (ss ++ ts) b ≡ true
belongs_more ss ts b h = rw (chunks_append ss ts, some_append (lies_in b) (chunks_of ss) (chunks_of ts)) (go (is pdat b) (is pseg b) (some_of (lies_in b) (chunks_of ss)) h)
  where
    go : (d s c : Bool) → d || (s || c) ≡ true → d || (s || (c || some_of (lies_in b) (chunks_of ts))) ≡ true
    go true s c h = refl
    go false true c h = refl
    go false false true h = refl
    go false false false h = absurd (true≢false (sym h))

-- a segment without an index none of whose chunks is empty
abbrev plain : Segment → Bool
plain s = not (has_index s.inner) && all_of sized s.chunks

-- the chunks of items of an addition are not empty
chunks_sized : (at start : ℕ) (o : Bool) (out : ℕ) (is : List Item) → all_of formed is ≡ true → all_of sized (new_chunks at start (placed_with o out is)) ≡ true
unfolding new_chunks placed_with all_of
chunks_sized at start o out [] listed = refl
chunks_sized at start o out (i ∷ is) listed =
    let (first, others) = both (formed i) (all_of formed is) listed in
    rw (both (not (eqb i.size 0)) (is_state i.state) first).0 (chunks_sized at (start + i.size) o out is others)

module _ (limit : ℕ) (f : List ℕ) (h : Heading) (ss : List Segment) (a : Addition) (t : Offered limit f h ss a) where
  abbrev newest : Segment
  newest = new_segment h ss (pseg_place (length f) a) a

  new_plain : plain newest ≡ true
  unfolding new_segment placed
  new_plain =
      rw (
        has_none limit f newest.inner (no_index_new h ss (pseg_place (length f) a) a),
        chunks_sized (pseg_place (length f) a) a.source_offset a.outside _ (items a.list) (list_formed a.list t.list),
      )

  -- the boxes of the data outside
  outer_covered : all_of (λ b. some_of (lies_in b) newest.chunks) (map (moved (length f + length (data_box a))) (out_boxes a)) ≡ true
  unfolding new_segment placed pseg_place all_of
  outer_covered =
      let at : ℕ = length f + length (data_box a) in
      let there : List Box = map (moved at) (out_boxes a) in
      let end : ℕ = length f + length (stored a) in
      let k : Heading = record { boxes = there; inner = h.inner; urls = h.urls; mixed = h.mixed } in
      let total : end ≡ at + size_of (goes_out a.outside) (items a.list) = omega (arith, length-stored a, length_outside a t.carried) in
      let ends : at + length (outside_data a) ≡ end = omega (arith, length-stored a) in
      let row : Row at end there = rw (add-zero, ends) at (row_moved at 0 (length (outside_data a)) (out_boxes a) (filled_row (omega arith) (out_filled h a t.list t.carried t.outside))) in
      outer_lie k end a.outside _ (allowed_moved at (out_boxes a) ∙ out_free h a t.list t.carried t.outside) a.source_offset (items a.list) [] there at refl refl row (sym total) (list_formed a.list t.list)
      (out_whole h a t.list t.carried t.outside k [] [] at end refl (sym (append-nil there)) refl total)

  outer_belong : all_of (belongs (ss ++ (newest ∷ []))) (map (moved (length f + length (data_box a))) (out_boxes a)) ≡ true
  unfolding chunks_of
  outer_belong =
      all_kept (λ b. some_of (lies_in b) newest.chunks) (λ b. some_of (lies_in b) newest.chunks) (belongs (ss ++ (newest ∷ [])))
      (λ b there _. rw (chunks_append ss (newest ∷ []), append-nil newest.chunks, some_append (lies_in b) (chunks_of ss) newest.chunks, there, or-true, or-true, or-true)) _ outer_covered outer_covered

  data_belong : all_of (belongs (ss ++ (newest ∷ []))) (data_boxes (any_inside a) (length f) (length (inside_data a))) ≡ true
  unfolding all_of
  data_belong =
      elim (which (any_inside a)) [
        | inl e ↦ rw (e, is-eqb pdat (boxed_at (length f) pdat.code (length (inside_data a))))
        | inr e ↦ rw e
      ]

  new_belong : all_of (belongs (ss ++ (newest ∷ []))) (new_boxes (length f) a) ≡ true
  unfolding all_of
  new_belong =
      rw (all_append _ (stored_boxes (length f) a) (segment_box (length f) a ∷ []), all_append, data_belong, outer_belong, is-eqb pseg (segment_box (length f) a), or-true)

-- ---- a run of additions

-- a refused addition leaves the file, and a refused beginning none
append_refused : (limit : ℕ) (buffer : List ℕ) (n : ℕ) (a : Addition) (k : ℕ) → appended limit buffer n a ≡ refused k → file_in (append limit (lent buffer n) a) ≡ take n buffer
unfolding append file_in after size_after
append_refused limit buffer n a k e = rw e

begin_refused : (buffer : List ℕ) (brand : Brand) (u m : List ℕ) (k : ℕ) → begun buffer brand u m ≡ refused k → file_in (begin buffer brand u m) ≡ []
unfolding begin file_in after size_after
begin_refused buffer brand u m k e = rw e

nothing_headed : (h : Heading) → heading [] ≡ given h → ⊥
nothing_headed h e =
    let none : [] ≡ h.boxes = given_same (sym (boxes_none File [] 0 0 (omega arith)) ∙ (headed [] h e).boxes) in
    omega (arith, two_boxes [] h e, ap length none)

module _ (limit : ℕ) where
  -- what begin and append make of a file with a heading
  record Made (f : List ℕ) (h : Heading) : Type 0 where
    ss : List Segment
    read : earlier_segments limit f ≡ given ss
    boxes : all_of (belongs ss) (drop 2 h.boxes) ≡ true
    pfil : has_index h.inner ≡ false
    segments : all_of plain ss ≡ true

  -- it is bare
  made_bare : (f : List ℕ) (h : Heading) → heading f ≡ given h → (m : Made f h) → Bare f h m.ss
  made_bare f h head m =
      let its : (s : Segment) → Memᴰ s m.ss → (not (has_index s.inner) ≡ true) × (all_of sized s.chunks ≡ true) =
      λ s there. both (not (has_index s.inner)) (all_of sized s.chunks) (member_passes plain m.ss m.segments s there) in
      let zero-all = segments_zero limit f h [] (those pseg h.boxes) m.ss tt (segmented limit f h (earlier_read limit f head m.read)).read in
      record {
        boxes = λ k from less.
            let same : 2 + (k - 2) ≡ k = omega arith in
            let there = all_at (belongs m.ss) no_box (drop 2 h.boxes) m.boxes (k - 2) (rw length-drop (omega arith)) in
            rw (box_at_get_d, rw (get_or-drop, same) at there) tt;
        pfil = m.pfil;
        segments = λ s there. not-true (has_index s.inner) (its s there).0;
        zeros = λ s there. each_member (Zeroed limit f h) m.ss zero-all s there (its s there).1;
      }

  module _ (below : limit < 2 ^ 64) where
    -- one addition more
    made_added : (f : List ℕ) (h : Heading) (m : Made f h) (a : Addition) → Taken limit f h m.ss a → a.repair_time < 2 ^ 64
        → Made (f ++ added a) (grown_heading limit f h m.ss a)
    unfolding all_of
    made_added f h m a t time =
        let ss = m.ss in
        let new = newest limit f h ss a t.offered in
        record {
          ss = ss ++ (new ∷ []);
          read = (takes limit (f ++ added a)).acceptable _ (reading-added limit f h ss a t (taken_sayable limit f h ss a t below time));
          boxes = rw (
            drop-append-le 2 h.boxes (new_boxes (length f) a) (two_boxes f h t.offered.headed),
            all_append,
            all_kept (belongs ss) (belongs ss) (belongs (ss ++ (new ∷ []))) (λ b there _. belongs_more ss (new ∷ []) b there) (drop 2 h.boxes) m.boxes m.boxes,
            new_belong limit f h ss a t.offered,
          );
          pfil = m.pfil;
          segments = rw (all_append, m.segments, new_plain limit f h ss a t.offered);
        }

    -- a file, if it has a heading, is so made
    abbrev Run : List ℕ → Type 0
    Run f = (h : Heading) → heading f ≡ given h → Made f h

    run_step : (l : Lent) (a : Addition) → Run (file_in l) → Run (file_in (append limit l a))
    unfolding file_in
    run_step (lent buffer n) a before = go (appended limit buffer n a) refl
      where
        f : List ℕ
        f = take n buffer

        go : (answer : Answer ℕ) → appended limit buffer n a ≡ answer → Run (file_in (append limit (lent buffer n) a))
        go (refused k) e = subst Run (sym (append_refused limit buffer n a k e)) before
        go (given size) e =
            let (h, _, was, _, _, _) = taken_any limit buffer n a size e in
            let m = before h was.offered.headed in
            let (t, long, total) = taken limit buffer n a size h m.ss was.offered.headed m.read e in
            let c = cut a in
            let u = taken_cut limit f h m.ss a t in
            let (ok, _) = admits limit h m.ss (length f) c u.admits in
            let same : file_in (append limit (lent buffer n) a) ≡ f ++ added c = file_after limit buffer n a size e long total ∙ ap (λ (bytes : List ℕ). f ++ bytes) (sym (added-cut a)) in
            let head = heading-added limit f h m.ss c u.offered ok.small ok.boxes in
            subst Run (sym same)
            (λ k known. subst (Made (f ++ added c)) (given_same (sym head ∙ known)) (made_added f h m c u (mod-lt a.repair_time (lit< tt))))

    runs : (additions : List Addition) (l : Lent) → Run (file_in l) → Run (file_in (append_all limit l additions))
    unfolding append_all
    runs [] l before = before
    runs (a ∷ more) l before = runs more (append limit l a) (run_step l a before)

    -- a file just begun, or none
    run_begun : (buffer : List ℕ) (brand : Brand) (u m : List ℕ) → Run (file_in (begin buffer brand u m))
    unfolding all_of
    run_begun buffer brand u m = go (begun buffer brand u m) refl
      where
        go : (answer : Answer ℕ) → begun buffer brand u m ≡ answer → Run (file_in (begin buffer brand u m))
        go (refused k) e = subst Run (sym (begin_refused buffer brand u m k e)) (λ h known. absurd (nothing_headed h known))
        go (given n) e =
            let (plain_url, plain_mime, small, file) = begin_given buffer brand u m n e in
            let head = heading-of (beginning brand u m) (begun_heading brand u m) (begun_headed brand u m small plain_url plain_mime) in
            let made : Made (beginning brand u m) (begun_heading brand u m) =
            record {
              ss = [];
              read = begun_taken brand u m limit small plain_url plain_mime;
              boxes = refl;
              pfil = has_none limit [] (begun_heading brand u m).inner (neither fidx _ _ (is-eqb fidx _) (is-eqb fidx _));
              segments = refl;
            } in
            subst Run (sym file) (λ k known. subst (Made (beginning brand u m)) (given_same (sym head ∙ known)) made)

    -- of a file that begin and append alone made nothing goes
    module _ (buffer : List ℕ) (brand : Brand) (u m : List ℕ) (additions : List Addition) where
      abbrev made_file : List ℕ
      made_file = file_in (append_all limit (begin buffer brand u m) additions)

      pub bare_made : (h : Heading) → heading made_file ≡ given h → (ss : List Segment) × (earlier_segments limit made_file ≡ given ss) × Bare made_file h ss
      bare_made h head =
          let made = runs additions (begin buffer brand u m) (run_begun buffer brand u m) h head in
          (made.ss, made.read, made_bare made_file h head made)

-- so it is its own copy
pub salvage_made : (limit : ℕ) → limit < 2 ^ 64
    → (buffer : List ℕ) (brand : Brand) (u m : List ℕ) (additions : List Addition)
    → let f = file_in (append_all limit (begin buffer brand u m) additions) in
    Bytes f
    → (h : Heading)
    → heading f ≡ given h
    → salvage limit f ≡ given f
salvage_made limit below buffer brand u m additions bytes h head =
    let (ss, read, bare) = bare_made limit below buffer brand u m additions h head in
    accepted_same limit _ h ss head (earlier_read limit _ head read) bytes bare
