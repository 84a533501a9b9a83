-- Salvaging twice gives the same bytes as once, and the second time nothing is dropped.
use Prim.Native.Nat.{ℕ, zero, suc, ◌+◌, ◌-◌, ◌/◌, ◌%◌, ◌^◌, ◌<◌, ◌≤◌}
use mathlib.Core.Bool.{Bool, true, false, ◌&&◌, or-true}
use mathlib.Core.List.{List, [], ◌∷◌, ◌++◌, map, append_assoc, append-nil, Memᴰ}
use mathlib.Core.Logic.{inl, inr}
use mathlib.Core.Path.{◌≡◌, refl, sym, subst, ◌∙◌}
use native.Mathlib.Nat.{add-zero, mod-lt, le_refl}
use native.Mathlib.Omega.{arith}
use borrow.Author.Tests.{le-leb, leb-true, lt-ltb, eqb-true}
use lib.Dec.{leb, eqb, lit<}
use lib.ListN.{length, get_or, take, drop, length-append}
use Rattle.boxes.specs.Answer.{given}
use Rattle.boxes.specs.Framing.{Box, front_size, front}
use Rattle.boxes.specs.Kinds.{ftyp, pfil, pseg, pdat, ploc, is, first_of}
use Rattle.boxes.specs.declared.kinds.Container.TheVariants.{File}
use Rattle.boxes.proofs.AnswerLaws.{both_given, given_same}
use Rattle.boxes.proofs.HeaderLaws.{header_inside}
use Rattle.numerals.specs.Numbers.{number, bytes_of, twos_complement, holds, holds_offset}
use Rattle.numerals.specs.declared.numbers.Offset.TheVariants.{Ahead}
use Rattle.partial.specs.BoxList.{each}
use Rattle.partial.specs.Entries.{Ploc, Entry, ploc_head, chunks_from}
use Rattle.partial.specs.Heading.{Heading, bytes_in}
use Rattle.partial.specs.Limits.{segment_limit, layer_limit}
use Rattle.partial.specs.Segments.{Chunk, Segment, good, corrupted, present, has_place, chunks_of}
use Rattle.partial.specs.Sequences.{all_of, some_of, sum}
use Rattle.partial.specs.Sources.{source_count}
use Rattle.partial.proofs.Meaning.SequenceLaws.{which, both, Each, some_append}
use Rattle.additions.specs.Append.{Placed, flag_byte, entry_bytes}
use Rattle.additions.proofs.EntriesBackLaws.{Tells, entry_long, entry-back}
use Rattle.additions.proofs.StandsLaws.{Stands, stands_right}
use Rattle.rescue.specs.Kept.{Fate, dropped, whole, of_pfil, of_pseg, Fated, framed, opening}
use Rattle.rescue.specs.Kept.{lies_in, beside, kept_with, kept_from, kept_of, stays, fate_of, fates_from, fates}
use Rattle.rescue.specs.Copy.{box_bytes, unindexed, reheaded, placed_anew, ploc_bytes, inner_bytes, copy_of, copy_size, copied, salvage}
use Rattle.rescue.specs.Demands.{ZeroOffsets}
use Rattle.rescue.specs.Lines.{salvage_text}
use Rattle.rescue.proofs.Shapes.{resized, boxes_anew, chunk_anew, segment_anew, segments_anew}
use Rattle.rescue.proofs.PlaceLaws.{sizes, Copied, new_nearer}
use Rattle.rescue.proofs.CopyLaws.{staying}
use Rattle.rescue.proofs.FateLaws.{segments_of, segments_split, fate_pseg, fate_whole, fate_no_pfil, beside_given}
use Rattle.rescue.proofs.FramedLaws.{framed_bytes, framed_opens}
use Rattle.rescue.proofs.HeadingLaws.{opened, first_fated, second_fated, pfil-unindexed}
use Rattle.rescue.proofs.WholeLaws.{fates_chained, heading_back, heading-copied}
use Rattle.rescue.proofs.PlocLaws.{Lies, offset_empty, told, bytes_are, front_long, length-ploc, head_anew, head_back}
use Rattle.rescue.proofs.SegmentLaws.{segment_place, was, located, location-box, location_stands}
use Rattle.rescue.proofs.LieLaws.{new_places, run_copied, chunk_carried, kept_lie}
use Rattle.rescue.proofs.ReadingLaws.{Anew, none_anew, one_anew, anew_long, anew_many, anew_count, anew_beside, anew_agreed, anew_fates, anew_split, kept_anew}
use Rattle.rescue.proofs.ReadingLaws.{segments_back, sizes_more, all_split, stands_new, new_there, stood_there, fate_there, kept_there, segment_there, all_read}
use Rattle.rescue.proofs.SameLaws.{Clean}
use Rattle.rescue.proofs.AcceptedLaws.{accepted_faultless, accepted_opens, clean_same, stay_silent}

-- ---- bytes

-- a list of bytes
data Low : List ℕ → Type 0 where
  low_none : Low []
  low_one : {b : ℕ} {s : List ℕ} → b < 256 → Low s → Low (b ∷ s)

low_at : {s : List ℕ} → Low s → (k : ℕ) → get_or s k 0 < 256
low_at low_none k = lit< tt
low_at (low_one here there) zero = here
low_at (low_one here there) (suc k) = low_at there k

low_all : (s : List ℕ) → ((k : ℕ) → get_or s k 0 < 256) → Low s
low_all [] low = low_none
low_all (b ∷ s) low = low_one (low 0) (low_all s (λ k. low (suc k)))

low_both : {s t : List ℕ} → Low s → Low t → Low (s ++ t)
low_both low_none other = other
low_both (low_one here there) other = low_one here (low_both there other)

low_take : (n : ℕ) {s : List ℕ} → Low s → Low (take n s)
low_take zero low = low_none
low_take (suc n) low_none = low_none
low_take (suc n) (low_one here there) = low_one here (low_take n there)

low_drop : (n : ℕ) {s : List ℕ} → Low s → Low (drop n s)
low_drop zero low = low
low_drop (suc n) low_none = low_none
low_drop (suc n) (low_one here there) = low_drop n there

low_each : {A : Type 0} (text : A → List ℕ) → ((x : A) → Low (text x)) → (xs : List A) → Low (each text xs)
unfolding each
low_each text low [] = low_none
low_each text low (x ∷ xs) = low_both (low x) (low_each text low xs)

low_bytes_of : (w n : ℕ) → Low (bytes_of w n)
unfolding bytes_of
low_bytes_of zero n = low_none
low_bytes_of (suc w) n = low_both (low_bytes_of w (n / 256)) (low_one (mod-lt n (lit< tt)) low_none)

low_flags : (state : ℕ) → flag_byte state < 256
unfolding flag_byte
low_flags state = go (corrupted state) (present state)
  where
    go : (one other : Bool) → (elim one [ true ↦ 128 | false ↦ 0 ]) + (elim other [ true ↦ 64 | false ↦ 0 ]) < 256
    go true true = lit< tt
    go true false = lit< tt
    go false true = lit< tt
    go false false = lit< tt

low_entries : (l o : ℕ) (ps : List Placed) → Low (entry_bytes l o ps)
unfolding entry_bytes
low_entries l o [] = low_none
low_entries l o (p ∷ ps) =
    low_one (low_flags p.state) (low_both (low_bytes_of l p.size) (low_both (go (present p.state)) (low_entries l o ps)))
  where
    go : (there : Bool) → Low (elim there [ true ↦ bytes_of o (twos_complement o p.offset) | false ↦ [] ])
    go true = low_bytes_of o (twos_complement o p.offset)
    go false = low_none

low_reheaded : (b : Box) {body : List ℕ} → Low body → Low (reheaded b body)
unfolding reheaded front
low_reheaded b {body} low = go (eqb b.body (b.at + 16))
  where
    go : (large : Bool)
        → Low (elim large [
          | true ↦ bytes_of 4 1 ++ (bytes_of 4 b.kind ++ (bytes_of 8 (16 + length body) ++ body))
          | false ↦ front b.kind (length body) ++ body
        ])
    go true = low_both (low_bytes_of 4 1) (low_both (low_bytes_of 4 b.kind) (low_both (low_bytes_of 8 (16 + length body)) low))
    go false = low_both (low_both (low_bytes_of 4 (front_size + length body)) (low_bytes_of 4 b.kind)) low

-- so is what stands in the copy for a box
module _ (f : List ℕ) (low : Low f) where
  low_box : (b : Box) → Low (box_bytes f b)
  unfolding box_bytes bytes_in
  low_box b = low_take (b.end - b.at) (low_drop b.at low)

  low_inner : (new : ℕ → ℕ) (s : Segment) (b : Box) → Low (inner_bytes f new s b)
  unfolding inner_bytes ploc_bytes bytes_in
  low_inner new s b = go (is ploc b)
    where
      go : (location : Bool) → Low (elim location [ true ↦ ploc_bytes f new s b | false ↦ box_bytes f b ])
      go true =
          let widths = number f (b.body + 4) 1 in
          low_both (low_take (b.body + 9 - b.at) (low_drop b.at low)) (low_entries (widths / 16) (widths % 16) (map (placed_anew new s.place) s.chunks))
      go false = low_box b

  low_copy : (new : ℕ → ℕ) (x : Fated) → Low (copy_of f new x)
  unfolding copy_of
  low_copy new x = go x.fate
    where
      go : (t : Fate) → Low (copy_of f new (record { box = x.box; fate = t }))
      go (dropped n) = low_none
      go whole = low_box x.box
      go (of_pfil inner) = low_reheaded x.box (low_each (box_bytes f) low_box (unindexed inner))
      go (of_pseg s) = low_reheaded x.box (low_each (inner_bytes f new s) (low_inner new s) (unindexed s.inner))

-- ---- empty chunks

-- the entries of placed items of which the empty ones have offset 0
zeroed_entries : (g : List ℕ) (h : Heading) (pseg : ℕ) (l : Ploc) (ps : List Placed) (at : ℕ)
    → Stands g at (entry_bytes l.length_size l.offset_size ps)
    → at + length (entry_bytes l.length_size l.offset_size ps) ≤ l.end
    → Each (Tells h pseg) ps
    → all_of (λ p. holds l.length_size p.size) ps ≡ true
    → all_of (λ p. holds_offset l.offset_size p.offset) ps ≡ true
    → Each (λ p. has_place p.state p.size ≡ false → p.offset ≡ Ahead 0) ps
    → ZeroOffsets g l (length ps) at
unfolding all_of
zeroed_entries g h pseg l [] at stands ends tell sizes places zeros = tt
zeroed_entries g h pseg l (p ∷ ps) at stands ends (tells, tell) sizes places (zero-here, zeros) =
    let (fits-size, sizes-rest) = both (holds l.length_size p.size) (all_of (λ p. holds l.length_size p.size) ps) sizes in
    let (fits-offset, places-rest) = both (holds_offset l.offset_size p.offset) (all_of (λ p. holds_offset l.offset_size p.offset) ps) places in
    let (found, rest) = entry-back g l p ps h pseg at stands ends tells fits-size fits-offset in
    let long = entry_long g l p ps in
    λ e read.
    subst (λ (e : Entry). (has_place e.state e.size ≡ false → e.offset ≡ Ahead 0) × ZeroOffsets g l (length ps) e.next) (given_same (sym found ∙ read))
    (zero-here, zeroed_entries g h pseg l ps _ rest (omega arith) tell sizes-rest places-rest zeros)

-- those of chunks at their new places
placed_zeros : (l : Ploc) (new : ℕ → ℕ) (pseg : ℕ) (cs : List Chunk)
    → Each (λ p. has_place p.state p.size ≡ false → p.offset ≡ Ahead 0) (map (placed_anew new pseg) cs)
unfolding placed_anew
placed_zeros l new pseg [] = tt
placed_zeros l new pseg (c ∷ cs) = (offset_empty l pseg new c, placed_zeros l new pseg cs)

-- the `ploc` of a segment in the copy
module _ (limit : ℕ) (f : List ℕ) (h : Heading) (s : Segment) (b : Box) (l : Ploc)
    (typed : b.at ≤ b.body) (inside : b.end ≤ length f)
    (bytes : (k : ℕ) → get_or f k 0 < 256)
    (head : ploc_head f b ≡ given l)
    (start : ℕ) (low : start ≤ limit)
    (read : chunks_from limit f h s.place l l.count (record { at = l.first; start = start }) ≡ given s.chunks)
    (new : ℕ → ℕ)
    (g : List ℕ) (h' : Heading) (at : ℕ) (stands : Stands g at (ploc_bytes f new s b)) (lie : Each (Lies new s.place h') s.chunks) where
  zeroed_ploc : (l' : Ploc) → ploc_head g (resized at (b.end - b.at) b) ≡ given l' → ZeroOffsets g l' l'.count l'.first
  zeroed_ploc l' found =
      let there = told limit f h s b l typed inside bytes head start low read new in
      let parts = bytes_are limit f h s b l typed inside bytes head start low read new in
      let front-size = front_long limit f h s b l typed inside bytes head start low read new in
      let back = head_anew limit f h s b l typed inside bytes head start low read new g h' at stands lie in
      let same : back ≡ l' = given_same (sym (head_back limit f h s b l typed inside bytes head start low read new g h' at stands lie) ∙ found) in
      let (tells, offsets) = there.tell h' lie in
      let long = simp (parts, length-append, front-size) at (length-ploc limit f h s b l typed inside bytes head start low read new) in
      let first : at + (b.body + 9 - b.at) ≡ back.first = omega arith in
      let ps : List Placed = map (placed_anew new s.place) s.chunks in
      let entries : List ℕ = entry_bytes l.length_size l.offset_size ps in
      let there-too = stands_right g at (bytes_in f (record { place = b.at; size = b.body + 9 - b.at })) entries (rw parts at stands) in
      subst (λ (l : Ploc). ZeroOffsets g l l.count l.first) same
      (subst (λ (n : ℕ). ZeroOffsets g back n back.first) there.many
      (zeroed_entries g h' (new s.place) back ps back.first (rw (front-size, first) at there-too) (omega arith) tells there.sizes offsets (placed_zeros l new s.place s.chunks)))

-- ---- chunks at their new places

module _ (new : ℕ → ℕ) (one two : Chunk → Bool) where
  -- one of some that passes a test, of which the new one passes another
  some_chunks : (cs : List Chunk) → ((c : Chunk) → Memᴰ c cs → one c ≡ true → two (chunk_anew new c) ≡ true)
      → some_of one cs ≡ true
      → some_of two (map (chunk_anew new) cs) ≡ true
  unfolding some_of
  some_chunks [] so passed = passed
  some_chunks (c ∷ cs) so passed =
      elim (which (one c)) [
        | inl e ↦ rw (so c (Memᴰ.head refl) e)
        | inr e ↦ rw (some_chunks cs (λ d there. so d (Memᴰ.tail there)) (rw e at passed), or-true)
      ]

  some_anew : {ss ts : List Segment} → Anew new ss ts
      → ((s : Segment) → Memᴰ s ss → (c : Chunk) → Memᴰ c s.chunks → one c ≡ true → two (chunk_anew new c) ≡ true)
      → some_of one (chunks_of ss) ≡ true
      → some_of two (chunks_of ts) ≡ true
  unfolding chunks_of some_of
  some_anew none_anew so passed = passed
  some_anew (one_anew {ss} {ts} b s rest) so passed =
      rw (some_append two (map (chunk_anew new) s.chunks) (chunks_of ts))
      (elim (which (some_of one s.chunks)) [
        | inl e ↦ rw (some_chunks s.chunks (so s (Memᴰ.head refl)) e)
        | inr e ↦ rw (some_anew rest (λ t there. so t (Memᴰ.tail there)) (rw (some_append one s.chunks (chunks_of ss), e) at passed), or-true)
      ])

-- ---- what is found of a box

module _ (limit : ℕ) (f : List ℕ) (h : Heading) (kept : List Segment) (b : Box) where
  kept_none : is pseg b ≡ false → kept_with limit f h kept b ≡ kept
  unfolding kept_with
  kept_none other = rw (kept_with, other)

  kept_one : {s : Segment} → is pseg b ≡ true → beside limit f h kept b ≡ given s → kept_with limit f h kept b ≡ kept ++ (s ∷ [])
  unfolding kept_with
  kept_one kind found = rw (kept_with, kind, found)

  fate_one : {s : Segment} → is pseg b ≡ true → beside limit f h kept b ≡ given s → fate_of limit f h kept b ≡ of_pseg s
  unfolding fate_of
  fate_one kind found = rw (fate_of, kind, found)

  fate_stays : is pseg b ≡ false → is ftyp b ≡ false → is pfil b ≡ false → stays limit f h b ≡ true → fate_of limit f h kept b ≡ whole
  unfolding fate_of
  fate_stays no-pseg no_ftyp no_pfil stay = rw (fate_of, no-pseg, no_ftyp, no_pfil, stay)

-- the copy of a file opens, and nothing of it goes
module _ (limit : ℕ) (f : List ℕ) (h : Heading) (opens : opening f ≡ given h) (bytes : (k : ℕ) → get_or f k 0 < 256) where
  abbrev new : ℕ → ℕ
  new = new_places limit f h opens bytes

  abbrev copy : List ℕ
  copy = copied f (fates limit f h)

  abbrev back : Heading
  back = heading_back limit f h opens bytes

  -- the boxes behind the first two, and the first two before some of them
  abbrev others : List Fated
  others = fates_from limit f h [] (drop 2 h.boxes)

  abbrev up_to : List Fated → List Fated
  up_to before = first_fated f h opens ∷ second_fated f h opens ∷ before

  pub copy_opens : opening (copied f (fates limit f h)) ≡ given (heading_back limit f h opens bytes)
  copy_opens = accepted_opens copy back (heading-copied limit f h opens bytes)

  pub copy_bytes : (k : ℕ) → get_or (copied f (fates limit f h)) k 0 < 256
  unfolding copied
  copy_bytes = low_at (low_each (copy_of f new) (low_copy f (low_all f bytes) new) (fates limit f h))

  -- the segments that are kept of it
  abbrev kept : List Segment
  kept = segments_back limit f h opens bytes

  -- its empty chunks have offset 0
  abbrev ZerosIn : Segment → Type 0
  ZerosIn s = (l : Ploc) → ploc_head copy (first_of ploc s.inner) ≡ given l → ZeroOffsets copy l l.count l.first

  -- each is taken again
  module _ (before : List Fated) (b : Box) (s : Segment) (behind : List Fated) (split : others ≡ before ++ (record { box = b; fate = of_pseg s } ∷ behind))
      (at : ℕ) (here : at ≡ sizes (up_to before)) where
    abbrev x : Fated
    x = record { box = b; fate = of_pseg s }

    taken : (is pseg b ≡ true) × (beside limit f h (segments_of before) b ≡ given s)
    taken = fate_pseg limit f h (segments_of before) b (fate_there limit f h opens bytes before x behind split)

    beside_there : beside limit copy back (segments_anew new before) (resized at (copy_size x) b) ≡ given (segment_anew new b s)
    unfolding beside segments_of segments_anew
    beside_there =
        let (few, _, agree, layers) = beside_given limit f h (segments_of before) b taken.1 in
        let more = rw (segments_split before (x ∷ []), anew_split new before (x ∷ [])) at (anew_fates new (before ++ (x ∷ []))) in
        rw (
          le-leb (length (segments_anew new before) + 1) segment_limit (omega (arith, anew_long (anew_fates new before))),
          (segment_there limit f h opens bytes before b s behind split at here).0,
          anew_agreed more,
          agree,
          le-leb (source_count (segments_anew new before ++ (segment_anew new b s ∷ []))) layer_limit (omega (arith, anew_count more)),
        )

    zeros_there : ZerosIn (segment_anew new b s)
    unfolding copied
    zeros_there l found =
        let before' = segments_of before in
        let stood = stood_there limit f h opens bytes before x behind split in
        let (kind, kept) = taken in
        let read = (beside_given limit f h before' b kept).1 in
        let low : length f < 2 ^ 32 = omega (arith, (opened f h opens).small) in
        let place = segment_place limit f h before' b s stood.end stood.read kind stood.inside low bytes read new in
        let put : new s.place ≡ sizes (up_to before) = rw place (new_there limit f h opens bytes before x behind split) in
        let stands : Stands copy (new s.place) (copy_of f new x) = rw put (stands_new limit f h opens bytes before x behind split new) in
        let anew = anew_fates new before in
        let lie = kept_lie limit f h opens bytes s (kept_there limit f h opens bytes before x behind split s refl) in
        let (l, w) = was limit f h before' b s stood.end stood.read kind stood.inside low bytes read new in
        let (_, typed, ends) = located limit f h before' b s stood.end stood.read kind stood.inside low bytes read new in
        let box = location-box limit f h before' b s stood.end stood.read kind stood.inside low bytes read new copy back (segments_anew new before) stands refl (anew_many anew) (anew_beside anew) lie in
        let there = location_stands limit f h before' b s stood.end stood.read kind stood.inside low bytes read new copy back (segments_anew new before) stands refl (anew_many anew) (anew_beside anew) lie in
        zeroed_ploc limit f h s (first_of ploc s.inner) l typed ends bytes w.step.head s.source_offset w.low w.chunks new copy back _ there lie _ (rw box at found)

  -- a box that a kept chunk lies in is in the copy one that it lies in
  lain_there : (before : List Fated) (b : Box) (behind : List Fated) → others ≡ before ++ (record { box = b; fate = whole } ∷ behind)
      → (at : ℕ) → at ≡ sizes (up_to before)
      → some_of (lies_in b) (chunks_of (kept_of limit f h)) ≡ true
      → some_of (lies_in (resized at (b.end - b.at) b)) (chunks_of kept) ≡ true
  unfolding lies_in copy_size
  lain_there before b behind split at here =
      let x : Fated = record { box = b; fate = whole } in
      let stood = stood_there limit f h opens bytes before x behind split in
      let inside = header_inside File f b.at stood.end stood.read in
      let own : Copied (fates limit f h) b.at =
      record { before = up_to before; x = x; behind = behind; all = all_split limit f h opens bytes before x behind split; low = le_refl b.at; high = omega arith; far = omega arith } in
      let chained = fates_chained limit f h opens bytes in
      some_anew new (lies_in b) (lies_in (resized at (b.end - b.at) b)) (kept_anew limit f h opens bytes)
      (λ s there c chunk lies.
      let (two, to) = both (eqb c.state good && leb c.place b.at) (leb b.end (c.place + c.size)) lies in
      let (is-good, from) = both (eqb c.state good) (leb c.place b.at) two in
      let low = leb-true c.place b.at from in
      let high = leb-true b.end (c.place + c.size) to in
      let filled : 0 < c.size = omega arith in
      let placed : has_place c.state c.size ≡ true = unfold has_place present in rw (eqb-true c.state good is-good, lt-ltb 0 c.size filled) in
      let run = (chunk_carried limit f h opens bytes s there c chunk placed).0 in
      let (first, near) = (new_nearer 0 0 (fates limit f h) chained c.place b.at (run_copied (fates limit f h) chained c.place c.size run filled) own).ahead low in
      let put = new_there limit f h opens bytes before x behind split in
      rw (is-good, chunk_anew, placed, le-leb (new c.place) at (omega arith), le-leb (at + (b.end - b.at)) (new c.place + c.size) (omega arith)))

  stays_there : kept_of limit copy back ≡ kept → (before : List Fated) (b : Box) (behind : List Fated)
      → others ≡ before ++ (record { box = b; fate = whole } ∷ behind)
      → (at : ℕ) → at ≡ sizes (up_to before)
      → stays limit f h b ≡ true
      → stays limit copy back (resized at (b.end - b.at) b) ≡ true
  unfolding stays is
  stays_there all before b behind split at here stay =
      elim (which (is pdat b)) [
        | inl e ↦ rw e
        | inr e ↦
            let (mixed, lain) = both h.mixed (some_of (lies_in b) (chunks_of (kept_of limit f h))) (rw e at stay) in
            rw (e, all, lain_there before b behind split at here lain, mixed)
      ]

  -- so the copies of boxes go on as their segments, and all of them stay
  record On (ts : List Segment) (behind : List Fated) (at : ℕ) : Type 0 where
    again : kept_from limit copy back ts (boxes_anew at behind) ≡ ts ++ segments_anew new behind
    stay : kept_of limit copy back ≡ kept → Each (λ x. staying x.fate ≡ true) (fates_from limit copy back ts (boxes_anew at behind))
    zeros : Each ZerosIn (segments_anew new behind)

  one_on : (before : List Fated) (b : Box) (fate : Fate) (behind : List Fated) → others ≡ before ++ (record { box = b; fate = fate } ∷ behind)
      → (at : ℕ) → at ≡ sizes (up_to before)
      → On (segments_anew new before ++ segments_anew new (record { box = b; fate = fate } ∷ [])) behind (at + copy_size (record { box = b; fate = fate }))
      → On (segments_anew new before) (record { box = b; fate = fate } ∷ behind) at
  unfolding segments_anew boxes_anew kept_from fates_from copy_size is
  one_on before b (dropped n) behind split at here more =
      let rest = rw (append-nil, add-zero) at more in
      record { again = rest.again; stay = rest.stay; zeros = rest.zeros }
  one_on before b whole behind split at here more =
      let rest = rw append-nil at more in
      let ts : List Segment = segments_anew new before in
      let b' = resized at (b.end - b.at) b in
      let (no-pseg, no_ftyp, no_pfil, stay) = fate_whole limit f h (segments_of before) b (fate_there limit f h opens bytes before (record { box = b; fate = whole }) behind split) in
      let left = kept_none limit copy back ts b' no-pseg in
      record {
        again = rw (left, kept_from) rest.again;
        stay = λ all. (rw (fate_stays limit copy back ts b' no-pseg no_ftyp no_pfil (stays_there all before b behind split at here stay)), rw (left, fates_from) (rest.stay all));
        zeros = rest.zeros;
      }
  one_on before b (of_pfil inner) behind split at here rest =
      absurd (fate_no_pfil limit f h (segments_of before) b (fate_there limit f h opens bytes before (record { box = b; fate = of_pfil inner }) behind split))
  one_on before b (of_pseg s) behind split at here rest =
      let ts : List Segment = segments_anew new before in
      let b' = resized at (copy_size (record { box = b; fate = of_pseg s })) b in
      let kind = (taken before b s behind split at here).0 in
      let found = beside_there before b s behind split at here in
      let left = kept_one limit copy back ts b' kind found in
      record {
        again = rw (left, kept_from) (rest.again ∙ append_assoc ts (segment_anew new b s ∷ []) (segments_anew new behind));
        stay = λ all. (rw (fate_one limit copy back ts b' kind found), rw (left, fates_from) (rest.stay all));
        zeros = (zeros_there before b s behind split at here, rest.zeros);
      }

  all_on : (behind before : List Fated) → others ≡ before ++ behind → (at : ℕ) → at ≡ sizes (up_to before) → On (segments_anew new before) behind at
  unfolding segments_anew boxes_anew kept_from fates_from
  all_on [] before split at here = record { again = rw append-nil; stay = λ _. tt; zeros = tt }
  all_on (x ∷ behind) before split at here =
      one_on before x.box x.fate behind split at here
      (rw (anew_split new before (x ∷ [])) at (all_on behind (before ++ (x ∷ [])) (split ∙ sym (append_assoc before (x ∷ []) behind)) (at + copy_size x) (unfold sum in omega (arith, sizes_more before x))))

  on : On [] others (0 + copy_size (first_fated f h opens) + copy_size (second_fated f h opens))
  unfolding segments_anew
  on = all_on others [] refl _ (unfold sum in omega arith)

  pub kept_again : kept_of limit copy back ≡ kept
  unfolding kept_of fates boxes_anew segments_anew
  kept_again = on.again

  pub copy_clean : Clean limit (copied f (fates limit f h)) (heading_back limit f h opens bytes)
  unfolding fates boxes_anew segments_anew
  copy_clean =
      record {
        faultless = accepted_faultless copy back (heading-copied limit f h opens bytes);
        stay = (refl, (refl, on.stay kept_again));
        pfil = pfil-unindexed f h opens;
        segments = rw kept_again (all_read limit f h opens bytes).1;
        zeros = rw kept_again on.zeros;
      }

-- what is known of a copy
record Made (limit : ℕ) (g : List ℕ) : Type 0 where
  heading : Heading
  opens : opening g ≡ given heading
  bytes : (k : ℕ) → get_or g k 0 < 256
  clean : Clean limit g heading

module _ (limit : ℕ) (f g : List ℕ) (bytes : (k : ℕ) → get_or f k 0 < 256) (once : salvage limit f ≡ given g) where
  made : Made limit g
  unfolding salvage
  made =
      let (h, opens, same) = both_given (opening f) _ once in
      let whole = framed_opens f h opens in
      let low = framed_bytes f bytes in
      subst (Made limit) (given_same same)
      (record {
        heading = heading_back limit (framed f) h whole low;
        opens = copy_opens limit (framed f) h whole low;
        bytes = copy_bytes limit (framed f) h whole low;
        clean = copy_clean limit (framed f) h whole low;
      })

  pub salvage_twice : salvage limit g ≡ given g
  salvage_twice = let m = made in clean_same limit g m.heading m.opens m.bytes m.clean

  pub lines_twice : (most : ℕ) → length g ≤ most → salvage_text limit most g ≡ []
  lines_twice = let m = made in stay_silent limit g m.heading m.opens m.clean.faultless m.clean.stay
