-- A file of which nothing goes is its own copy.
use Prim.Native.Nat.{ℕ, zero, suc, ◌+◌, ◌-◌, ◌*◌, ◌/◌, ◌%◌, ◌^◌, ◌<◌, ◌≤◌}
use mathlib.Core.Bool.{Bool, true, false, false≢true, ◌&&◌}
use mathlib.Core.List.{List, [], ◌∷◌, ◌++◌, map, map-id, append-nil, append_assoc}
use mathlib.Core.Logic.{inl, inr}
use Rattle.std.specs.Prelude.{Option, None, Some}
use mathlib.Core.Path.{◌≡◌, refl, sym, ap, subst, ◌∙◌}
use native.Mathlib.Nat.{add-zero, sub-zero, le_refl}
use native.Mathlib.Numerals.{add-one}
use native.Mathlib.Omega.{arith}
use borrow.Author.Tests.{le-leb, lt-leb, leb-true, ltb-true, ltb-false, eqb-true, eqb-false, eq-eqb, ne_eqb}
use lib.Arith.{digits_div, digits_mod}
use lib.Dec.{leb, ltb, eqb}
use lib.ListN.{length, get_or, take, drop, length-take, length-drop}
use lib.Seq.{take-length, length-take-le, get_or-take, take-suc, drop-cons, take-add, drop-drop, get_or-drop}
use Rattle.boxes.specs.Answer.{Answer, refused, given, ◌>>=◌, hold}
use Rattle.boxes.specs.Framing.{Box, uuid, user_size, sized, large, header, boxes_in, box_limit, front_size, front}
use Rattle.boxes.specs.Kinds.{pfil, pseg, ploc, fidx, is, those, box_at, first_of}
use Rattle.boxes.specs.declared.kinds.Kind.{Kind}
use Rattle.boxes.specs.declared.kinds.Container.{Container}
use Rattle.boxes.specs.declared.kinds.Container.TheVariants.{File, Pfil, Pseg}
use Rattle.boxes.proofs.AnswerLaws.{not_both, given_same, both_given, held}
use Rattle.boxes.proofs.HeaderLaws.{Inside, header_inside, user_none, sized_given, by_form}
use Rattle.boxes.proofs.ContainerLaws.{Filled, full, next, header_same, filled_boxes, boxes_filled, boxes_same, boxes_standing}
use Rattle.boxes.proofs.KindLaws.{those_one, those_other, first_of-those, right_one}
use Rattle.numerals.specs.Numbers.{number, bytes_of, signed, twos_complement}
use Rattle.numerals.specs.declared.numbers.Offset.{Offset}
use Rattle.numerals.specs.declared.numbers.Offset.TheVariants.{Ahead, Back}
use Rattle.numerals.proofs.NumberLaws.{number_below}
use Rattle.partial.specs.BoxList.{each}
use Rattle.partial.specs.Entries.{Ploc, Entry, Cursor, ploc_head, state, state_of, entry, may_lie, offset_place, place_of, chunk_step, chunks_from}
use Rattle.partial.specs.Heading.{Heading, heading, bytes_in}
use Rattle.partial.specs.Limits.{file_limit}
use Rattle.partial.specs.Index.{has_index}
use Rattle.partial.specs.Reading.{segment}
use Rattle.partial.specs.Sequences.{sum}
use Rattle.partial.specs.Segments.{Chunk, Segment, present, corrupted, has_place}
use Rattle.partial.proofs.Meaning.MappedLaws.{may_be}
use Rattle.partial.proofs.Meaning.SequenceLaws.{which, both, Each}
use Rattle.partial.proofs.Reading.HeadingAppendLaws.{headed}
use Rattle.partial.proofs.Reading.KeptLaws.{found, stepped}
use Rattle.additions.specs.Append.{Placed, flag_byte, entry_bytes}
use Rattle.rescue.specs.Kept.{Fate, dropped, whole, of_pfil, of_pseg, Fated, walk_of, first_two, opening, kept_with, kept_of, fate_of, fates_from, fates}
use Rattle.rescue.specs.Copy.{box_bytes, unindexed, reheaded, offset_to, placed_anew, ploc_bytes, inner_bytes, copy_of, new_place, copied}
use Rattle.rescue.specs.Demands.{ZeroOffsets}
use Rattle.rescue.proofs.CopyLaws.{staying, Ready}
use Rattle.rescue.proofs.PieceLaws.{length-box_bytes}
use Rattle.rescue.proofs.PlaceLaws.{Chained, ends, AsLong, new_along}
use Rattle.rescue.proofs.FateLaws.{segments_of, kept_all, fate_pseg, fate_no_pfil, beside_given}
use Rattle.rescue.proofs.FramedLaws.{faultless-framed, framed_boxes}
use Rattle.rescue.proofs.HeadingLaws.{header_nearer, opened}
use Rattle.rescue.proofs.WholeLaws.{Stood, fates_all, fates_stood, fates_ready, fates_chained}

-- of a file nothing goes: it has no framing error, every box stays, there is no index, and empty chunks have offset 0
pub record Clean (limit : ℕ) (f : List ℕ) (h : Heading) : Type 0 where
  pub faultless : (walk_of f).fault ≡ None
  pub stay : Each (λ x. staying x.fate ≡ true) (fates limit f h)
  pub pfil : has_index h.inner ≡ false
  pub segments : Each (λ s. has_index s.inner ≡ false) (kept_of limit f h)
  pub zeros : Each (λ s. (l : Ploc) → ploc_head f (first_of ploc s.inner) ≡ given l → ZeroOffsets f l l.count l.first) (kept_of limit f h)

-- ---- parts of a file, from one place to another

abbrev part : List ℕ → ℕ → ℕ → List ℕ
part f from to = take (to - from) (drop from f)

part_long : (f : List ℕ) (from to : ℕ) → to ≤ length f → length (part f from to) ≡ to - from
part_long f from to inside = simp (length-take, length-drop) (omega arith)

-- two one behind the other
part_join : (f : List ℕ) (from mid to : ℕ) → from ≤ mid → mid ≤ to → part f from mid ++ part f mid to ≡ part f from to
part_join f from mid to low high =
    let size : mid - from + (to - mid) ≡ to - from = omega arith in
    let on : from + (mid - from) ≡ mid = omega arith in
    sym (rw (size, drop-drop (mid - from) from f, on) at (take-add (mid - from) (to - mid) (drop from f)))

-- the bytes of a number are those that it was read from
number-back : (f : List ℕ) (at w : ℕ) → ((k : ℕ) → get_or f k 0 < 256) → at + w ≤ length f → bytes_of w (number f at w) ≡ take w (drop at f)
unfolding number bytes_of
number-back f at zero bytes inside = refl
number-back f at (suc w) bytes inside =
    let n : ℕ = number f at w in
    rw (
      digits_div n (bytes (at + w)),
      digits_mod n (bytes (at + w)),
      number-back f at w bytes (omega arith),
      ← get_or-drop at f w 0,
    ) (sym (take-suc (drop at f) w 0 (rw length-drop (omega arith))))

-- so are they and what stands behind them
field_back : (f : List ℕ) (at to end w n : ℕ) → ((k : ℕ) → get_or f k 0 < 256) → n ≡ number f at w → at + w ≡ to → to ≤ end → end ≤ length f
    → bytes_of w n ++ part f to end ≡ part f at end
field_back f at to end w n bytes same on fits inside =
    let wide : to - at ≡ w = omega arith in
    rw same (rw (wide, ← number-back f at w bytes (omega arith)) at (part_join f at to end (omega arith) fits))

-- pieces that are boxes of a file, one behind the other, are a part of it
module _ {A : Type 0} (text : A → List ℕ) (box : A → Box) (c : Container) (f : List ℕ) (end : ℕ) where
  pieces_back : {at : ℕ} (xs : List A) → Filled c f end at (map box xs) → Each (λ x. text x ≡ box_bytes f (box x)) xs → each text xs ≡ part f at end
  unfolding each box_bytes bytes_in
  pieces_back {at} [] (full e) same = let None : end - at ≡ 0 = omega arith in rw None
  pieces_back {at} (x ∷ xs) (next short read rest) (here, there) =
      let i = header_inside c f at end read in
      rw (here, i.starts, pieces_back {at = (box x).end} xs rest there) (part_join f at (box x).end end (omega arith) i.ends)

boxes-back : (text : Box → List ℕ) (c : Container) (f : List ℕ) (at end : ℕ) (bs : List Box) → Filled c f end at bs → Each (λ b. text b ≡ box_bytes f b) bs
    → each text bs ≡ part f at end
boxes-back text c f at end bs filled same = pieces_back text (λ b. b) c f end {at = at} bs (rw map-id filled) same

-- a container with its own body is what it was: what stands before it was read from there
module _ (c : Container) (f : List ℕ) (end : ℕ) {b : Box} (read : header c f b.at end ≡ given b) (inside : b.end ≤ length f)
    (bytes : (k : ℕ) → get_or f k 0 < 256)
    (other : eqb b.kind uuid ≡ false) where
  reheaded-back : reheaded b (part f b.body b.end) ≡ box_bytes f b
  unfolding reheaded box_bytes bytes_in front front_size large
  reheaded-back = by_form c f b.at end read (λ _. in-large) (λ _ _ _. in-short)
    where
      lies : Inside b.at end b
      lies = header_inside c f b.at end read

      short : user_size b.kind ≡ 0
      short = user_none b.kind (eqb-false b.kind uuid other)

      body : List ℕ
      body = part f b.body b.end

      long : length body ≡ b.end - b.body
      long = part_long f b.body b.end inside

      -- a number before the body
      field : (at to w n : ℕ) → n ≡ number f at w → at + w ≡ to → to ≤ b.end → bytes_of w n ++ part f to b.end ≡ part f at b.end
      field at to w n same on fits = field_back f at to b.end w n bytes same on fits inside

      in-large : number f b.at 4 ≡ 1 → large f b.at end ≡ given b → reheaded b body ≡ box_bytes f b
      in-large one g =
          let (under, _, same) = sized_given f b.at end 16 _ (held 2 (leb (b.at + 16) end) _ g).1 in
          let i = lies in
          let kind : number f (b.at + 4) 4 ≡ b.kind = ap (λ (x : Box). x.kind) same in
          let user : b.at + 16 ≡ b.user = ap (λ (x : Box). x.user) same in
          let ends : b.at + number f (b.at + 8) 8 ≡ b.end = ap (λ (x : Box). x.end) same in
          rw (
            reheaded,
            eq-eqb b.body (b.at + 16) (omega (arith, short)),
            field (b.at + 8) b.body 8 (16 + length body) (omega (arith, short, long)) (omega (arith, short)) i.whole,
            field (b.at + 4) (b.at + 8) 4 b.kind (sym kind) (omega arith) (omega arith),
          ) (field b.at (b.at + 4) 4 1 (sym one) refl (omega arith))

      in-short : sized f b.at end 8 (number f b.at 4) ≡ given b → reheaded b body ≡ box_bytes f b
      in-short g =
          let (under, _, same) = sized_given f b.at end 8 _ g in
          let i = lies in
          let kind : number f (b.at + 4) 4 ≡ b.kind = ap (λ (x : Box). x.kind) same in
          let user : b.at + 8 ≡ b.user = ap (λ (x : Box). x.user) same in
          let ends : b.at + number f b.at 4 ≡ b.end = ap (λ (x : Box). x.end) same in
          rw (
            reheaded,
            ne_eqb b.body (b.at + 16) (omega (arith, short)),
            append_assoc (bytes_of 4 (8 + length body)) (bytes_of 4 b.kind) body,
            field (b.at + 4) b.body 4 b.kind (sym kind) (omega (arith, short)) i.whole,
          ) (field b.at (b.at + 4) 4 (8 + length body) (omega (arith, short, long)) refl (omega arith))

-- ---- the entries of a `ploc`

-- a flag byte is told back by the state that it says
flag-back : (b s : ℕ) → b < 256 → state_of b ≡ given s → flag_byte s ≡ b
unfolding state_of state flag_byte present corrupted
flag-back b s low e =
    let (zeros, e1) = held 20 (eqb (b % 64) 0) _ e in
    subst (λ (s : ℕ). flag_byte s ≡ b) (given_same e1) (go (eqb (b / 128) 1) (eqb (b / 64 % 2) 1) refl refl (eqb-true (b % 64) 0 zeros))
  where
    go : (spoiled there : Bool) → eqb (b / 128) 1 ≡ spoiled → eqb (b / 64 % 2) 1 ≡ there → b % 64 ≡ 0 → flag_byte (state spoiled there) ≡ b
    go false false e g zeros = omega (arith, eqb-false (b / 128) 1 e, eqb-false (b / 64 % 2) 1 g)
    go false true e g zeros = omega (arith, eqb-false (b / 128) 1 e, eqb-true (b / 64 % 2) 1 g)
    go true false e g zeros = omega (arith, eqb-true (b / 128) 1 e, eqb-false (b / 64 % 2) 1 g)
    go true true e g zeros = omega (arith, eqb-true (b / 128) 1 e, eqb-true (b / 64 % 2) 1 g)

-- a number by the offset that it says, which is never the second name of 0
module _ (w n : ℕ) (low : n < 256 ^ w) where
  signed-number : twos_complement w (signed w n) ≡ n
  unfolding signed twos_complement
  signed-number =
      elim (which (ltb (2 * n) (256 ^ w))) [
        | inl e ↦ rw (signed, e)
        | inr e ↦ rw (signed, e) (omega arith)
      ]

  signed_some : signed w n ≡ Back 0 → ⊥
  unfolding signed
  signed_some same =
      elim (which (ltb (2 * n) (256 ^ w))) [
        | inl e ↦ let ahead : Ahead n ≡ Back 0 = rw (signed, e) at same in let z : ◌≡◌ {A = ℕ} 0 1 = cc in omega arith
        | inr e ↦ let back : Back (256 ^ w - n) ≡ Back 0 = rw (signed, e) at same in let z : 256 ^ w - n ≡ 0 = cc in omega arith
      ]

-- an offset by the place that it gives
offset_told : (z : Offset) (pseg place : ℕ) → offset_place pseg z ≡ Some place → (z ≡ Back 0 → ⊥) → offset_to pseg place ≡ z
unfolding offset_place offset_to
offset_told (Ahead n) pseg place e not_None =
    let there : pseg + n ≡ place = cc in
    rw (offset_to, le-leb pseg place (omega arith)) (ap Ahead (omega arith))
offset_told (Back zero) pseg place e not_None = absurd (not_None refl)
offset_told (Back (suc n)) pseg place e not_None =
    elim (which (leb (suc n) pseg)) [
      | inl fits ↦
          let here : Some (pseg - suc n) ≡ Some place = rw (offset_place, fits) at e in
          let there : pseg - suc n ≡ place = cc in
          let low = leb-true (suc n) pseg fits in
          rw (offset_to, lt-leb pseg place (omega arith)) (ap Back (omega arith))
      | inr over ↦
          let nowhere : None ≡ Some place = rw (offset_place, over) at e in
          let z : ◌≡◌ {A = ℕ} 0 1 = cc in
          absurd (omega arith)
    ]

-- a byte and what stands behind it
byte_back : (f : List ℕ) (at end : ℕ) → at < end → end ≤ length f → get_or f at 0 ∷ part f (at + 1) end ≡ part f at end
byte_back f at end short inside =
    let size : end - at ≡ suc (end - (at + 1)) = omega arith in
    rw (size, drop-cons f at 0 (omega arith), add-one)

module _ (f : List ℕ) (bytes : (k : ℕ) → get_or f k 0 < 256) (l : Ploc) (inside : l.end ≤ length f) where
  -- how many bytes the offset of an entry has, where a bit is set
  abbrev wide : Bool → ℕ
  wide set = elim set [ true ↦ l.offset_size | false ↦ 0 ]

  -- its bytes, and those behind it
  offset_back : (set : Bool) (at : ℕ) (z : Offset) (behind : List ℕ) → z ≡ signed (wide set) (number f at (wide set)) → at + wide set ≤ l.end
      → behind ≡ part f (at + wide set) l.end
      → (elim set [ true ↦ bytes_of l.offset_size (twos_complement l.offset_size z) | false ↦ [] ]) ++ behind ≡ part f at l.end
  offset_back true at z behind read fits same =
      let w = l.offset_size in
      rw (same, read) (field_back f at (at + w) l.end w _ bytes (signed-number w (number f at w) (number_below f at w bytes)) refl fits inside)
  offset_back false at z behind read fits same = rw add-zero at same

  abbrev written : List Placed → List ℕ
  written ps = entry_bytes l.length_size l.offset_size ps

  -- an entry as it says itself
  abbrev told : Entry → Placed
  told x = record { size = x.size; state = x.state; offset = x.offset }

  entry-back : (at : ℕ) (x : Entry) (ps : List Placed) → entry f l at ≡ given x → written ps ≡ part f x.next l.end → written (told x ∷ ps) ≡ part f at l.end
  unfolding entry entry_bytes
  entry-back at x ps e =
      let (more, e1) = held 17 (ltb at l.end) _ e in
      let (s, read, e2) = both_given (state_of (get_or f at 0)) _ e1 in
      let rest : ℕ = at + 1 + l.length_size in
      let (fits, e3) = held 17 (leb (rest + wide (present s)) l.end) _ e2 in
      let room = leb-true (rest + wide (present s)) l.end fits in
      let size = field_back f (at + 1) rest l.end l.length_size _ bytes refl refl (omega arith) inside in
      subst (λ (x : Entry). written ps ≡ part f x.next l.end → written (told x ∷ ps) ≡ part f at l.end) (given_same e3)
      (λ behind. rw (flag-back (get_or f at 0) s (bytes at) read, offset_back (present s) rest _ (written ps) refl room behind, size)
      (byte_back f at l.end (omega (arith, ltb-true at l.end more)) inside))

  entry_some : (at : ℕ) (x : Entry) → entry f l at ≡ given x → x.offset ≡ Back 0 → ⊥
  unfolding entry
  entry_some at x e =
      let (more, e1) = held 17 (ltb at l.end) _ e in
      let (s, read, e2) = both_given (state_of (get_or f at 0)) _ e1 in
      let w = wide (present s) in
      let rest : ℕ = at + 1 + l.length_size in
      let (fits, e3) = held 17 (leb (rest + w) l.end) _ e2 in
      subst (λ (x : Entry). x.offset ≡ Back 0 → ⊥) (given_same e3) (signed_some w (number f rest w) (number_below f rest w bytes))

  -- where no place of the file changes
  module _ (h : Heading) (pseg : ℕ) (new : ℕ → ℕ) (same : (place : ℕ) → place ≤ length f → new place ≡ place) (from : pseg ≤ length f)
      (ends : (k : ℕ) → k < length h.boxes → (box_at k h.boxes).end ≤ length f) where
    -- what may lie in the file starts in it
    lie_inside : (c : Chunk) → may_lie h c.state c.place c.size ≡ true → c.place ≤ length f
    lie_inside c may =
        elim (may_be h c may) [
          | inl d ↦ omega (arith, ends d.number d.there, d.to)
          | inr w ↦ omega (arith, ends (w.first + w.more) w.there, w.ends)
        ]

    place_told : (x : Entry) (place : ℕ) → place_of h pseg x ≡ given place → has_place x.state x.size ≡ true
        → (offset_place pseg x.offset ≡ Some place) × (may_lie h x.state place x.size ≡ true)
    unfolding place_of
    place_told x place e has = go (offset_place pseg x.offset) (rw (place_of, has) at e)
      where
        go : (o : Option ℕ)
            → ◌≡◌ {A = Answer ℕ} (elim o [ None ↦ refused 24 | Some place ↦ hold 24 (may_lie h x.state place x.size) >>= λ _. given place ]) (given place)
            → (o ≡ Some place) × (may_lie h x.state place x.size ≡ true)
        go None e = absurd (not_both e)
        go (Some there) e =
            let (may, here) = held 24 (may_lie h x.state there x.size) _ e in
            let found = given_same here in
            (ap Some found, rw found at may)

    -- an entry's chunk has its old offset
    offset_kept : (at start place : ℕ) (x : Entry) → entry f l at ≡ given x → place_of h pseg x ≡ given place
        → (has_place x.state x.size ≡ false → x.offset ≡ Ahead 0)
        → placed_anew new pseg (record { start = start; size = x.size; state = x.state; place = place }) ≡ told x
    unfolding placed_anew
    offset_kept at start place x read e none-there =
        elim (which (has_place x.state x.size)) [
          | inl has ↦
              let (gives, may) = place_told x place e has in
              let low = lie_inside (record { start = start; size = x.size; state = x.state; place = place }) may in
              rw (placed_anew, has, same pseg from, same place low, offset_told x.offset pseg place gives (entry_some at x read))
          | inr empty ↦ rw (placed_anew, empty, none-there empty)
        ]

    entries_back : (limit more : ℕ) (c : Cursor) (cs : List Chunk) → chunks_from limit f h pseg l more c ≡ given cs → ZeroOffsets f l more c.at
        → written (map (placed_anew new pseg) cs) ≡ part f c.at l.end
    unfolding chunks_from chunk_step entry_bytes
    entries_back limit zero c cs e zeroed =
        let (ended, e1) = held 17 (eqb c.at l.end) _ e in
        let None : l.end - c.at ≡ 0 = omega (arith, eqb-true c.at l.end ended) in
        subst (λ (cs : List Chunk). written (map (placed_anew new pseg) cs) ≡ part f c.at l.end) (given_same e1) (rw None)
    entries_back limit (suc more) c cs e zeroed =
        let (met, step, e1) = both_given (chunk_step limit f h pseg l c) _ e in
        let (rest, others, e2) = both_given (chunks_from limit f h pseg l more met.1) _ e1 in
        let (x, read, s1) = both_given (entry f l c.at) _ step in
        let (fits, s2) = held 23 (leb (c.start + x.size) limit) _ s1 in
        let (place, there, s3) = both_given (place_of h pseg x) _ s2 in
        let (none-there, zeros) = zeroed x read in
        let kept = offset_kept c.at c.start place x read there none-there in
        subst (λ (cs : List Chunk). written (map (placed_anew new pseg) cs) ≡ part f c.at l.end) (given_same e2)
        (subst (λ (m : Chunk × Cursor). chunks_from limit f h pseg l more m.1 ≡ given rest → written (map (placed_anew new pseg) (m.0 ∷ rest)) ≡ part f c.at l.end) (given_same s3)
        (λ behind. ap (λ (p : Placed). written (p ∷ map (placed_anew new pseg) rest)) kept
        ∙ entry-back c.at x (map (placed_anew new pseg) rest) read (entries_back limit more (record { at = x.next; start = c.start + x.size }) rest behind zeros)) others)

-- ---- boxes with others inside

-- without an index there is nothing to leave out
unindexed_same : (bs : List Box) → has_index bs ≡ false → unindexed bs ≡ bs
unfolding has_index unindexed
unindexed_same bs no_index_lem = go bs (ltb-false 0 (length (those fidx bs)) no_index_lem)
  where
    go : (bs : List Box) → length (those fidx bs) ≤ 0 → unindexed bs ≡ bs
    go [] few = refl
    go (b ∷ bs) few =
        elim (which (is fidx b)) [
          | inl e ↦ absurd (omega (arith, ap length (those_one fidx b bs e)))
          | inr e ↦ rw (unindexed, e, go bs (omega (arith, ap length (those_other fidx b bs e))))
        ]

-- what holds of the only box of a kind holds of each that is of it
of_kind : (P : Box → Type 0) (k : Kind) (bs : List Box) → length (those k bs) ≡ 1 → P (first_of k bs) → Each (λ b. is k b ≡ true → P b) bs
unfolding box_at
of_kind P k bs one first = go bs (only (those k bs) one (subst P (first_of-those k bs) first))
  where
    only : (cs : List Box) → length cs ≡ 1 → P (box_at 0 cs) → Each P cs
    only [] one p = tt
    only (c ∷ []) one p = (p, tt)
    only (c ∷ d ∷ cs) one p = absurd (omega arith)

    go : (bs : List Box) → Each P (those k bs) → Each (λ b. is k b ≡ true → P b) bs
    go [] all = tt
    go (b ∷ bs) all =
        elim (which (is k b)) [
          | inl e ↦ let (here, there) = subst (Each P) (those_one k b bs e) all in (λ _. here, go bs there)
          | inr e ↦ (λ e'. absurd (false≢true (sym e ∙ e')), go bs (subst (Each P) (those_other k b bs e) all))
        ]

-- what stands in the copy for a box is that box
abbrev Same : List ℕ → (ℕ → ℕ) → Fated → Type 0
Same f new x = copy_of f new x ≡ box_bytes f x.box

-- a segment without an index whose empty chunks have offset 0
abbrev Unchanged : List ℕ → Segment → Type 0
Unchanged f s = (has_index s.inner ≡ false) × ((l : Ploc) → ploc_head f (first_of ploc s.inner) ≡ given l → ZeroOffsets f l l.count l.first)

-- where no place of the file changes
module _ (limit : ℕ) (f : List ℕ) (h : Heading) (bytes : (k : ℕ) → get_or f k 0 < 256)
    (ends : (k : ℕ) → k < length h.boxes → (box_at k h.boxes).end ≤ length f)
    (new : ℕ → ℕ)
    (same : (place : ℕ) → place ≤ length f → new place ≡ place) where
  -- the `ploc` of a segment
  ploc-back : (s : Segment) (b : Box) (l : Ploc) (start : ℕ) → b.at ≤ b.body → b.end ≤ length f → s.place ≤ length f → ploc_head f b ≡ given l
      → chunks_from limit f h s.place l l.count (record { at = l.first; start = start }) ≡ given s.chunks
      → ZeroOffsets f l l.count l.first
      → ploc_bytes f new s b ≡ box_bytes f b
  unfolding ploc_head ploc_bytes box_bytes bytes_in
  ploc-back s b l start low inside from head =
      let (room, e1) = held 17 (leb (b.body + 9) b.end && eqb (number f b.body 4) 0) _ head in
      let (fits, _) = both (leb (b.body + 9) b.end) (eqb (number f b.body 4) 0) room in
      let widths = number f (b.body + 4) 1 in
      let (_, e2) = held 18 (leb (widths / 16) 8 && leb (widths % 16) 8) _ e1 in
      let (_, e3) = held 19 (eqb (number f (b.body + 5) 2) 0) _ e2 in
      subst (λ (l : Ploc). chunks_from limit f h s.place l l.count (record { at = l.first; start = start }) ≡ given s.chunks
      → ZeroOffsets f l l.count l.first
      → ploc_bytes f new s b ≡ box_bytes f b) (given_same e3)
      (λ read zeroed.
      rw (entries_back f bytes _ inside h s.place new same from ends limit _ _ s.chunks read zeroed)
      (part_join f b.at (b.body + 9) b.end (omega arith) (leb-true (b.body + 9) b.end fits)))

  -- the boxes inside a `pseg` whose `ploc` has that head
  inner_back : (s : Segment) (l : Ploc) (start end : ℕ) → s.place ≤ length f → end ≤ length f
      → chunks_from limit f h s.place l l.count (record { at = l.first; start = start }) ≡ given s.chunks
      → ZeroOffsets f l l.count l.first
      → {at : ℕ} {bs : List Box} → Filled Pseg f end at bs → Each (λ b. is ploc b ≡ true → ploc_head f b ≡ given l) bs
      → Each (λ b. inner_bytes f new s b ≡ box_bytes f b) bs
  unfolding inner_bytes
  inner_back s l start end from inside read zeroed (full e) heads = tt
  inner_back s l start end from inside read zeroed (next {at = at} {b = b} short stood rest) (head, heads) =
      let i = header_inside Pseg f at end stood in
      let here : inner_bytes f new s b ≡ box_bytes f b =
      elim (which (is ploc b)) [
        | inl e ↦ rw (inner_bytes, e) (ploc-back s b l start (omega arith) (omega arith) from (head e) read zeroed)
        | inr e ↦ rw (inner_bytes, e)
      ] in
      (here, inner_back s l start end from inside read zeroed rest heads)

  -- a `pseg` whose segment was read beside some others
  segment-back : (before : List Segment) (b : Box) (s : Segment) (end : ℕ) → header File f b.at end ≡ given b → is pseg b ≡ true → b.end ≤ length f
      → segment limit f h before b ≡ given s
      → Unchanged f s
      → Same f new (record { box = b; fate = of_pseg s })
  unfolding copy_of is
  segment-back before b s end stood kind inside read =
      let i = header_inside File f b.at end stood in
      let typed = eqb-true b.kind pseg.code kind in
      let (inner, l, cs, t, same-segment) = stepped limit f h before b read in
      subst (λ (s : Segment). Unchanged f s → Same f new (record { box = b; fate = of_pseg s })) same-segment
      (λ (no_index_lem, zeros).
      let heads = of_kind (λ c. ploc_head f c ≡ given l) ploc inner (right_one Pseg ploc inner refl t.single) t.head in
      let filled = boxes_filled Pseg f b.body b.end t.boxes in
      let pieces = inner_back (found f h before b inner cs) l _ b.end (omega arith) inside t.chunks (zeros l t.head) filled heads in
      rw (
        unindexed_same inner no_index_lem,
        boxes-back (inner_bytes f new (found f h before b inner cs)) Pseg f b.body b.end inner filled pieces,
      ) (reheaded-back File f end stood inside bytes (rw typed)))

  -- the `pfil`, whose inner boxes stay as they are
  pfil-back : (b : Box) (inner : List Box) (end : ℕ) → header File f b.at end ≡ given b → is pfil b ≡ true → b.end ≤ length f
      → boxes_in Pfil f b.body b.end ≡ given inner
      → has_index inner ≡ false
      → Same f new (record { box = b; fate = of_pfil inner })
  unfolding copy_of is
  pfil-back b inner end stood kind inside known no_index_lem =
      let typed = eqb-true b.kind pfil.code kind in
      rw (
        unindexed_same inner no_index_lem,
        boxes-back (box_bytes f) Pfil f b.body b.end inner (boxes_filled Pfil f b.body b.end known) (all inner),
      ) (reheaded-back File f end stood inside bytes (rw typed))
    where
      all : (bs : List Box) → Each (λ b. box_bytes f b ≡ box_bytes f b) bs
      all [] = tt
      all (b ∷ bs) = (refl, all bs)

  -- boxes behind the first two that all stay
  fates_back : (kept : List Segment) (bs : List Box) → Each (Stood f) (fates_from limit f h kept bs)
      → Each (λ x. staying x.fate ≡ true) (fates_from limit f h kept bs)
      → Each (Unchanged f) (segments_of (fates_from limit f h kept bs))
      → Each (Same f new) (fates_from limit f h kept bs)
  unfolding fates_from segments_of copy_of
  fates_back kept [] stood stay plain = tt
  fates_back kept (b ∷ bs) (here, there) (stays, stay) plain =
      let (one, others) = go (fate_of limit f h kept b) refl stays plain in
      (one, fates_back (kept_with limit f h kept b) bs there stay others)
    where
      xs : List Fated
      xs = fates_from limit f h (kept_with limit f h kept b) bs

      go : (t : Fate) → fate_of limit f h kept b ≡ t → staying t ≡ true → Each (Unchanged f) (segments_of (record { box = b; fate = t } ∷ xs))
          → Same f new (record { box = b; fate = t }) × Each (Unchanged f) (segments_of xs)
      go (dropped n) e stays plain = absurd (false≢true stays)
      go whole e stays plain = (refl, plain)
      go (of_pfil inner) e stays plain = absurd (fate_no_pfil limit f h kept b e)
      go (of_pseg s) e stays (plain, others) =
          let (kind, found) = fate_pseg limit f h kept b e in
          (segment-back kept b s here.end here.read kind here.inside (beside_given limit f h kept b found).1 plain, others)

-- ---- the file

-- the boxes of `pfil` are those that it has in the first two boxes alone
cut_inner : (f : List ℕ) {to : ℕ} {bs : List Box} → Filled File f to 0 bs → to ≤ length f → 2 ≤ length bs → (k : Heading) → heading (first_two f bs) ≡ given k
    → boxes_in Pfil f (box_at 1 bs).body (box_at 1 bs).end ≡ given k.inner
unfolding first_two box_at box_limit
cut_inner f (full e) inside two k known = absurd (omega arith)
cut_inner f (next short read (full e)) inside two k known = absurd (omega arith)
cut_inner f {to} (next {b = a} short read (next {b = b} {bs = bs} short' read' rest)) inside two k known =
    let g : List ℕ = take b.end f in
    let one = header_inside File f 0 to read in
    let other = header_inside File f a.end to read' in
    let alike : (i : ℕ) → i < b.end → get_or g i 0 ≡ get_or f i 0 = λ i less. get_or-take b.end f i 0 less in
    let cut = header_same f g b.end alike File in
    let filled : Filled File g b.end 0 (a ∷ b ∷ []) =
    next {at = 0} (omega arith) (cut 0 ∙ header_nearer File f 0 to b.end read (omega arith) (omega arith))
    (next {at = a.end} (omega arith) (cut a.end ∙ header_nearer File f a.end to b.end read' (omega arith) (omega arith)) (full (le_refl b.end))) in
    let t = headed g k (rw (le-leb 2 (length (a ∷ b ∷ bs)) two, first_two) at known) in
    let boxes : k.boxes ≡ a ∷ b ∷ [] = given_same (sym t.boxes ∙ rw (length-take-le b.end f (omega arith)) (filled_boxes File filled (omega arith))) in
    sym (boxes_same f g b.end alike Pfil b.body) ∙ rw boxes at t.inner

module _ (f : List ℕ) (h : Heading) (opens : opening f ≡ given h) where
  pfil_inner : boxes_in Pfil f (box_at 1 h.boxes).body (box_at 1 h.boxes).end ≡ given h.inner
  unfolding opening
  pfil_inner =
      let o = opened f h opens in
      let (_, e) = held 1 (leb (length f) file_limit) _ opens in
      let (k, known, same) = both_given (heading (first_two f (walk_of f).boxes)) _ e in
      let inner : k.inner ≡ h.inner = ap (λ (h : Heading). h.inner) (given_same same) in
      rw (← inner) (cut_inner f o.filled o.inside o.two k (ap (λ (bs : List Box). heading (first_two f bs)) o.boxes ∙ known))

  -- without a framing error its boxes are all of it
  all_filled : (walk_of f).fault ≡ None → Filled File f (length f) 0 h.boxes
  all_filled faultless = rw (opened f h opens).boxes (boxes_filled File f 0 (length f) (rw (faultless-framed f faultless) at (framed_boxes f)))

  -- and each ends in it
  all_inside : (k : ℕ) → k < length h.boxes → (box_at k h.boxes).end ≤ length f
  all_inside k there =
      let o = opened f h opens in
      omega (arith, (boxes_standing File f 0 o.end (filled_boxes File o.filled o.few) k there).inside.ends)

-- boxes that fill a file end with it
filled_ends : (f : List ℕ) (end at : ℕ) (xs : List Fated) → at ≤ end → Filled File f end at (map (λ x. x.box) xs) → ends at xs ≡ end
filled_ends f end at [] low (full e) = omega arith
filled_ends f end at (x ∷ xs) low (next short read rest) = filled_ends f end x.box.end xs (header_inside File f at end read).ends rest

-- a box that is copied as it was is as long in the copy
all_long : (f : List ℕ) (new : ℕ → ℕ) (xs : List Fated) → Each (Same f new) xs → Each (Ready f new) xs → Each (Stood f) xs
    → Each AsLong xs
all_long f new [] same ready stood = tt
all_long f new (x ∷ xs) (here, same) (r, ready) (there, stood) =
    (sym r.long ∙ ap length here ∙ length-box_bytes File f there.end there.read there.inside, all_long f new xs same ready stood)

-- what holds of each and what else holds of each
each_both : {A : Type 0} (P Q : A → Type 0) (xs : List A) → Each P xs → Each Q xs → Each (λ x. P x × Q x) xs
each_both P Q [] all too = tt
each_both P Q (x ∷ xs) (p, all) (q, too) = ((p, q), each_both P Q xs all too)

module _ (limit : ℕ) (f : List ℕ) (h : Heading) (opens : opening f ≡ given h) (bytes : (k : ℕ) → get_or f k 0 < 256) (clean : Clean limit f h) where
  abbrev xs : List Fated
  xs = fates limit f h

  stood : Each (Stood f) xs
  stood = fates_stood limit f h opens bytes

  filled : Filled File f (length f) 0 (map (λ x. x.box) xs)
  filled = rw (fates_all limit f h opens bytes) (all_filled f h opens clean.faultless)

  -- where no place of the file changes each box is copied as it was
  same_all : (new : ℕ → ℕ) → ((place : ℕ) → place ≤ length f → new place ≡ place) → Each (Same f new) xs
  unfolding fates segments_of copy_of
  same_all new same =
      let plain : Each (Unchanged f) (segments_of xs) = rw (kept_all limit f h) at (each_both _ _ (kept_of limit f h) clean.segments clean.zeros) in
      let second = stood.1.0 in
      let inside = all_inside f h opens in (
        refl,
        (
          pfil-back limit f h bytes inside new same (box_at 1 h.boxes) h.inner second.end second.read (opened f h opens).second second.inside (pfil_inner f h opens) clean.pfil,
          fates_back limit f h bytes inside new same [] (drop 2 h.boxes) stood.1.1 clean.stay.1.1 plain,
        ),
      )

  long_all : Each AsLong xs
  long_all = all_long f (λ place. place) xs (same_all (λ place. place) (λ place _. refl)) (fates_ready limit f h opens bytes (λ place. place)) stood

  -- so none does
  place_same : (place : ℕ) → place ≤ length f → new_place 0 xs place ≡ place
  unfolding sum
  place_same place low =
      let chained : Chained 0 (xs ++ []) = rw append-nil (fates_chained limit f h opens bytes) in
      let there = filled_ends f (length f) 0 xs (omega arith) filled in
      omega (arith, rw append-nil at (new_along 0 0 [] xs [] chained long_all place (omega arith) (omega arith)))

pub copy_same : (limit : ℕ) (f : List ℕ) (h : Heading) → opening f ≡ given h → ((k : ℕ) → get_or f k 0 < 256) → Clean limit f h → copied f (fates limit f h) ≡ f
unfolding copied
copy_same limit f h opens bytes clean =
    let new : ℕ → ℕ = new_place 0 (fates limit f h) in
    pieces_back (copy_of f new) (λ x. x.box) File f (length f) {at = 0} (fates limit f h) (filled limit f h opens bytes clean)
    (same_all limit f h opens bytes clean new (place_same limit f h opens bytes clean))
    ∙ rw sub-zero (take-length f)
