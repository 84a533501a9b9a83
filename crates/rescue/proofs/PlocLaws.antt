-- A `ploc` with new offsets reads back: its head as it was, its chunks at their new places.
use Prim.Native.Nat.{ℕ, zero, suc, ◌+◌, ◌-◌, ◌*◌, ◌/◌, ◌%◌, ◌^◌, ◌<◌, ◌≤◌}
use mathlib.Core.Bool.{Bool, true, false, ◌&&◌}
use mathlib.Core.List.{List, ◌∷◌, ◌++◌, map}
use mathlib.Core.Logic.{inl, inr}
use Rattle.std.specs.Prelude.{unwrap_or}
use Rattle.std.specs.Prelude.{Option, None, Some}
use mathlib.Core.Path.{◌≡◌, refl, sym, ap, subst, ◌∙◌}
use native.Mathlib.Decide.{dec_le}
use native.Mathlib.Nat.{zero-add}
use native.Mathlib.Omega.{arith}
use borrow.Author.Tests.{leb-true, le-leb, lt-leb, ltb-true, ltb-false, eqb-true}
use lib.Dec.{leb, ltb, eqb}
use lib.ListN.{length, get_or, length-append, length-take, length-drop, get_or-append}
use lib.Seq.{get_or-take, get_or-drop}
use Rattle.boxes.specs.Answer.{Answer, refused, given, ◌>>=◌, hold}
use Rattle.boxes.specs.Framing.{Box}
use Rattle.boxes.proofs.AnswerLaws.{not_both, given_same, both_given, held}
use Rattle.numerals.specs.Numbers.{number, signed, holds, holds_offset}
use Rattle.numerals.specs.declared.numbers.Offset.{Offset}
use Rattle.numerals.specs.declared.numbers.Offset.TheVariants.{Ahead, Back}
use Rattle.numerals.proofs.NumberLaws.{number_same, number_below, power_pos, length-bytes_of}
use Rattle.numerals.proofs.WidthLaws.{below_holds, below_ahead, ahead_below, within-back, back-within}
use Rattle.partial.specs.Sequences.{all_of, sum}
use Rattle.partial.specs.Segments.{Chunk, Segment, present, has_place}
use Rattle.partial.specs.Heading.{Heading, bytes_in}
use Rattle.partial.specs.Entries.{Ploc, Entry, Cursor, ploc_head, state, state_of, entry, may_lie, offset_place, place_of, chunk_step, chunks_from}
use Rattle.partial.proofs.Meaning.SequenceLaws.{which, both, Each}
use Rattle.additions.specs.Addition.{is_state}
use Rattle.additions.specs.Append.{Placed, entry_bytes, new_chunks}
use Rattle.additions.proofs.StandsLaws.{Stands, stands_right}
use Rattle.additions.proofs.EntriesBackLaws.{Tells, chunks_back}
use Rattle.rescue.specs.Copy.{offset_to, placed_anew, ploc_bytes}
use Rattle.rescue.proofs.Shapes.{Alike, resized, chunk_anew, Nearer}

-- where the data of a chunk is in the copy: no further from its `pseg`, and where it may lie
abbrev pub Lies : (ℕ → ℕ) → ℕ → Heading → Chunk → Type 0
Lies new pseg h c = has_place c.state c.size ≡ true → Nearer new pseg c.place × (may_lie h c.state (new c.place) c.size ≡ true)

-- ---- the offset between two places

module _ (from to : ℕ) where
  to_ahead : from ≤ to → offset_to from to ≡ Ahead (to - from)
  unfolding offset_to
  to_ahead h = rw (offset_to, le-leb from to h)

  to_back : to < from → offset_to from to ≡ Back (from - to)
  unfolding offset_to
  to_back h = rw (offset_to, lt-leb from to h)

  -- it gives the second, and is never the second name of 0
  offset-place : offset_place from (offset_to from to) ≡ Some to
  unfolding offset_place
  offset-place =
      elim (dec_le from to) [
        | yes ahead ↦ rw (to_ahead ahead) (ap Some (omega arith))
        | no back ↦ rw (to_back (omega arith), offset_place, le-leb (from - to) from (omega arith)) (ap Some (omega arith))
      ]

  offset_some : offset_to from to ≡ Back 0 → ⊥
  offset_some same =
      elim (dec_le from to) [
        | yes ahead ↦ let Ahead-none = sym (to_ahead ahead) ∙ same in let z : ◌≡◌ {A = ℕ} 0 1 = cc in omega arith
        | no back ↦ let back_none = sym (to_back (omega arith)) ∙ same in let z : from - to ≡ 0 = cc in omega arith
      ]

  -- so many bytes hold it
  ahead-held : (w : ℕ) → from ≤ to → 2 * (to - from) < 256 ^ w → holds_offset w (offset_to from to) ≡ true
  ahead-held w h low = rw (to_ahead h) (below_ahead w (to - from) low)

  back-held : (w : ℕ) → to < from → 2 * (from - to) ≤ 256 ^ w → holds_offset w (offset_to from to) ≡ true
  back-held w h low = rw (to_back h) (within-back w (from - to) low)

-- what is read from so many bytes, they hold
signed-held : (w n : ℕ) → holds_offset w (signed w n) ≡ true
unfolding signed
signed-held w n =
    elim (which (ltb (2 * n) (256 ^ w))) [
      | inl e ↦ rw (signed, e) (below_ahead w n (ltb-true (2 * n) (256 ^ w) e))
      | inr e ↦ rw (signed, e) (within-back w (256 ^ w - n) (omega (arith, ltb-false (2 * n) (256 ^ w) e)))
    ]

-- so they hold the offset of the place that it gives
offset_again : (w : ℕ) (z : Offset) (pseg place : ℕ) → holds_offset w z ≡ true → offset_place pseg z ≡ Some place → holds_offset w (offset_to pseg place) ≡ true
unfolding offset_place
offset_again w (Ahead n) pseg place h e =
    let there : pseg + n ≡ place = cc in
    ahead-held pseg place w (omega arith) (omega (arith, ahead_below w n h))
offset_again w (Back n) pseg place h e =
    elim (which (leb n pseg)) [
      | inl fits ↦
          let here : Some (pseg - n) ≡ Some place = rw (offset_place, fits) at e in
          let there : pseg - n ≡ place = cc in
          elim (dec_le pseg place) [
            | yes ahead ↦ ahead-held pseg place w ahead (omega (arith, power_pos w))
            | no back ↦ back-held pseg place w (omega arith) (omega (arith, back-within w n h, leb-true n pseg fits))
          ]
      | inr over ↦
          let nowhere : None ≡ Some place = rw (offset_place, over) at e in
          let z : ◌≡◌ {A = ℕ} 0 1 = cc in
          absurd (omega arith)
    ]

-- and then that of new places that are no further apart
offset_nearer : (w : ℕ) (new : ℕ → ℕ) (pseg place : ℕ) → Nearer new pseg place → holds_offset w (offset_to pseg place) ≡ true
    → holds_offset w (offset_to (new pseg) (new place)) ≡ true
offset_nearer w new pseg place near h =
    elim (dec_le pseg place) [
      | yes ahead ↦
          let (low, high) = near.ahead ahead in
          ahead-held (new pseg) (new place) w low (omega (arith, ahead_below w (place - pseg) (rw (to_ahead pseg place ahead) at h)))
      | no back ↦
          let (low, high) = near.back (omega arith) in
          back-held (new pseg) (new place) w low (omega (arith, back-within w (pseg - place) (rw (to_back pseg place (omega arith)) at h)))
    ]

-- ---- the entries of a `ploc` that was read

-- the state that a flag byte says is one of the four
state_known : (flags s : ℕ) → state_of flags ≡ given s → is_state s ≡ true
unfolding state_of state is_state
state_known flags s e =
    let (zeros, e1) = held 20 (eqb (flags % 64) 0) _ e in
    subst (λ (s : ℕ). is_state s ≡ true) (given_same e1) (known (eqb (flags / 128) 1) (eqb (flags / 64 % 2) 1))
  where
    known : (corrupted there : Bool) → is_state (state corrupted there) ≡ true
    known false false = refl
    known false true = refl
    known true false = refl
    known true true = refl

module _ (l : Ploc) where
  -- how many bytes the offset of an entry has
  abbrev wide : ℕ → ℕ
  wide s = elim (present s) [ true ↦ l.offset_size | false ↦ 0 ]

  -- how many bytes an entry has
  entry_long : (p : Placed) (ps : List Placed)
      → length (entry_bytes l.length_size l.offset_size (p ∷ ps)) ≡ 1 + l.length_size + wide p.state + length (entry_bytes l.length_size l.offset_size ps)
  unfolding entry_bytes
  entry_long p ps =
      elim (which (present p.state)) [
        | inl e ↦ simp (wide, e, length-append, length-bytes_of) (omega arith)
        | inr e ↦ simp (wide, e, length-append, length-bytes_of) (omega arith)
      ]

  -- what an entry says: a state, and a size and an offset that the widths hold
  record Told (at : ℕ) (x : Entry) : Type 0 where
    known : is_state x.state ≡ true
    sized : holds l.length_size x.size ≡ true
    reached : present x.state ≡ true → holds_offset l.offset_size x.offset ≡ true
    next : x.next ≡ at + 1 + l.length_size + wide x.state

  module _ (f : List ℕ) (bytes : (k : ℕ) → get_or f k 0 < 256) where
    entry-told : (at : ℕ) (x : Entry) → entry f l at ≡ given x → Told at x
    unfolding entry
    entry-told at x e =
        let (more, e1) = held 17 (ltb at l.end) _ e in
        let (s, read, e2) = both_given (state_of (get_or f at 0)) _ e1 in
        let rest : ℕ = at + 1 + l.length_size in
        let (fits, e3) = held 17 (leb (rest + wide s) l.end) _ e2 in
        subst (Told at) (given_same e3)
        (record {
          known = state_known (get_or f at 0) s read;
          sized = below_holds l.length_size (number f (at + 1) l.length_size) (number_below f (at + 1) l.length_size bytes);
          reached = λ there. rw there (signed-held l.offset_size (number f rest l.offset_size));
          next = refl;
        })

  module _ (pseg : ℕ) where
    -- the offset of its place is held again
    place_reached : (h : Heading) (at : ℕ) (x : Entry) (place : ℕ) → Told at x → place_of h pseg x ≡ given place → has_place x.state x.size ≡ true
        → holds_offset l.offset_size (offset_to pseg place) ≡ true
    unfolding place_of has_place
    place_reached h at x place told e has =
        offset_again l.offset_size x.offset pseg place (told.reached (both (present x.state) _ has).0)
        (by_offset (offset_place pseg x.offset) (rw (place_of, has) at e))
      where
        by_offset : (o : Option ℕ)
            → ◌≡◌ {A = Answer ℕ} (elim o [ None ↦ refused 24 | Some place ↦ hold 24 (may_lie h x.state place x.size) >>= λ _. given place ]) (given place)
            → o ≡ Some place
        by_offset None e = absurd (not_both e)
        by_offset (Some there) e = ap Some (given_same (held 24 (may_lie h x.state there x.size) _ e).1)

    module _ (new : ℕ → ℕ) where
      -- the new offset of a chunk, and the place that it gives
      offset_has : (c : Chunk) → has_place c.state c.size ≡ true → (placed_anew new pseg c).offset ≡ offset_to (new pseg) (new c.place)
      unfolding placed_anew
      offset_has c has = rw (placed_anew, has)

      pub offset_empty : (c : Chunk) → has_place c.state c.size ≡ false → (placed_anew new pseg c).offset ≡ Ahead 0
      unfolding placed_anew
      offset_empty c empty = rw (placed_anew, empty)

      place_anew : (c : Chunk)
          → (elim (has_place c.state c.size) [ true ↦ unwrap_or (offset_place (new pseg) (placed_anew new pseg c).offset) 0 | false ↦ 0 ]) ≡ (chunk_anew new c).place
      place_anew c =
          elim (which (has_place c.state c.size)) [
            | inl has ↦ rw (chunk_anew, has, offset_has c has, offset-place)
            | inr empty ↦ rw (chunk_anew, empty)
          ]

      -- a chunk with it tells of itself, and the old width holds it
      chunk_tells : (h' : Heading) (c : Chunk) → is_state c.state ≡ true → Lies new pseg h' c → Tells h' (new pseg) (placed_anew new pseg c)
      unfolding placed_anew has_place
      chunk_tells h' c known lies =
          record {
            known = known;
            not_none = λ same.
                elim (which (has_place c.state c.size)) [
                  | inl has ↦ offset_some (new pseg) (new c.place) (sym (offset_has c has) ∙ same)
                  | inr empty ↦ let ahead = sym (offset_empty c empty) ∙ same in let z : ◌≡◌ {A = ℕ} 0 1 = cc in omega arith
                ];
            absent = λ gone. offset_empty c (rw (has_place, gone));
            lies = λ has. (new c.place, rw (offset_has c has) (offset-place (new pseg) (new c.place)), (lies has).1);
          }

      chunk_held : (h' : Heading) (c : Chunk) → (has_place c.state c.size ≡ true → holds_offset l.offset_size (offset_to pseg c.place) ≡ true)
          → Lies new pseg h' c
          → holds_offset l.offset_size (placed_anew new pseg c).offset ≡ true
      chunk_held h' c reached lies =
          elim (which (has_place c.state c.size)) [
            | inl has ↦ rw (offset_has c has) (offset_nearer l.offset_size new pseg c.place (lies has).0 (reached has))
            | inr empty ↦ rw (offset_empty c empty) (below_ahead l.offset_size 0 (power_pos l.offset_size))
          ]

      -- chunks with their new offsets
      abbrev anew : List Chunk → List Placed
      anew cs = map (placed_anew new pseg) cs

      -- what is known of them where so many entries were read from a cursor on
      pub record Entries (limit more : ℕ) (c : Cursor) (cs : List Chunk) : Type 0 where
        pub many : length (anew cs) ≡ more
        low : c.start + sum (map (λ p. p.size) (anew cs)) ≤ limit
        fills : c.at + length (entry_bytes l.length_size l.offset_size (anew cs)) ≡ l.end
        chunks : new_chunks (new pseg) c.start (anew cs) ≡ map (chunk_anew new) cs
        pub sizes : all_of (λ p. holds l.length_size p.size) (anew cs) ≡ true
        pub tell : (h' : Heading) → Each (Lies new pseg h') cs
            → Each (Tells h' (new pseg)) (anew cs) × (all_of (λ p. holds_offset l.offset_size p.offset) (anew cs) ≡ true)

      module _ (limit : ℕ) (f : List ℕ) (bytes : (k : ℕ) → get_or f k 0 < 256) (h : Heading) where
        -- an entry more, and as what a cursor meets
        entry_more : (more : ℕ) (c : Cursor) (x : Entry) (place : ℕ) (cs : List Chunk) → Told c.at x → place_of h pseg x ≡ given place
            → Entries limit more (record { at = x.next; start = c.start + x.size }) cs
            → Entries limit (suc more) c (record { start = c.start; size = x.size; state = x.state; place = place } ∷ cs)
        unfolding new_chunks all_of sum placed_anew
        entry_more more c x place cs told there after =
            let chunk : Chunk = record { start = c.start; size = x.size; state = x.state; place = place } in
            record {
              many = ap suc after.many;
              low = omega (arith, after.low);
              fills = omega (arith, entry_long (placed_anew new pseg chunk) (anew cs), told.next, after.fills);
              chunks = rw (place_anew chunk, after.chunks);
              sizes = rw told.sized after.sizes;
              tell = λ h' lie.
                  let (tells, fits) = after.tell h' lie.1 in (
                    (chunk_tells h' chunk told.known lie.0, tells),
                    rw (chunk_held h' chunk (place_reached h c.at x place told there) lie.0) fits,
                  );
            }

        step_more : (more : ℕ) (c : Cursor) (met : Chunk × Cursor) (cs : List Chunk) → chunk_step limit f h pseg l c ≡ given met
            → (met.1.start ≤ limit → Entries limit more met.1 cs)
            → Entries limit (suc more) c (met.0 ∷ cs)
        unfolding chunk_step
        step_more more c met cs e after =
            let (x, read, e1) = both_given (entry f l c.at) _ e in
            let (fits, e2) = held 23 (leb (c.start + x.size) limit) _ e1 in
            let (place, there, e3) = both_given (place_of h pseg x) _ e2 in
            subst (λ (m : Chunk × Cursor). (m.1.start ≤ limit → Entries limit more m.1 cs) → Entries limit (suc more) c (m.0 ∷ cs)) (given_same e3)
            (λ further. entry_more more c x place cs (entry-told f bytes c.at x read) there (further (leb-true (c.start + x.size) limit fits))) after

        entries_read : (more : ℕ) (c : Cursor) (cs : List Chunk) → c.start ≤ limit → chunks_from limit f h pseg l more c ≡ given cs → Entries limit more c cs
        unfolding chunks_from entry_bytes new_chunks all_of sum
        entries_read zero c cs low e =
            let (ends, e1) = held 17 (eqb c.at l.end) _ e in
            subst (Entries limit zero c) (given_same e1)
            (record { many = refl; low = omega arith; fills = omega (arith, eqb-true c.at l.end ends); chunks = refl; sizes = refl; tell = λ h' lie. (tt, refl) })
        entries_read (suc more) c cs low e =
            let (met, step, e1) = both_given (chunk_step limit f h pseg l c) _ e in
            let (rest, others, e2) = both_given (chunks_from limit f h pseg l more met.1) _ e1 in
            subst (Entries limit (suc more) c) (given_same e2) (step_more more c met rest step (λ further. entries_read more met.1 rest further others))

-- what is known of the head of a `ploc` that was read
module _ (f : List ℕ) (b : Box) where
  record Headed (l : Ploc) : Type 0 where
    room : b.body + 9 ≤ b.end
    zeros : eqb (number f b.body 4) 0 ≡ true
    narrow : (leb l.length_size 8 && leb l.offset_size 8) ≡ true
    own : eqb (number f (b.body + 5) 2) 0 ≡ true
    sizes : number f (b.body + 4) 1 / 16 ≡ l.length_size
    offsets : number f (b.body + 4) 1 % 16 ≡ l.offset_size
    count : number f (b.body + 7) 2 ≡ l.count
    first : l.first ≡ b.body + 9
    ends : l.end ≡ b.end

  headed : (l : Ploc) → ploc_head f b ≡ given l → Headed l
  unfolding ploc_head
  headed l e =
      let (whole, e1) = held 17 (leb (b.body + 9) b.end && eqb (number f b.body 4) 0) _ e in
      let (room, zeros) = both (leb (b.body + 9) b.end) (eqb (number f b.body 4) 0) whole in
      let widths = number f (b.body + 4) 1 in
      let (narrow, e2) = held 18 (leb (widths / 16) 8 && leb (widths % 16) 8) _ e1 in
      let (own, e3) = held 19 (eqb (number f (b.body + 5) 2) 0) _ e2 in
      subst Headed (given_same e3)
      (record {
        room = leb-true (b.body + 9) b.end room;
        zeros = zeros;
        narrow = narrow;
        own = own;
        sizes = refl;
        offsets = refl;
        count = refl;
        first = refl;
        ends = refl;
      })

-- the `ploc` of a segment that was read; its sizes fit their width, since a file is bytes
module _ (limit : ℕ) (f : List ℕ) (h : Heading) (s : Segment) (b : Box) (l : Ploc)
    (typed : b.at ≤ b.body) (inside : b.end ≤ length f)
    (bytes : (k : ℕ) → get_or f k 0 < 256)
    (head : ploc_head f b ≡ given l)
    (start : ℕ) (low : start ≤ limit)
    (read : chunks_from limit f h s.place l l.count (record { at = l.first; start = start }) ≡ given s.chunks)
    (new : ℕ → ℕ) where
  -- its parts: what is copied, and what is written
  abbrev front : List ℕ
  front = bytes_in f (record { place = b.at; size = b.body + 9 - b.at })

  abbrev entries : List ℕ
  entries = entry_bytes l.length_size l.offset_size (map (placed_anew new s.place) s.chunks)

  pub told : Entries l s.place new limit l.count (record { at = l.first; start = start }) s.chunks
  told = entries_read l s.place new limit f bytes h l.count (record { at = l.first; start = start }) s.chunks low read

  pub bytes_are : ploc_bytes f new s b ≡ front ++ entries
  unfolding ploc_bytes
  bytes_are = let t = headed f b l head in rw (t.sizes, t.offsets)

  pub front_long : length front ≡ b.body + 9 - b.at
  unfolding bytes_in
  front_long = let t = headed f b l head in simp (length-take, length-drop) (omega arith)

  -- it has its old length, and its header and head are as they were
  pub length-ploc : length (ploc_bytes f new s b) ≡ b.end - b.at
  length-ploc = let t = headed f b l head in rw (bytes_are, length-append, front_long) (omega (arith, told.fills))

  pub ploc-front : Alike f b.at (ploc_bytes f new s b) 0 (b.body + 9 - b.at)
  unfolding bytes_in
  ploc-front i less =
      rw (bytes_are, zero-add, get_or-append front entries 0 i (rw front_long less), get_or-take, get_or-drop)

  -- at a place of the copy, whose boxes are those of a heading
  module _ (g : List ℕ) (h' : Heading) (at : ℕ) (stands : Stands g at (ploc_bytes f new s b)) (lie : Each (Lies new s.place h') s.chunks) where
    abbrev pub head_anew : Ploc
    head_anew =
        record {
          length_size = l.length_size;
          offset_size = l.offset_size;
          count = l.count;
          first = at + (b.body - b.at) + 9;
          end = at + (b.end - b.at);
        }

    -- a number of the header or the head is the old one
    number_here : (to from w : ℕ) → b.at ≤ from → from + w ≤ b.body + 9 → to + b.at ≡ at + from → number g to w ≡ number f from w
    number_here to from w after before same =
        number_same g f to from w
        (λ k less.
        let i : ℕ = from - b.at + k in
        let there : to + k ≡ at + i = omega arith in
        let here : from + k ≡ b.at + i = omega arith in
        let t = headed f b l head in
        rw (there, here) (stands i (omega (arith, length-ploc)) ∙ rw zero-add at (ploc-front i (omega arith))))

    pub head_back : ploc_head g (resized at (b.end - b.at) b) ≡ given head_anew
    unfolding ploc_head
    head_back =
        let t = headed f b l head in
        let place : ℕ = at + (b.body - b.at) in
        rw (
          le-leb (place + 9) (at + (b.end - b.at)) (omega arith),
          number_here place b.body 4 (omega arith) (omega arith) (omega arith),
          t.zeros,
          number_here (place + 4) (b.body + 4) 1 (omega arith) (omega arith) (omega arith),
          t.sizes,
          t.offsets,
          t.narrow,
          number_here (place + 5) (b.body + 5) 2 (omega arith) (omega arith) (omega arith),
          t.own,
          number_here (place + 7) (b.body + 7) 2 (omega arith) (omega arith) (omega arith),
          t.count,
        )

    pub chunks_anew : chunks_from limit g h' (new s.place) head_anew l.count (record { at = head_anew.first; start = start }) ≡ given (map (chunk_anew new) s.chunks)
    chunks_anew =
        let t = headed f b l head in
        let ps = map (placed_anew new s.place) s.chunks in
        let first : at + length front ≡ at + (b.body - b.at) + 9 = omega (arith, front_long) in
        let there : Stands g head_anew.first entries = rw first at (stands_right g at front entries (rw bytes_are at stands)) in
        let (tells, offsets) = told.tell h' lie in
        let c : Cursor = record { at = head_anew.first; start = start } in
        ap (λ (more : ℕ). chunks_from limit g h' (new s.place) head_anew more c) (sym told.many)
        ∙ chunks_back limit g h' (new s.place) head_anew ps c there (omega (arith, told.fills)) tells told.sizes offsets low
        ∙ rw (le-leb (start + sum (map (λ p. p.size) ps)) limit told.low, told.chunks)
