-- Laws of a `ploc` whose entries are put with the offsets of the new places.
use Prim.Native.Nat.{ℕ, suc, ◌+◌, ◌-◌, ◌/◌, ◌%◌, ◌^◌, ◌≤◌, ◌<◌, min}
use mathlib.Core.Bool.{true, false, ◌&&◌}
use mathlib.Core.List.{List, ◌∷◌, ◌++◌, map}
use mathlib.Core.Logic.{inl, inr, ◌⊎◌}
use Rattle.std.specs.Prelude.{Option, None, Some, Result, Ok, Err}
use mathlib.Core.Path.{◌≡◌, sym, ap, ap₂, subst, ◌∙◌}
use native.Mathlib.Omega.{arith}
use borrow.Author.Tests.{le-leb, lt-leb, leb-true, ltb-true}
use lib.Dec.{leb, ltb, eqb}
use lib.ListN.{length, get_or}
use Rattle.refusals.specs.declared.Refusal.{Refusal}
use Rattle.boxes.specs.Answer.{Answer, refused, given, ◌>>=◌, hold, told_as}
use Rattle.boxes.specs.Framing.{Box}
use Rattle.boxes.proofs.ToldLaws.{told-ok, told-err}
use Rattle.boxes.proofs.AnswerLaws.{not_both, given_same, both_given, held}
use Rattle.numerals.specs.Numbers.{number}
use Rattle.numerals.specs.declared.numbers.Offset.{Offset}
use Rattle.numerals.specs.declared.numbers.Offset.TheVariants.{Ahead, Back}
use Rattle.additions.specs.Append.{Placed, entry_bytes}
use Rattle.fields.specs.Entry.{entry_of as said}
use Rattle.fields.specs.Location.{head_of, ploc_of}
use Rattle.fields.specs.State.{state_no}
use Rattle.fields.specs.declared.entry.Entry.{Entry as CodeEntry}
use Rattle.fields.specs.declared.location.Location.{Location}
use Rattle.fields.proofs.LocationLaws.{location_given}
use Rattle.partial.specs.Entries.{Ploc, Entry, Cursor, ploc_head, entry, may_lie, offset_place, place_of, chunk_step, chunks_from}
use Rattle.partial.specs.Heading.{Heading, bytes_in}
use Rattle.partial.specs.Limits.{source_limit}
use Rattle.partial.specs.ReadingDemands.{InData, Whole}
use Rattle.partial.specs.Segments.{Chunk, Segment, present, has_place}
use Rattle.partial.proofs.Meaning.MappedLaws.{may_be}
use Rattle.partial.proofs.Meaning.SequenceLaws.{which, both, Each}
use Rattle.puts.specs.Entries.{entry_of, Entry as Held, Entries}
use Rattle.puts.specs.Pieces.{PutsPieces}
use Rattle.puts.proofs.EntryLaws.{entry_more, entry-held, entries_rest}
use Rattle.puts.proofs.PieceLaws.{Partly, partly_start, partly_same, partly_end, partly_more}
use Rattle.rescue.specs.Copy.{offset_to, placed_anew, ploc_bytes}
use Rattle.rescue.proofs.HeadingLaws.{opened}
use Rattle.rescue.proofs.PlocLaws.{Lies, told, bytes_are}
use Rattle.salvaging.specs.Ploc.{offset_for, chunk_by, PlocRead}
use Rattle.salvaging.specs.Tables.{Sound, new_in}
use Rattle.salvaging.proofs.TableLaws.{box_stands}

-- ---- an offset

module _ (from to : ℕ) where
  pub to_ahead : from ≤ to → Ahead (to - from) ≡ offset_to from to
  unfolding offset_to
  to_ahead h = rw (offset_to, le-leb from to h)

  pub to_back : to < from → Back (from - to) ≡ offset_to from to
  unfolding offset_to
  to_back h = rw (offset_to, lt-leb from to h)

-- the place that it gives
module _ (pseg : ℕ) {z : Offset} {n r : ℕ} where
  pub ahead_for : z ≡ Ahead n → r ≡ min (pseg + n) (2 ^ 64 - 1) → r ≡ offset_for pseg z
  unfolding offset_for
  ahead_for is e = e ∙ ap (offset_for pseg) (sym is)

  pub back_for : z ≡ Back n → r ≡ pseg - n → r ≡ offset_for pseg z
  unfolding offset_for
  back_for is e = e ∙ ap (offset_for pseg) (sym is)

-- that of a chunk in the copy
module _ (new : ℕ → ℕ) (pseg : ℕ) (c : Chunk) where
  pub anew_none : has_place c.state c.size ≡ false → Ahead 0 ≡ (placed_anew new pseg c).offset
  unfolding placed_anew
  anew_none e = rw (placed_anew, e)

  pub anew_some : has_place c.state c.size ≡ true → offset_to (new pseg) (new c.place) ≡ (placed_anew new pseg c).offset
  unfolding placed_anew
  anew_some e = rw (placed_anew, e)

-- ---- the place of an entry's chunk

module _ (f : List ℕ) (h : Heading) (sound : Sound f h) where
  -- what may lie in the file ends in it
  may_end : (c : Chunk) → may_lie h c.state c.place c.size ≡ true → c.place + c.size ≤ length f
  may_end c may = go (may_be h c may)
    where
      go : InData h c ⊎ Whole h c → c.place + c.size ≤ length f
      go (inl d) = omega (arith, (box_stands f h sound d.number d.there).ends, d.to)
      go (inr w) = omega (arith, (box_stands f h sound (w.first + w.more) w.there).ends, w.ends)

  module _ (pseg : ℕ) (e : Entry) {place : ℕ} (there : place_of h pseg e ≡ given place) (has : has_place e.state e.size ≡ true) where
    reached : (offset_place pseg e.offset ≡ Some place) × (may_lie h e.state place e.size ≡ true)
    unfolding place_of
    reached = by_offset (offset_place pseg e.offset) (rw (place_of, has) at there)
      where
        by_offset : (o : Option ℕ)
            → ◌≡◌ {A = Answer ℕ} (elim o [ None ↦ refused 24 | Some place ↦ hold 24 (may_lie h e.state place e.size) >>= λ _. given place ]) (given place)
            → (o ≡ Some place) × (may_lie h e.state place e.size ≡ true)
        by_offset None e = absurd (not_both e)
        by_offset (Some p) e1 =
            let (may, e2) = held 24 (may_lie h e.state p e.size) _ e1 in
            let same : p ≡ place = given_same e2 in
            (ap Some same, rw same at may)

    -- it is in the file
    pub place_low : place < length f
    unfolding has_place
    place_low =
        let some_bytes = ltb-true 0 e.size (both (present e.state) (ltb 0 e.size) has).1 in
        omega (arith, may_end (chunk_by 0 e place) reached.1)

    pub offset_gives : offset_for pseg e.offset ≡ place
    unfolding offset_for offset_place
    offset_gives = go e.offset reached.0
      where
        go : (z : Offset) → offset_place pseg z ≡ Some place → offset_for pseg z ≡ place
        go (Ahead n) e =
            let here : pseg + n ≡ place = cc in
            let small = (opened f h sound.opens).small in
            omega (arith, place_low)
        go (Back n) e =
            elim (which (leb n pseg)) [
              | inl fits ↦
                  let here : Some (pseg - n) ≡ Some place = rw (offset_place, fits) at e in
                  cc
              | inr over ↦
                  let nowhere : None ≡ Some place = rw (offset_place, over) at e in
                  let z : ◌≡◌ {A = ℕ} 0 1 = cc in
                  absurd (omega arith)
            ]

    -- so the new offset is that between the new places
    pub anew_given : (start : ℕ) {anew p to : ℕ} {z : Offset} → anew ≡ new_in f h pseg → p ≡ offset_for pseg e.offset → (p < length f → to ≡ new_in f h p)
        → z ≡ offset_to anew to
        → z ≡ (placed_anew (new_in f h) pseg (chunk_by start e place)).offset
    anew_given start {p = p} same gives new far =
        let here : p ≡ place = gives ∙ offset_gives in
        far ∙ ap₂ offset_to same (new (rw here place_low) ∙ ap (new_in f h) here) ∙ anew_some (new_in f h) pseg (chunk_by start e place) has

-- ---- the entries, one after another

-- what an answer about an entry says that reads so
module _ (f : List ℕ) (l : Ploc) (at : ℕ) {r : Result CodeEntry Refusal} (answer : told_as said r ≡ entry f l at) {x : Entry} (read : entry f l at ≡ given x) where
  pub entry_same : {e : CodeEntry} → r ≡ Ok e → x ≡ said e
  entry_same is = given_same (sym read ∙ told-ok said answer is)

  pub entry_sound : {n : Refusal} → r ≡ Err n → ⊥
  entry_sound is = not_both (sym (told-err said answer is) ∙ read)

module _ (f : List ℕ) (h : Heading) (pseg : ℕ) (l : Location) (new : ℕ → ℕ) where
  abbrev from : ℕ → ℕ → ℕ → Answer (List Chunk)
  from more at start = chunks_from source_limit f h pseg (ploc_of l) more (record { at = at; start = start })

  -- the entries of chunks with their new offsets
  abbrev anew : List Chunk → List Placed
  anew cs = map (placed_anew new pseg) cs

  abbrev put : List Chunk → List ℕ
  put cs = entry_bytes l.length_size l.offset_size (anew cs)

  -- the next one of some that were read
  pub record Next (more at start : ℕ) (cs : List Chunk) : Type 0 where
    x : Entry
    pub place : ℕ
    rest : List Chunk
    read : entry f (ploc_of l) at ≡ given x
    there : place_of h pseg x ≡ given place
    same : cs ≡ chunk_by start x place ∷ rest
    onward : from more x.next (start + x.size) ≡ given rest

  next : (more at start : ℕ) (cs : List Chunk) → from (suc more) at start ≡ given cs → Next more at start cs
  unfolding chunks_from chunk_step
  next more at start cs e =
      let (met, step, e1) = both_given (chunk_step source_limit f h pseg (ploc_of l) (record { at = at; start = start })) _ e in
      let (rest, others, e2) = both_given (chunks_from source_limit f h pseg (ploc_of l) more met.1) _ e1 in
      let (x, read, s1) = both_given (entry f (ploc_of l) at) _ step in
      let (fits, s2) = held 23 (leb (start + x.size) source_limit) _ s1 in
      let (place, there, s3) = both_given (place_of h pseg x) _ s2 in
      let is = given_same s3 in
      record {
        x = x;
        place = place;
        rest = rest;
        read = read;
        there = there;
        same = sym (given_same e2) ∙ ap (λ (m : Chunk × Cursor). m.0 ∷ rest) (sym is);
        onward = ap (λ (m : Chunk × Cursor). chunks_from source_limit f h pseg (ploc_of l) more m.1) is ∙ others;
      }

  -- the entries so far are put, and those that are left were read from there on
  pub record Midway (cs : List Chunk) (buffer₀ : List ℕ) (at : ℕ) (buffer : List ℕ) (to entry i : ℕ) : Type 0 where
    pub start : ℕ
    pub left : List Chunk
    pub read : from (l.count - i) entry start ≡ given left
    pub bytes : Partly (put cs) buffer₀ at buffer to (put left)
    pub held : Entries l.length_size l.offset_size (anew left)

  module _ (cs : List Chunk) (buffer₀ : List ℕ) (at : ℕ) where
    pub midway_start : (start : ℕ) → from l.count l.first.0 start ≡ given cs → Entries l.length_size l.offset_size (anew cs)
        → Midway cs buffer₀ at buffer₀ at l.first.0 0
    midway_start start read held =
        let all : l.count ≡ l.count - 0 = omega arith in
        record { start = start; left = cs; read = ap (λ (n : ℕ). from n l.first.0 start) (sym all) ∙ read; bytes = partly_start _ buffer₀ at; held = held }

    module _ {buffer : List ℕ} {to at_entry_lem i : ℕ} (m : Midway cs buffer₀ at buffer to at_entry_lem i) where
      module _ (less : i < l.count) where
        pub met : Next (l.count - (i + 1)) at_entry_lem m.start m.left
        met =
            let one : l.count - i ≡ suc (l.count - (i + 1)) = omega arith in
            next (l.count - (i + 1)) at_entry_lem m.start m.left (ap (λ (n : ℕ). from n at_entry_lem m.start) (sym one) ∙ m.read)

        module _ {r : Result CodeEntry Refusal} (answer : told_as said r ≡ entry f (ploc_of l) at_entry_lem) where
          pub midway_sound : {n : Refusal} → r ≡ Err n → ⊥
          midway_sound is = entry_sound f (ploc_of l) at_entry_lem answer met.read is

          module _ {e : CodeEntry} (is : r ≡ Ok e) where
            same_entry : met.x ≡ said e
            same_entry = entry_same f (ploc_of l) at_entry_lem answer met.read is

            -- its chunk has a place
            pub midway_place : place_of h pseg (said e) ≡ given met.place
            midway_place = ap (place_of h pseg) (sym same_entry) ∙ met.there

            lefts : m.left ≡ chunk_by m.start (said e) met.place ∷ met.rest
            lefts = met.same ∙ ap (λ (x : Entry). chunk_by m.start x met.place ∷ met.rest) same_entry

            module _ {z : Offset} (far : z ≡ (placed_anew new pseg (chunk_by m.start (said e) met.place)).offset) where
              abbrev one : Placed
              one = placed_anew new pseg (chunk_by m.start (said e) met.place)

              held_here : Entries l.length_size l.offset_size (one ∷ anew met.rest)
              held_here = subst (λ (cs : List Chunk). Entries l.length_size l.offset_size (anew cs)) lefts m.held

              pub midway_held : {n : ℕ} → n ≡ state_no e.state → Held l.length_size l.offset_size e.size n z
              unfolding placed_anew
              midway_held number = rw (number, far) (entry-held _ _ one (anew met.rest) held_here)

              bytes_here : put m.left ≡ entry_of l.length_size l.offset_size e.size (state_no e.state) z ++ put met.rest
              unfolding placed_anew
              bytes_here =
                  ap put lefts
                  ∙ entry_more l.length_size l.offset_size one (anew met.rest)
                  ∙ ap (λ (k : Offset). entry_of l.length_size l.offset_size e.size (state_no e.state) k ++ put met.rest) (sym far)

              pub midway_more : {buffer' : List ℕ} {to' n : ℕ} → n ≡ state_no e.state → PutsPieces buffer to (entry_of l.length_size l.offset_size e.size n z) buffer' to'
                  → Midway cs buffer₀ at buffer' to' e.next.0 (i + 1)
              midway_more {buffer'} {to'} number puts =
                  record {
                    start = m.start + e.size;
                    left = met.rest;
                    read = ap (λ (x : Entry). from (l.count - (i + 1)) x.next (m.start + x.size)) (sym same_entry) ∙ met.onward;
                    bytes = partly_more _ _ _ _ _ (partly_same _ _ _ bytes_here m.bytes) (subst (λ (n : ℕ). PutsPieces buffer to (entry_of l.length_size l.offset_size e.size n z) buffer' to') number puts);
                    held = entries_rest _ _ one (anew met.rest) held_here;
                  }

      pub midway_end : l.count ≤ i → PutsPieces buffer₀ at (put cs) buffer to
      unfolding chunks_from entry_bytes
      midway_end past =
          let none_left : l.count - i ≡ 0 = omega arith in
          let (ends, e) = held 17 (eqb at_entry_lem l.end.0) _ (ap (λ (n : ℕ). from n at_entry_lem m.start) (sym none_left) ∙ m.read) in
          partly_end _ _ _ (partly_same _ _ _ (ap put (sym (given_same e))) m.bytes)

-- ---- the whole `ploc`

-- a head that was read
module _ (f : List ℕ) (b : Box) {r : Result Location Refusal} (answer : told_as head_of r ≡ ploc_head f b) {l : Location} (is : r ≡ Ok l) where
  head : ploc_head f b ≡ given (head_of l)
  head = told-ok head_of answer is

  head_known : (b.body + 9 ≤ b.end) × (l.first.0 ≡ b.body + 9) × (l.length_size ≤ 8) × (l.offset_size ≤ 8)
  unfolding ploc_head
  head_known =
      let (whole, e1) = held 17 (leb (b.body + 9) b.end && eqb (number f b.body 4) 0) _ head in
      let widths = number f (b.body + 4) 1 in
      let (narrow, e2) = held 18 (leb (widths / 16) 8 && leb (widths % 16) 8) _ e1 in
      let (size, offset) = both (leb (widths / 16) 8) (leb (widths % 16) 8) narrow in
      let same = given_same (held 19 (eqb (number f (b.body + 5) 2) 0) _ e2).1 in (
        leb-true (b.body + 9) b.end (both (leb (b.body + 9) b.end) (eqb (number f b.body 4) 0) whole).0,
        sym (ap (λ (p : Ploc). p.first) same),
        omega (arith, leb-true (widths / 16) 8 size, ap (λ (p : Ploc). p.length_size) same),
        omega (arith, leb-true (widths % 16) 8 offset, ap (λ (p : Ploc). p.offset_size) same),
      )

  -- the first entry is behind the start of the box, and in the file
  pub first_after : b.at ≤ b.body → b.at ≤ l.first.0
  first_after typed = omega (arith, head_known.1)

  pub first_inside : b.end ≤ length f → l.first.0 ≤ length f
  first_inside inside = omega (arith, head_known.0, head_known.1)

  -- its entries were read as the chunks of a segment, which lie in the copy where they may
  module _ (h copy : Heading) (s : Segment) {l₀ : Location} {pseg : ℕ} (new : ℕ → ℕ) (typed : b.at ≤ b.body) (inside : b.end ≤ length f)
      (bytes : (k : ℕ) → get_or f k 0 < 256) (known : ploc_head f b ≡ given (ploc_of l₀)) (read : PlocRead f h l₀ pseg s) where
    pub read_again : PlocRead f h l pseg s
    read_again =
        record {
          start = read.start;
          low = read.low;
          place = read.place;
          chunks = subst (λ (p : Ploc). chunks_from source_limit f h pseg p p.count (record { at = p.first; start = read.start }) ≡ given s.chunks) (given_same (sym known ∙ location_given f b answer is)) read.chunks;
        }

    read_head : chunks_from source_limit f h s.place (head_of l) l.count (record { at = l.first.0; start = read.start }) ≡ given s.chunks
    read_head =
        subst (λ (p : Ploc). chunks_from source_limit f h s.place p p.count (record { at = p.first; start = read.start }) ≡ given s.chunks) (given_same (sym known ∙ head))
        (rw read.place read.chunks)

    pub read_entries : Each (Lies new s.place copy) s.chunks → Entries l.length_size l.offset_size (map (placed_anew new pseg) s.chunks)
    read_entries lie =
        let all = told source_limit f h s b (head_of l) typed inside bytes head read.start read.low read_head new in
        subst (λ (place : ℕ). Entries l.length_size l.offset_size (map (placed_anew new place) s.chunks)) read.place
        (record { narrow = (head_known.2, head_known.3); sizes = all.sizes; offsets = (all.tell copy lie).1 })

    -- its bytes: those up to the first entry, and the entries
    pub read_bytes : bytes_in f (record { place = b.at; size = l.first.0 - b.at }) ++ entry_bytes l.length_size l.offset_size (map (placed_anew new pseg) s.chunks) ≡ ploc_bytes f new s b
    read_bytes =
        ap₂ (λ (n place : ℕ). bytes_in f (record { place = b.at; size = n - b.at }) ++ entry_bytes l.length_size l.offset_size (map (placed_anew new place) s.chunks))
        head_known.1 (sym read.place)
        ∙ sym (bytes_are source_limit f h s b (head_of l) typed inside bytes head read.start read.low read_head new)
