-- What reading is made of, stage by stage, and what it gives of an accepted file: its chunks follow each other and lie
-- in data boxes, and its sizes agree.
use Prim.Native.Nat.{ℕ, zero, suc, ◌+◌, ◌≤◌, ◌<◌}
use mathlib.Core.Bool.{true, false, not, ◌||◌}
use mathlib.Core.List.{List, [], ◌∷◌, ◌++◌, append-nil}
use mathlib.Core.Logic.{inl, inr}
use Rattle.std.specs.Prelude.{Option, None, Some}
use mathlib.Core.Path.{◌≡◌, refl, sym, subst, ◌∙◌}
use lib.Dec.{leb, eqb}
use lib.ListN.{length}
use Rattle.boxes.specs.Answer.{Answer, refused, given, ◌>>=◌, hold}
use Rattle.boxes.specs.Framing.{Box}
use Rattle.boxes.specs.Kinds.{pseg, right, those, box_at}
use Rattle.boxes.specs.declared.kinds.Container.TheVariants.{File}
use Rattle.boxes.proofs.AnswerLaws.{not_both, given_same, both_given, held}
use Rattle.boxes.proofs.ContainerLaws.{boxes_standing}
use Rattle.partial.specs.Sequences.{all_of}
use Rattle.partial.specs.Segments.{Chunk, Segment, chunks_of, has_place}
use Rattle.partial.specs.Heading.{Heading, heading}
use Rattle.partial.specs.Entries.{Ploc, Entry, entry, may_lie, offset_place, place_of, chunks_from, chunk_step, Cursor}
use Rattle.partial.specs.Sources.{of_source}
use Rattle.partial.specs.Index.{SourceBox, indexed}
use Rattle.partial.specs.Reading.{segment, segments_from, segments, reading}
use Rattle.partial.specs.ReadingDemands.{Mapped}
use Rattle.partial.proofs.Reading.HeadingAppendLaws.{headed}
use Rattle.partial.proofs.Reading.KeptLaws.{stepped, segmented}
use Rattle.partial.proofs.Meaning.SequenceLaws.{which, all_append}
use Rattle.partial.proofs.Meaning.SupplyLaws.{chunks_append}
use Rattle.partial.proofs.Meaning.DescribedLaws.{Follow, InOrder, in-order-append}
use Rattle.partial.proofs.Meaning.MappedLaws.{lies, Accepted, mapped}
use Rattle.partial.proofs.Meaning.SourceLaws.{in-order-of, chunks-of, agreed-of}

-- the boxes of a file end in it
heading_inside : (f : List ℕ) {h : Heading} → heading f ≡ given h → (k : ℕ) → k < length h.boxes → (box_at k h.boxes).end ≤ length f
heading_inside f {h} head k less = (boxes_standing File f 0 (length f) (headed f h head).boxes k less).inside.ends

-- the place of an entry's chunk
module _ (h : Heading) (from : ℕ) (e : Entry) {place : ℕ} where
  in-data : (to : Option ℕ) → (elim to [ None ↦ refused 24 | Some at ↦ hold 24 (may_lie h e.state at e.size) >>= λ _. given at ]) ≡ given place
      → may_lie h e.state place e.size ≡ true
  in-data None g = absurd (not_both g)
  in-data (Some at) g =
      let (lie, same) = held 24 (may_lie h e.state at e.size) _ g in
      rw (given_same same) at lie

  place_lies : place_of h from e ≡ given place → (not (has_place e.state e.size) || may_lie h e.state place e.size) ≡ true
  unfolding place_of
  place_lies g =
      elim (which (has_place e.state e.size)) [
        | inl b ↦ rw b (in-data (offset_place from e.offset) (rw (place_of, b) at g))
        | inr b ↦ rw b
      ]

-- the chunks of a `ploc`
pub record Told (h : Heading) (start : ℕ) (cs : List Chunk) : Type 0 where
  pub follow : Follow start cs
  pub lie : all_of (lies h) cs ≡ true

module _ (limit : ℕ) (f : List ℕ) (h : Heading) (from : ℕ) (l : Ploc) where
  -- a step's chunk starts where the cursor stands in the source, and the cursor goes on at its end
  pub step_told : (c : Cursor) {met : Chunk × Cursor} → chunk_step limit f h from l c ≡ given met
      → (met.0.start ≡ c.start) × (met.1.start ≡ c.start + met.0.size) × (lies h met.0 ≡ true)
  unfolding chunk_step lies
  step_told c g =
      let (e, _, g) = both_given (entry f l c.at) _ g in
      let (_, g) = held 23 (leb (c.start + e.size) limit) _ g in
      let (place, placed, g) = both_given (place_of h from e) _ g in
      subst (λ met. (met.0.start ≡ c.start) × (met.1.start ≡ c.start + met.0.size) × (lies h met.0 ≡ true)) (given_same g)
      (refl, refl, place_lies h from e placed)

  chunks_told : (n : ℕ) (c : Cursor) {cs : List Chunk} → chunks_from limit f h from l n c ≡ given cs → Told h c.start cs
  unfolding chunks_from all_of
  chunks_told zero c g = subst (Told h c.start) (given_same (held 17 (eqb c.at l.end) _ g).1) (record { follow = tt; lie = refl })
  chunks_told (suc n) c g =
      let (met, read, g) = both_given (chunk_step limit f h from l c) _ g in
      let (rest, others, g) = both_given (chunks_from limit f h from l n met.1) _ g in
      let (starts, on, lie) = step_told c read in
      let r = rw on at (chunks_told n met.1 others) in
      subst (Told h c.start) (given_same g) (record { follow = (starts, r.follow); lie = rw lie r.lie })

-- the chunks of segments
pub record AllTold (h : Heading) (ss : List Segment) : Type 0 where
  pub order : InOrder ss
  pub lie : all_of (lies h) (chunks_of ss) ≡ true

module _ (limit : ℕ) (f : List ℕ) (h : Heading) where
  segment-told : (before : List Segment) (b : Box) {s : Segment} → segment limit f h before b ≡ given s → Told h s.source_offset s.chunks
  segment-told before b g =
      let (inner, l, cs, t, same) = stepped limit f h before b g in
      subst (λ s. Told h s.source_offset s.chunks) same (chunks_told limit f h b.at l l.count _ t.chunks)

  one_more : (ss : List Segment) (s : Segment) → AllTold h ss → Told h s.source_offset s.chunks → AllTold h (ss ++ (s ∷ []))
  unfolding chunks_of
  one_more ss s all one =
      record {
        order = in-order-append ss (s ∷ []) all.order (one.follow, tt);
        lie = rw (chunks_append ss (s ∷ []), append-nil, all_append, all.lie) one.lie;
      }

  segments-told : (before : List Segment) (bs : List Box) {ss : List Segment} → AllTold h before → segments_from limit f h before bs ≡ given ss
      → AllTold h ss
  unfolding segments_from
  segments-told before [] all g = subst (AllTold h) (given_same g) all
  segments-told before (b ∷ bs) all g =
      let (s, read, g) = both_given (segment limit f h before b) _ g in
      segments-told (before ++ (s ∷ [])) bs (one_more before s all (segment-told before b read)) g

  -- the segments that reading and appending go by, of each source
  pub accepted_of : {ss : List Segment} → heading f ≡ given h → segments limit f h ≡ given ss → (n : ℕ) → Accepted f h (of_source n ss)
  unfolding all_of chunks_of
  accepted_of {ss} head g n =
      let t = segmented limit f h g in
      let all = segments-told [] (those pseg h.boxes) (record { order = tt; lie = refl }) t.read in
      record {
        agreed = agreed-of ss t.agree n;
        order = in-order-of n ss all.order;
        lie = chunks-of n (lies h) ss all.lie;
        inside = heading_inside f head;
      }

-- what reading tests of an accepted file
pub record Read (limit : ℕ) (f : List ℕ) (h : Heading) (ss : List Segment) (is : List SourceBox) : Type 0 where
  pub headed : heading f ≡ given h
  pub there : right File pseg h.boxes ≡ true
  pub segmented : segments limit f h ≡ given ss
  pub told : indexed limit f h ss ≡ given is

-- the stages behind 12
abbrev pub later_stages : ℕ → List ℕ → Heading → Answer (List Segment)
later_stages limit f h = segments limit f h >>= λ ss. indexed limit f h ss >>= λ _. given ss

module _ (limit : ℕ) (f : List ℕ) where
  pub reading_headless : {n : ℕ} → heading f ≡ refused n → reading limit f ≡ refused n
  unfolding reading
  reading_headless e = rw (reading, e)

  pub reading_none : {h : Heading} → heading f ≡ given h → right File pseg h.boxes ≡ false → reading limit f ≡ refused 12
  unfolding reading
  reading_none head lacks = rw (reading, head, lacks)

  pub reading_some : {h : Heading} → heading f ≡ given h → right File pseg h.boxes ≡ true → reading limit f ≡ later_stages limit f h
  unfolding reading
  reading_some head there = rw (reading, head, there)

  pub read_reading : {h : Heading} {ss : List Segment} {is : List SourceBox} → Read limit f h ss is → reading limit f ≡ given ss
  read_reading r = reading_some r.headed r.there ∙ rw (r.segmented, r.told)

  pub reading_read : {ss : List Segment} → reading limit f ≡ given ss → (h : Heading) × (is : List SourceBox) × Read limit f h ss is
  unfolding reading
  reading_read e =
      let (h, head, e1) = both_given (heading f) _ e in
      let (there, e2) = held 12 (right File pseg h.boxes) _ e1 in
      let (ss, segmented, e3) = both_given (segments limit f h) _ e2 in
      let (is, told, e4) = both_given (indexed limit f h ss) _ e3 in
      (h, is, subst (λ (x : List Segment). Read limit f h x is) (given_same e4) (record { headed = head; there = there; segmented = segmented; told = told }))

-- an accepted file's segments are those of its heading
module _ (limit : ℕ) (f : List ℕ) {h : Heading} {ss : List Segment} (head : heading f ≡ given h) where
  -- and so is what is told of its index
  pub reading_known : reading limit f ≡ given ss → (is : List SourceBox) × Read limit f h ss is
  reading_known g =
      let (k, is, r) = reading_read limit f g in
      (is, subst (λ (x : Heading). Read limit f x ss is) (given_same (sym r.headed ∙ head)) r)

  pub reading-segments : reading limit f ≡ given ss → segments limit f h ≡ given ss
  reading-segments g = (reading_known g).1.segmented

  -- each source byte of an accepted file is served or listed missing
  pub mapped_of : reading limit f ≡ given ss → (n : ℕ) → Mapped f h (of_source n ss)
  mapped_of g n = mapped f h (of_source n ss) (accepted_of limit f h head (reading-segments g) n)
