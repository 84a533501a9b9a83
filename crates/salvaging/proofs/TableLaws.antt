-- Laws of the tables: how long what stays of each box is, and where it is in the copy.
use Prim.Native.Nat.{ℕ, zero, suc, ◌+◌, ◌-◌, ◌^◌, min, ◌≤◌, ◌<◌}
use mathlib.Core.Bool.{true, false, false≢true}
use mathlib.Core.List.{List, [], ◌∷◌}
use Rattle.std.specs.Prelude.{Option, None, Some}
use mathlib.Core.Path.{◌≡◌, refl, sym, ap, subst, subst⁻¹, ◌∙◌}
use native.Mathlib.Decide.{dec_le}
use native.Mathlib.Nat.{add_assoc, add-zero, zero-add, le_refl}
use native.Mathlib.Numerals.{add-one}
use native.Mathlib.Omega.{arith}
use borrow.Author.Tests.{le-leb, lt-leb}
use lib.ListN.{length, get_or, take, drop, set, replicate, length-drop, length-set, length-replicate}
use lib.Seq.{get_or-drop, get_or-set_same, get_or-set_other}
use Rattle.boxes.specs.Answer.{refused, given}
use Rattle.boxes.specs.Framing.{Box, boxes_in}
use Rattle.boxes.specs.Kinds.{no_box, ftyp, pseg, fidx, is, box_at}
use Rattle.boxes.specs.Walk.{walk_over, stepped}
use Rattle.boxes.specs.declared.kinds.Container.{Container}
use Rattle.boxes.specs.declared.kinds.Container.TheVariants.{File, Pfil, Pseg}
use Rattle.boxes.specs.declared.walk.Walk.{Walk}
use Rattle.boxes.proofs.ContainerLaws.{Filled, full, next, boxes_filled, boxes_standing, boxes_apart}
use Rattle.boxes.proofs.HeaderLaws.{Inside, header_inside}
use Rattle.boxes.proofs.WalkLaws.{met}
use Rattle.numerals.specs.declared.place.Place.{Place}
use Rattle.tallying.proofs.FoundLaws.{Asked, asked_more, asked_end, asked_sound}
use Rattle.partial.specs.Heading.{Heading}
use Rattle.partial.specs.Limits.{source_limit}
use Rattle.partial.specs.Reading.{segment}
use Rattle.partial.specs.Segments.{Segment}
use Rattle.partial.specs.Sequences.{sum}
use Rattle.partial.proofs.Reading.KeptLaws.{stepped as Read-step}
use Rattle.segment.specs.Tops.{Before}
use Rattle.segment.proofs.TopsLaws.{few}
use Rattle.rescue.specs.Copy.{unindexed, size_of, copy_size, new_place}
use Rattle.rescue.specs.Kept.{Fate, dropped, whole, of_pfil, of_pseg, Fated, kept_with, fate_of, fates_from, fates}
use Rattle.rescue.specs.Table.{code_for}
use Rattle.rescue.proofs.CopyLaws.{staying}
use Rattle.rescue.proofs.FateLaws.{fate_pseg, fate_whole, fate_no_pfil, beside_given}
use Rattle.rescue.proofs.HeadingLaws.{opened, said, other_kind, filled_size}
use Rattle.rescue.proofs.PlaceLaws.{sizes}
use Rattle.rescue.proofs.TableLaws.{no_fated, Coded, code_at}
use Rattle.salvaging.specs.Tables.{fates_in, fate_at, start_of, PlacesHeld, Sound, Moving, new_in}
use Rattle.salvaging.specs.declared.places.Moves.{Moves}
use Rattle.salvaging.proofs.SoundLaws.{two_boxes, box-held, fates_long}

-- ---- how many bytes the boxes of a container have without its index

-- by whether the first is one
module _ (b : Box) (bs : List Box) where
  size_index : is fidx b ≡ true → size_of (unindexed (b ∷ bs)) ≡ size_of (unindexed bs)
  unfolding unindexed
  size_index kind = rw (kind, unindexed)

  size_other : is fidx b ≡ false → size_of (unindexed (b ∷ bs)) ≡ b.end - b.at + size_of (unindexed bs)
  unfolding unindexed size_of
  size_other kind = rw (kind, unindexed)

-- so many of the boxes passed, beside those that a walk has before it
pub record Summed (s : List ℕ) (w₀ w : Walk) (size : ℕ) : Type 0 where
  pub low : size ≤ w.at.0
  pub same_end : w.end.0 ≡ w₀.end.0
  pub asked : w₀.end.0 < 2 ^ 32 → Asked s (λ bs. size_of (unindexed bs)) w₀ (λ bs. size + size_of (unindexed bs)) w

pub summed_none : (s : List ℕ) (w : Walk) → Summed s w w 0
summed_none s w = record { low = omega arith; same_end = refl; asked = λ short. record { same = λ all known. (all, known, sym (zero-add _)) } }

module _ {s : List ℕ} {w₀ w : Walk} {size : ℕ} (m : Summed s w₀ w size) {b : Box} {w' : Walk} (step : stepped s w ≡ given (Some (b, w'))) where
  pub summed_index : is fidx b ≡ true → Summed s w₀ w' size
  summed_index kind =
      let on = met s w step in
      let lies = on.inside in
      record {
        low = omega (arith, ap (λ w. w.at.0) on.onward, m.low);
        same_end = ap (λ w. w.end.0) on.onward ∙ m.same_end;
        asked = λ short. asked_more (λ bs. size + size_of (unindexed bs)) (m.asked short) step (λ rest. ap (λ n. size + n) (size_index b rest kind));
      }

  pub summed_more : is fidx b ≡ false → {more : ℕ} → more ≡ min (size + (b.end - b.at)) (2 ^ 64 - 1) → Summed s w₀ w' more
  summed_more kind {more} sums =
      let on = met s w step in
      let lies = on.inside in
      record {
        low = omega (arith, ap (λ w. w.at.0) on.onward, m.low);
        same_end = ap (λ w. w.end.0) on.onward ∙ m.same_end;
        asked = λ short.
            let exact : more ≡ size + (b.end - b.at) = omega (arith, m.low, m.same_end) in
            asked_more (λ bs. more + size_of (unindexed bs)) (m.asked short) step
            (λ rest. ap (λ n. size + n) (size_other b rest kind) ∙ rw exact (sym (add_assoc size (b.end - b.at) (size_of (unindexed rest)))));
      }

module _ {s : List ℕ} {c : Container} {start end : Place} {w₀ w : Walk} {size : ℕ} (new : w₀ ≡ walk_over c start end) (m : Summed s w₀ w size) {bs : List Box} (known : boxes_in c s start.0 end.0 ≡ given bs) (short : end.0 < 2 ^ 32) where
  begun : Asked s (λ bs. size_of (unindexed bs)) w₀ (λ bs. size + size_of (unindexed bs)) w
  begun = m.asked (omega (arith, ap (λ w. w.end.0) new))

  pub summed_end : stepped s w ≡ given None → size ≡ size_of (unindexed bs)
  unfolding unindexed size_of
  summed_end step = sym (asked_end new begun known step ∙ add-zero size)

  pub summed_sound : {n : ℕ} → stepped s w ≡ refused n → ⊥
  summed_sound step = asked_sound new begun known step

-- ---- how many bytes of a box are in the copy

-- the fate of a box behind others is found beside some segments kept before it
pub fated_from : (f : List ℕ) (h : Heading) (kept : List Segment) (bs : List Box) (k : ℕ) → k < length bs
    → (before : List Segment) × ((get_or (fates_from source_limit f h kept bs) k no_fated).fate ≡ fate_of source_limit f h before (box_at k bs))
unfolding fates_from box_at
fated_from f h kept [] k there = absurd (omega arith)
fated_from f h kept (b ∷ bs) zero there = (kept, refl)
fated_from f h kept (b ∷ bs) (suc k) there = fated_from f h (kept_with source_limit f h kept b) bs k (omega arith)

pub two_on : (bs : List Box) (k : ℕ) → box_at k (drop 2 bs) ≡ box_at (suc (suc k)) bs
unfolding box_at
two_on bs k = get_or-drop 2 bs k no_box ∙ ap (λ (n : ℕ). get_or bs n no_box) (omega arith)

-- a segment that was read has the boxes of its `pseg`
pub segment_inner : (f : List ℕ) (h : Heading) (before : List Segment) (b : Box) {s : Segment} → segment source_limit f h before b ≡ given s
    → boxes_in Pseg f b.body b.end ≡ given s.inner
segment_inner f h before b read =
    let (inner, l, cs, t, same) = Read-step source_limit f h before b read in
    t.boxes ∙ ap (λ (s : Segment). given s.inner) same

module _ (f : List ℕ) (h : Heading) (sound : Sound f h) where
  -- what holds of a box's fate, by its number and its kind
  pub by_fate : (P : Fate → Type 0) (k : ℕ) → k < length h.boxes
      → let b = box_at k h.boxes in
      ((n : ℕ) → P (dropped n))
      → ((k ≡ 1 → ⊥) → is pseg b ≡ false → P whole)
      → (k ≡ 1 → boxes_in Pfil f b.body b.end ≡ given h.inner → P (of_pfil h.inner))
      → ((k ≡ 1 → ⊥) → is pseg b ≡ true → (s : Segment) (before : List Segment) → segment source_limit f h before b ≡ given s → P (of_pseg s))
      → P (fate_at f h k).fate
  unfolding fates
  by_fate P zero there gone stay first one = stay (λ e. omega arith) (other_kind ftyp pseg (box_at 0 h.boxes) refl (opened f h sound.opens).first)
  by_fate P (suc zero) there gone stay first one = first refl (said f h sound.opens).inner
  by_fate P (suc (suc j)) there gone stay first one =
      let (before, e) = fated_from f h [] (drop 2 h.boxes) j (omega (arith, length-drop 2 h.boxes)) in
      subst⁻¹ P (e ∙ ap (fate_of source_limit f h before) (two_on h.boxes j)) (go before (fate_of source_limit f h before b) refl)
    where
      b : Box
      b = box_at (suc (suc j)) h.boxes

      go : (before : List Segment) (t : Fate) → fate_of source_limit f h before b ≡ t → P t
      go before (dropped n) e = gone n
      go before whole e = stay (λ e. omega arith) (fate_whole source_limit f h before b e).0
      go before (of_pfil inner) e = absurd (fate_no_pfil source_limit f h before b e)
      go before (of_pseg s) e =
          let (kind, found) = fate_pseg source_limit f h before b e in
          one (λ e. omega arith) kind s before (beside_given source_limit f h before b found).1

  module _ (k : ℕ) (there : k < length h.boxes) where
    -- it stands in the file
    pub box_stands : Inside (box_at k h.boxes).at (length f) (box_at k h.boxes)
    box_stands = (boxes_standing File f 0 (length f) sound.boxes k there).inside

    -- its size, by its fate
    abbrev size_as : Fate → ℕ
    size_as t = copy_size (record { box = box_at k h.boxes; fate = t })

    size-by : size_as (fate_at f h k).fate ≡ copy_size (fate_at f h k)
    size-by = ap (λ (b : Box). copy_size (record { box = b; fate = (fate_at f h k).fate })) (sym (box-held f h sound k))

    -- what stands in a container without its index ends with it
    inner_short : (c : Container) (inner : List Box) → boxes_in c f (box_at k h.boxes).body (box_at k h.boxes).end ≡ given inner
        → (box_at k h.boxes).body + size_of (unindexed inner) ≤ (box_at k h.boxes).end
    inner_short c inner known =
        let b = box_at k h.boxes in
        filled_size c f b.end box_stands.whole (boxes_filled c f b.body b.end known)

    pub copy_shorter : copy_size (fate_at f h k) ≤ (box_at k h.boxes).end - (box_at k h.boxes).at
    unfolding copy_size
    copy_shorter =
        let lies = box_stands in
        rw (← size-by)
        (by_fate (λ t. size_as t ≤ (box_at k h.boxes).end - (box_at k h.boxes).at) k there (λ n. omega arith) (λ _ _. le_refl _)
        (λ _ known. omega (arith, inner_short Pfil h.inner known)) (λ _ _ s before read. omega (arith, inner_short Pseg s.inner (segment_inner f h before _ read))))

    -- as it is told of the box that was read
    module _ {code : Option ℕ} (coded : code ≡ code_for f h k) {b : Box} (same : b ≡ box_at k h.boxes) where
      pub told : Coded (fate_at f h k).fate code
      told = rw coded (code_at f h k)

      pub size_none : {n : ℕ} → code ≡ Some n → 0 ≡ copy_size (fate_at f h k)
      unfolding copy_size
      size_none goes = rw (← size-by, told.goes goes)

      module _ (stays : code ≡ None) where
        by_staying : {n : ℕ}
            → let b = box_at k h.boxes in
            ((k ≡ 1 → ⊥) → is pseg b ≡ false → n ≡ size_as whole)
            → (k ≡ 1 → boxes_in Pfil f b.body b.end ≡ given h.inner → n ≡ size_as (of_pfil h.inner))
            → ((k ≡ 1 → ⊥) → is pseg b ≡ true → (s : Segment) → boxes_in Pseg f b.body b.end ≡ given s.inner → n ≡ size_as (of_pseg s))
            → n ≡ copy_size (fate_at f h k)
        by_staying {n} stay first one =
            rw (← size-by)
            (by_fate (λ t. staying t ≡ true → n ≡ size_as t) k there (λ m stays. absurd (false≢true stays)) (λ other kind _. stay other kind)
            (λ second known _. first second known) (λ other kind s before read _. one other kind s (segment_inner f h before _ read)) (told.stays stays))

        -- a container has its header and what was counted in it
        module _ {front n : ℕ} (inner : ℕ) (headed : front ≡ b.body - b.at) (sums : n ≡ min (front + inner) (2 ^ 64 - 1)) where
          abbrev Counts : Container → Type 0
          Counts c = (bs : List Box) → boxes_in c f b.body b.end ≡ given bs → b.end < 2 ^ 32 → inner ≡ size_of (unindexed bs)

          sized : (c : Container) → Counts c → (bs : List Box) → boxes_in c f (box_at k h.boxes).body (box_at k h.boxes).end ≡ given bs
              → n ≡ (box_at k h.boxes).body - (box_at k h.boxes).at + size_of (unindexed bs)
          sized c counts bs known =
              let lies = box_stands in
              let small = (opened f h sound.opens).small in
              let counted = counts bs (rw same known) (rw same (omega arith)) in
              let front-is = rw same at headed in
              omega (arith, inner_short c bs known)

          pub size_pfil : k ≡ 1 → Counts Pfil → n ≡ copy_size (fate_at f h k)
          unfolding copy_size
          size_pfil second counts = by_staying (λ other _. absurd (other second)) (λ _ known. sized Pfil counts h.inner known) (λ other _ _ _. absurd (other second))

          pub size_pseg : (k ≡ 1 → ⊥) → is pseg b ≡ true → Counts Pseg → n ≡ copy_size (fate_at f h k)
          unfolding copy_size
          size_pseg other kind counts =
              by_staying (λ _ apart. absurd (false≢true (sym apart ∙ rw same at kind))) (λ second _. absurd (other second)) (λ _ _ s known. sized Pseg counts s.inner known)

        pub size_whole : (k ≡ 1 → ⊥) → is pseg b ≡ false → {n : ℕ} → n ≡ b.end - b.at → n ≡ copy_size (fate_at f h k)
        unfolding copy_size
        size_whole other kind long =
            by_staying (λ _ _. rw same at long) (λ second _. absurd (other second)) (λ _ one _ _. absurd (false≢true (sym (rw same at kind) ∙ one)))

-- ---- where each box is in the copy

-- the copies of one box more
sizes_more : (xs : List Fated) (k : ℕ) → k < length xs → sizes (take (suc k) xs) ≡ sizes (take k xs) + copy_size (get_or xs k no_fated)
unfolding sum
sizes_more [] k there = absurd (omega arith)
sizes_more (x ∷ xs) zero there = omega arith
sizes_more (x ∷ xs) (suc k) there = omega (arith, sizes_more xs k (omega arith))

-- boxes that fill a file follow each other without a gap, up to its end
filled-joined : {c : Container} {s : List ℕ} {end at : ℕ} {bs : List Box} → Filled c s end at bs → (k : ℕ) → suc k < length bs → (box_at (suc k) bs).at ≡ (box_at k bs).end
unfolding box_at
filled-joined (full e) k there = absurd (omega arith)
filled-joined (next short read (full e)) k there = absurd (omega arith)
filled-joined (next short read (next short' read' rest)) zero there = (header_inside _ _ _ _ read').starts
filled-joined (next short read (next short' read' rest)) (suc k) there = filled-joined (next short' read' rest) k (omega arith)

filled_last : {c : Container} {s : List ℕ} {end at : ℕ} {bs : List Box} → Filled c s end at bs → (k : ℕ) → suc k ≡ length bs → end ≤ (box_at k bs).end
unfolding box_at
filled_last (full e) k last = absurd (omega arith)
filled_last (next short read (full e)) zero last = e
filled_last (next short read (full e)) (suc k) last = absurd (omega arith)
filled_last (next short read (next short' read' rest)) zero last = absurd (omega arith)
filled_last (next short read (next short' read' rest)) (suc k) last = filled_last (next short' read' rest) k (omega arith)

filled_first : {c : Container} {s : List ℕ} {end at : ℕ} {bs : List Box} → Filled c s end at bs → 0 < length bs → (box_at 0 bs).at ≡ at
unfolding box_at
filled_first (full e) there = absurd (omega arith)
filled_first (next short read rest) there = (header_inside _ _ _ _ read).starts

module _ (f : List ℕ) (h : Heading) (sound : Sound f h) where
  all_filled : Filled File f (length f) 0 h.boxes
  all_filled = boxes_filled File f 0 (length f) sound.boxes

  pub start_more : (k : ℕ) → k < length h.boxes → start_of f h (suc k) ≡ start_of f h k + copy_size (fate_at f h k)
  start_more k there = sizes_more (fates_in f h) k (rw (fates_long f h sound) there)

  -- no box is further on there
  pub start_low : (k : ℕ) → k < length h.boxes → start_of f h k ≤ (box_at k h.boxes).at
  unfolding sum
  start_low zero there = omega arith
  start_low (suc k) there =
      let before : k < length h.boxes = omega arith in
      let lies = box_stands f h sound k before in
      omega (arith, start_low k before, start_more k before, copy_shorter f h sound k before, filled-joined all_filled k there)

  -- the places of the boxes so far stand in a table
  pub record Placing (t : List ℕ) (size k : ℕ) : Type 0 where
    pub long : length t ≡ 512
    pub each : (j : ℕ) → j < k → get_or t j 0 ≡ start_of f h j
    pub all : size ≡ start_of f h k

  pub placing_none : Placing (replicate 512 0) 0 0
  unfolding sum
  placing_none = record { long = length-replicate {A = ℕ} 512 0; each = λ j less. absurd (omega arith); all = refl }

  pub placing_more : {t : List ℕ} {size k : ℕ} → Placing t size k → k < length h.boxes → k < 512 → {n more : ℕ} → n ≡ copy_size (fate_at f h k) → more ≡ min (size + n) (2 ^ 64 - 1)
      → Placing (set t k size) more (k + 1)
  placing_more {t} {size} {k} p there room {n} {more} one sums =
      let lies = box_stands f h sound k there in
      let small = (opened f h sound.opens).small in
      let on : suc k ≡ k + 1 = omega arith in
      record {
        long = length-set t k size ∙ p.long;
        each = λ j less.
            elim (dec_le k j) [
              | yes most ↦
                  let here : j ≡ k = omega arith in
                  rw here (get_or-set_same t k size 0 (omega (arith, p.long)) ∙ p.all)
              | no other ↦ get_or-set_other t k j size 0 (λ e. omega arith) ∙ p.each j (omega arith)
            ];
        all =
            let exact : more ≡ start_of f h (suc k) = omega (arith, p.all, start_low k there, start_more k there, copy_shorter f h sound k there) in
            exact ∙ ap (start_of f h) on;
      }

  pub placing_end : {t : List ℕ} {size k : ℕ} → Placing t size k → k ≡ length h.boxes → PlacesHeld f h t × (size ≡ start_of f h (length h.boxes))
  placing_end p last = (record { long = p.long; each = λ j less. p.each j (omega arith) }, p.all ∙ ap (start_of f h) last)

-- ---- where a place is in the copy

-- in a box: as far behind its copy's start as it is behind the box's
new_in_lem : (start : ℕ) (xs : List Fated) (k place : ℕ) → k < length xs → ((j : ℕ) → j < k → (get_or xs j no_fated).box.end ≤ place) → place < (get_or xs k no_fated).box.end
    → new_place start xs place ≡ start + sizes (take k xs) + (place - (get_or xs k no_fated).box.at)
unfolding new_place sum
new_in_lem start [] k place there past high = absurd (omega arith)
new_in_lem start (x ∷ xs) zero place there past high = rw (new_place, lt-leb x.box.end place high) (omega arith)
new_in_lem start (x ∷ xs) (suc k) place there past high =
    rw (new_place, le-leb x.box.end place (past 0 (omega arith)))
    (new_in_lem (start + copy_size x) xs k place (omega arith) (λ j less. past (suc j) (omega arith)) high ∙ omega arith)

-- a box itself is where the copies of those before it end
pub new_start : (f : List ℕ) (h : Heading) (sound : Sound f h) (k : ℕ) → k < length h.boxes → new_in f h (box_at k h.boxes).at ≡ start_of f h k
new_start f h sound k there =
    let box = box-held f h sound in
    let lies = box_stands f h sound k there in
    let new =
    new_in_lem 0 (fates_in f h) k (box_at k h.boxes).at (rw (fates_long f h sound) there)
    (λ j less. rw box (boxes_apart File f 0 (length f) sound.boxes j k less there))
    (rw box (omega arith)) in
    omega (arith, new, ap (λ (b : Box). b.at) (box k))

module _ (f : List ℕ) (h : Heading) {moves : Moves} (moving : Moving f h moves) {place : ℕ} (inside : place < length f) where
  -- the box that it is in is the last one that does not start behind it
  module _ {k asked : ℕ} (behind : asked ≡ min (place + 1) (2 ^ 64 - 1)) (found : Before moves.tops asked k) where
    last : Before moves.tops (place + 1) k
    last =
        let small = (opened f h moving.sound.opens).small in
        subst (λ (n : ℕ). Before moves.tops n k) (omega arith) found

    there : k < length h.boxes
    there =
        elim (dec_le (length h.boxes) k) [
          | yes past ↦
              let small = (opened f h moving.sound.opens).small in
              let many = two_boxes f h moving.sound in
              absurd (omega (arith, last.before (omega arith), moving.listed.beyond k past last.there))
          | no less ↦ omega arith
        ]

    starts : (box_at k h.boxes).at ≤ place
    starts =
        elim (dec_le k 0) [
          | yes first ↦
              let zeroth : k ≡ 0 = omega arith in
              let many = two_boxes f h moving.sound in
              rw zeroth (omega (arith, filled_first (all_filled f h moving.sound) (omega arith)))
          | no later ↦ omega (arith, last.before (omega arith), moving.listed.listed k there)
        ]

    ends : place < (box_at k h.boxes).end
    ends =
        elim (dec_le (length h.boxes) (k + 1)) [
          | yes final ↦ omega (arith, filled_last (all_filled f h moving.sound) k (omega (arith, there)))
          | no less ↦
              let more : k + 1 < length h.boxes = omega arith in
              let room = few f moving.sound.boxes moving.listed in
              let on : (box_at (k + 1) h.boxes).at ≡ (box_at k h.boxes).end = rw add-one (filled-joined (all_filled f h moving.sound) k (omega arith)) in
              omega (arith, last.next (omega arith), moving.listed.listed (k + 1) more)
        ]

    pub new_found : {at n r : ℕ} → at ≡ get_or moves.tops k 0 → n ≡ place - at → r ≡ min (get_or moves.places k 0 + n) (2 ^ 64 - 1) → r ≡ new_in f h place
    new_found top far sums =
        let box = box-held f h moving.sound in
        let small = (opened f h moving.sound.opens).small in
        let new =
        new_in_lem 0 (fates_in f h) k place (rw (fates_long f h moving.sound) there)
        (λ j less. rw box (omega (arith, starts, boxes_apart File f 0 (length f) moving.sound.boxes j k less there)))
        (rw box ends) in
        omega (
          arith,
          starts,
          new,
          ap (λ (b : Box). b.at) (box k),
          moving.listed.listed k there,
          moving.placed.each k there,
          start_low f h moving.sound k there,
        )
