-- Laws of the boxes of a container: which they are and where they lie, what does not change them, and how two runs of
-- boxes join.
use Prim.Native.Nat.{ℕ, zero, suc, ◌+◌, ◌*◌, ◌≤◌, ◌<◌}
use mathlib.Core.List.{List, [], ◌∷◌, ◌++◌, map}
use Rattle.std.specs.Prelude.{Option, None, Some}
use mathlib.Core.Path.{◌≡◌, refl, sym, ap, subst, ◌∙◌}
use native.Mathlib.Decide.{dec_le}
use native.Mathlib.Nat.{zero-add, add-zero, le_refl}
use native.Mathlib.Omega.{arith}
use borrow.Author.Tests.{le-leb, lt-leb}
use lib.ListN.{length, get_or, length-append, length-map, get_or-append}
use lib.Seq.{get_or-append-add}
use Rattle.boxes.specs.Answer.{Answer, refused, given, ◌>>=◌}
use Rattle.boxes.specs.Framing.{Box, Fault, Walked, header, ended, broken, followed, walked, faultless, boxes_from, walked_in, boxes_in, box_limit}
use Rattle.boxes.specs.Kinds.{box_at}
use Rattle.boxes.specs.declared.kinds.Container.{Container}
use Rattle.boxes.proofs.AnswerLaws.{not_both, given_same, both_given, then-given, Only, only_given, only_refused}
use Rattle.boxes.proofs.AnswerLaws.{only_then}
use Rattle.boxes.proofs.HeaderLaws.{Inside, header_inside, header_further, header_numbers, header_moved, moved}

-- a walk that goes on behind a box gives that box before those that it gives behind it
pub faultless-followed : (b : Box) (w : Walked) → faultless (followed b w) ≡ (faultless w >>= λ bs. given (b ∷ bs))
unfolding faultless
faultless-followed b w = go w.fault
  where
    go : (x : Option Fault) → faultless (record { boxes = b ∷ w.boxes; fault = x }) ≡ (faultless (record { boxes = w.boxes; fault = x }) >>= λ bs. given (b ∷ bs))
    go None = refl
    go (Some x) = refl

-- what the tests decide
module _ (c : Container) (s : List ℕ) (end at : ℕ) where
  pub walked_end : (more : ℕ) → end ≤ at → walked c s end more at ≡ ended
  unfolding walked
  walked_end zero h = simp (walked, le-leb end at h)
  walked_end (suc more) h = simp (walked, le-leb end at h)

  pub boxes_end : (more : ℕ) → end ≤ at → boxes_from c s end more at ≡ given []
  unfolding boxes_from faultless
  boxes_end more h = ap faultless (walked_end more h)

  module _ (short : at < end) where
    pub walked_over : walked c s end zero at ≡ broken at 6
    unfolding walked
    walked_over = simp (walked, lt-leb end at short)

    pub walked_next : (more : ℕ) → walked c s end (suc more) at ≡ elim (header c s at end) [ refused n ↦ broken at n | given b ↦ followed b (walked c s end more b.end) ]
    unfolding walked
    walked_next more = simp (walked, lt-leb end at short)

    pub boxes_over : boxes_from c s end zero at ≡ refused 6
    unfolding boxes_from faultless
    boxes_over = ap faultless walked_over

    pub boxes_next : (more : ℕ) → boxes_from c s end (suc more) at ≡ (header c s at end >>= λ b. boxes_from c s end more b.end >>= λ bs. given (b ∷ bs))
    unfolding boxes_from faultless
    boxes_next more = ap faultless (walked_next more) ∙ go (header c s at end)
      where
        go : (x : Answer Box) → faultless (elim x [ refused n ↦ broken at n | given b ↦ followed b (walked c s end more b.end) ])
            ≡ (x >>= λ b. boxes_from c s end more b.end >>= λ bs. given (b ∷ bs))
        go (refused n) = refl
        go (given b) = faultless-followed b (walked c s end more b.end)

-- the boxes that fill a container from a place to its end
pub data Filled (c : Container) (s : List ℕ) (end : ℕ) : ℕ → List Box → Type 0 where
  full : {at : ℕ} → end ≤ at → Filled c s end at []
  next : {at : ℕ} {b : Box} {bs : List Box} → at < end → header c s at end ≡ given b → Filled c s end b.end bs → Filled c s end at (b ∷ bs)

-- a container whose boxes were given is filled by them, and they are no more than were allowed
pub record Fills (c : Container) (s : List ℕ) (end more at : ℕ) (bs : List Box) : Type 0 where
  pub boxes : Filled c s end at bs
  pub within : length bs ≤ more

module _ (c : Container) (s : List ℕ) (end : ℕ) where
  fills_none : (more at : ℕ) → end ≤ at → {bs : List Box} → boxes_from c s end more at ≡ given bs → Fills c s end more at bs
  fills_none more at e h =
      subst (Fills c s end more at) (given_same (sym (boxes_end c s end at more e) ∙ h)) (record { boxes = full e; within = omega arith })

  fills_more : (more at : ℕ) → at < end → {b : Box} {bs cs : List Box} → header c s at end ≡ given b → Fills c s end more b.end bs → given (b ∷ bs) ≡ given cs → Fills c s end (suc more) at cs
  fills_more more at short read f e =
      subst (Fills c s end (suc more) at) (given_same e) (record { boxes = next short read f.boxes; within = omega arith })

  pub fills : (more at : ℕ) {bs : List Box} → boxes_from c s end more at ≡ given bs → Fills c s end more at bs
  fills zero at h =
      elim (dec_le end at) [
        | yes e ↦ fills_none zero at e h
        | no short ↦ absurd (not_both (sym (boxes_over c s end at (omega arith)) ∙ h))
      ]
  fills (suc more) at h =
      elim (dec_le end at) [
        | yes e ↦ fills_none (suc more) at e h
        | no short ↦
            let a = both_given (header c s at end) _ (sym (boxes_next c s end at (omega arith) more) ∙ h) in
            let r = both_given (boxes_from c s end more a.0.end) _ a.2 in
            fills_more more at (omega arith) a.1 (fills more a.0.end r.1) r.2
      ]

-- a box of a container: it lies between the container's start and end, and is read at its own place
pub record Standing (c : Container) (s : List ℕ) (start end : ℕ) (b : Box) : Type 0 where
  pub low : start ≤ b.at
  pub inside : Inside b.at end b
  pub read : header c s b.at end ≡ given b

-- the box that was read at a place stands there, and what stands further on stands in the container too
box_standing : (c : Container) (s : List ℕ) (at end : ℕ) {b : Box} → header c s at end ≡ given b → Standing c s at end b
box_standing c s at end {b} read =
    let inside = header_inside c s at end read in
    let place : at ≡ b.at = sym inside.starts in
    record {
      low = omega arith;
      inside = rw place at inside;
      read = rw place at read;
    }

further : {c : Container} {s : List ℕ} {start start' end : ℕ} {b : Box} → start ≤ start' → Standing c s start' end b → Standing c s start end b
further h t = record { low = omega arith; inside = t.inside; read = t.read }

-- the boxes that fill a container stand in it
filled_standing : {c : Container} {s : List ℕ} {end at : ℕ} {bs : List Box} → Filled c s end at bs → (k : ℕ) → k < length bs → Standing c s at end (box_at k bs)
unfolding box_at
filled_standing (full e) k h = absurd (omega arith)
filled_standing (next short read rest) zero h = box_standing _ _ _ _ read
filled_standing (next short read rest) (suc k) h =
    let inside = header_inside _ _ _ _ read in
    further (omega arith) (filled_standing rest k (omega arith))

-- a box that comes later starts where an earlier one ends, or further on
filled_apart : {c : Container} {s : List ℕ} {end at : ℕ} {bs : List Box} → Filled c s end at bs → (j k : ℕ) → j < k → k < length bs → (box_at j bs).end ≤ (box_at k bs).at
unfolding box_at
filled_apart (full e) j k h l = absurd (omega arith)
filled_apart (next short read rest) j zero h l = absurd (omega arith)
filled_apart (next short read rest) zero (suc k) h l = (filled_standing rest k (omega arith)).low
filled_apart (next short read rest) (suc j) (suc k) h l = filled_apart rest j k (omega arith) (omega arith)

-- each has a header of eight bytes at least, so there are no more boxes than bytes
pub filled_few : {c : Container} {s : List ℕ} {end at : ℕ} {bs : List Box} → Filled c s end at bs → at ≤ end → at + 8 * length bs ≤ end
filled_few (full e) h = omega arith
filled_few (next short read rest) h =
    let inside = header_inside _ _ _ _ read in
    omega (arith, filled_few rest inside.ends)

-- boxes that fill a container up to a place, and those that fill it from there
filled_on : {c : Container} {s : List ℕ} {mid end at : ℕ} {bs cs : List Box} → at ≤ mid → mid ≤ end → Filled c s mid at bs → Filled c s end mid cs → Filled c s end at (bs ++ cs)
filled_on {c} {s} {end = end} {cs = cs} h on (full e) then = subst (λ (at : ℕ). Filled c s end at cs) (omega arith) then
filled_on {c} {s} {mid} {end} h on (next {at = at} short read rest) then =
    next {at = at} (omega arith) (header_further s at mid end on c read) (filled_on (header_inside c s at mid read).ends on rest then)

module _ (c : Container) where
  -- where as many boxes are allowed as fill the container, they are given; where fewer are, it is 6
  pub within : {s : List ℕ} {end at : ℕ} {bs : List Box} → Filled c s end at bs → (more : ℕ) → length bs ≤ more → boxes_from c s end more at ≡ given bs
  within (full e) more h = boxes_end c _ _ _ more e
  within (next short read rest) zero h = absurd (omega arith)
  within (next short read rest) (suc more) h = boxes_next c _ _ _ short more ∙ rw (read, within rest more (omega arith))

  pub over : {s : List ℕ} {end at : ℕ} {bs : List Box} → Filled c s end at bs → (more : ℕ) → more < length bs → boxes_from c s end more at ≡ refused 6
  over (full e) more h = absurd (omega arith)
  over (next short read rest) zero h = boxes_over c _ _ _ short
  over (next short read rest) (suc more) h = boxes_next c _ _ _ short more ∙ rw (read, over rest more (omega arith))

  -- a container is refused with 2 to 6
  abbrev Faults : ℕ → Type 0
  Faults n = (2 ≤ n) × (n ≤ 6)

  numbers_from : (s : List ℕ) (end more at : ℕ) → Only Faults (boxes_from c s end more at)
  numbers_from s end zero at =
      elim (dec_le end at) [
        | yes e ↦ subst (Only Faults) (sym (boxes_end c s end at zero e)) (only_given Faults [])
        | no short ↦ subst (Only Faults) (sym (boxes_over c s end at (omega arith))) (only_refused Faults 6 (omega arith))
      ]
  numbers_from s end (suc more) at =
      elim (dec_le end at) [
        | yes e ↦ subst (Only Faults) (sym (boxes_end c s end at (suc more) e)) (only_given Faults [])
        | no short ↦
            subst (Only Faults) (sym (boxes_next c s end at (omega arith) more))
            (only_then Faults (header c s at end) _ (λ n e. let (low, high) = header_numbers s at end c n e in (low, omega arith))
            (λ b. only_then Faults (boxes_from c s end more b.end) _ (numbers_from s end more b.end) (λ bs. only_given Faults _)))
      ]

-- ---- the boxes of a whole container

-- boxes in one container: at most 512
pub box-limit : box_limit ≡ 512
unfolding box_limit
box-limit = refl

-- boxes that fill it are given where they are not too many
pub filled_boxes : (c : Container) {s : List ℕ} {start end : ℕ} {bs : List Box} → Filled c s end start bs → length bs ≤ box_limit → boxes_in c s start end ≡ given bs
unfolding boxes_in walked_in boxes_from
filled_boxes c all few = within c all box_limit few

module _ (c : Container) (s : List ℕ) (start end : ℕ) where
  -- there are none where it ends before it starts
  pub boxes_none : end ≤ start → boxes_in c s start end ≡ given []
  unfolding boxes_in walked_in boxes_from
  boxes_none h = boxes_end c s end start box_limit h

  -- it is refused with 2 to 6
  pub boxes_numbers : (n : ℕ) → boxes_in c s start end ≡ refused n → (2 ≤ n) × (n ≤ 6)
  unfolding boxes_in walked_in boxes_from
  boxes_numbers = numbers_from c s end box_limit start

  module _ {bs : List Box} (known : boxes_in c s start end ≡ given bs) where
    -- they fill it
    pub boxes_filled : Filled c s end start bs
    unfolding boxes_in walked_in boxes_from
    boxes_filled = (fills c s end box_limit start known).boxes

    -- there are at most as many as are allowed
    pub boxes_few : length bs ≤ box_limit
    unfolding boxes_in walked_in boxes_from
    boxes_few = (fills c s end box_limit start known).within

    -- the first is read where it starts
    pub boxes_first : 0 < length bs → header c s start end ≡ given (box_at 0 bs)
    unfolding box_at
    boxes_first there = go boxes_filled there
      where
        go : {at : ℕ} {cs : List Box} → Filled c s end at cs → 0 < length cs → header c s at end ≡ given (box_at 0 cs)
        go (full e) there = absurd (omega arith)
        go (next short read rest) there = read

    -- each stands in it
    pub boxes_standing : (k : ℕ) → k < length bs → Standing c s start end (box_at k bs)
    boxes_standing = filled_standing boxes_filled

    -- and one that comes later starts where an earlier one ends, or further on
    pub boxes_apart : (j k : ℕ) → j < k → k < length bs → (box_at j bs).end ≤ (box_at k bs).at
    boxes_apart = filled_apart boxes_filled

-- the boxes are the same where the same bytes stand at the same places
module _ (s t : List ℕ) (end : ℕ) (same : (i : ℕ) → i < end → get_or t i 0 ≡ get_or s i 0) where
  pub header_same : (c : Container) (at : ℕ) → header c t at end ≡ header c s at end
  header_same c at = simp (zero-add, then-given) at (header_moved s t 0 at end (λ i h. simp zero-add (same i h)) c)

  same_from : (c : Container) (more at : ℕ) → walked c t end more at ≡ walked c s end more at
  unfolding walked
  same_from c zero at = refl
  same_from c (suc more) at =
      elim (dec_le end at) [
        | yes e ↦ walked_end c t end at (suc more) e ∙ sym (walked_end c s end at (suc more) e)
        | no short ↦
            walked_next c t end at (omega arith) more ∙ rw header_same (go (same_from c more) (header c s at end)) ∙ sym (walked_next c s end at (omega arith) more)
      ]
    where
      go : ((at : ℕ) → walked c t end more at ≡ walked c s end more at) → (x : Answer Box)
          → ◌≡◌ {A = Walked} (elim x [ refused n ↦ broken at n | given b ↦ followed b (walked c t end more b.end) ])
          (elim x [ refused n ↦ broken at n | given b ↦ followed b (walked c s end more b.end) ])
      go rest (refused n) = refl
      go rest (given b) = ap (followed b) (rest b.end)

  pub boxes_same : (c : Container) (start : ℕ) → boxes_in c t start end ≡ boxes_in c s start end
  unfolding boxes_in walked_in
  boxes_same c start = ap faultless (same_from c box_limit start)

-- what is appended after the end of a container changes nothing in it
module _ (f g : List ℕ) (end : ℕ) (inside : end ≤ length f) where
  kept : (i : ℕ) → i < end → get_or (f ++ g) i 0 ≡ get_or f i 0
  kept i h = get_or-append f g 0 i (omega arith)

  pub header_kept : (c : Container) (at : ℕ) → header c (f ++ g) at end ≡ header c f at end
  header_kept = header_same f (f ++ g) end kept

  pub boxes_kept : (c : Container) (start : ℕ) → boxes_in c (f ++ g) start end ≡ boxes_in c f start end
  boxes_kept = boxes_same f (f ++ g) end kept

-- boxes fill a container where the same bytes stand so many bytes further on
module _ (s t : List ℕ) (n end : ℕ) (same : (i : ℕ) → i < end → get_or t (n + i) 0 ≡ get_or s i 0) where
  pub filled_moved : {c : Container} {at : ℕ} {bs : List Box} → Filled c s end at bs → Filled c t (n + end) (n + at) (map (moved n) bs)
  filled_moved (full {at = at} e) = full {at = n + at} (omega arith)
  filled_moved {c} (next {at = at} {b = b} short read rest) =
      next {at = n + at} {b = moved n b} (omega arith) (header_moved s t n at end same c ∙ rw read) (filled_moved rest)

filled_kept : {c : Container} {f : List ℕ} (g : List ℕ) {at : ℕ} {bs : List Box} → Filled c f (length f) at bs → Filled c (f ++ g) (length f) at bs
filled_kept g (full e) = full e
filled_kept {c} {f} g (next {at = at} short read rest) = next short (header_kept f g (length f) (le_refl (length f)) c at ∙ read) (filled_kept g rest)

-- the boxes of f ++ g are those of f and then those of g
pub filled-appended : {c : Container} {f g : List ℕ} {bs cs : List Box} → Filled c f (length f) 0 bs → Filled c g (length g) 0 cs
    → Filled c (f ++ g) (length (f ++ g)) 0 (bs ++ map (moved (length f)) cs)
filled-appended {f = f} {g = g} first second =
    rw length-append
    (filled_on {mid = length f} (omega arith) (omega arith) (filled_kept g first)
    (simp add-zero at (filled_moved g (f ++ g) (length f) (length g) (λ i h. get_or-append-add f g i 0) second)))

module _ (c : Container) (f g : List ℕ) {bs cs : List Box} (first : boxes_in c f 0 (length f) ≡ given bs) (second : Filled c g (length g) 0 cs) where
  all_filled : Filled c (f ++ g) (length (f ++ g)) 0 (bs ++ map (moved (length f)) cs)
  all_filled = filled-appended (boxes_filled c f 0 (length f) first) second

  all_many : length (bs ++ map (moved (length f)) cs) ≡ length bs + length cs
  all_many = rw (length-append, length-map)

  pub boxes_appended : length bs + length cs ≤ box_limit → boxes_in c (f ++ g) 0 (length (f ++ g)) ≡ given (bs ++ map (moved (length f)) cs)
  boxes_appended few = filled_boxes c all_filled (rw all_many few)

  -- where they are too many it is 6
  pub boxes_crowded : box_limit < length bs + length cs → boxes_in c (f ++ g) 0 (length (f ++ g)) ≡ refused 6
  unfolding boxes_in walked_in boxes_from
  boxes_crowded many = over c all_filled box_limit (rw all_many many)
