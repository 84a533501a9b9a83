-- Laws of whole boxes, as which a chunk may lie outside `pdat`: where they stand in a row, and of bytes that are boxes.
use Prim.Native.Nat.{ℕ, ◌+◌, ◌≤◌, ◌<◌}
use mathlib.Core.Bool.{Bool, true, false, not, ◌&&◌, ◌||◌, true≢false}
use mathlib.Core.List.{List, [], ◌∷◌, ◌++◌, map}
use mathlib.Core.Logic.{inl, inr}
use mathlib.Core.Path.{◌≡◌, refl, sym, ap, ap₂}
use native.Mathlib.Nat.{add_assoc}
use native.Mathlib.Decide.{dec_le}
use native.Mathlib.Omega.{arith}
use borrow.Author.Tests.{lt-ltb, le-ltb, le-leb, eq-eqb, ne_eqb, ltb-true}
use lib.Dec.{leb, ltb, eqb}
use lib.ListN.{length}
use Rattle.boxes.specs.Answer.{Answer, refused, given}
use Rattle.boxes.specs.Framing.{Box}
use Rattle.boxes.specs.Kinds.{ftyp, pfil, pseg, pdat, is}
use Rattle.boxes.specs.declared.kinds.Container.TheVariants.{File}
use Rattle.boxes.proofs.HeaderLaws.{header_inside, moved}
use Rattle.boxes.proofs.ContainerLaws.{Filled, full, next, filled_few, fills, within}
use Rattle.partial.specs.Sequences.{all_of}
use Rattle.partial.specs.Mixed.{allowed, fill_up, whole_boxes, boxes_of, are_boxes}
use Rattle.partial.proofs.Meaning.SequenceLaws.{which, both}

-- ---- boxes that are allowed

-- a box that is allowed is of none of the four kinds
pub allowed_other : (b : Box) → allowed b ≡ true → (is ftyp b ≡ false) × (is pfil b ≡ false) × (is pseg b ≡ false) × (is pdat b ≡ false)
unfolding allowed
allowed_other b h = go (is ftyp b) (is pfil b) (is pseg b) (is pdat b) h
  where
    go : (t f s d : Bool) → not (t || f || s || d) ≡ true → (t ≡ false) × (f ≡ false) × (s ≡ false) × (d ≡ false)
    go false false false false h = (refl, refl, refl, refl)
    go true f s d h = absurd (true≢false (sym h))
    go false true s d h = absurd (true≢false (sym h))
    go false false true d h = absurd (true≢false (sym h))
    go false false false true h = absurd (true≢false (sym h))

-- and stays so further on
pub allowed_moved : (n : ℕ) (bs : List Box) → all_of allowed (map (moved n) bs) ≡ all_of allowed bs
unfolding all_of allowed is
allowed_moved n [] = refl
allowed_moved n (b ∷ bs) = ap (λ (rest : Bool). allowed b && rest) (allowed_moved n bs)

-- ---- boxes further on

-- so many bytes, and then so many more
pub moved_twice : (m n : ℕ) (bs : List Box) → map (moved m) (map (moved n) bs) ≡ map (moved (m + n)) bs
moved_twice m n [] = refl
moved_twice m n (b ∷ bs) = ap₂ (λ (c : Box) (cs : List Box). c ∷ cs) (simp add_assoc) (moved_twice m n bs)

-- ---- boxes in a row, each where the one before it ends

abbrev pub Row : ℕ → ℕ → List Box → Type 0
Row at end [] = at ≡ end
Row at end (b ∷ bs) = (b.at ≡ at) × (at < b.body) × (b.body ≤ b.end) × Row b.end end bs

pub filled_row : {s : List ℕ} {end at : ℕ} {bs : List Box} → at ≤ end → Filled File s end at bs → Row at end bs
filled_row h (full e) = omega arith
filled_row h (next short read rest) =
    let inside = header_inside _ _ _ _ read in
    (inside.starts, omega arith, inside.whole, filled_row inside.ends rest)

pub row_moved : (n at end : ℕ) (bs : List Box) → Row at end bs → Row (n + at) (n + end) (map (moved n) bs)
row_moved n at end [] r = omega arith
row_moved n at end (b ∷ bs) (from, front, whole, rest) = (omega arith, omega arith, omega arith, row_moved n b.end end bs rest)

row_on : (at end : ℕ) (bs : List Box) → Row at end bs → at ≤ end
row_on at end [] r = omega arith
row_on at end (b ∷ bs) (from, front, whole, rest) = omega (arith, row_on b.end end bs rest)

-- whether a box starts before a place, and whether its body starts at one or further on
abbrev pub starts : ℕ → Box → Bool
starts place b = ltb b.at place

abbrev pub beyond : ℕ → Box → Bool
beyond place b = leb place b.body

pub row_starts : (at end : ℕ) (bs : List Box) → Row at end bs → (place : ℕ) → end ≤ place → all_of (starts place) bs ≡ true
unfolding all_of
row_starts at end [] r place h = refl
row_starts at end (b ∷ bs) (from, front, whole, rest) place h =
    let on = row_on b.end end bs rest in
    rw (lt-ltb b.at place (omega arith)) (row_starts b.end end bs rest place h)

pub row_beyond : (at end : ℕ) (bs : List Box) → Row at end bs → (place : ℕ) → place ≤ at → all_of (beyond place) bs ≡ true
unfolding all_of
row_beyond at end [] r place h = refl
row_beyond at end (b ∷ bs) (from, front, whole, rest) place h =
    rw (le-leb place b.body (omega arith)) (row_beyond b.end end bs rest place (omega arith))

-- what starts before a place starts before one further on
pub starts_later : (at place : ℕ) → at ≤ place → (bs : List Box) → all_of (starts at) bs ≡ true → all_of (starts place) bs ≡ true
unfolding all_of
starts_later at place h [] first = refl
starts_later at place h (b ∷ bs) first =
    let (here, others) = both (starts at b) (all_of (starts at) bs) first in
    rw (lt-ltb b.at place (omega (arith, ltb-true b.at at here))) (starts_later at place h bs others)

-- ---- whole boxes among a file's

-- with more boxes behind
fill_longer : (bs more : List Box) (end : ℕ) → fill_up bs end ≡ true → fill_up (bs ++ more) end ≡ true
unfolding fill_up
fill_longer [] more end h = absurd (true≢false (sym h))
fill_longer (b ∷ bs) more end h =
    let (free, rest) = both (allowed b) (elim (ltb b.end end) [ true ↦ fill_up bs end | false ↦ eqb b.end end ]) h in
    elim (which (ltb b.end end)) [
      | inl e ↦ rw (fill_up, free, e) (fill_longer bs more end (rw e at rest))
      | inr e ↦ rw (fill_up, free, e) (rw e at rest)
    ]

pub whole_longer : (bs more : List Box) (place end : ℕ) → whole_boxes bs place end ≡ true → whole_boxes (bs ++ more) place end ≡ true
unfolding whole_boxes
whole_longer [] more place end h = absurd (true≢false (sym h))
whole_longer (b ∷ bs) more place end h =
    elim (which (eqb b.at place)) [
      | inl e ↦ rw (whole_boxes, e) (fill_longer (b ∷ bs) more end (rw (whole_boxes, e) at h))
      | inr e ↦ rw (whole_boxes, e) (whole_longer bs more place end (rw (whole_boxes, e) at h))
    ]

-- a row of allowed boxes, not empty, is whole boxes wherever it stands
module _ (rest : List Box) where
  fill_row : (at end : ℕ) (bs : List Box) → at < end → Row at end bs → all_of allowed bs ≡ true → fill_up (bs ++ rest) end ≡ true
  unfolding fill_up all_of
  fill_row at end [] some r free = absurd (omega arith)
  fill_row at end (b ∷ bs) some (from, front, whole, row) free =
      let (here, others) = both (allowed b) (all_of allowed bs) free in
      let on = row_on b.end end bs row in
      elim (dec_le end b.end) [
        | yes last ↦ rw (fill_up, here, le-ltb b.end end last, eq-eqb b.end end (omega arith))
        | no more ↦ rw (fill_up, here, lt-ltb b.end end (omega arith)) (fill_row b.end end bs (omega arith) row others)
      ]

  pub whole_row : (before : List Box) (place end : ℕ) (bs : List Box) → all_of (starts place) before ≡ true → place < end → Row place end bs → all_of allowed bs ≡ true
      → whole_boxes (before ++ (bs ++ rest)) place end ≡ true
  unfolding whole_boxes all_of
  whole_row [] place end [] first some row free = absurd (omega arith)
  whole_row [] place end (b ∷ bs) first some row free = rw (whole_boxes, eq-eqb b.at place row.0) (fill_row place end (b ∷ bs) some row free)
  whole_row (c ∷ before) place end bs first some row free =
      let (here, others) = both (starts place c) (all_of (starts place) before) first in
      let less = ltb-true c.at place here in
      rw (whole_boxes, ne_eqb c.at place (λ same. omega arith)) (whole_row before place end bs others some row free)

-- ---- bytes that are boxes

module _ (bytes : List ℕ) {bs : List Box} where
  of-filled : boxes_of bytes ≡ given bs → Filled File bytes (length bytes) 0 bs
  unfolding boxes_of
  of-filled known = (fills File bytes (length bytes) (length bytes) 0 known).boxes

  pub filled_of : Filled File bytes (length bytes) 0 bs → boxes_of bytes ≡ given bs
  unfolding boxes_of
  filled_of all = within File all (length bytes) (omega (arith, filled_few all (omega arith)))

pub are-boxes : (bytes : List ℕ) → are_boxes bytes ≡ true → (bs : List Box) × Filled File bytes (length bytes) 0 bs × (all_of allowed bs ≡ true)
unfolding are_boxes
are-boxes bytes h = go (boxes_of bytes) refl h
  where
    go : (x : Answer (List Box)) → boxes_of bytes ≡ x → (elim x [ refused _ ↦ false | given bs ↦ all_of allowed bs ]) ≡ true
        → (bs : List Box) × Filled File bytes (length bytes) 0 bs × (all_of allowed bs ≡ true)
    go (refused n) e h = absurd (true≢false (sym h))
    go (given bs) e h = (bs, of-filled bytes e, h)
