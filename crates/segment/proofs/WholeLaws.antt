-- Laws of whole boxes: what a walk from box to box decides, and that one that starts at a place is found by the table.
use Prim.Native.Nat.{ℕ, zero, suc, ◌≤◌, ◌<◌}
use mathlib.Core.Bool.{Bool, true, false}
use mathlib.Core.List.{List, [], ◌∷◌}
use mathlib.Core.Logic.{inl, inr}
use Rattle.std.specs.Prelude.{None, Some}
use mathlib.Core.Path.{◌≡◌, refl, sym, ap, subst, ◌∙◌}
use native.Mathlib.Decide.{dec_le, ℕ_discrete}
use native.Mathlib.Omega.{arith}
use borrow.Author.Tests.{lt-ltb, le-ltb, eq-eqb, ne_eqb}
use lib.Dec.{eqb}
use lib.ListN.{length}
use Rattle.boxes.specs.Answer.{refused, given}
use Rattle.boxes.specs.Framing.{Box, boxes_in}
use Rattle.boxes.specs.Kinds.{box_at}
use Rattle.boxes.specs.Walk.{stepped}
use Rattle.boxes.specs.declared.kinds.Container.TheVariants.{File}
use Rattle.boxes.specs.declared.walk.Walk.{Walk}
use Rattle.boxes.proofs.ContainerLaws.{Filled, full, next, filled_boxes, boxes_none, boxes_filled, boxes_few, boxes_standing}
use Rattle.boxes.proofs.HeaderLaws.{header_inside}
use Rattle.boxes.proofs.WalkLaws.{ahead, known_next, known_end, known_sound}
use Rattle.partial.specs.Mixed.{allowed, fill_up, whole_boxes}
use Rattle.partial.proofs.Meaning.SequenceLaws.{which}
use Rattle.segment.specs.Tops.{Tops, Listed}
use Rattle.segment.proofs.TopsLaws.{file_short, few, tops_ascend}

-- ---- boxes that follow each other, from the first on

fill_none : (end : ℕ) → fill_up [] end ≡ false
unfolding fill_up
fill_none end = refl

module _ (b : Box) (bs : List Box) (end : ℕ) where
  pub fill_other : allowed b ≡ false → fill_up (b ∷ bs) end ≡ false
  unfolding fill_up
  fill_other bad = rw bad

  module _ (good : allowed b ≡ true) where
    fill_on : b.end < end → fill_up (b ∷ bs) end ≡ fill_up bs end
    unfolding fill_up
    fill_on less = rw (good, lt-ltb b.end end less)

    pub fill_end : end ≤ b.end → fill_up (b ∷ bs) end ≡ eqb b.end end
    unfolding fill_up
    fill_end most = rw (good, le-ltb b.end end most)

-- boxes that a walk began with are allowed up to an end where those that it has before it are
pub record Filling (s : List ℕ) (end : ℕ) (w₀ w : Walk) : Type 0 where
  pub rest : (bs : List Box) → ahead s w₀ ≡ given bs → (cs : List Box) × (ahead s w ≡ given cs) × (fill_up bs end ≡ fill_up cs end)

module _ {s : List ℕ} {end : ℕ} {w₀ w : Walk} (fills : Filling s end w₀ w) {bs : List Box} (known : ahead s w₀ ≡ given bs) where
  -- a box that it meets is the first of them
  pub fill_met : {b : Box} {w' : Walk} → stepped s w ≡ given (Some (b, w')) → (cs : List Box) × (ahead s w' ≡ given cs) × (fill_up bs end ≡ fill_up (b ∷ cs) end)
  fill_met met =
      let (cs, ahead_of_lem, same) = fills.rest bs known in
      let (rest, behind, all) = known_next s w ahead_of_lem met in
      (rest, behind, same ∙ ap (λ cs. fill_up cs end) all)

  -- at the file's end there are none, and it meets no fault
  pub fill_over : stepped s w ≡ given None → fill_up bs end ≡ false
  fill_over over =
      let (cs, ahead_of_lem, same) = fills.rest bs known in
      same ∙ ap (λ cs. fill_up cs end) (known_end s w ahead_of_lem over) ∙ fill_none end

  pub fill_sound : {n : ℕ} → stepped s w ≡ refused n → ⊥
  fill_sound fault =
      let (cs, ahead_of_lem, same) = fills.rest bs known in
      known_sound s w ahead_of_lem fault

-- behind one that is allowed and ends before the end it goes on
pub fill_more : {s : List ℕ} {end : ℕ} {w₀ w w' : Walk} {b : Box} → Filling s end w₀ w → stepped s w ≡ given (Some (b, w')) → allowed b ≡ true → b.end < end
    → Filling s end w₀ w'
fill_more {b = b} fills met good less =
    record {
      rest = λ bs known.
          let (cs, behind, same) = fill_met fills known met in
          (cs, behind, same ∙ fill_on b cs _ good less);
    }

-- ---- whole boxes among those of a file

whole_here : (b : Box) (bs : List Box) (end : ℕ) → whole_boxes (b ∷ bs) b.at end ≡ fill_up (b ∷ bs) end
unfolding whole_boxes
whole_here b bs end = rw (whole_boxes, eq-eqb b.at b.at refl)

whole_on : (b : Box) (bs : List Box) (place end : ℕ) → (b.at ≡ place → ⊥) → whole_boxes (b ∷ bs) place end ≡ whole_boxes bs place end
unfolding whole_boxes
whole_on b bs place end other = rw (ne_eqb b.at place other, whole_boxes)

-- there are none from a place at which no box starts
whole_none : (bs : List Box) (place end : ℕ) → ((k : ℕ) → k < length bs → (box_at k bs).at ≡ place → ⊥) → whole_boxes bs place end ≡ false
unfolding whole_boxes box_at
whole_none [] place end none = refl
whole_none (b ∷ bs) place end none =
    whole_on b bs place end (none 0 (omega arith)) ∙ whole_none bs place end (λ k h. none (suc k) (omega arith))

-- from one at which a box starts they are those that fill the file from there on
whole_some : {s : List ℕ} {len at : ℕ} {bs : List Box} → Filled File s len at bs → (k : ℕ) → k < length bs → (end : ℕ)
    → (cs : List Box) × Filled File s len (box_at k bs).at cs × (length cs ≤ length bs) × (at ≤ (box_at k bs).at) × (whole_boxes bs (box_at k bs).at end ≡ fill_up cs end)
unfolding box_at
whole_some (full e) k h end = absurd (omega arith)
whole_some {s} {len} (next {b = b} {bs = bs} short read rest) zero h end =
    let inside = header_inside _ _ _ _ read in
    (b ∷ bs, subst (λ (at : ℕ). Filled File s len at (b ∷ bs)) (sym inside.starts) (next short read rest), omega arith, omega arith, whole_here b bs end)
whole_some (next {b = b} {bs = bs} short read rest) (suc k) h end =
    let (cs, filled, few, low, same) = whole_some rest k (omega arith) end in
    let inside = header_inside _ _ _ _ read in
    (cs, filled, omega arith, omega arith, whole_on b bs (box_at k bs).at end (λ e. omega arith) ∙ same)

-- none end past the file
fill_short : {s : List ℕ} {len at : ℕ} {bs : List Box} → Filled File s len at bs → (end : ℕ) → len < end → fill_up bs end ≡ false
unfolding fill_up
fill_short (full e) end far = refl
fill_short (next {b = b} {bs = bs} short read rest) end far =
    let inside = header_inside _ _ _ _ read in
    elim (which (allowed b)) [
      | inr bad ↦ fill_other b bs end bad
      | inl good ↦ fill_on b bs end good (omega arith) ∙ fill_short rest end far
    ]

whole_short : {s : List ℕ} {len at : ℕ} {bs : List Box} → Filled File s len at bs → (place end : ℕ) → len < end → whole_boxes bs place end ≡ false
unfolding whole_boxes
whole_short (full e) place end far = refl
whole_short (next {b = b} {bs = bs} short read rest) place end far =
    elim (ℕ_discrete b.at place) [
      | yes here ↦ subst (λ (place : ℕ). whole_boxes (b ∷ bs) place end ≡ false) here (whole_here b bs end ∙ fill_short (next short read rest) end far)
      | no other ↦ whole_on b bs place end other ∙ whole_short rest place end far
    ]

module _ (f : List ℕ) {bs : List Box} (known : boxes_in File f 0 (length f) ≡ given bs) where
  pub whole_past : (place end : ℕ) → length f < end → whole_boxes bs place end ≡ false
  whole_past = whole_short (boxes_filled File f 0 (length f) known)

  -- whether one starts at a place is told by the table
  module _ {tops : List ℕ} (t : Tops bs tops) {place : ℕ} {r : Bool} (listed : Listed tops place r) (end : ℕ) where
    pub whole_missing : r ≡ false → whole_boxes bs place end ≡ false
    whole_missing none =
        whole_none bs place end
        (λ k there here. listed.missing none (tops_ascend f known t) k (omega (arith, few f known t)) (t.listed k there ∙ here))

    pub whole_listed : r ≡ true → {w : Bool} → ((cs : List Box) → boxes_in File f place (length f) ≡ given cs → w ≡ fill_up cs end) → w ≡ whole_boxes bs place end
    whole_listed there {w} fills =
        let (k, inner, at) = listed.there there in
        elim (dec_le (length bs) k) [
          | yes past ↦
              let far : place ≡ 0xffffffff = sym at ∙ t.beyond k past inner in
              fills [] (boxes_none File f place (length f) (omega (arith, file_short f known t)))
              ∙ fill_none end
              ∙ sym (whole_none bs place end (λ j there here. omega (arith, (boxes_standing File f 0 (length f) known j there).inside, file_short f known t)))
          | no less ↦
              let here : (box_at k bs).at ≡ place = sym (t.listed k (omega arith)) ∙ at in
              let (cs, filled, less-many, _, same) = whole_some (boxes_filled File f 0 (length f) known) k (omega arith) end in
              fills cs (filled_boxes File (rw here at filled) (omega (arith, boxes_few File f 0 (length f) known))) ∙ sym (rw here at same)
        ]
