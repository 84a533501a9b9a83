-- Laws of bytes that are whole boxes: by the boxes that a walk has passed, how many there may be, and how two of them
-- join.
use Prim.Native.Nat.{ℕ, ◌+◌, ◌≤◌}
use mathlib.Core.Bool.{true, false, ◌&&◌, and-false, false≢true}
use mathlib.Core.List.{List, [], ◌∷◌, ◌++◌, map, append-nil}
use mathlib.Core.Logic.{inl, inr}
use Rattle.std.specs.Prelude.{Option, None, Some}
use mathlib.Core.Path.{◌≡◌, refl, sym, ap, ◌∙◌}
use native.Mathlib.Omega.{arith}
use lib.ListN.{length, length-append, length-map}
use Rattle.boxes.specs.Answer.{Answer, refused, given, ◌>>=◌}
use Rattle.boxes.specs.Framing.{Box}
use Rattle.boxes.specs.Kinds.{is}
use Rattle.boxes.specs.Walk.{stepped}
use Rattle.boxes.specs.declared.kinds.Container.TheVariants.{File}
use Rattle.boxes.specs.declared.walk.Walk.{Walk}
use Rattle.boxes.proofs.WalkLaws.{ahead, walk_steps, Passed}
use Rattle.boxes.proofs.ContainerLaws.{boxes_end, Fills, fills, within, filled_few, filled-appended}
use Rattle.boxes.proofs.HeaderLaws.{moved}
use Rattle.partial.specs.Mixed.{allowed, boxes_of, are_boxes, boxes_many}
use Rattle.partial.specs.Sequences.{all_of}
use Rattle.partial.proofs.Meaning.SequenceLaws.{which, all_append}
use Rattle.outside.specs.Whole.{whole_of}

-- ---- what bytes are, by a walk over them

pub all_passed : all_of allowed [] ≡ true
unfolding all_of
all_passed = refl

pub one_passed : (bs : List Box) (b : Box) → all_of allowed bs ≡ true → allowed b ≡ true → all_of allowed (bs ++ (b ∷ [])) ≡ true
unfolding all_of
one_passed bs b right one = all_append allowed bs (b ∷ []) ∙ rw (right, one)

-- by the boxes that they are
module _ (bytes : List ℕ) where
  pub are_given : {bs : List Box} → boxes_of bytes ≡ given bs → are_boxes bytes ≡ all_of allowed bs
  unfolding are_boxes
  are_given read = simp (are_boxes, read)

  pub many_given : {bs : List Box} → boxes_of bytes ≡ given bs → boxes_many bytes ≡ length bs
  unfolding boxes_many
  many_given read = simp (boxes_many, read)

  are_refused : (n : ℕ) → boxes_of bytes ≡ refused n → are_boxes bytes ≡ false
  unfolding are_boxes
  are_refused n read = simp (are_boxes, read)

  pub whole_right : are_boxes bytes ≡ true → whole_of bytes ≡ Some (boxes_many bytes)
  unfolding whole_of
  whole_right right = simp (whole_of, right)

  pub whole_wrong : are_boxes bytes ≡ false → whole_of bytes ≡ None
  unfolding whole_of
  whole_wrong wrong = simp (whole_of, wrong)

  -- and what they are told to be
  pub boxes_told : {n : ℕ} → Some n ≡ whole_of bytes → (are_boxes bytes ≡ true) × (n ≡ boxes_many bytes)
  boxes_told {n} told =
      elim (which (are_boxes bytes)) [
        | inl right ↦ let same : ◌≡◌ {A = Option ℕ} (Some n) (Some (boxes_many bytes)) = told ∙ whole_right right in (right, cc)
        | inr wrong ↦ let other : ◌≡◌ {A = Option ℕ} (Some n) None = told ∙ whole_wrong wrong in let z : ◌≡◌ {A = ℕ} 0 1 = cc in absurd (omega arith)
      ]

  pub other_told : None ≡ whole_of bytes → are_boxes bytes ≡ false
  other_told told =
      elim (which (are_boxes bytes)) [
        | inl right ↦ let other : ◌≡◌ {A = Option ℕ} None (Some (boxes_many bytes)) = told ∙ whole_right right in let z : ◌≡◌ {A = ℕ} 0 1 = cc in absurd (omega arith)
        | inr wrong ↦ wrong
      ]

-- the walk over all bytes, of which so many boxes are passed
abbrev walk_all : List ℕ → Walk
walk_all bytes = record { container = File; at = record { 0 = 0 }; end = record { 0 = length bytes }; left = length bytes }

module _ (bytes : List ℕ) {bs : List Box} {w : Walk} (p : Passed bytes (walk_all bytes) bs w) where
  read_on : boxes_of bytes ≡ (ahead bytes w >>= λ more. given (bs ++ more))
  unfolding boxes_of
  read_on = p.rest

  -- at their end
  pub passed_end : all_of allowed bs ≡ true → stepped bytes w ≡ given None → Some (length bs) ≡ whole_of bytes
  passed_end right end =
      let read : boxes_of bytes ≡ given bs = read_on ∙ rw (walk_steps bytes w, end) (ap given (append-nil bs)) in
      sym (whole_right bytes (are_given bytes read ∙ right) ∙ ap Some (many_given bytes read))

  -- at a fault
  pub passed_fault : {n : ℕ} → stepped bytes w ≡ refused n → None ≡ whole_of bytes
  passed_fault {n} fault =
      sym (whole_wrong bytes (are_refused bytes n (read_on ∙ rw (walk_steps bytes w, fault))))

  -- at a box that is not allowed, whatever stands behind it
  pub passed_other : {b : Box} {w' : Walk} → stepped bytes w ≡ given (Some (b, w')) → allowed b ≡ false → None ≡ whole_of bytes
  unfolding all_of
  passed_other {b} {w'} met other = go (ahead bytes w') refl
    where
      wrong : (more : List Box) → all_of allowed (bs ++ (b ∷ more)) ≡ false
      wrong more = all_append allowed bs (b ∷ more) ∙ rw other (and-false (all_of allowed bs))

      go : (rest : Answer (List Box)) → ahead bytes w' ≡ rest → None ≡ whole_of bytes
      go (refused n) e =
          sym (whole_wrong bytes (are_refused bytes n (read_on ∙ rw (walk_steps bytes w, met, e))))
      go (given more) e =
          let read : boxes_of bytes ≡ given (bs ++ (b ∷ more)) = read_on ∙ rw (walk_steps bytes w, met, e) in
          sym (whole_wrong bytes (are_given bytes read ∙ wrong more))

-- ---- joined

-- whole boxes are boxes, all of them allowed
pub whole_given : (bytes : List ℕ) → are_boxes bytes ≡ true → (bs : List Box) × (boxes_of bytes ≡ given bs) × (all_of allowed bs ≡ true)
whole_given bytes right = go (boxes_of bytes) refl
  where
    go : (read : Answer (List Box)) → boxes_of bytes ≡ read → (bs : List Box) × (boxes_of bytes ≡ given bs) × (all_of allowed bs ≡ true)
    go (refused n) e = absurd (false≢true (sym (are_refused bytes n e) ∙ right))
    go (given bs) e = (bs, e, sym (are_given bytes e) ∙ right)

-- they fill the bytes
whole_fills : (bytes : List ℕ) {bs : List Box} → boxes_of bytes ≡ given bs → Fills File bytes (length bytes) (length bytes) 0 bs
unfolding boxes_of
whole_fills bytes read = fills File bytes (length bytes) (length bytes) 0 read

-- there are no more boxes than bytes
pub many_most : (bytes : List ℕ) → are_boxes bytes ≡ true → boxes_many bytes ≤ length bytes
many_most bytes right =
    let (bs, read, all) = whole_given bytes right in
    omega (arith, many_given bytes read, (whole_fills bytes read).within)

-- no bytes are no box
none_given : boxes_of [] ≡ given []
unfolding boxes_of
none_given = boxes_end File [] 0 0 0 (omega arith)

pub none_right : are_boxes [] ≡ true
none_right = are_given [] none_given ∙ all_passed

pub none_many : 0 ≡ boxes_many []
none_many = sym (many_given [] none_given)

-- whole boxes behind whole boxes are both
allowed_moved : (n : ℕ) (bs : List Box) → all_of allowed (map (moved n) bs) ≡ all_of allowed bs
unfolding all_of allowed is
allowed_moved n [] = refl
allowed_moved n (b ∷ bs) = ap (λ rest. allowed b && rest) (allowed_moved n bs)

module _ (f g : List ℕ) (first : are_boxes f ≡ true) (second : are_boxes g ≡ true) where
  joined : (bs : List Box) × (boxes_of (f ++ g) ≡ given bs) × (all_of allowed bs ≡ true) × (length bs ≡ boxes_many f + boxes_many g)
  unfolding boxes_of
  joined =
      let (bs, read, right) = whole_given f first in
      let (cs, read', right') = whole_given g second in
      let all = filled-appended (whole_fills f read).boxes (whole_fills g read').boxes in (
        bs ++ map (moved (length f)) cs,
        within File all (length (f ++ g)) (omega (arith, filled_few all (omega arith))),
        all_append allowed bs (map (moved (length f)) cs) ∙ rw (right, allowed_moved (length f) cs, right'),
        rw (length-append, length-map, many_given f read, many_given g read'),
      )

  pub joined-right : are_boxes (f ++ g) ≡ true
  joined-right = are_given (f ++ g) joined.1 ∙ joined.2

  pub joined-many : boxes_many (f ++ g) ≡ boxes_many f + boxes_many g
  joined-many = many_given (f ++ g) joined.1 ∙ joined.3
