-- Laws of a container in the copy: its header in the form that it has, and the boxes inside, one after another.
use Prim.Native.Nat.{ℕ, ◌+◌, ◌-◌, ◌^◌, ◌≤◌, ◌<◌, min}
use mathlib.Core.Bool.{Bool, true, false}
use mathlib.Core.List.{List, ◌∷◌, ◌++◌, Memᴰ}
use mathlib.Core.Logic.{inl, inr}
use Rattle.std.specs.Prelude.{None, Some}
use mathlib.Core.Path.{◌≡◌, refl, sym, ap, subst, ◌∙◌}
use native.Mathlib.Omega.{arith}
use borrow.Author.Tests.{eq-eqb, ne_eqb}
use Rattle.boxes.specs.Answer.{refused, given}
use Rattle.boxes.specs.Framing.{Box, box_of, front, front_size}
use Rattle.boxes.specs.Kinds.{fidx, ploc, is}
use Rattle.boxes.specs.Walk.{stepped}
use Rattle.boxes.specs.declared.framing.Framed.{Framed}
use Rattle.boxes.specs.declared.walk.Walk.{Walk}
use Rattle.boxes.proofs.BoxedLaws.{size_held}
use Rattle.boxes.proofs.WalkLaws.{ahead, known_next, known_end, known_sound, met}
use Rattle.numerals.specs.Numbers.{holds}
use Rattle.numerals.proofs.WidthLaws.{below_holds}
use Rattle.partial.specs.BoxList.{each}
use Rattle.partial.specs.Segments.{Segment}
use Rattle.partial.proofs.Meaning.SequenceLaws.{which}
use Rattle.puts.specs.Pieces.{PutsField, PutsPieces, large_front}
use Rattle.puts.proofs.PieceLaws.{field_put, pieces_same, Partly, partly_start, partly_same, partly_end, partly_more}
use Rattle.rescue.specs.Copy.{box_bytes, ploc_bytes, inner_bytes, unindexed}
use Rattle.salvaging.specs.Inner.{inner_text, head_of}

-- ---- the header

module _ (b : Box) (n : ℕ) where
  large_is : b.body ≡ b.at + 16 → large_front b.kind n ≡ head_of b n
  unfolding head_of
  large_is e = rw (head_of, eq-eqb b.body (b.at + 16) e)

  small_is : (b.body ≡ b.at + 16 → ⊥) → front b.kind n ≡ head_of b n
  unfolding head_of
  small_is e = rw (head_of, ne_eqb b.body (b.at + 16) e)

module _ (b : Framed) {n asked : ℕ} (sums : asked ≡ min (b.at.0 + 16) (2 ^ 64 - 1)) (low : b.body.0 < 2 ^ 32) (small : n < 2 ^ 31) {s t : List ℕ} {at next : ℕ} where
  pub head_large : b.body.0 ≡ asked → PutsField (holds 8 (16 + n)) s at (large_front b.kind.code n) t next → PutsPieces s at (head_of (box_of b) n) t next
  unfolding box_of
  head_large e p = pieces_same (large_is (box_of b) n (omega arith)) (field_put (below_holds 8 (16 + n) (omega arith)) p)

  pub head_small : (b.body.0 ≡ asked → ⊥) → PutsField (holds 4 (front_size + n)) s at (front b.kind.code n) t next → PutsPieces s at (head_of (box_of b) n) t next
  unfolding box_of
  head_small e p = pieces_same (small_is (box_of b) n (λ same. e (omega arith))) (field_put (size_held n (omega arith)) p)

-- ---- a box inside

module _ (f : List ℕ) (new : ℕ → ℕ) (s : Segment) (anew : Bool) (b : Box) where
  pub text-ploc : anew ≡ true → is ploc b ≡ true → ploc_bytes f new s b ≡ inner_text f new s anew b
  unfolding inner_text inner_bytes
  text-ploc inside kind = rw (inside, inner_text, inner_bytes, kind)

  pub text_plain : (anew ≡ true → is ploc b ≡ true → ⊥) → box_bytes f b ≡ inner_text f new s anew b
  unfolding inner_text inner_bytes
  text_plain other =
      elim (which anew) [
        | inr outside ↦ rw (outside, inner_text)
        | inl inside ↦
            elim (which (is ploc b)) [
              | inl kind ↦ absurd (other inside kind)
              | inr kind ↦ rw (inside, inner_text, inner_bytes, kind)
            ]
      ]

-- a box that a walk meets lies before the walk's end, which stays
pub step_inside : (f : List ℕ) (w : Walk) (b : Framed) {w' : Walk} {end : ℕ} → stepped f w ≡ given (Some (box_of b, w')) → w.end.0 ≤ end
    → (b.at.0 ≤ b.body.0) × (b.at.0 ≤ b.end.0) × (b.end.0 ≤ end) × (w'.end.0 ≤ end)
unfolding box_of
step_inside f w b step inside =
    let on = met f w step in
    let lies = on.inside in
    (omega arith, omega arith, omega arith, omega (arith, ap (λ w. w.end.0) on.onward))

-- ---- the boxes inside, without the index

module _ (text : Box → List ℕ) (b : Box) (bs : List Box) where
  text-index : is fidx b ≡ true → each text (unindexed (b ∷ bs)) ≡ each text (unindexed bs)
  unfolding unindexed
  text-index kind = rw (kind, unindexed)

  text_other : is fidx b ≡ false → each text (unindexed (b ∷ bs)) ≡ text b ++ each text (unindexed bs)
  unfolding unindexed each
  text_other kind = rw (kind, unindexed)

-- those passed are put, and a walk has the others before it
pub record Midway (f : List ℕ) (text : Box → List ℕ) (bs : List Box) (buffer₀ : List ℕ) (at : ℕ) (w : Walk) (buffer : List ℕ) (next : ℕ) : Type 0 where
  left : List Box
  known : ahead f w ≡ given left
  among : (b : Box) → Memᴰ b left → Memᴰ b bs
  bytes : Partly (each text (unindexed bs)) buffer₀ at buffer next (each text (unindexed left))

pub midway_none : (f : List ℕ) (text : Box → List ℕ) (bs : List Box) (buffer : List ℕ) (at : ℕ) (w : Walk) → ahead f w ≡ given bs → Midway f text bs buffer at w buffer at
midway_none f text bs buffer at w known = record { left = bs; known = known; among = λ b there. there; bytes = partly_start _ buffer at }

module _ {f : List ℕ} {text : Box → List ℕ} {bs : List Box} {buffer₀ : List ℕ} {at : ℕ} {w : Walk} {buffer : List ℕ} {next : ℕ} (m : Midway f text bs buffer₀ at w buffer next) where
  module _ {b : Box} {w' : Walk} (step : stepped f w ≡ given (Some (b, w'))) where
    abbrev rest : List Box
    rest = (known_next f w m.known step).0

    split : m.left ≡ b ∷ rest
    split = (known_next f w m.known step).2

    -- the box that it meets is one of them
    pub midway_among : Memᴰ b bs
    midway_among = m.among b (subst (Memᴰ b) (sym split) (Memᴰ.head refl))

    behind : (c : Box) → Memᴰ c rest → Memᴰ c bs
    behind c there = m.among c (subst (Memᴰ c) (sym split) (Memᴰ.tail there))

    pub midway_index : is fidx b ≡ true → Midway f text bs buffer₀ at w' buffer next
    midway_index kind =
        record {
          left = rest;
          known = (known_next f w m.known step).1;
          among = behind;
          bytes = partly_same _ _ _ (ap (λ bs. each text (unindexed bs)) split ∙ text-index text b rest kind) m.bytes;
        }

    pub midway_more : is fidx b ≡ false → {buffer' : List ℕ} {next' : ℕ} → PutsPieces buffer next (text b) buffer' next' → Midway f text bs buffer₀ at w' buffer' next'
    midway_more kind puts =
        record {
          left = rest;
          known = (known_next f w m.known step).1;
          among = behind;
          bytes = partly_more _ _ _ _ _ (partly_same _ _ _ (ap (λ bs. each text (unindexed bs)) split ∙ text_other text b rest kind) m.bytes) puts;
        }

  pub midway_end : stepped f w ≡ given None → PutsPieces buffer₀ at (each text (unindexed bs)) buffer next
  unfolding unindexed each
  midway_end step = partly_end _ _ _ (partly_same _ _ _ (ap (λ bs. each text (unindexed bs)) (known_end f w m.known step)) m.bytes)

  pub midway_sound : {n : ℕ} → stepped f w ≡ refused n → ⊥
  midway_sound = known_sound f w m.known
