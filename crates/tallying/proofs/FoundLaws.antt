-- Laws of boxes looked for along a walk over a container whose boxes are known.
use Prim.Native.Nat.{ℕ, suc, ◌-◌}
use mathlib.Core.Bool.{Bool, true, false, not}
use mathlib.Core.List.{List, [], ◌∷◌}
use Rattle.std.specs.Prelude.{None, Some, slice_get}
use mathlib.Core.Path.{◌≡◌, refl, sym, ap, ◌∙◌}
use native.Mathlib.Omega.{arith}
use native.Mathlib.Decide.{dec_le}
use lib.Dec.{eqb}
use lib.ListN.{length, get_or, get_or-eq_default}
use Rattle.std.proofs.lemmas.Option.{get_or_from_slice_get, slice_get-get_or, none-some}
use Rattle.boxes.specs.Answer.{refused, given}
use Rattle.boxes.specs.Framing.{Box, boxes_in, box_of}
use Rattle.boxes.specs.Kinds.{is, those, no_box, box_at, first_of}
use Rattle.boxes.specs.Walk.{walk_over, stepped}
use Rattle.boxes.specs.declared.framing.Framed.{Framed}
use Rattle.boxes.specs.declared.kinds.Container.{Container}
use Rattle.boxes.specs.declared.kinds.Kind.{Kind}
use Rattle.numerals.specs.declared.place.Place.{Place}
use Rattle.boxes.specs.declared.walk.Walk.{Walk}
use Rattle.boxes.proofs.KindLaws.{is-eqb, box_at_get_d, first_of-those}
use Rattle.boxes.proofs.ToldLaws.{box_fields}
use Rattle.tallying.specs.Found.{first_in}
use Rattle.boxes.proofs.WalkLaws.{ahead, walk_boxes, known_next, known_end, known_sound}

-- what was asked of the boxes before a walk as it began is what is asked of those before it now
pub record Asked {A : Type 0} (s : List ℕ) (of₀ : List Box → A) (w₀ : Walk) (of : List Box → A) (w : Walk) : Type 0 where
  pub same : (all : List Box) → ahead s w₀ ≡ given all → (rest : List Box) × (ahead s w ≡ given rest) × (of₀ all ≡ of rest)

pub asked_none : {A : Type 0} (s : List ℕ) (of : List Box → A) (w : Walk) → Asked s of w of w
asked_none s of w = record { same = λ all known. (all, known, refl) }

-- a box that does not answer is passed
pub asked_more : {A : Type 0} {s : List ℕ} {of₀ of : List Box → A} (of' : List Box → A) {w₀ w w' : Walk} {b : Box} → Asked s of₀ w₀ of w → stepped s w ≡ given (Some (b, w'))
    → ((rest : List Box) → of (b ∷ rest) ≡ of' rest)
    → Asked s of₀ w₀ of' w'
asked_more {s = s} {of = of} of' {w = w} a step passed =
    record {
      same = λ all known.
          let (rest, before, e) = a.same all known in
          let (more, after, split) = known_next s w before step in
          (more, after, e ∙ ap of split ∙ passed more);
    }

-- of a walk that began at a container's start
module _ {A : Type 0} {s : List ℕ} {of₀ of : List Box → A} {c : Container} {start end : Place} {w₀ w : Walk} (new : w₀ ≡ walk_over c start end) (a : Asked s of₀ w₀ of w) {all : List Box} (known : boxes_in c s start.0 end.0 ≡ given all) where
  left : (rest : List Box) × (ahead s w ≡ given rest) × (of₀ all ≡ of rest)
  left = a.same all (sym (walk_boxes s new) ∙ known)

  -- a box that answers
  pub asked_next : {b : Box} {w' : Walk} {x : A} → stepped s w ≡ given (Some (b, w')) → ((rest : List Box) → of (b ∷ rest) ≡ x) → of₀ all ≡ x
  asked_next step answers =
      let (rest, before, e) = left in
      let (more, after, split) = known_next s w before step in
      e ∙ ap of split ∙ answers more

  -- no box answers
  pub asked_end : stepped s w ≡ given None → of₀ all ≡ of []
  asked_end step =
      let (rest, before, e) = left in
      e ∙ ap of (known_end s w before step)

  -- there is no fault
  pub asked_sound : {n : ℕ} → stepped s w ≡ refused n → ⊥
  asked_sound step =
      let (rest, before, e) = left in
      known_sound s w before step

-- ---- whether a box is of a kind, as a call compares them

module _ (k : Kind) (b : Framed) {same : Bool} (compared : same ≡ eqb b.kind.code k.code) where
  pub is_kind : same ≡ true → is k (box_of b) ≡ true
  is_kind e = is-eqb k (box_of b) ∙ ap (λ x. eqb x.kind k.code) (box_fields b) ∙ sym compared ∙ e

  pub is_other : same ≡ false → is k (box_of b) ≡ false
  is_other e = is-eqb k (box_of b) ∙ ap (λ x. eqb x.kind k.code) (box_fields b) ∙ sym compared ∙ e

denied : (a : Bool) → not a ≡ true → a ≡ false
denied true e = sym e
denied false e = refl

kept : (a : Bool) → not a ≡ false → a ≡ true
kept true e = refl
kept false e = sym e

-- the same where a call asks whether it is another
module _ (k : Kind) (b : Framed) {other : Bool} (compared : other ≡ not (eqb b.kind.code k.code)) where
  pub is_not : other ≡ true → is k (box_of b) ≡ false
  is_not e = is_other k b refl (denied _ (sym compared ∙ e))

  pub is_still : other ≡ false → is k (box_of b) ≡ true
  is_still e = is_kind k b refl (kept _ (sym compared ∙ e))

-- the first box of a kind that was found is that of the definitions
pub found_there : (k : Kind) (bs : List Box) {b : Box} → Some b ≡ first_in (those k bs) → b ≡ first_of k bs
found_there k bs {b} there = go (those k bs) refl there
  where
    go : (cs : List Box) → those k bs ≡ cs → Some b ≡ first_in cs → b ≡ first_of k bs
    go [] e none = let z : ◌≡◌ {A = ℕ} 0 1 = cc in absurd (omega arith)
    go (c ∷ cs) e one =
        let same : b ≡ c = cc in
        same ∙ sym (first_of-those k bs ∙ ap (box_at 0) e ∙ box_at_get_d 0 (c ∷ cs))

-- where none was found it is a box of nothing
pub found_none : (k : Kind) (bs : List Box) → None ≡ first_in (those k bs) → no_box ≡ first_of k bs
found_none k bs none = go (those k bs) refl none
  where
    go : (cs : List Box) → those k bs ≡ cs → None ≡ first_in cs → no_box ≡ first_of k bs
    go [] e none = sym (first_of-those k bs ∙ ap (box_at 0) e ∙ box_at_get_d 0 [])
    go (c ∷ cs) e one = let z : ◌≡◌ {A = ℕ} 0 1 = cc in absurd (omega arith)

-- ---- a box looked for by its number

-- the box of a number, as a call finds it
module _ (n : ℕ) (bs : List Box) where
  pub number_found : {b : Box} → Some b ≡ slice_get bs n → b ≡ box_at n bs
  number_found {b} there = sym (get_or_from_slice_get bs n b no_box (sym there)) ∙ sym (box_at_get_d n bs)

  pub number_none : None ≡ slice_get bs n → no_box ≡ box_at n bs
  number_none none =
      elim (dec_le (length bs) n) [
        | yes past ↦ sym (get_or-eq_default bs no_box past) ∙ sym (box_at_get_d n bs)
        | no there ↦ absurd (none-some (get_or bs n no_box) (none ∙ slice_get-get_or bs n no_box (omega arith)))
      ]

-- it is as many further on as are left to pass
pub number_later : (n : ℕ) → (n ≡ 0 → ⊥) → (b : Box) (bs : List Box) → slice_get (b ∷ bs) n ≡ slice_get bs (n - 1)
number_later n later b bs =
    let split : n ≡ suc (n - 1) = omega arith in
    ap (λ n. slice_get (b ∷ bs) n) split
