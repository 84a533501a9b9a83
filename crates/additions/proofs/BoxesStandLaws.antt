-- Laws of boxes that stand in a file at a place: where their bodies stand, and which of two are of a kind.
use Prim.Native.Nat.{ℕ, ◌+◌}
use mathlib.Core.List.{List, [], ◌∷◌, ◌++◌}
use mathlib.Core.Path.{◌≡◌, ap, ◌∙◌}
use mathlib.Core.Bool.{true, false}
use lib.ListN.{length}
use Rattle.boxes.specs.Framing.{Box, front_size, front, boxed}
use Rattle.boxes.specs.declared.kinds.Kind.{Kind}
use Rattle.boxes.specs.Kinds.{box_at, is, those}
use Rattle.boxes.proofs.BoxedLaws.{length_front, length-boxed, boxed_parts}
use Rattle.boxes.proofs.KindLaws.{box_at_get_d, those_one, those_other, those-nil}
use Rattle.additions.proofs.StandsLaws.{Stands, stands_left, stands_right}

-- a box that stands somewhere has its body after its header
pub stands_body : (g : List ℕ) (at kind : ℕ) (body : List ℕ) → Stands g at (boxed kind body) → Stands g (at + front_size) body
stands_body g at kind body stands =
    rw (length_front kind (length body)) at (stands_right g at (front kind (length body)) body (rw boxed_parts at stands))

-- two boxes, one after the other
module _ (g : List ℕ) (at first second : ℕ) (one two : List ℕ) where
  -- the bodies of the two
  pub stands_two : Stands g at (boxed first one ++ boxed second two)
      → Stands g (at + front_size) one × Stands g (at + (front_size + length one) + front_size) two
  stands_two stands =
      let behind : Stands g (at + (front_size + length one)) (boxed second two) = rw (length-boxed first one) at (stands_right g at (boxed first one) (boxed second two) stands) in (
        stands_body g at first one (stands_left g at (boxed first one) (boxed second two) stands),
        stands_body g (at + (front_size + length one)) second two behind,
      )

-- which of two boxes are of a kind
module _ (k : Kind) (b c : Box) where
  pub first_box : box_at 0 (b ∷ c ∷ []) ≡ b
  first_box = box_at_get_d 0 (b ∷ c ∷ [])

  pub second_box : box_at 1 (b ∷ c ∷ []) ≡ c
  second_box = box_at_get_d 1 (b ∷ c ∷ [])

  pub only_first : is k b ≡ true → is k c ≡ false → those k (b ∷ c ∷ []) ≡ b ∷ []
  only_first here there = those_one k b (c ∷ []) here ∙ ap (λ (bs : List Box). b ∷ bs) (those_other k c [] there ∙ those-nil k)

  pub only_second : is k b ≡ false → is k c ≡ true → those k (b ∷ c ∷ []) ≡ c ∷ []
  only_second here there = those_other k b (c ∷ []) here ∙ those_one k c [] there ∙ ap (λ (bs : List Box). c ∷ bs) (those-nil k)

  pub neither : is k b ≡ false → is k c ≡ false → those k (b ∷ c ∷ []) ≡ []
  neither here there = those_other k b (c ∷ []) here ∙ those_other k c [] there ∙ those-nil k
