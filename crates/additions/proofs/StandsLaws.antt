-- Laws of bytes that stand in a file at a place: their parts stand there too, and a number that was written is read
-- there.
use Prim.Native.Nat.{ℕ, suc, ◌+◌, ◌^◌, ◌<◌, ◌≤◌}
use mathlib.Core.List.{List, [], ◌∷◌, ◌++◌, append-nil}
use mathlib.Core.Path.{◌≡◌, ◌∙◌}
use native.Mathlib.Nat.{add_assoc, add-zero, zero-add}
use native.Mathlib.Omega.{arith}
use lib.ListN.{length, get_or, length-append, get_or-append, take, drop, length-take, length-drop}
use lib.Seq.{get_or-append-add, ext_get_or, get_or-take, get_or-drop}
use Rattle.numerals.specs.Numbers.{number, bytes_of}
use Rattle.numerals.proofs.NumberLaws.{number_same, number-bytes_of, length-bytes_of, number_byte}

-- the bytes of s stand in g from a place on
abbrev pub Stands : List ℕ → ℕ → List ℕ → Type 0
Stands g at s = (i : ℕ) → i < length s → get_or g (at + i) 0 ≡ get_or s i 0

-- what was put behind a list stands there
pub stands_behind : (f s : List ℕ) → Stands (f ++ s) (length f) s
stands_behind f s i h = get_or-append-add f s i 0

-- and what stands in a list stands there in a longer one
pub stands_longer : (f more : List ℕ) (at : ℕ) (s : List ℕ) → Stands f at s → at + length s ≤ length f → Stands (f ++ more) at s
stands_longer f more at s stands inside i h = get_or-append f more 0 (at + i) (omega arith) ∙ stands i h

-- it is a part of the list
pub part_stands : (g : List ℕ) (at : ℕ) (s : List ℕ) → Stands g at s → at + length s ≤ length g → take (length s) (drop at g) ≡ s
part_stands g at s stands inside =
    let long : length (take (length s) (drop at g)) ≡ length s = simp (length-take, length-drop) (omega arith) in
    ext_get_or 0 (take (length s) (drop at g)) s long
    (λ i less. get_or-take (length s) (drop at g) i 0 (omega arith) ∙ get_or-drop at g i 0 ∙ stands i (omega arith))

module _ (g : List ℕ) (at : ℕ) where
  pub stands_left : (s t : List ℕ) → Stands g at (s ++ t) → Stands g at s
  stands_left s t stands i h = stands i (rw length-append (omega arith)) ∙ get_or-append s t 0 i h

  pub stands_right : (s t : List ℕ) → Stands g at (s ++ t) → Stands g (at + length s) t
  stands_right s t stands i h =
      rw (add_assoc at (length s) i) (stands (length s + i) (rw length-append (omega arith)) ∙ get_or-append-add s t i 0)

  pub stands_head : (b : ℕ) (s : List ℕ) → Stands g at (b ∷ s) → get_or g at 0 ≡ b
  stands_head b s stands = rw add-zero at (stands 0 (omega arith))

  pub stands_tail : (b : ℕ) (s : List ℕ) → Stands g at (b ∷ s) → Stands g (at + 1) s
  stands_tail b s stands i h =
      let on : at + 1 + i ≡ at + suc i = omega arith in
      rw on (stands (suc i) (omega arith))

  pub stands_byte : (b : ℕ) (s : List ℕ) → Stands g at (b ∷ s) → number g at 1 ≡ b
  stands_byte b s stands = number_byte g at ∙ stands_head b s stands

  pub stands_number : (w n : ℕ) → n < 256 ^ w → Stands g at (bytes_of w n) → number g at w ≡ n
  stands_number w n h stands =
      number_same g (bytes_of w n) at 0 w (λ k l. rw zero-add (stands k (rw length-bytes_of l)))
      ∙ simp append-nil at (number-bytes_of [] [] w n h)
