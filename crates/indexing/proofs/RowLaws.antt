-- Laws of the boxes of an index list in a row: what is told so far, and what the rest decides.
use Prim.Native.Nat.{ℕ, suc}
use mathlib.Core.Bool.{Bool}
use mathlib.Core.List.{List, [], ◌∷◌, ◌++◌, append_assoc}
use Rattle.std.specs.Prelude.{Option}
use mathlib.Core.Path.{◌≡◌, refl, sym, ap}
use native.Mathlib.Omega.{arith}
use borrow.Author.Tests.{eq-eqb, ne_eqb}
use lib.Dec.{eqb}
use lib.ListN.{length}
use Rattle.boxes.specs.Answer.{Answer, refused, given, ◌>>=◌}
use Rattle.boxes.specs.Framing.{Box}
use Rattle.boxes.proofs.AnswerLaws.{then-given}
use Rattle.partial.specs.Index.{Indexed, Told, nothing_told, none_follows, with_rest, in_aRow}
use Rattle.indexing.specs.Lists.{place_after}

pub none-follows : (bs : List Box) → none_follows bs ≡ eqb (length bs) 0
unfolding none_follows
none-follows [] = sym (eq-eqb 0 0 refl)
none-follows (b ∷ bs) = sym (ne_eqb (suc (length bs)) 0 (λ h. omega arith))

-- what is told so far with one box more
abbrev pub joined : Told → Told → Told
joined before one = record { boxes = before.boxes ++ one.boxes; end = one.end }

-- what is told so far with the boxes that are left
abbrev pub resumed : (Bool → ℕ → Box → Answer Told) → Told → ℕ → List Box → Answer Told
resumed one before place bs = in_aRow one place bs >>= λ more. given (with_rest before bs more)

abbrev told_by : List Indexed → Option ℕ → Told
told_by boxes end = record { boxes = boxes; end = end }

with_with : (before one rest : Told) (b : Box) (bs : List Box) → with_rest before (b ∷ bs) (with_rest one bs rest) ≡ with_rest (joined before one) bs rest
unfolding with_rest
with_with before one rest b [] = refl
with_with before one rest b (_ ∷ _) =
    ap (λ (boxes : List Indexed). told_by boxes rest.end) (sym (append_assoc before.boxes one.boxes rest.boxes))

module _ (one : Bool → ℕ → Box → Answer Told) where
  pub row_none : (place : ℕ) (bs : List Box) → in_aRow one place bs ≡ resumed one nothing_told place bs
  unfolding in_aRow with_rest
  row_none place [] = refl
  row_none place (b ∷ bs) = sym (then-given (in_aRow one place (b ∷ bs)))

  pub row-end : (before : Told) (place : ℕ) → resumed one before place [] ≡ given before
  unfolding in_aRow with_rest
  row-end before place = refl

  module _ (before : Told) (place : ℕ) (b : Box) (bs : List Box) where
    pub row_refused : {n : ℕ} → one (none_follows bs) place b ≡ refused n → resumed one before place (b ∷ bs) ≡ refused n
    unfolding in_aRow
    row_refused h = rw (in_aRow, h)

    pub row_more : {told : Told} → one (none_follows bs) place b ≡ given told
        → resumed one before place (b ∷ bs) ≡ resumed one (joined before told) (place_after place told.end) bs
    unfolding in_aRow
    row_more {told} h = rw (in_aRow, h) (go (in_aRow one (place_after place told.end) bs))
      where
        go : (x : Answer Told)
            → ◌>>=◌ {B = Told} (x >>= λ rest. given (with_rest told bs rest)) (λ more. given (with_rest before (b ∷ bs) more))
            ≡ (x >>= λ more. given (with_rest (joined before told) bs more))
        go (refused n) = refl
        go (given rest) = ap given (with_with before told rest b bs)
