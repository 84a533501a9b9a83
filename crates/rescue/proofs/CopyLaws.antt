-- The copy is the pieces of the boxes that stay, each where its new place is.
use Prim.Native.Nat.{ℕ, ◌+◌, ◌-◌, ◌≤◌}
use mathlib.Core.Bool.{Bool, true, false}
use mathlib.Core.List.{List, [], ◌∷◌, ◌++◌}
use mathlib.Core.Logic.{◌⊎◌, inl, inr}
use mathlib.Core.Path.{◌≡◌, refl, ap, ◌∙◌}
use native.Mathlib.Nat.{add_assoc, add-zero, zero-add}
use native.Mathlib.Omega.{arith}
use lib.ListN.{length, take, drop, length-append, length-take, length-drop, get_or-append}
use lib.Seq.{get_or-append-add, get_or-take, get_or-drop}
use Rattle.boxes.specs.Kinds.{is, those}
use Rattle.boxes.specs.declared.kinds.Kind.{Kind}
use Rattle.boxes.specs.declared.kinds.Container.TheVariants.{File}
use Rattle.boxes.proofs.ContainerLaws.{Filled}
use Rattle.boxes.proofs.KindLaws.{those-nil, those_other}
use Rattle.partial.specs.BoxList.{each}
use Rattle.partial.specs.Heading.{bytes_in}
use Rattle.partial.specs.Sequences.{sum}
use Rattle.partial.proofs.Meaning.SequenceLaws.{Each}
use Rattle.additions.proofs.StandsLaws.{Stands}
use Rattle.rescue.specs.Kept.{Fate, dropped, whole, of_pfil, of_pseg, Fated}
use Rattle.rescue.specs.Copy.{box_bytes, copy_of, copy_size}
use Rattle.rescue.proofs.Shapes.{Alike, resized, boxes_anew}
use Rattle.rescue.proofs.PieceLaws.{OneBox, row_of, pieces_filled}
use Rattle.rescue.proofs.PlaceLaws.{sizes}

-- whether a box stays
abbrev pub staying : Fate → Bool
staying (dropped n) = false
staying whole = true
staying (of_pfil inner) = true
staying (of_pseg s) = true

-- what stands in the copy for a box is as long as its size there and, where it stays, one box
pub record Ready (f : List ℕ) (new : ℕ → ℕ) (x : Fated) : Type 0 where
  pub long : length (copy_of f new x) ≡ copy_size x
  pub one : staying x.fate ≡ true → OneBox File (copy_of f new x) x.box

-- a dropped box has nothing in the copy
record Gone (x : Fated) : Type 0 where
  pub none : copy_size x ≡ 0
  pub piece : (f : List ℕ) (new : ℕ → ℕ) → copy_of f new x ≡ []
  pub anew : (at : ℕ) (xs : List Fated) → boxes_anew at (x ∷ xs) ≡ boxes_anew at xs

-- one that stays is a box there
record There (x : Fated) : Type 0 where
  pub stays : staying x.fate ≡ true
  pub anew : (at : ℕ) (xs : List Fated) → boxes_anew at (x ∷ xs) ≡ resized at (copy_size x) x.box ∷ boxes_anew (at + copy_size x) xs

by_fate : (x : Fated) → Gone x ⊎ There x
unfolding boxes_anew copy_size copy_of
by_fate x = go x.fate
  where
    go : (t : Fate) → Gone (record { box = x.box; fate = t }) ⊎ There (record { box = x.box; fate = t })
    go (dropped n) = inl (record { none = refl; piece = λ f new. refl; anew = λ at xs. refl })
    go whole = inr (record { stays = refl; anew = λ at xs. refl })
    go (of_pfil inner) = inr (record { stays = refl; anew = λ at xs. refl })
    go (of_pseg s) = inr (record { stays = refl; anew = λ at xs. refl })

module _ (f : List ℕ) (new : ℕ → ℕ) where
  pub pieces_long : (xs : List Fated) → Each (Ready f new) xs → length (each (copy_of f new) xs) ≡ sizes xs
  unfolding each sum
  pieces_long [] ready = refl
  pieces_long (x ∷ xs) ready = rw (length-append, ready.0.long, pieces_long xs ready.1)

  -- the boxes that stay: their pieces alone are the copy
  record Stayed (xs : List Fated) : Type 0 where
    pub left : List Fated
    pub pieces : each (copy_of f new) xs ≡ each (copy_of f new) left
    pub ones : Each (λ x. OneBox File (copy_of f new x) x.box) left
    pub boxes : (at : ℕ) → boxes_anew at xs ≡ row_of (copy_of f new) (λ x. x.box) at left

  stayed : (xs : List Fated) → Each (Ready f new) xs → Stayed xs
  unfolding each row_of boxes_anew
  stayed [] ready = record { left = []; pieces = refl; ones = record {}; boxes = λ at. refl }
  stayed (x ∷ xs) ready =
      let rest = stayed xs ready.1 in
      elim (by_fate x) [
        | inl gone ↦
            record {
              left = rest.left;
              pieces = rw (gone.piece f new) rest.pieces;
              ones = rest.ones;
              boxes = λ at. gone.anew at xs ∙ rest.boxes at;
            }
        | inr there ↦
            record {
              left = x ∷ rest.left;
              pieces = ap (copy_of f new x ++◌) rest.pieces;
              ones = (ready.0.one there.stays, rest.ones);
              boxes = λ at. there.anew at xs ∙ rw (ready.0.long, rest.boxes (at + copy_size x));
            }
      ]

  -- the boxes that stay fill the copy
  pub copy_filled : (xs : List Fated) → Each (Ready f new) xs
      → Filled File (each (copy_of f new) xs) (length (each (copy_of f new) xs)) 0 (boxes_anew 0 xs)
  copy_filled xs ready =
      let s = stayed xs ready in
      rw (s.pieces, s.boxes 0) (pieces_filled (copy_of f new) (λ x. x.box) File s.left s.ones)

  -- and the piece of each stands behind those before it
  pub copy_stands : (before : List Fated) (x : Fated) (behind : List Fated) → Each (Ready f new) (before ++ (x ∷ behind))
      → Stands (each (copy_of f new) (before ++ (x ∷ behind))) (sizes before) (copy_of f new x)
  unfolding each sum
  copy_stands [] x behind ready i h = rw zero-add (get_or-append (copy_of f new x) (each (copy_of f new) behind) 0 i h)
  copy_stands (y ∷ ys) x behind ready i h =
      rw (← ready.0.long, add_assoc)
      (get_or-append-add (copy_of f new y) (each (copy_of f new) (ys ++ (x ∷ behind))) (sizes ys + i) 0 ∙ copy_stands ys x behind ready.1 i h)

  -- the bytes of a box that stays whole are in the copy what they were
  pub copy_alike : (before : List Fated) (x : Fated) (behind : List Fated) → Each (Ready f new) (before ++ (x ∷ behind))
      → x.fate ≡ whole → x.box.at ≤ x.box.end → x.box.end ≤ length f
      → Alike f x.box.at (each (copy_of f new) (before ++ (x ∷ behind))) (sizes before) (x.box.end - x.box.at)
  unfolding copy_of box_bytes bytes_in
  copy_alike before x behind ready kept order inside i less =
      let b = x.box in
      let same : copy_of f new x ≡ take (b.end - b.at) (drop b.at f) = rw (copy_of, kept) in
      copy_stands before x behind ready i (rw (same, length-take, length-drop) (omega arith))
      ∙ rw (same, get_or-take, get_or-drop)

-- the boxes of the copy, of boxes before and behind one
pub boxes_anew_split : (at : ℕ) (before behind : List Fated) → boxes_anew at (before ++ behind) ≡ boxes_anew at before ++ boxes_anew (at + sizes before) behind
unfolding boxes_anew sum
boxes_anew_split at [] behind = rw add-zero
boxes_anew_split at (x ∷ xs) behind =
    elim (by_fate x) [
      | inl gone ↦ rw (gone.none, zero-add, gone.anew at (xs ++ behind), gone.anew at xs) (boxes_anew_split at xs behind)
      | inr there ↦ rw (there.anew at (xs ++ behind), there.anew at xs, boxes_anew_split (at + copy_size x) xs behind, add_assoc)
    ]

-- they are no more than there were
pub boxes_anew_few : (at : ℕ) (xs : List Fated) → length (boxes_anew at xs) ≤ length xs
unfolding boxes_anew
boxes_anew_few at [] = omega arith
boxes_anew_few at (x ∷ xs) =
    elim (by_fate x) [
      | inl gone ↦ rw (gone.anew at xs) (omega (arith, boxes_anew_few at xs))
      | inr there ↦ rw (there.anew at xs) (omega (arith, boxes_anew_few (at + copy_size x) xs))
    ]

-- a kind that no box that stays has, no box of the copy has
pub kinds_anew : (k : Kind) (at : ℕ) (xs : List Fated) → Each (λ x. staying x.fate ≡ true → is k x.box ≡ false) xs → those k (boxes_anew at xs) ≡ []
unfolding boxes_anew is
kinds_anew k at [] others = those-nil k
kinds_anew k at (x ∷ xs) others =
    elim (by_fate x) [
      | inl gone ↦ rw (gone.anew at xs) (kinds_anew k at xs others.1)
      | inr there ↦ rw (there.anew at xs) (those_other k _ _ (others.0 there.stays) ∙ kinds_anew k (at + copy_size x) xs others.1)
    ]
