-- Laws of the items of a chunk list one by one, and of their data, each behind that of those before it.
use Prim.Native.Nat.{ℕ, suc, ◌+◌, ◌-◌, ◌*◌, ◌/◌, ◌≤◌, ◌<◌, min}
use mathlib.Core.Bool.{Bool, true, false, ◌&&◌}
use mathlib.Core.List.{List, [], ◌∷◌, ◌++◌}
use mathlib.Core.Logic.{inl, inr}
use mathlib.Core.Path.{◌≡◌, refl, sym, ap, ◌∙◌}
use native.Mathlib.Decide.{dec_le}
use native.Mathlib.Nat.{add-zero, zero-add}
use native.Mathlib.Omega.{arith}
use lib.ListN.{length, take, drop, get_or, length-drop, drop_of_length-le}
use lib.Seq.{drop-cons, drop-drop, take_all}
use Rattle.additions.specs.Addition.{Item, items, data_size, goes_out, goes_in, data_for, boxes_for}
use Rattle.partial.specs.Mixed.{are_boxes}
use Rattle.partial.specs.Segments.{present}
use Rattle.partial.specs.Sequences.{some_of, sum}
use Rattle.partial.proofs.Meaning.SequenceLaws.{which}
use Rattle.additions.proofs.DataLaws.{outside, inside, nowhere, goes}
use Rattle.outside.specs.Chunks.{many}

-- the data of one item, by whether it is present
module _ (size state : ℕ) where
  pub data_present : present state ≡ true → size ≡ data_size (record { size = size; state = state } ∷ [])
  unfolding data_size sum
  data_present there = sym (rw there (add-zero _))

  pub data_absent : present state ≡ false → 0 ≡ data_size (record { size = size; state = state } ∷ [])
  unfolding data_size sum
  data_absent gone = sym (rw gone)

module _ (list : List ℕ) (i : ℕ) where
  -- the item of a number, and those from it on
  abbrev pub item_at : Item
  item_at = record { size = get_or list (2 * i) 0; state = get_or list (2 * i + 1) 0 }

  abbrev pub items_from : List Item
  items_from = items (drop (2 * i) list)

pub items-from : (list : List ℕ) (i : ℕ) → i < length list / 2 → items_from list i ≡ item_at list i ∷ items_from list (i + 1)
unfolding items
items-from list i less =
    let next : suc (2 * i) ≡ 2 * i + 1 = omega arith in
    let last : suc (2 * i + 1) ≡ 2 * (i + 1) = omega arith in
    let first = drop-cons list (2 * i) 0 (omega arith) ∙ ap (λ (n : ℕ). get_or list (2 * i) 0 ∷ drop n list) next in
    let second = drop-cons list (2 * i + 1) 0 (omega arith) ∙ ap (λ (n : ℕ). get_or list (2 * i + 1) 0 ∷ drop n list) last in
    ap items (first ∙ ap (λ (rest : List ℕ). get_or list (2 * i) 0 ∷ rest) second)

-- of less than two numbers there is no item
items_short : (s : List ℕ) → length s < 2 → items s ≡ []
unfolding items
items_short [] short = refl
items_short (size ∷ []) short = refl
items_short (size ∷ state ∷ rest) short = absurd (omega arith)

pub items_none : (list : List ℕ) (i : ℕ) → length list / 2 ≤ i → items_from list i ≡ []
items_none list i all = items_short (drop (2 * i) list) (omega (arith, length-drop (2 * i) list))

-- the data of an item of n bytes from a place on, and what is behind it, where it ends no farther than all the data
module _ (bytes : List ℕ) (at n : ℕ) {end : ℕ} (ends : end ≡ min (at + n) (length bytes)) where
  pub data-part : take (end - at) (drop at bytes) ≡ take n (drop at bytes)
  data-part =
      elim (dec_le (at + n) (length bytes)) [
        | yes whole ↦ let same : end - at ≡ n = omega arith in ap (λ (k : ℕ). take k (drop at bytes)) same
        | no short ↦
            take_all (end - at) (drop at bytes) (omega (arith, length-drop at bytes))
            ∙ sym (take_all n (drop at bytes) (omega (arith, length-drop at bytes)))
      ]

  pub data-behind : drop end bytes ≡ drop n (drop at bytes)
  data-behind =
      elim (dec_le (at + n) (length bytes)) [
        | yes whole ↦ let same : end ≡ at + n = omega arith in ap (λ (k : ℕ). drop k bytes) same ∙ sym (drop-drop n at bytes)
        | no short ↦ drop_of_length-le bytes {i = end} (omega arith) ∙ sym (drop-drop n at bytes ∙ drop_of_length-le bytes {i = at + n} (omega arith))
      ]

-- the data of the items that pass a test, and whether it is whole boxes, by the first of them
module _ (test : Item → Bool) (i : Item) (is : List Item) (bytes : List ℕ) where
  pub data_chosen : test i ≡ true → data_for test (i ∷ is) bytes ≡ take (data_size (i ∷ [])) bytes ++ data_for test is (drop (data_size (i ∷ [])) bytes)
  unfolding data_for
  data_chosen passes = simp (data_for, passes)

  pub data_passed : test i ≡ false → data_for test (i ∷ is) bytes ≡ data_for test is (drop (data_size (i ∷ [])) bytes)
  unfolding data_for
  data_passed fails = simp (data_for, fails)

  pub boxes_chosen : test i ≡ true → boxes_for test (i ∷ is) bytes ≡ (are_boxes (take (data_size (i ∷ [])) bytes) && boxes_for test is (drop (data_size (i ∷ [])) bytes))
  unfolding boxes_for
  boxes_chosen passes = simp (boxes_for, passes)

  pub boxes_passed : test i ≡ false → boxes_for test (i ∷ is) bytes ≡ boxes_for test is (drop (data_size (i ∷ [])) bytes)
  unfolding boxes_for
  boxes_passed fails = simp (boxes_for, fails)

-- how many items pass a test, by the first of them, and whether any does
module _ (test : Item → Bool) where
  module _ (i : Item) (is : List Item) where
    pub many_on : test i ≡ true → many test (i ∷ is) ≡ 1 + many test is
    unfolding many sum
    many_on passes = rw passes

    pub many_past : test i ≡ false → many test (i ∷ is) ≡ many test is
    unfolding many sum
    many_past fails = rw fails (zero-add _)

  pub many_none : (is : List Item) → many test is ≡ 0 → some_of test is ≡ false
  unfolding some_of
  many_none [] none = refl
  many_none (i ∷ is) none =
      elim (which (test i)) [
        | inl e ↦ absurd (omega (arith, many_on i is e))
        | inr e ↦ rw e (many_none is (sym (many_past i is e) ∙ none))
      ]

  pub many_some : (is : List Item) → (many test is ≡ 0 → ⊥) → some_of test is ≡ true
  unfolding some_of many sum
  many_some [] some = absurd (some refl)
  many_some (i ∷ is) some =
      elim (which (test i)) [
        | inl e ↦ rw e
        | inr e ↦ rw e (many_some is (λ none. some (many_past i is e ∙ none)))
      ]

-- the present ones go into `pdat` or outside
pub many_split : (o : Bool) (is : List Item) → many (λ i. present i.state) is ≡ many (goes_in o) is + many (goes_out o) is
unfolding many sum
many_split o [] = refl
many_split o (i ∷ is) =
    let rest = many_split o is in
    let all : Item → Bool = λ i. present i.state in
    elim (goes o i) [
      | outside out into there ↦ omega (arith, many_on all i is there, many_on (goes_out o) i is out, many_past (goes_in o) i is into)
      | inside out into there ↦ omega (arith, many_on all i is there, many_past (goes_out o) i is out, many_on (goes_in o) i is into)
      | nowhere out into there ↦ omega (arith, many_past all i is there, many_past (goes_out o) i is out, many_past (goes_in o) i is into)
    ]
