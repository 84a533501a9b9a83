-- Laws of what is counted of a chunk list: the items of its front, and the counts of none and with one more.
use Prim.Native.Nat.{ℕ, suc, ◌+◌, ◌-◌, ◌*◌, ◌%◌, ◌^◌, ◌≤◌, ◌<◌, min, max}
use mathlib.Core.Bool.{Bool, true, false, not, ◌&&◌, and-true, and-false, false≢true}
use mathlib.Core.List.{List, [], ◌∷◌, ◌++◌, map, append_assoc, append-nil}
use mathlib.Core.Path.{◌≡◌, refl, sym, ap, ◌∙◌}
use native.Mathlib.Decide.{dec_le}
use native.Mathlib.Omega.{arith}
use borrow.Author.Tests.{le-leb, lt-leb}
use lib.Dec.{eqb}
use lib.ListN.{length, take, drop, get_or, length-append, length-take, length-drop, take-append-drop}
use lib.Seq.{take-suc}
use Rattle.std.specs.Prelude.{Result, Ok, Err, IsOk}
use Rattle.boxes.specs.Answer.{refused, given}
use Rattle.std.specs.Result.{is_ok}
use Rattle.refusals.specs.declared.Refusal.{Refusal}
use Rattle.fields.specs.declared.state.State.{State}
use Rattle.additions.specs.Addition.{Item, items, data_size, is_state}
use Rattle.partial.specs.Segments.{present}
use Rattle.partial.specs.Sequences.{all_of, largest, sum}
use Rattle.partial.proofs.Meaning.SequenceLaws.{all_append}
use Rattle.partial.proofs.Meaning.KnownLaws.{largest_both}
use Rattle.outside.specs.Chunks.{many}
use Rattle.adding.specs.Counts.{present_of, counts_of, right_item, counted}
use Rattle.adding.specs.declared.counts.Counts.{Counts}

-- the items of a list behind pairs are behind theirs
items-append : (xs ys : List ℕ) → length xs % 2 ≡ 0 → items (xs ++ ys) ≡ items xs ++ items ys
unfolding items
items-append [] ys even = refl
items-append (size ∷ []) ys even = absurd (omega arith)
items-append (size ∷ state ∷ xs) ys even = ap (λ (is : List Item). record { size = size; state = state } ∷ is) (items-append xs ys (omega arith))

-- one number is no item
items_short : (xs : List ℕ) → length xs ≤ 1 → items xs ≡ []
unfolding items
items_short [] short = refl
items_short (x ∷ []) short = refl
items_short (x ∷ y ∷ xs) short = absurd (omega arith)

-- the first numbers and the two behind them
take_two : (l : List ℕ) (n : ℕ) → n + 1 < length l → take (n + 2) l ≡ take n l ++ (get_or l n 0 ∷ get_or l (n + 1) 0 ∷ [])
take_two l n h =
    let next : n + 1 ≡ suc n = omega arith in
    let last : n + 2 ≡ suc (suc n) = omega arith in
    rw (next, last) (take-suc l (suc n) 0 (omega arith) ∙ ap (λ (xs : List ℕ). xs ++ (get_or l (suc n) 0 ∷ [])) (take-suc l n 0 (omega arith)) ∙ append_assoc (take n l) _ _)

even_front : (list : List ℕ) (i : ℕ) → 2 * i ≤ length list → length (take (2 * i) list) % 2 ≡ 0
even_front list i h = omega (arith, length-take (2 * i) list)

-- of no number
pub items_none : [] ≡ items []
unfolding items
items_none = refl

-- a pair more is an item more
pub items_more : (list : List ℕ) (i : ℕ) → 2 * i + 1 < length list
    → items (take (2 * (i + 1)) list) ≡ items (take (2 * i) list) ++ (record { size = get_or list (2 * i) 0; state = get_or list (2 * i + 1) 0 } ∷ [])
unfolding items
items_more list i h =
    let twice : 2 * (i + 1) ≡ 2 * i + 2 = omega arith in
    rw (twice, take_two list (2 * i) h) (items-append (take (2 * i) list) (get_or list (2 * i) 0 ∷ get_or list (2 * i + 1) 0 ∷ []) (even_front list i (omega arith)))

-- the pairs are all items
pub items_whole : (list : List ℕ) (i : ℕ) → 2 * i ≤ length list → length list ≤ 2 * i + 1 → items (take (2 * i) list) ≡ items list
items_whole list i low high =
    sym (append-nil (items (take (2 * i) list)))
    ∙ ap (λ (is : List Item). items (take (2 * i) list) ++ is) (sym (items_short (drop (2 * i) list) (omega (arith, length-drop (2 * i) list))))
    ∙ sym (items-append (take (2 * i) list) (drop (2 * i) list) (even_front list i low))
    ∙ ap items (take-append-drop (2 * i) list)

-- no more items than pairs
pub items_most : (list : List ℕ) → 2 * length (items list) ≤ length list
unfolding items
items_most [] = omega arith
items_most (size ∷ []) = omega arith
items_most (size ∷ state ∷ rest) = omega (arith, items_most rest)

sum_last : {A : Type 0} (of : A → ℕ) (xs : List A) (x : A) → sum (map of (xs ++ (x ∷ []))) ≡ sum (map of xs) + of x
unfolding sum
sum_last of [] x = omega arith
sum_last of (y ∷ xs) x = omega (arith, sum_last of xs x)

-- no more are present than there are
pub present_most : (is : List Item) → present_of is ≤ length is
unfolding present_of sum
present_most [] = omega arith
present_most (i ∷ is) = omega (arith, present_most is, one (present i.state))
  where
    one : (b : Bool) → elim b [ true ↦ 1 | false ↦ 0 ] ≤ 1
    one true = omega arith
    one false = omega arith

-- they are counted as items that pass a test are
pub present-many : (is : List Item) → present_of is ≡ many (λ i. present i.state) is
unfolding present_of many
present-many is = refl

pub counts_none : record { right = true; items = 0; present = 0; largest = 0; bytes = 0; sum = 0 } ≡ counts_of []
unfolding counts_of present_of data_size all_of largest sum
counts_none = refl

-- what was counted of items
module _ {c : Counts} (is : List Item) (e : c ≡ counts_of is) where
  pub counted_right : c.right ≡ all_of right_item is
  unfolding counts_of
  counted_right = ap (λ c. c.right) e

  pub counted_items : c.items ≡ length is
  unfolding counts_of
  counted_items = ap (λ c. c.items) e

  pub counted_present : c.present ≡ present_of is
  unfolding counts_of
  counted_present = ap (λ c. c.present) e

  counted_largest : c.largest ≡ largest (map (λ i. i.size) is)
  unfolding counts_of
  counted_largest = ap (λ c. c.largest) e

  pub counted_bytes : c.bytes ≡ min (data_size is) (2 ^ 64 - 1)
  unfolding counts_of
  counted_bytes = ap (λ c. c.bytes) e

  pub counted_sum : c.sum ≡ min (sum (map (λ i. i.size) is)) (2 ^ 64 - 1)
  unfolding counts_of
  counted_sum = ap (λ c. c.sum) e

-- of the front of a list: no more than it has pairs
module _ {c : Counts} (list : List ℕ) (i : ℕ) (e : c ≡ counts_of (items (take (2 * i) list))) where
  pub front_items : 2 * c.items ≤ length list
  front_items = omega (arith, counted_items (items (take (2 * i) list)) e, items_most (take (2 * i) list), length-take (2 * i) list)

  pub front-present : c.present ≤ c.items
  front-present = omega (arith, counted_items (items (take (2 * i) list)) e, counted_present (items (take (2 * i) list)) e, present_most (items (take (2 * i) list)))

-- whether items are right with one more, whose number was tried as a state
module _ (right : Bool) (size : ℕ) {n : ℕ} {r : Result State Refusal} where
  pub right_other : {e : Refusal} → r ≡ Err e → (n ≤ 3 → IsOk r) → false ≡ (right && (not (eqb size 0) && is_state n))
  unfolding is_state
  right_other was known =
      elim (dec_le n 3) [
        | yes small ↦ absurd (false≢true (sym (ap is_ok was) ∙ known small))
        | no over ↦ sym (rw (lt-leb n 3 (omega arith), and-false (not (eqb size 0))) (and-false right))
      ]

  pub right_known : {x : State} → r ≡ Ok x → (IsOk r → n ≤ 3) → {b : Bool} → b ≡ (right && not (eqb size 0)) → b ≡ (right && (not (eqb size 0) && is_state n))
  unfolding is_state
  right_known was known e = e ∙ sym (rw (le-leb n 3 (known (ap is_ok was)), and-true (not (eqb size 0))))

-- by what was counted of them: they are right, or refused
module _ {c : Counts} (is : List Item) (e : c ≡ counts_of is) where
  pub counted_wrong : c.right ≡ false → refused 31 ≡ counted is
  unfolding counted
  counted_wrong wrong =
      let all : all_of right_item is ≡ false = sym (counted_right is e) ∙ wrong in
      let told : counted is ≡ refused 31 = rw (counted, all) in
      sym told

  pub counted_all : c.right ≡ true → given c ≡ counted is
  unfolding counted
  counted_all right =
      let all : all_of right_item is ≡ true = sym (counted_right is e) ∙ right in
      let told : counted is ≡ given (counts_of is) = rw (counted, all) in
      ap given e ∙ sym told

-- with one more
module _ (is : List Item) (i : Item) where
  right_last : all_of right_item (is ++ (i ∷ [])) ≡ (all_of right_item is && right_item i)
  unfolding all_of
  right_last = all_append right_item is (i ∷ []) ∙ simp and-true

  largest_last : largest (map (λ i. i.size) (is ++ (i ∷ []))) ≡ max (largest (map (λ i. i.size) is)) i.size
  unfolding largest
  largest_last = largest_both (λ i. i.size) is (i ∷ []) ∙ omega arith

  present_more : present i.state ≡ true → present_of (is ++ (i ∷ [])) ≡ present_of is + 1
  unfolding present_of
  present_more h = sum_last (λ i. elim (present i.state) [ true ↦ 1 | false ↦ 0 ]) is i ∙ rw h

  present_same : present i.state ≡ false → present_of (is ++ (i ∷ [])) ≡ present_of is
  unfolding present_of
  present_same h = sum_last (λ i. elim (present i.state) [ true ↦ 1 | false ↦ 0 ]) is i ∙ rw h (omega arith)

  data_more : present i.state ≡ true → data_size (is ++ (i ∷ [])) ≡ data_size is + i.size
  unfolding data_size
  data_more h = sum_last (λ i. elim (present i.state) [ true ↦ i.size | false ↦ 0 ]) is i ∙ rw h

  data_same : present i.state ≡ false → data_size (is ++ (i ∷ [])) ≡ data_size is
  unfolding data_size
  data_same h = sum_last (λ i. elim (present i.state) [ true ↦ i.size | false ↦ 0 ]) is i ∙ rw h (omega arith)

  module _ {c : Counts} (e : c ≡ counts_of is) {right : Bool} {most total : ℕ} (rights : right ≡ (c.right && right_item i)) (mosts : most ≡ max c.largest i.size) (totals : total ≡ min (c.sum + i.size) (2 ^ 64 - 1)) where
    all_right : right ≡ all_of right_item (is ++ (i ∷ []))
    all_right = rights ∙ ap (λ (b : Bool). b && right_item i) (counted_right is e) ∙ sym right_last

    most_with : most ≡ largest (map (λ i. i.size) (is ++ (i ∷ [])))
    most_with = omega (arith, counted_largest is e, largest_last)

    items_with : c.items + 1 ≡ length (is ++ (i ∷ []))
    items_with = omega (arith, counted_items is e, length-append is (i ∷ []))

    total_with : total ≡ min (sum (map (λ i. i.size) (is ++ (i ∷ [])))) (2 ^ 64 - 1)
    total_with = omega (arith, counted_sum is e, sum_last (λ i. i.size) is i)

    pub with_present : present i.state ≡ true → {bytes : ℕ} → bytes ≡ min (c.bytes + i.size) (2 ^ 64 - 1)
        → record { right = right; items = c.items + 1; present = c.present + 1; largest = most; bytes = bytes; sum = total } ≡ counts_of (is ++ (i ∷ []))
    unfolding counts_of
    with_present here {bytes} more =
        let present-with : c.present + 1 ≡ present_of (is ++ (i ∷ [])) = omega (arith, counted_present is e, present_more here) in
        let bytes-with : bytes ≡ min (data_size (is ++ (i ∷ []))) (2 ^ 64 - 1) = omega (arith, counted_bytes is e, data_more here) in
        λ k. record { right = all_right k; items = items_with k; present = present-with k; largest = most_with k; bytes = bytes-with k; sum = total_with k }

    pub with_lost : present i.state ≡ false
        → record { right = right; items = c.items + 1; present = c.present; largest = most; bytes = c.bytes; sum = total } ≡ counts_of (is ++ (i ∷ []))
    unfolding counts_of
    with_lost lost =
        let present-with : c.present ≡ present_of (is ++ (i ∷ [])) = omega (arith, counted_present is e, present_same lost) in
        let bytes-with : c.bytes ≡ min (data_size (is ++ (i ∷ []))) (2 ^ 64 - 1) = omega (arith, counted_bytes is e, data_same lost) in
        λ k. record { right = all_right k; items = items_with k; present = present-with k; largest = most_with k; bytes = bytes-with k; sum = total_with k }
