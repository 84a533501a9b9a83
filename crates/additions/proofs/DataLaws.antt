-- Laws of the data of an addition: how much of it goes into `pdat` and how much outside, where it stands, and that an
-- addition is told by what goes outside.
use Prim.Native.Nat.{ℕ, ◌+◌, ◌≤◌}
use mathlib.Core.Bool.{Bool, true, false, not, ◌&&◌, and-true, true≢false}
use mathlib.Core.List.{List, [], ◌∷◌, ◌++◌, append_assoc}
use mathlib.Core.Logic.{inl, inr}
use mathlib.Core.Path.{◌≡◌, refl, sym, ap, ap₂, ◌∙◌}
use native.Mathlib.Nat.{zero-add}
use native.Mathlib.Omega.{arith}
use borrow.Author.Tests.{eqb-true}
use lib.Dec.{eqb}
use lib.ListN.{length, take, drop, length-append, length-drop, drop_of_length-le}
use lib.Seq.{length-take-le, take-add, take_all}
use Rattle.boxes.specs.Framing.{front, boxed}
use Rattle.boxes.specs.Kinds.{pdat}
use Rattle.numerals.specs.declared.numbers.Offset.TheVariants.{Ahead, Back}
use Rattle.boxes.proofs.BoxedLaws.{boxed_parts}
use Rattle.partial.specs.Sequences.{some_of, sum}
use Rattle.partial.specs.Segments.{Segment, good, present}
use Rattle.partial.specs.Heading.{Heading}
use Rattle.additions.specs.Addition.{Item, items, Addition, size_of, data_size, data_right, goes_out, goes_in, data_for, boxes_for, outside_right, surls}
use Rattle.additions.specs.Append.{inside_data, outside_data, any_inside, data_box, stored, added_boxes, back, Placed, placed_with, placed}
use Rattle.additions.specs.Append.{pshd_body, pseg_body, inner_boxes, added, pseg_place, new_inner, new_urls, new_segment, admission}
use Rattle.additions.specs.Again.{settled}
use Rattle.partial.proofs.Meaning.SequenceLaws.{which, both, Each}

-- ---- where the data of an item goes

-- outside, or into `pdat`, or there is none
pub data Goes (o : Bool) (i : Item) : Type 0 where
  outside : goes_out o i ≡ true → goes_in o i ≡ false → present i.state ≡ true → Goes o i
  inside : goes_out o i ≡ false → goes_in o i ≡ true → present i.state ≡ true → Goes o i
  nowhere : goes_out o i ≡ false → goes_in o i ≡ false → present i.state ≡ false → Goes o i

-- what goes somewhere is present
pub out_present : (o : Bool) (i : Item) → goes_out o i ≡ true → present i.state ≡ true
unfolding goes_out present
out_present o i out = rw (both o (eqb i.state good) out).1

pub in-present : (o : Bool) (i : Item) → goes_in o i ≡ true → present i.state ≡ true
unfolding goes_in
in-present o i into = (both (present i.state) (not (goes_out o i)) into).0

pub goes : (o : Bool) (i : Item) → Goes o i
unfolding goes_in
goes o i =
    elim (which (goes_out o i)) [
      | inl out ↦
          let there = out_present o i out in
          outside out (rw (goes_in, there, out)) there
      | inr out ↦
          elim (which (present i.state)) [
            | inl there ↦ inside out (rw (goes_in, there, out)) there
            | inr there ↦ nowhere out (rw (goes_in, there)) there
          ]
    ]

-- the sizes of the items that pass a test, from the first on
module _ (test : Item → Bool) (i : Item) (is : List Item) where
  pub size_on : test i ≡ true → size_of test (i ∷ is) ≡ i.size + size_of test is
  unfolding sum
  size_on e = rw e

  pub size_past : test i ≡ false → size_of test (i ∷ is) ≡ size_of test is
  unfolding sum
  size_past e = rw e (zero-add _)

  pub size_less : size_of test is ≤ size_of test (i ∷ is)
  unfolding sum
  size_less = omega arith

-- the data of a list of items, from its first
module _ (i : Item) (is : List Item) where
  pub data_here : present i.state ≡ true → data_size (i ∷ is) ≡ i.size + data_size is
  unfolding data_size
  data_here e = size_on (λ i. present i.state) i is e

  pub data_past : present i.state ≡ false → data_size (i ∷ is) ≡ data_size is
  unfolding data_size
  data_past e = size_past (λ i. present i.state) i is e

  pub data_cons : data_size (i ∷ is) ≡ data_size (i ∷ []) + data_size is
  unfolding data_size sum
  data_cons = omega arith

pub data_nothing : data_size [] ≡ 0
unfolding data_size sum
data_nothing = refl

-- the data of one item
module _ (i : Item) where
  pub data_one : present i.state ≡ true → data_size (i ∷ []) ≡ i.size
  data_one e = omega (arith, data_here i [] e, data_nothing)

  pub data_none : present i.state ≡ false → data_size (i ∷ []) ≡ 0
  data_none e = data_past i [] e ∙ data_nothing

-- all data goes into `pdat` or outside
pub sizes_split : (o : Bool) (is : List Item) → data_size is ≡ size_of (goes_in o) is + size_of (goes_out o) is
unfolding sum
sizes_split o [] = data_nothing
sizes_split o (i ∷ is) =
    let rest = sizes_split o is in
    elim (goes o i) [
      | outside out into there ↦ omega (arith, data_here i is there, size_on (goes_out o) i is out, size_past (goes_in o) i is into)
      | inside out into there ↦ omega (arith, data_here i is there, size_past (goes_out o) i is out, size_on (goes_in o) i is into)
      | nowhere out into there ↦ omega (arith, data_past i is there, size_past (goes_out o) i is out, size_past (goes_in o) i is into)
    ]

-- ---- the data of the items that pass a test

module _ (test : Item → Bool) (only : (i : Item) → test i ≡ true → present i.state ≡ true) where
  length_for : (is : List Item) (bytes : List ℕ) → data_size is ≤ length bytes → length (data_for test is bytes) ≡ size_of test is
  unfolding data_for sum
  length_for [] bytes h = refl
  length_for (i ∷ is) bytes h =
      let n = data_size (i ∷ []) in
      let all = data_cons i is in
      let rest = length_for is (drop n bytes) (rw length-drop (omega arith)) in
      elim (which (test i)) [
        | inl e ↦ rw (e, length-append (take n bytes) (data_for test is (drop n bytes)), length-take-le n bytes (omega arith), rest, data_one i (only i e))
        | inr e ↦ rw e (rest ∙ sym (zero-add _))
      ]

-- of none that passes there is no data
no_size : (test : Item → Bool) (is : List Item) → some_of test is ≡ false → size_of test is ≡ 0
unfolding some_of sum
no_size test [] none = refl
no_size test (i ∷ is) none =
    elim (which (test i)) [
      | inl e ↦ absurd (true≢false (rw e at none))
      | inr e ↦ rw e (zero-add _ ∙ no_size test is (rw e at none))
    ]

empty : (bytes : List ℕ) → length bytes ≡ 0 → bytes ≡ []
empty bytes none = drop_of_length-le bytes {i = 0} (omega arith)

-- the two parts of an addition's data
module _ (a : Addition) where
  pub none_sized : any_inside a ≡ false → size_of (goes_in a.outside) (items a.list) ≡ 0
  unfolding any_inside
  none_sized none = no_size (goes_in a.outside) (items a.list) none

  pub data_length : data_right a ≡ true → length a.bytes ≡ data_size (items a.list)
  unfolding data_right
  data_length right = eqb-true _ _ right

  pub length_inside : data_right a ≡ true → length (inside_data a) ≡ size_of (goes_in a.outside) (items a.list)
  unfolding inside_data
  length_inside right = length_for (goes_in a.outside) (in-present a.outside) (items a.list) a.bytes (omega (arith, data_length right))

  pub length_outside : data_right a ≡ true → length (outside_data a) ≡ size_of (goes_out a.outside) (items a.list)
  unfolding outside_data
  length_outside right = length_for (goes_out a.outside) (out_present a.outside) (items a.list) a.bytes (omega (arith, data_length right))

  pub none_inside : any_inside a ≡ false → data_right a ≡ true → inside_data a ≡ []
  none_inside none right = empty (inside_data a) (length_inside right ∙ none_sized none)

  -- they stand last before the `pseg`
  pub stored_last : data_right a ≡ true → (head : List ℕ) × (stored a ≡ head ++ (inside_data a ++ outside_data a))
  unfolding stored data_box
  stored_last right =
      elim (which (any_inside a)) [
        | inl e ↦ (front pdat.code (length (inside_data a)), rw (data_box, e, boxed_parts pdat.code (inside_data a), append_assoc))
        | inr e ↦ ([], rw (data_box, e, none_inside e right))
      ]

-- ---- an addition none of whose data goes outside is laid out with all data in `pdat`

plain_in : (i : Item) → goes_in false i ≡ present i.state
unfolding goes_in goes_out
plain_in i = and-true (present i.state)

inside_all : (is : List Item) (bytes : List ℕ) → data_for (goes_in false) is bytes ≡ take (data_size is) bytes
unfolding data_for
inside_all [] bytes = rw data_nothing
inside_all (i ∷ is) bytes =
    let n = data_size (i ∷ []) in
    elim (which (present i.state)) [
      | inl e ↦ rw (plain_in i, e, inside_all is (drop n bytes), data_cons i is) (sym (take-add n (data_size is) bytes))
      | inr e ↦ rw (plain_in i, e, inside_all is (drop n bytes), data_none i e, data_past i is e)
    ]

some_in : (is : List Item) → some_of (goes_in false) is ≡ some_of (λ i. present i.state) is
unfolding some_of
some_in [] = refl
some_in (i ∷ is) = rw (plain_in i, some_in is)

outside_none : (is : List Item) (bytes : List ℕ) → data_for (goes_out false) is bytes ≡ []
unfolding data_for goes_out
outside_none [] bytes = refl
outside_none (i ∷ is) bytes = outside_none is (drop (data_size (i ∷ [])) bytes)

none_asked : (is : List Item) → some_of (goes_out false) is ≡ false
unfolding some_of goes_out
none_asked [] = refl
none_asked (i ∷ is) = none_asked is

pub none_outside : (is : List Item) → size_of (goes_out false) is ≡ 0
none_outside is = no_size (goes_out false) is (none_asked is)

-- there is a `pdat` where a chunk is present, and 35 never holds
pub plain_layout : (a : Addition) → a.outside ≡ false → data_right a ≡ true
    → (inside_data a ≡ a.bytes)
    × (outside_data a ≡ [])
    × (any_inside a ≡ some_of (λ i. present i.state) (items a.list))
    × ((h : Heading) → outside_right h a ≡ true)
unfolding inside_data outside_data any_inside outside_right
plain_layout a plain right =
    let is = items a.list in (
      rw (plain, inside_all is a.bytes) (take_all (data_size is) a.bytes (omega (arith, data_length a right))),
      rw (plain, outside_none is a.bytes),
      rw (plain, some_in is),
      λ h. rw (plain, none_asked is),
    )

-- ---- an addition is told by what goes outside

-- two tests say the same of each item
abbrev Same : (Item → Bool) → (Item → Bool) → List Item → Type 0
Same s t is = Each (λ i. s i ≡ t i) is

module _ (s t : Item → Bool) where
  sizes_same : (is : List Item) → Same s t is → size_of s is ≡ size_of t is
  unfolding sum
  sizes_same [] same = refl
  sizes_same (i ∷ is) same = rw (same.0, sizes_same is same.1)

  some_same : (is : List Item) → Same s t is → some_of s is ≡ some_of t is
  unfolding some_of
  some_same [] same = refl
  some_same (i ∷ is) same = rw (same.0, some_same is same.1)

  data_same : (is : List Item) (bytes : List ℕ) → Same s t is → data_for s is bytes ≡ data_for t is bytes
  unfolding data_for
  data_same [] bytes same = refl
  data_same (i ∷ is) bytes same = rw (same.0, data_same is (drop (data_size (i ∷ [])) bytes) same.1)

  boxes_same : (is : List Item) (bytes : List ℕ) → Same s t is → boxes_for s is bytes ≡ boxes_for t is bytes
  unfolding boxes_for
  boxes_same [] bytes same = refl
  boxes_same (i ∷ is) bytes same = rw (same.0, boxes_same is (drop (data_size (i ∷ [])) bytes) same.1)

module _ (o q : Bool) where
  in-same : (is : List Item) → Same (goes_out o) (goes_out q) is → Same (goes_in o) (goes_in q) is
  unfolding goes_in
  in-same [] same = tt
  in-same (i ∷ is) same = (ap (λ (b : Bool). present i.state && not b) same.0, in-same is same.1)

  back_same : (out : ℕ) (i : Item) (is : List Item) → Same (goes_out o) (goes_out q) (i ∷ is) → back o out i is ≡ back q out i is
  unfolding back
  back_same out i is same =
      elim (which (goes_out q i)) [
        | inl e ↦ rw (back, same.0, e) (sizes_same (goes_out o) (goes_out q) (i ∷ is) same)
        | inr e ↦ rw (back, same.0, e) (ap (λ (n : ℕ). n + out) (sizes_same (goes_in o) (goes_in q) (i ∷ is) (in-same (i ∷ is) same)))
      ]

  placed_same : (out : ℕ) (is : List Item) → Same (goes_out o) (goes_out q) is → placed_with o out is ≡ placed_with q out is
  unfolding placed_with
  placed_same out [] same = refl
  placed_same out (i ∷ is) same =
      ap₂ (λ (n : ℕ) (ps : List Placed).
      record { size = i.size; state = i.state; offset = elim (present i.state) [ true ↦ Back n | false ↦ Ahead 0 ] } ∷ ps)
      (back_same out i is same) (placed_same out is same.1)

-- where some item goes outside, that was asked for; where none does, it makes no difference whether it was
asked_out : (o : Bool) (is : List Item) → some_of (goes_out o) is ≡ true → o ≡ true
asked_out true is Some-out = refl
asked_out false is Some-out = absurd (true≢false (sym Some-out ∙ none_asked is))

same_self : (o : Bool) (is : List Item) → Same (goes_out o) (goes_out o) is
same_self o [] = tt
same_self o (i ∷ is) = (refl, same_self o is)

none_out : (o : Bool) (is : List Item) → some_of (goes_out o) is ≡ false → Same (goes_out false) (goes_out o) is
unfolding some_of goes_out
none_out o [] none = tt
none_out o (i ∷ is) none =
    elim (which (goes_out o i)) [
      | inl e ↦ absurd (true≢false (rw e at none))
      | inr e ↦ (sym e, none_out o is (rw e at none))
    ]

settled_same : (o : Bool) (is : List Item) → Same (goes_out (some_of (goes_out o) is)) (goes_out o) is
settled_same o is =
    elim (which (some_of (goes_out o) is)) [
      | inl e ↦ rw (e, asked_out o is e) (same_self true is)
      | inr e ↦ rw e (none_out o is e)
    ]

-- so the addition that can be told from the file is laid out as the one that was asked for
module _ (a : Addition) where
  out_settled : Same (goes_out (settled a).outside) (goes_out a.outside) (items a.list)
  out_settled = settled_same a.outside (items a.list)

  in-settled : Same (goes_in (settled a).outside) (goes_in a.outside) (items a.list)
  in-settled = in-same (settled a).outside a.outside (items a.list) out_settled

  outside_settled : outside_data (settled a) ≡ outside_data a
  unfolding outside_data
  outside_settled = data_same (goes_out (settled a).outside) (goes_out a.outside) (items a.list) a.bytes out_settled

  inside_settled : inside_data (settled a) ≡ inside_data a
  unfolding inside_data
  inside_settled = data_same (goes_in (settled a).outside) (goes_in a.outside) (items a.list) a.bytes in-settled

  any_settled : any_inside (settled a) ≡ any_inside a
  unfolding any_inside
  any_settled = some_same (goes_in (settled a).outside) (goes_in a.outside) (items a.list) in-settled

  box-settled : data_box (settled a) ≡ data_box a
  unfolding data_box
  box-settled = ap₂ (λ (there : Bool) (bytes : List ℕ). elim there as (λ _. List ℕ) [ true ↦ boxed pdat.code bytes | false ↦ [] ]) any_settled inside_settled

  stored-settled : stored (settled a) ≡ stored a
  unfolding stored
  stored-settled = ap₂ (λ (box outer : List ℕ). box ++ outer) box-settled outside_settled

  placed-settled : placed (settled a).outside (items a.list) ≡ placed a.outside (items a.list)
  unfolding placed
  placed-settled =
      rw (sizes_same (goes_out (settled a).outside) (goes_out a.outside) (items a.list) out_settled)
      (placed_same (settled a).outside a.outside (size_of (goes_out a.outside) (items a.list)) (items a.list) out_settled)

  pub settled-added : added (settled a) ≡ added a
  unfolding added pseg_body pshd_body surls
  settled-added = rw (stored-settled, placed-settled)

  settled_place : (n : ℕ) → pseg_place n (settled a) ≡ pseg_place n a
  unfolding pseg_place
  settled_place n = rw stored-settled

  settled_boxes : added_boxes (settled a) ≡ added_boxes a
  unfolding added_boxes
  settled_boxes = rw (any_settled, outside_settled)

  settled_inner : inner_boxes (settled a) ≡ inner_boxes a
  unfolding inner_boxes surls
  settled_inner = refl

  settled-segment : (h : Heading) (ss : List Segment) (at : ℕ) → new_segment h ss at (settled a) ≡ new_segment h ss at a
  unfolding new_segment new_inner new_urls pshd_body surls
  settled-segment h ss at = rw placed-settled

  -- and is as right
  pub settled-right : (h : Heading) → outside_right h (settled a) ≡ outside_right h a
  unfolding outside_right
  settled-right h =
      rw (
        some_same (goes_out (settled a).outside) (goes_out a.outside) (items a.list) out_settled,
        boxes_same (goes_out (settled a).outside) (goes_out a.outside) (items a.list) a.bytes out_settled,
      )

  pub settled-admission : (limit : ℕ) (h : Heading) (ss : List Segment) (n : ℕ) → admission limit h ss n (settled a) ≡ admission limit h ss n a
  unfolding admission
  settled-admission limit h ss n = rw (settled-added, settled_boxes, settled_inner, settled_place n, settled-segment h ss (pseg_place n a))
