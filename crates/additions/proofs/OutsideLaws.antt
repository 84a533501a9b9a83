-- The chunks that go outside `pdat`: the boxes of their data, which are allowed, and that each chunk may lie where it
-- is placed, whole.
use Prim.Native.Nat.{ℕ, ◌+◌, ◌-◌, ◌≤◌}
use mathlib.Core.Bool.{Bool, true, false, or-true, true≢false}
use mathlib.Core.List.{List, [], ◌∷◌, ◌++◌, map, map-append, append_assoc}
use mathlib.Core.Logic.{inl, inr}
use mathlib.Core.Path.{◌≡◌, refl, sym, ◌∙◌}
use native.Mathlib.Nat.{add-zero}
use native.Mathlib.Omega.{arith}
use lib.Dec.{eqb}
use lib.ListN.{length, take, drop, length-drop}
use lib.Seq.{length-take-le}
use Rattle.boxes.specs.Answer.{Answer, refused, given}
use Rattle.boxes.specs.Framing.{Box}
use Rattle.boxes.specs.declared.kinds.Container.TheVariants.{File}
use Rattle.boxes.proofs.HeaderLaws.{moved}
use Rattle.boxes.proofs.ContainerLaws.{Filled, full, filled-appended}
use Rattle.partial.specs.Sequences.{some_of, all_of}
use Rattle.partial.specs.Segments.{good}
use Rattle.partial.specs.Heading.{Heading}
use Rattle.partial.specs.Mixed.{allowed, whole_boxes, boxes_of, are_boxes, boxes_many}
use Rattle.partial.specs.Entries.{may_lie}
use Rattle.additions.specs.Addition.{Item, items, Addition, list_right, data_right, size_of, data_size, goes_out, data_for, boxes_for, outside_right}
use Rattle.additions.specs.Append.{outside_data}
use Rattle.partial.proofs.Meaning.SequenceLaws.{which, both, all_append}
use Rattle.additions.proofs.DataLaws.{out_present, size_on, size_past, data_cons, data_one, data_length}
use Rattle.additions.proofs.PlacedLaws.{formed, formed_some, list_formed, OutLie}
use Rattle.additions.proofs.WholeLaws.{allowed_moved, moved_twice, Row, filled_row, row_moved, starts, row_starts, starts_later}
use Rattle.additions.proofs.WholeLaws.{whole_row, are-boxes, filled_of}

-- ---- item by item

-- what goes outside is good
pub out_good : (o : Bool) (i : Item) → goes_out o i ≡ true → eqb i.state good ≡ true
unfolding goes_out
out_good o i out = (both o (eqb i.state good) out).1

-- where whole allowed boxes stand, a good chunk of a mixed file may lie
whole_lies : (o : Bool) (i : Item) (h : Heading) (place : ℕ) → goes_out o i ≡ true → h.mixed ≡ true → whole_boxes h.boxes place (place + i.size) ≡ true
    → may_lie h i.state place i.size ≡ true
unfolding may_lie
whole_lies o i h place out mixed whole = rw (may_lie, mixed, out_good o i out, whole, or-true)

module _ (o : Bool) where
  -- the boxes of the data outside: they fill it, they are allowed, and in a mixed file that has them from a place on
  -- each chunk lies there whole
  pub record Outer (is : List Item) (bytes : List ℕ) : Type 0 where
    pub boxes : List Box
    pub fill : Filled File (data_for (goes_out o) is bytes) (length (data_for (goes_out o) is bytes)) 0 boxes
    pub free : all_of allowed boxes ≡ true
    pub lie : (h : Heading) (before rest : List Box) (at end : ℕ)
        → h.mixed ≡ true
        → h.boxes ≡ before ++ (map (moved at) boxes ++ rest)
        → all_of (starts at) before ≡ true
        → end ≡ at + size_of (goes_out o) is
        → OutLie h end o is

  module _ (i : Item) (is : List Item) (bytes : List ℕ) (rest : Outer is (drop (data_size (i ∷ [])) bytes)) where
    -- an item that does not go outside adds nothing
    outer_past : goes_out o i ≡ false → Outer (i ∷ is) bytes
    unfolding data_for
    outer_past e =
        record {
          boxes = rest.boxes;
          fill = rw (data_for, e) rest.fill;
          free = rest.free;
          lie = λ h before behind at end mixed same first total.
              (λ out. absurd (true≢false (sym out ∙ e)), rest.lie h before behind at end mixed same first (omega (arith, size_past (goes_out o) i is e)));
        }

    -- one that does adds its boxes before the others
    outer_more : goes_out o i ≡ true → formed i ≡ true → data_size (i ∷ []) ≤ length bytes → are_boxes (take (data_size (i ∷ [])) bytes) ≡ true → Outer (i ∷ is) bytes
    unfolding data_for
    outer_more e right enough ours =
        let mine : List ℕ = take (data_size (i ∷ [])) bytes in
        let (cs, fill, free) = are-boxes mine ours in
        let long : length mine ≡ i.size = length-take-le (data_size (i ∷ [])) bytes enough ∙ data_one i (out_present o i e) in
        let some_size = (formed_some i right).0 in
        let total_size = size_on (goes_out o) i is e in
        record {
          boxes = cs ++ map (moved (length mine)) rest.boxes;
          fill = rw (data_for, e) (filled-appended fill rest.fill);
          free = rw (all_append, free, allowed_moved) rest.free;
          lie = λ h before behind at end mixed same first total.
              let here : List Box = map (moved at) cs in
              let others : List Box = map (moved (at + i.size)) rest.boxes ++ behind in
              let row : Row at (at + i.size) here = rw (add-zero, long) at (row_moved at 0 (length mine) cs (filled_row (omega arith) fill)) in
              let arranged : h.boxes ≡ before ++ (here ++ others) = same ∙ rw (map-append, moved_twice, long, append_assoc) in
              let place : end - size_of (goes_out o) (i ∷ is) ≡ at = omega arith in
              let whole : whole_boxes h.boxes at (at + i.size) ≡ true = rw arranged (whole_row others before at (at + i.size) here first (omega arith) row (allowed_moved at cs ∙ free)) in
              let later = starts_later at (at + i.size) (omega arith) before first in (
                λ out. rw place (whole_lies o i h at e mixed whole),
                rest.lie h (before ++ here) behind (at + i.size) end mixed (arranged ∙ rw append_assoc)
                    (rw (all_append, later) (row_starts at (at + i.size) here row (at + i.size) (omega arith))) (omega arith),
              );
        }

  outer : (is : List Item) (bytes : List ℕ) → all_of formed is ≡ true → data_size is ≤ length bytes → boxes_for (goes_out o) is bytes ≡ true → Outer is bytes
  unfolding data_for boxes_for all_of
  outer [] bytes listed enough right = record { boxes = []; fill = full {at = 0} (omega arith); free = refl; lie = λ h before behind at end mixed same first total. tt }
  outer (i ∷ is) bytes listed enough right =
      let n = data_size (i ∷ []) in
      let all = data_cons i is in
      let (first, others) = both (formed i) (all_of formed is) listed in
      let (mine, later) = both (elim (goes_out o i) [ true ↦ are_boxes (take n bytes) | false ↦ true ]) (boxes_for (goes_out o) is (drop n bytes)) right in
      let rest = outer is (drop n bytes) others (rw length-drop (omega arith)) later in
      elim (which (goes_out o i)) [
        | inl e ↦ outer_more i is bytes rest e first (omega arith) (rw e at mine)
        | inr e ↦ outer_past i is bytes rest e
      ]

  -- where no item goes outside, there is nothing to be boxes, and none lies anywhere
  none_boxes : (is : List Item) (bytes : List ℕ) → some_of (goes_out o) is ≡ false → boxes_for (goes_out o) is bytes ≡ true
  unfolding some_of boxes_for
  none_boxes [] bytes none = refl
  none_boxes (i ∷ is) bytes none =
      elim (which (goes_out o i)) [
        | inl e ↦ absurd (true≢false (rw e at none))
        | inr e ↦ rw e (none_boxes is (drop (data_size (i ∷ [])) bytes) (rw e at none))
      ]

  none_lie : (h : Heading) (at : ℕ) (is : List Item) → some_of (goes_out o) is ≡ false → OutLie h at o is
  unfolding some_of
  none_lie h at [] none = tt
  none_lie h at (i ∷ is) none =
      elim (which (goes_out o i)) [
        | inl e ↦ absurd (true≢false (rw e at none))
        | inr e ↦ (λ out. absurd (true≢false (sym out ∙ e)), none_lie h at is (rw e at none))
      ]

-- ---- of an addition

-- the boxes of its data outside, none where it is no boxes
pub out_boxes : Addition → List Box
out_boxes a = elim (boxes_of (outside_data a)) [ refused _ ↦ [] | given bs ↦ bs ]

pub out_many : (a : Addition) → boxes_many (outside_data a) ≡ length (out_boxes a)
unfolding boxes_many out_boxes
out_many a = go (boxes_of (outside_data a))
  where
    go : (x : Answer (List Box)) → elim x [ refused _ ↦ 0 | given bs ↦ length bs ] ≡ length {A = Box} (elim x [ refused _ ↦ [] | given bs ↦ bs ])
    go (refused n) = refl
    go (given bs) = refl

module _ (h : Heading) (a : Addition) (list : list_right a.list ≡ true) (carried : data_right a ≡ true) (right : outside_right h a ≡ true) where
  -- 35 is of what goes outside: it is boxes, and the file is mixed if any does
  right_boxes : boxes_for (goes_out a.outside) (items a.list) a.bytes ≡ true
  unfolding outside_right
  right_boxes =
      let out = goes_out a.outside in
      elim (which (some_of out (items a.list))) [
        | inl e ↦ (both h.mixed (boxes_for out (items a.list) a.bytes) (rw e at right)).1
        | inr e ↦ none_boxes a.outside (items a.list) a.bytes e
      ]

  right-mixed : some_of (goes_out a.outside) (items a.list) ≡ true → h.mixed ≡ true
  unfolding outside_right
  right-mixed e = (both h.mixed (boxes_for (goes_out a.outside) (items a.list) a.bytes) (rw e at right)).0

  outer_of : Outer a.outside (items a.list) a.bytes
  outer_of = outer a.outside (items a.list) a.bytes (list_formed a.list list) (omega (arith, data_length a carried)) right_boxes

  out_same : out_boxes a ≡ outer_of.boxes
  unfolding out_boxes outside_data
  out_same = rw (out_boxes, filled_of (outside_data a) outer_of.fill)

  pub out_filled : Filled File (outside_data a) (length (outside_data a)) 0 (out_boxes a)
  unfolding outside_data
  out_filled = rw out_same outer_of.fill

  pub out_free : all_of allowed (out_boxes a) ≡ true
  out_free = rw out_same outer_of.free

  -- in a mixed file that has them from a place on each chunk lies there whole
  pub out_whole : (k : Heading) (before rest : List Box) (at end : ℕ) → k.mixed ≡ h.mixed → k.boxes ≡ before ++ (map (moved at) (out_boxes a) ++ rest)
      → all_of (starts at) before ≡ true
      → end ≡ at + size_of (goes_out a.outside) (items a.list)
      → OutLie k end a.outside (items a.list)
  out_whole k before rest at end mixed same first total =
      elim (which (some_of (goes_out a.outside) (items a.list))) [
        | inl e ↦ outer_of.lie k before rest at end (mixed ∙ right-mixed e) (rw out_same at same) first total
        | inr e ↦ none_lie a.outside k end (items a.list) e
      ]
