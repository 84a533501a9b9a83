-- Laws of an addition by what goes outside: whether there is a `pdat`, how long the data is that is stored, how many
-- boxes are added, and 35.
use Prim.Native.Nat.{ℕ, ◌+◌}
use mathlib.Core.Bool.{Bool, true, false, ◌&&◌}
use mathlib.Core.List.{List, []}
use mathlib.Core.Logic.{inl, inr}
use mathlib.Core.Path.{◌≡◌, sym, ap, ◌∙◌}
use native.Mathlib.Omega.{arith}
use borrow.Author.Tests.{eq-eqb}
use lib.ListN.{length}
use Rattle.boxes.specs.Framing.{boxed}
use Rattle.boxes.specs.Kinds.{pdat}
use Rattle.boxes.proofs.BoxedLaws.{front-size, length-boxed}
use Rattle.additions.specs.Addition.{Addition, items, data_right, goes_out, goes_in, boxes_for, outside_right}
use Rattle.additions.specs.Append.{inside_data, outside_data, any_inside, data_box, stored, added_boxes}
use Rattle.partial.specs.Heading.{Heading}
use Rattle.partial.specs.Mixed.{boxes_many}
use Rattle.partial.specs.Sequences.{some_of}
use Rattle.partial.proofs.Meaning.SequenceLaws.{which, both}
use Rattle.additions.proofs.AddedBoxesLaws.{length-stored}
use Rattle.additions.proofs.DataLaws.{sizes_split, none_sized, data_length, length_inside, length_outside}
use Rattle.outside.specs.Chunks.{many, outside_of}
use Rattle.outside.specs.declared.chunks.Outside.{Outside}
use Rattle.outside.proofs.ChunkLaws.{outside-right, outside_chunks, outside_boxes, none_boxes}
use Rattle.outside.proofs.ItemLaws.{many_none, many_some, many_split}
use Rattle.adding.specs.Counts.{Counted, Sorted}
use Rattle.adding.specs.declared.counts.Counts.{Counts}
use Rattle.adding.proofs.CountLaws.{present-many, counted_present}

-- ---- the data that is stored

-- counts of an addition whose data is right
pub data_counted : {a : Addition} {c : Counts} → Counted a c → data_right a ≡ true
unfolding data_right
data_counted {a} {c} counted = eq-eqb (length a.bytes) _ (sym counted.bytes ∙ counted.items.bytes)

module _ (a : Addition) (right : data_right a ≡ true) where
  parts : length (inside_data a) + length (outside_data a) ≡ length a.bytes
  parts = omega (arith, length_inside a right, length_outside a right, sizes_split a.outside (items a.list), data_length a right)

  abbrev data_with : Bool → List ℕ
  data_with there = elim there [ true ↦ boxed pdat.code (inside_data a) | false ↦ [] ]

  pub stored_none : any_inside a ≡ false → length (stored a) ≡ length a.bytes
  unfolding data_box
  stored_none none =
      let box : length (data_box a) ≡ 0 = ap (λ (there : Bool). length (data_with there)) none in
      omega (arith, length-stored a, box, parts, length_inside a right, none_sized a none)

  pub stored_some : any_inside a ≡ true → length (stored a) ≡ 8 + length a.bytes
  unfolding data_box
  stored_some some =
      let box = ap (λ (there : Bool). length (data_with there)) some ∙ length-boxed pdat.code (inside_data a) in
      omega (arith, length-stored a, box, parts, front-size)

-- ---- by what was counted

module _ {a : Addition} {c : Counts} {o : Outside} (sorted : Sorted a c o) where
  chunks_out : o.chunks ≡ many (goes_out a.outside) (items a.list)
  chunks_out = ap (λ (o : Outside). o.chunks) sorted.outside ∙ outside_chunks a.outside (items a.list) a.bytes

  present_all : c.present ≡ many (goes_in a.outside) (items a.list) + o.chunks
  present_all =
      omega (
        arith,
        counted_present (items a.list) sorted.counted.items.counts,
        present-many (items a.list),
        many_split a.outside (items a.list),
        chunks_out,
      )

  -- there is a `pdat` where more chunks are present than go outside
  pub inside_none : c.present ≡ o.chunks → any_inside a ≡ false
  unfolding any_inside
  inside_none same = many_none (goes_in a.outside) (items a.list) (omega (arith, present_all))

  pub inside_some : (c.present ≡ o.chunks → ⊥) → any_inside a ≡ true
  unfolding any_inside
  inside_some other = many_some (goes_in a.outside) (items a.list) (λ none. other (omega (arith, present_all)))

  -- the boxes that are added, where each chunk outside is whole boxes
  module _ (whole : o.right ≡ true) where
    all_whole : boxes_for (goes_out a.outside) (items a.list) a.bytes ≡ true
    all_whole = sym (ap (λ (o : Outside). o.right) sorted.outside ∙ outside-right a.outside (items a.list) a.bytes) ∙ whole

    boxes_out : o.boxes ≡ boxes_many (outside_data a)
    unfolding outside_data
    boxes_out = ap (λ (o : Outside). o.boxes) sorted.outside ∙ (outside_boxes a.outside (items a.list) a.bytes all_whole).1

    pub boxes_none : c.present ≡ o.chunks → o.boxes + 1 ≡ added_boxes a
    unfolding added_boxes
    boxes_none same = sym (rw (added_boxes, inside_none same) (omega (arith, boxes_out)))

    pub boxes_some : (c.present ≡ o.chunks → ⊥) → o.boxes + 2 ≡ added_boxes a
    unfolding added_boxes
    boxes_some other = sym (rw (added_boxes, inside_some other) (omega (arith, boxes_out)))

-- ---- 35

module _ (h : Heading) (a : Addition) {o : Outside} (sorted : o ≡ outside_of a.outside (items a.list) a.bytes) where
  out_many : o.chunks ≡ many (goes_out a.outside) (items a.list)
  out_many = ap (λ (o : Outside). o.chunks) sorted ∙ outside_chunks a.outside (items a.list) a.bytes

  out_whole : o.right ≡ boxes_for (goes_out a.outside) (items a.list) a.bytes
  out_whole = ap (λ (o : Outside). o.right) sorted ∙ outside-right a.outside (items a.list) a.bytes

  pub right_none : o.chunks ≡ 0 → true ≡ outside_right h a
  unfolding outside_right
  right_none none = sym (rw (many_none (goes_out a.outside) (items a.list) (sym out_many ∙ none)))

  pub right_some : (o.chunks ≡ 0 → ⊥) → (h.mixed && o.right) ≡ outside_right h a
  unfolding outside_right
  right_some some = sym (rw (many_some (goes_out a.outside) (items a.list) (λ none. some (out_many ∙ none)), out_whole))

  -- where it does not hold each chunk is whole boxes
  pub right_whole : outside_right h a ≡ true → o.right ≡ true
  unfolding outside_right
  right_whole right =
      let is = items a.list in
      elim (which (some_of (goes_out a.outside) is)) [
        | inl some ↦ out_whole ∙ (both h.mixed (boxes_for (goes_out a.outside) is a.bytes) (rw some at right)).1
        | inr none ↦ out_whole ∙ none_boxes a.outside is a.bytes none
      ]
