-- The boxes that append adds: which they are in the longer file, of which kinds, and that the new data may lie in the
-- new `pdat` and outside.
use Prim.Native.Nat.{ℕ, ◌+◌, ◌^◌, ◌≤◌, ◌<◌}
use mathlib.Core.Bool.{Bool, true, false, ◌&&◌, or-true}
use mathlib.Core.List.{List, [], ◌∷◌, ◌++◌, map, map-append, append_assoc, append-nil}
use mathlib.Core.Logic.{inl, inr}
use mathlib.Core.Path.{◌≡◌, refl, ap, ◌∙◌}
use native.Mathlib.Nat.{zero-add, add-zero}
use native.Mathlib.Omega.{arith}
use borrow.Author.Tests.{le-leb, lt-ltb}
use lib.Dec.{eqb, lit<}
use lib.ListN.{length, length-append, length-map}
use Rattle.boxes.specs.Framing.{Box, front_size, boxed, boxed_at}
use Rattle.boxes.specs.Kinds.{pseg, pdat, is, those}
use Rattle.boxes.specs.declared.kinds.Container.TheVariants.{File}
use Rattle.boxes.specs.declared.kinds.Kind.{Kind}
use Rattle.boxes.proofs.HeaderLaws.{moved}
use Rattle.boxes.proofs.ContainerLaws.{Filled, full, filled-appended}
use Rattle.boxes.proofs.BoxedLaws.{front-size, length-boxed, boxed_alone, moved_boxed_at}
use Rattle.boxes.proofs.KindLaws.{those-nil, those_other, those-append, is-eqb}
use Rattle.partial.specs.Sequences.{some_of, all_of}
use Rattle.partial.specs.Segments.{good}
use Rattle.partial.specs.Heading.{Heading}
use Rattle.partial.specs.Mixed.{allowed, whole_boxes}
use Rattle.partial.specs.Entries.{in_data, may_lie}
use Rattle.additions.specs.Addition.{items, Addition, size_of, data_size, goes_out, goes_in, list_right, data_right, outside_right}
use Rattle.additions.specs.Append.{inside_data, outside_data, any_inside, data_box, stored, added_boxes, added, pseg_body, pseg_place}
use Rattle.partial.proofs.Meaning.SequenceLaws.{which, both, some_append, all_append}
use Rattle.partial.proofs.Reading.HeadingAppendLaws.{lies, with_boxes}
use Rattle.additions.proofs.DataLaws.{length_inside, length_outside, none_sized, stored_last, sizes_split}
use Rattle.additions.proofs.PlacedLaws.{OutLie}
use Rattle.additions.proofs.WholeLaws.{allowed_moved, moved_twice, Row, filled_row, row_moved, starts, starts_later, whole_longer}
use Rattle.additions.proofs.OutsideLaws.{out_boxes, out_many, out_filled, out_free, out_whole}

-- the box with the data, at a place, if there is one
abbrev pub data_boxes : Bool → ℕ → ℕ → List Box
data_boxes there at len = elim there [ true ↦ boxed_at at pdat.code len ∷ [] | false ↦ [] ]

data_moved : (there : Bool) (n at len : ℕ) → map (moved n) (data_boxes there at len) ≡ data_boxes there (n + at) len
data_moved true n at len = ap (λ (b : Box). b ∷ []) (moved_boxed_at n at pdat.code len)
data_moved false n at len = refl

-- how long what is added is
pub length-stored : (a : Addition) → length (stored a) ≡ length (data_box a) + length (outside_data a)
unfolding stored
length-stored a = length-append (data_box a) (outside_data a)

pub length-added : (a : Addition) → length (added a) ≡ length (stored a) + (front_size + length (pseg_body a))
unfolding added
length-added a = rw (length-append (stored a) (boxed pseg.code (pseg_body a)), length-boxed pseg.code (pseg_body a))

-- the boxes that append adds to a file of n bytes: those of the data, and the `pseg`
module _ (n : ℕ) (a : Addition) where
  abbrev pub stored_boxes : List Box
  stored_boxes = data_boxes (any_inside a) n (length (inside_data a)) ++ map (moved (n + length (data_box a))) (out_boxes a)

  abbrev pub segment_box : Box
  segment_box = boxed_at (pseg_place n a) pseg.code (length (pseg_body a))

  abbrev pub new_boxes : List Box
  new_boxes = stored_boxes ++ (segment_box ∷ [])

-- ---- which they are

data_filled : (a : Addition) → length (data_box a) < 2 ^ 32 → Filled File (data_box a) (length (data_box a)) 0 (data_boxes (any_inside a) 0 (length (inside_data a)))
unfolding data_box
data_filled a = go (any_inside a)
  where
    go : (there : Bool)
        → let box : List ℕ = elim there [ true ↦ boxed pdat.code (inside_data a) | false ↦ [] ] in
        length box < 2 ^ 32
        → Filled File box (length box) 0 (data_boxes there 0 (length (inside_data a)))
    go true fits = boxed_alone pdat.code (inside_data a) (lit< tt) refl (rw length-boxed at fits)
    go false fits = full {at = 0} (omega arith)

module _ (a : Addition) where
  pub added-many : length (new_boxes 0 a) ≡ added_boxes a
  unfolding added_boxes
  added-many = rw (length-append, length-append, length-map, out_many) (go (any_inside a))
    where
      go : (there : Bool) → length (data_boxes there 0 (length (inside_data a))) + length (out_boxes a) + 1 ≡ (elim there [ true ↦ 1 | false ↦ 0 ]) + length (out_boxes a) + 1
      go true = refl
      go false = refl

  pub added_moved : (n : ℕ) → map (moved n) (new_boxes 0 a) ≡ new_boxes n a
  unfolding pseg_place
  added_moved n =
      rw (map-append, map-append, data_moved, moved_twice, moved_boxed_at n (0 + length (stored a)) pseg.code (length (pseg_body a))) (simp (zero-add, add-zero))

-- of a kind there is none among boxes that are allowed, where such a box is not of the kind
those-free : (k : Kind) → ((b : Box) → allowed b ≡ true → is k b ≡ false) → (bs : List Box) → all_of allowed bs ≡ true → those k bs ≡ []
unfolding all_of
those-free k free [] all = those-nil k
those-free k free (b ∷ bs) all =
    let (here, others) = both (allowed b) (all_of allowed bs) all in
    those_other k b bs (free b here) ∙ those-free k free bs others

those_data : (k : Kind) → eqb pdat.code k.code ≡ false → (there : Bool) (at len : ℕ) → those k (data_boxes there at len) ≡ []
those_data k other true at len = those_other k (boxed_at at pdat.code len) [] (is-eqb k _ ∙ other) ∙ those-nil k
those_data k other false at len = those-nil k

-- how long the box with the data is, and that it starts before the boxes outside
module _ (a : Addition) where
  box_there : any_inside a ≡ true → length (data_box a) ≡ front_size + length (inside_data a)
  unfolding data_box
  box_there e = rw (data_box, e) (length-boxed pdat.code (inside_data a))

  box_none : any_inside a ≡ false → length (data_box a) ≡ 0
  unfolding data_box
  box_none e = rw (data_box, e)

  data_starts : (n : ℕ) → all_of (starts (n + length (data_box a))) (data_boxes (any_inside a) n (length (inside_data a))) ≡ true
  unfolding all_of
  data_starts n =
      elim (which (any_inside a)) [
        | inl e ↦ rw (e, lt-ltb n (n + length (data_box a)) (omega (arith, box_there e, front-size)))
        | inr e ↦ rw e
      ]

  pub data_lies : (n : ℕ) → all_of (lies (n + length (data_box a))) (data_boxes (any_inside a) n (length (inside_data a))) ≡ true
  unfolding all_of
  data_lies n =
      elim (which (any_inside a)) [
        | inl e ↦
            let long = box_there e in
            rw (e, le-leb (n + front_size) (n + (front_size + length (inside_data a))) (omega arith), le-leb (n + (front_size + length (inside_data a))) (n + length (data_box a)) (omega arith))
        | inr e ↦ rw e
      ]

module _ (h : Heading) (a : Addition) (list : list_right a.list ≡ true) (carried : data_right a ≡ true) (right : outside_right h a ≡ true) where
  pub boxes_added : length (added a) < 2 ^ 32 → Filled File (added a) (length (added a)) 0 (new_boxes 0 a)
  unfolding added stored pseg_place
  boxes_added fits =
      let size = length-added a in
      let size-stored = length-stored a in
      let behind = filled-appended (data_filled a (omega arith)) (out_filled h a list carried right) in
      let all = filled-appended behind (boxed_alone pseg.code (pseg_body a) (lit< tt) refl (omega arith)) in
      simp zero-add (rw (moved_boxed_at (length (stored a)) 0 pseg.code (length (pseg_body a)), add-zero) at all)

  -- in a row behind a file of n bytes
  pub new_row : length (added a) < 2 ^ 32 → (n : ℕ) → Row n (n + length (added a)) (new_boxes n a)
  new_row fits n = rw (add-zero, added_moved a n) at (row_moved n 0 (length (added a)) (new_boxes 0 a) (filled_row (omega arith) (boxes_added fits)))

  -- of the kinds that are not allowed outside, but for `pdat`, there is at most the `pseg`
  pub those_new : (n : ℕ) (k : Kind) → eqb pdat.code k.code ≡ false → ((b : Box) → allowed b ≡ true → is k b ≡ false)
      → those k (new_boxes n a) ≡ those k (segment_box n a ∷ [])
  those_new n k other free =
      those-append k (stored_boxes n a) (segment_box n a ∷ [])
      ∙ rw (those-append, those-free k free (map (moved (n + length (data_box a))) (out_boxes a)) (allowed_moved _ (out_boxes a) ∙ out_free h a list carried right), append-nil, those_data k other (any_inside a) n (length (inside_data a)))

  -- ---- where chunks may lie among them

  -- the chunks that go outside lie there, whole
  pub out_lie : (n : ℕ) → all_of (starts n) h.boxes ≡ true → OutLie (with_boxes h (new_boxes n a)) (pseg_place n a) a.outside (items a.list)
  unfolding pseg_place
  out_lie n first =
      let at : ℕ = n + length (data_box a) in
      let before : List Box = h.boxes ++ data_boxes (any_inside a) n (length (inside_data a)) in
      out_whole h a list carried right (with_boxes h (new_boxes n a)) before (segment_box n a ∷ []) at (n + length (stored a)) refl (simp append_assoc)
      (rw (all_append, starts_later n at (omega arith) h.boxes first) (data_starts a n))
      (omega (arith, length-stored a, length_outside a carried))

-- where a chunk may lie among the boxes before, it may with more boxes
pub lie_longer : (h : Heading) (more : List Box) (state place size : ℕ) → may_lie h state place size ≡ true → may_lie (with_boxes h more) state place size ≡ true
unfolding may_lie in_data
lie_longer h more state place size lies =
    elim (which (in_data h.boxes place size)) [
      | inl e ↦ rw (some_append, e)
      | inr e ↦
          let (kinds, whole) = both (h.mixed && eqb state good) (whole_boxes h.boxes place (place + size)) (rw e at lies) in
          rw (kinds, whole_longer h.boxes more place (place + size) whole, or-true)
    ]

-- the data is no longer than what stands before the `pseg`
pub data_low : (a : Addition) → data_right a ≡ true → data_size (items a.list) ≤ length (stored a)
data_low a carried =
    let (head, same) = stored_last a carried in
    let size = ap length same ∙ length-append head (inside_data a ++ outside_data a) in
    omega (arith, length-append (inside_data a) (outside_data a), length_inside a carried, length_outside a carried, sizes_split a.outside (items a.list))

-- the data of an addition that goes into `pdat` lies in one, where its `pseg` stands at a place
abbrev pub InLie : Heading → ℕ → Addition → Type 0
InLie h at a =
    let ins = size_of (goes_in a.outside) (items a.list) in
    let out = size_of (goes_out a.outside) (items a.list) in
    (state place size : ℕ) → 0 < size → at ≤ place + (ins + out) → place + size + out ≤ at → in_data h.boxes place size ≡ true

-- the data that goes into the new `pdat` lies in it
module _ (h : Heading) (n : ℕ) (a : Addition) (carried : data_right a ≡ true) where
  pub lie_new : InLie (with_boxes h (new_boxes n a)) (pseg_place n a) a
  unfolding in_data some_of pseg_place
  lie_new state place size some_size from to =
      let all = length-stored a in
      let long-in = length_inside a carried in
      let long-out = length_outside a carried in
      elim (which (any_inside a)) [
        | inl e ↦
            let long = box_there a e in
            rw (e, some_append, is-eqb pdat (boxed_at n pdat.code (length (inside_data a))), le-leb (n + front_size) place (omega arith), le-leb (place + size) (n + (front_size + length (inside_data a))) (omega arith), or-true)
        | inr e ↦
            let none = box_none a e in
            absurd (omega (arith, none_sized a e))
      ]
