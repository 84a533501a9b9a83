-- Whether a good chunk of an addition went outside `pdat` is told by the boxes of the longer file, whatever stands
-- behind them.
use Prim.Native.Nat.{ℕ, ◌+◌, ◌-◌, ◌≤◌, ◌<◌}
use mathlib.Core.Bool.{Bool, true, false, ◌||◌, and-false, true≢false}
use mathlib.Core.List.{List, [], ◌∷◌, ◌++◌, map}
use mathlib.Core.Logic.{inl, inr}
use mathlib.Core.Path.{◌≡◌, refl, sym, ◌∙◌}
use native.Mathlib.Omega.{arith}
use borrow.Author.Tests.{le-leb, lt-leb, leb-true}
use lib.Dec.{eqb}
use lib.ListN.{length}
use Rattle.boxes.specs.Framing.{Box, front_size}
use Rattle.boxes.proofs.HeaderLaws.{moved}
use Rattle.partial.specs.Sequences.{some_of, all_of}
use Rattle.partial.specs.Segments.{good, present, Segment}
use Rattle.partial.specs.Heading.{Heading}
use Rattle.partial.specs.Mixed.{allowed}
use Rattle.partial.specs.Entries.{in_data}
use Rattle.additions.specs.Addition.{Item, items, Addition, size_of, goes_out, goes_in, list_right, data_right, outside_right}
use Rattle.additions.specs.Append.{inside_data, any_inside, data_box, stored, added, back, placed_with, placed, new_chunks, new_segment, pseg_place}
use Rattle.additions.specs.Again.{some_outside}
use Rattle.partial.proofs.Meaning.SequenceLaws.{which, both, some_append, none_by}
use Rattle.partial.proofs.Reading.HeadingAppendLaws.{lies, lies_ends}
use Rattle.additions.proofs.DataLaws.{outside, inside, nowhere, goes, out_present, size_on, size_less, length_outside, sizes_split}
use Rattle.additions.proofs.PlacedLaws.{formed, formed_some, list_formed, back_out, back_in, place_present}
use Rattle.additions.proofs.WholeLaws.{allowed_other, allowed_moved, beyond}
use Rattle.additions.proofs.OutsideLaws.{out_good, out_boxes, out_free}
use Rattle.additions.proofs.AddedBoxesLaws.{data_boxes, stored_boxes, new_boxes, segment_box, length-stored, length-added, data_lies, data_low, lie_new}

-- ---- the chunks of placed items

-- what is not there is not good
not_good : (i : Item) → present i.state ≡ false → eqb i.state good ≡ false
unfolding goes_out
not_good i absent =
    elim (which (eqb i.state good)) [
      | inl e ↦ absurd (true≢false (sym (out_present true i e) ∙ absent))
      | inr e ↦ e
    ]

-- where what goes into `pdat` lies in one, and what goes outside in none, it is told of each good chunk
told_with : (bs : List Box) (at : ℕ) (o : Bool) (out start : ℕ) (is : List Item) → all_of formed is ≡ true
    → size_of (goes_in o) is + out ≤ at
    → size_of (goes_out o) is ≤ at
    → ((place size : ℕ) → 0 < size → at ≤ place + (size_of (goes_in o) is + out) → place + size + out ≤ at → in_data bs place size ≡ true)
    → ((place size : ℕ) → 0 < size → at ≤ place + size_of (goes_out o) is → place + size ≤ at → in_data bs place size ≡ false)
    → some_outside bs (new_chunks at start (placed_with o out is)) ≡ some_of (goes_out o) is
unfolding some_outside some_of new_chunks placed_with all_of
told_with bs at o out start [] right ins outs lie apart = refl
told_with bs at o out start (i ∷ is) right ins outs lie apart =
    let (first, others) = both (formed i) (all_of formed is) right in
    let (some_size, known) = formed_some i first in
    let n = back o out i is in
    let less-in = size_less (goes_in o) i is in
    let less-out = size_less (goes_out o) i is in
    let rest = told_with bs at o out (start + i.size) is others (omega arith) (omega arith)
    (λ place size some from to. lie place size some (omega arith) to) (λ place size some from to. apart place size some (omega arith) to) in
    elim (goes o i) [
      | outside e into there ↦
          let far = back_out o out i is e in
          let more = size_on (goes_out o) i is e in
          rw (place_present at i n there (omega arith) some_size, out_good o i e, apart (at - n) i.size some_size (omega arith) (omega arith), e)
      | inside e into there ↦
          let far = back_in o out i is into in
          let more = size_on (goes_in o) i is into in
          rw (place_present at i n there (omega arith) some_size, lie (at - n) i.size some_size (omega arith) (omega arith), and-false, e) rest
      | nowhere e into there ↦ rw (not_good i there, e) rest
    ]

-- ---- of an addition

-- no data lies behind the boxes that end before it, nor in boxes that are allowed outside, nor before a body that
-- starts behind it
module _ (place size : ℕ) where
  data_append : (bs cs : List Box) → in_data (bs ++ cs) place size ≡ (in_data bs place size || in_data cs place size)
  unfolding in_data
  data_append bs cs = some_append _ bs cs

  data_past : (end : ℕ) → end ≤ place → 0 < size → (bs : List Box) → all_of (lies end) bs ≡ true → in_data bs place size ≡ false
  unfolding in_data
  data_past end on some_size bs all = none_by _ (lies end) (λ b l. rw (lt-leb (place + size) b.end (omega (arith, lies_ends end b l)), and-false)) bs all

  data_free : (bs : List Box) → all_of allowed bs ≡ true → in_data bs place size ≡ false
  unfolding in_data
  data_free bs all = none_by _ allowed (λ b free. rw (allowed_other b free).3) bs all

  data_beyond : (end : ℕ) → place < end → (bs : List Box) → all_of (beyond end) bs ≡ true → in_data bs place size ≡ false
  unfolding in_data
  data_beyond end before bs all = none_by _ (beyond end) (λ b from. rw (lt-leb b.body place (omega (arith, leb-true end b.body from)), and-false)) bs all

module _ (h : Heading) (n : ℕ) (a : Addition) (list : list_right a.list ≡ true) (carried : data_right a ≡ true) (right : outside_right h a ≡ true)
    (inside-file : all_of (lies n) h.boxes ≡ true) (more : List Box) (behind : all_of (beyond (n + length (added a))) more ≡ true) where
  apart_new : (place size : ℕ) → 0 < size → pseg_place n a ≤ place + size_of (goes_out a.outside) (items a.list) → place + size ≤ pseg_place n a
      → in_data ((h.boxes ++ new_boxes n a) ++ more) place size ≡ false
  unfolding pseg_place all_of
  apart_new place size some_size from to =
      let all = length-stored a in
      let size-added = length-added a in
      let long-out = length_outside a carried in
      let free = allowed_moved (n + length (data_box a)) (out_boxes a) ∙ out_free h a list carried right in
      rw (
        data_append place size (h.boxes ++ new_boxes n a) more,
        data_append place size h.boxes (new_boxes n a),
        data_append place size (stored_boxes n a) (segment_box n a ∷ []),
        data_append place size (data_boxes (any_inside a) n (length (inside_data a))) (map (moved (n + length (data_box a))) (out_boxes a)),
        data_past place size n (omega arith) some_size h.boxes inside-file,
        data_past place size (n + length (data_box a)) (omega arith) some_size _ (data_lies a n),
        data_free place size _ free,
        data_beyond place size (n + length (stored a)) (omega arith) (segment_box n a ∷ []) (rw (le-leb (n + length (stored a)) (n + length (stored a) + front_size) (omega arith))),
        data_beyond place size (n + length (added a)) (omega arith) more behind,
      )

  -- whether some good chunk lies outside `pdat` is whether one went there
  pub outside_told : (k : Heading) (ss : List Segment) → some_outside ((h.boxes ++ new_boxes n a) ++ more) (new_segment k ss (pseg_place n a) a).chunks ≡ some_of (goes_out a.outside) (items a.list)
  unfolding new_segment placed pseg_place
  outside_told k ss =
      let all = data_low a carried in
      let sizes = sizes_split a.outside (items a.list) in
      told_with _ (pseg_place n a) a.outside _ a.source_offset (items a.list) (list_formed a.list list) (omega arith) (omega arith)
      (λ place size some from to. rw (data_append place size (h.boxes ++ new_boxes n a) more, lie_new h n a carried good place size some from to))
      apart_new
