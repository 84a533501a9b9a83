-- Demand 2: the segment that an addition makes says again what was added, with the same bytes.
use Prim.Native.Nat.{ℕ, ◌+◌, ◌%◌, ◌≤◌}
use mathlib.Core.Bool.{Bool, true, false}
use mathlib.Core.List.{List, [], ◌∷◌, ◌++◌, append_assoc}
use mathlib.Core.Logic.{inl, inr}
use mathlib.Core.Path.{◌≡◌, refl, sym, ap, ◌∙◌}
use native.Mathlib.Omega.{arith}
use borrow.Author.Tests.{eqb-true}
use lib.ListN.{length, take, drop, length-append}
use lib.Seq.{take-add, take_all}
use Rattle.boxes.specs.Framing.{front_size, boxed}
use Rattle.boxes.specs.Kinds.{pseg}
use Rattle.partial.specs.Sequences.{all_of}
use Rattle.partial.specs.Segments.{present, is_last, Segment}
use Rattle.partial.specs.Heading.{Heading, bytes_in}
use Rattle.partial.specs.Texts.{surls_in, texts_for, lengths_for}
use Rattle.additions.specs.Begin.{is_text}
use Rattle.additions.specs.Addition.{Item, items, Addition, flags_for, list_right, lengths_right, size_of, data_size, data_right, texts_right, surls, goes_out}
use Rattle.additions.specs.Append.{back, placed_with, placed, new_chunks, new_segment, added, pseg_place, pseg_body, stored}
use Rattle.additions.specs.Again.{data_of, list_for, some_outside, again, settled}
use Rattle.partial.proofs.Meaning.SequenceLaws.{which, both}
use Rattle.additions.proofs.DataLaws.{data_nothing, data_cons, data_one, data_none, data_past, data_length}
use Rattle.additions.proofs.PlacedLaws.{place_present, formed, formed_some, list_formed}
use Rattle.additions.proofs.StoredLaws.{Stored, stored-within, stored_part, stored_rest, stored-added}
use Rattle.additions.proofs.SurlLaws.{cut-joined}
use Rattle.additions.proofs.InnerLaws.{surls-told, body_stands, body_inside}
use Rattle.additions.proofs.NewSegmentLaws.{inner_new}

-- the flag that is written for last_segment is read as it
last_again : (last : Bool) → is_last (flags_for last) ≡ last
unfolding is_last
last_again true = refl
last_again false = refl

-- the sizes and states of the chunks are those of the list
list_again : (o : Bool) (out at start : ℕ) (list : List ℕ) → length list % 2 ≡ 0 → list_for (new_chunks at start (placed_with o out (items list))) ≡ list
unfolding list_for new_chunks placed_with items
list_again o out at start [] even = refl
list_again o out at start (size ∷ []) even = absurd (omega arith)
list_again o out at start (size ∷ state ∷ rest) even =
    ap (λ (l : List ℕ). size ∷ state ∷ l) (list_again o out at (start + size) rest (omega arith))

-- the bytes of the chunks are the data
module _ (g : List ℕ) (at : ℕ) (inside : at ≤ length g) (o : Bool) (out : ℕ) where
  data_again : (start : ℕ) (is : List Item) (bytes : List ℕ) → all_of formed is ≡ true → Stored g at o out is bytes
      → data_of g (new_chunks at start (placed_with o out is)) ≡ take (data_size is) bytes
  unfolding data_of new_chunks placed_with bytes_in all_of
  data_again start [] bytes right s = rw data_nothing
  data_again start (i ∷ is) bytes right s =
      let n = data_size (i ∷ []) in
      let (first, others) = both (formed i) (all_of formed is) right in
      let (some_size, known) = formed_some i first in
      let low = stored-within g at o out i is bytes s in
      let rest = data_again (start + i.size) is (drop n bytes) others (stored_rest g at o out i is bytes s) in
      elim (which (present i.state)) [
        | inl e ↦
            let here = stored_part g at o out i is bytes s e inside in
            rw (e, place_present at i (back o out i is) e low some_size, here, rest, data_cons i is, data_one i e) (sym (take-add i.size (data_size is) bytes))
        | inr e ↦ rw (e, rest, data_none i e, data_past i is e)
      ]

module _ (f more : List ℕ) (a : Addition) (h k : Heading) (ss : List Segment) (list : list_right a.list ≡ true) (right : data_right a ≡ true)
    (lengths : lengths_right a.lengths ≡ true) (texts : texts_right a ≡ true) (text : is_text a.texts ≡ true) where
  bytes_again : data_of ((f ++ added a) ++ more) (new_segment k ss (pseg_place (length f) a) a).chunks ≡ a.bytes
  unfolding added new_segment pseg_place placed
  bytes_again =
      let is = items a.list in
      let g : List ℕ = (f ++ added a) ++ more in
      let rest : List ℕ = boxed pseg.code (pseg_body a) ++ more in
      let same : g ≡ f ++ (stored a ++ rest) = simp append_assoc in
      let within : pseg_place (length f) a ≤ length (f ++ (stored a ++ rest)) = simp length-append (omega arith) in
      rw same
      (data_again (f ++ (stored a ++ rest)) (pseg_place (length f) a) within a.outside (size_of (goes_out a.outside) is) a.source_offset is a.bytes (list_formed a.list list) (stored-added f rest a right)
      ∙ take_all (data_size is) a.bytes (omega (arith, data_length a right)))

  -- the texts of its `surl` boxes are those that were cut
  texts_again : let us = surls_in ((f ++ added a) ++ more) (new_segment k ss (pseg_place (length f) a) a).inner in
      (texts_for us ≡ a.texts) × (lengths_for us ≡ a.lengths)
  unfolding surls lengths_right texts_right
  texts_again =
      let g : List ℕ = (f ++ added a) ++ more in
      let at = pseg_place (length f) a in
      let told = surls-told g (at + front_size) a (body_stands f more a) text (body_inside f more a) in
      rw (inner_new k ss at a, told) (cut-joined a.texts a.lengths (eqb-true _ _ lengths) (eqb-true _ _ texts))

  -- a segment's fields, chunks, bytes and texts are those that were asked for, whatever was added after it
  pub same-again : let s = new_segment k ss (pseg_place (length f) a) a in
      some_outside h.boxes s.chunks ≡ (settled a).outside
      → again ((f ++ added a) ++ more) h s ≡ settled a
  unfolding again new_segment list_right placed
  same-again outside_told =
      let even = eqb-true _ _ (both _ _ list).0 in
      λ i.
      record {
        source_offset = a.source_offset;
        repair_time = a.repair_time;
        last = last_again a.last i;
        outside = outside_told i;
        list = list_again a.outside (size_of (goes_out a.outside) (items a.list)) (pseg_place (length f) a) a.source_offset a.list even i;
        bytes = bytes_again i;
        texts = texts_again.0 i;
        lengths = texts_again.1 i;
      }
