-- Laws of the chunks that are stored outside: one pass finds them, and what it finds of them.
use Prim.Native.Nat.{ℕ, ◌+◌, ◌-◌, ◌/◌, ◌≤◌, ◌<◌, min}
use mathlib.Core.Bool.{Bool, true, false, ◌&&◌, and-true, and-false, and_assoc, true≢false}
use mathlib.Core.List.{List, [], ◌∷◌}
use mathlib.Core.Logic.{inl, inr}
use Rattle.std.specs.Prelude.{None, Some}
use mathlib.Core.Path.{◌≡◌, refl, sym, ap, ◌∙◌}
use native.Mathlib.Nat.{add_assoc}
use native.Mathlib.Omega.{arith}
use lib.ListN.{length, take, drop, length-take, length-drop, length-append}
use Rattle.additions.specs.Addition.{Item, items, data_size, goes_out, data_for, boxes_for}
use Rattle.partial.specs.Mixed.{are_boxes, boxes_many}
use Rattle.partial.specs.Sequences.{some_of, sum}
use Rattle.partial.proofs.Meaning.SequenceLaws.{which, both}
use Rattle.outside.specs.Chunks.{many, no_chunk, chunk_of, together, outside_of}
use Rattle.outside.specs.Whole.{whole_of}
use Rattle.outside.specs.declared.chunks.Outside.{Outside}
use Rattle.outside.proofs.ItemLaws.{item_at, items_from, items-from, items_none, data-part, data-behind, data_chosen, data_passed}
use Rattle.outside.proofs.ItemLaws.{boxes_chosen, boxes_passed, many_on, many_past}
use Rattle.outside.proofs.WholeLaws.{boxes_told, other_told, many_most, none_right, none_many, joined-right, joined-many}

-- ---- one chunk more

module _ (bytes : List ℕ) where
  chunk_right : are_boxes bytes ≡ true → chunk_of bytes ≡ record { right = true; chunks = 1; bytes = length bytes; boxes = boxes_many bytes }
  unfolding chunk_of
  chunk_right right = simp (chunk_of, right)

  chunk_wrong : are_boxes bytes ≡ false → chunk_of bytes ≡ record { right = false; chunks = 1; bytes = length bytes; boxes = 0 }
  unfolding chunk_of
  chunk_wrong wrong = simp (chunk_of, wrong)

  -- it has no more boxes than bytes
  chunk_boxes : (chunk_of bytes).boxes ≤ length bytes
  chunk_boxes =
      elim (which (are_boxes bytes)) [
        | inl right ↦ rw (chunk_right right) (many_most bytes right)
        | inr wrong ↦ rw (chunk_wrong wrong) (omega arith)
      ]

module _ (x : Outside) (bytes : List ℕ) where
  pub with-boxes : {n : ℕ} → Some n ≡ whole_of bytes
      → record { right = x.right; chunks = x.chunks + 1; bytes = x.bytes + length bytes; boxes = x.boxes + n } ≡ together x (chunk_of bytes)
  unfolding together
  with-boxes {n} told =
      let (right, many) = boxes_told bytes told in
      let same = sym (and-true x.right) in
      rw (chunk_right bytes right)
      (λ k. record { right = same k; chunks = x.chunks + 1; bytes = x.bytes + length bytes; boxes = x.boxes + many k })

  pub with_other : None ≡ whole_of bytes
      → record { right = false; chunks = x.chunks + 1; bytes = x.bytes + length bytes; boxes = x.boxes } ≡ together x (chunk_of bytes)
  unfolding together
  with_other told =
      let same = sym (and-false x.right) in
      let boxes : x.boxes ≡ x.boxes + 0 = omega arith in
      rw (chunk_wrong bytes (other_told bytes told))
      (λ k. record { right = same k; chunks = x.chunks + 1; bytes = x.bytes + length bytes; boxes = boxes k })

-- ---- some chunks and others behind them

together_none : (x : Outside) → together no_chunk x ≡ x
unfolding together
together_none x =
    let chunks : 0 + x.chunks ≡ x.chunks = omega arith in
    let bytes : 0 + x.bytes ≡ x.bytes = omega arith in
    let boxes : 0 + x.boxes ≡ x.boxes = omega arith in
    λ k. record { right = x.right; chunks = chunks k; bytes = bytes k; boxes = boxes k }

none_together : (x : Outside) → together x no_chunk ≡ x
unfolding together
none_together x =
    let chunks : x.chunks + 0 ≡ x.chunks = omega arith in
    let bytes : x.bytes + 0 ≡ x.bytes = omega arith in
    let boxes : x.boxes + 0 ≡ x.boxes = omega arith in
    λ k. record { right = and-true x.right k; chunks = chunks k; bytes = bytes k; boxes = boxes k }

together_assoc : (x y z : Outside) → together (together x y) z ≡ together x (together y z)
unfolding together
together_assoc x y z =
    let chunks = add_assoc x.chunks y.chunks z.chunks in
    let bytes = add_assoc x.bytes y.bytes z.bytes in
    let boxes = add_assoc x.boxes y.boxes z.boxes in
    λ k. record { right = and_assoc x.right y.right z.right k; chunks = chunks k; bytes = bytes k; boxes = boxes k }

module _ (outside : Bool) (i : Item) (is : List Item) (bytes : List ℕ) where
  outside_next : goes_out outside i ≡ true
      → outside_of outside (i ∷ is) bytes ≡ together (chunk_of (take (data_size (i ∷ [])) bytes)) (outside_of outside is (drop (data_size (i ∷ [])) bytes))
  unfolding outside_of
  outside_next out = simp (outside_of, out)

  inside_next : goes_out outside i ≡ false → outside_of outside (i ∷ is) bytes ≡ outside_of outside is (drop (data_size (i ∷ [])) bytes)
  unfolding outside_of
  inside_next kept = simp (outside_of, kept)

-- ---- the pass

-- before an item: what was found of those before it, whose data ends at a place
pub record Midway (outside : Bool) (list bytes : List ℕ) (x : Outside) (at i : ℕ) : Type 0 where
  pub all : together x (outside_of outside (items_from list i) (drop at bytes)) ≡ outside_of outside (items list) bytes
  pub inside : at ≤ length bytes
  pub chunks : x.chunks ≤ i
  pub size : x.bytes ≤ at
  pub boxes : x.boxes ≤ at

module _ (outside : Bool) (list bytes : List ℕ) where
  pub midway_start : Midway outside list bytes no_chunk 0 0
  midway_start = record { all = together_none (outside_of outside (items list) bytes); inside = omega arith; chunks = omega arith; size = omega arith; boxes = omega arith }

  module _ {x : Outside} {at i : ℕ} (m : Midway outside list bytes x at i) where
    module _ (less : i < length list / 2) {end : ℕ} (ends : end ≡ min (at + data_size (item_at list i ∷ [])) (length bytes)) where
      from : outside_of outside (items_from list i) (drop at bytes) ≡ outside_of outside (item_at list i ∷ items_from list (i + 1)) (drop at bytes)
      from = ap (λ (is : List Item). outside_of outside is (drop at bytes)) (items-from list i less)

      behind : outside_of outside (items_from list (i + 1)) (drop (data_size (item_at list i ∷ [])) (drop at bytes)) ≡ outside_of outside (items_from list (i + 1)) (drop end bytes)
      behind = ap (outside_of outside (items_from list (i + 1))) (sym (data-behind bytes at (data_size (item_at list i ∷ [])) ends))

      pub midway_in : goes_out outside (item_at list i) ≡ false → Midway outside list bytes x end (i + 1)
      midway_in kept =
          record {
            all = ap (together x) (sym (from ∙ inside_next outside (item_at list i) (items_from list (i + 1)) (drop at bytes) kept ∙ behind)) ∙ m.all;
            inside = omega arith;
            chunks = omega (arith, m.chunks);
            size = omega (arith, m.size, m.inside);
            boxes = omega (arith, m.boxes, m.inside);
          }

      pub midway_out : goes_out outside (item_at list i) ≡ true → {part : List ℕ} → part ≡ take (end - at) (drop at bytes)
          → Midway outside list bytes (together x (chunk_of part)) end (i + 1)
      unfolding together chunk_of
      midway_out out {part} cut =
          let long : length part ≡ end - at = ap length cut ∙ length-take (end - at) (drop at bytes) ∙ omega (arith, length-drop at bytes, m.inside) in
          record {
            all = together_assoc x (chunk_of part) _
                ∙ ap (together x)
                (ap (λ (p : List ℕ). together (chunk_of p) (outside_of outside (items_from list (i + 1)) (drop end bytes)))
                (cut ∙ data-part bytes at (data_size (item_at list i ∷ [])) ends)
                ∙ sym (from ∙ outside_next outside (item_at list i) (items_from list (i + 1)) (drop at bytes) out ∙ ap (together (chunk_of (take (data_size (item_at list i ∷ [])) (drop at bytes)))) behind))
                ∙ m.all;
            inside = omega arith;
            chunks = omega (arith, m.chunks);
            size = omega (arith, m.size, m.inside, long);
            boxes = omega (arith, m.boxes, m.inside, long, chunk_boxes part);
          }

    pub midway_end : length list / 2 ≤ i → x ≡ outside_of outside (items list) bytes
    unfolding outside_of
    midway_end past =
        sym (none_together x) ∙ ap (λ (is : List Item). together x (outside_of outside is (drop at bytes))) (sym (items_none list i past)) ∙ m.all

-- ---- what is found

module _ (outside : Bool) where
  pub outside-right : (is : List Item) (bytes : List ℕ) → (outside_of outside is bytes).right ≡ boxes_for (goes_out outside) is bytes
  unfolding outside_of boxes_for together chunk_of
  outside-right [] bytes = refl
  outside-right (i ∷ is) bytes =
      let n = data_size (i ∷ []) in
      let rest = outside-right is (drop n bytes) in
      elim (which (goes_out outside i)) [
        | inl out ↦
            ap (λ (x : Outside). x.right) (outside_next outside i is bytes out)
            ∙ ap (λ (b : Bool). are_boxes (take n bytes) && b) rest
            ∙ sym (boxes_chosen (goes_out outside) i is bytes out)
        | inr kept ↦ ap (λ (x : Outside). x.right) (inside_next outside i is bytes kept) ∙ rest ∙ sym (boxes_passed (goes_out outside) i is bytes kept)
      ]

  pub outside_chunks : (is : List Item) (bytes : List ℕ) → (outside_of outside is bytes).chunks ≡ many (goes_out outside) is
  unfolding outside_of together chunk_of many sum
  outside_chunks [] bytes = refl
  outside_chunks (i ∷ is) bytes =
      let rest = outside_chunks is (drop (data_size (i ∷ [])) bytes) in
      elim (which (goes_out outside i)) [
        | inl out ↦ ap (λ (x : Outside). x.chunks) (outside_next outside i is bytes out) ∙ ap (λ (k : ℕ). 1 + k) rest ∙ sym (many_on (goes_out outside) i is out)
        | inr kept ↦ ap (λ (x : Outside). x.chunks) (inside_next outside i is bytes kept) ∙ rest ∙ sym (many_past (goes_out outside) i is kept)
      ]

  pub outside-bytes : (is : List Item) (bytes : List ℕ) → (outside_of outside is bytes).bytes ≡ length (data_for (goes_out outside) is bytes)
  unfolding outside_of data_for together chunk_of
  outside-bytes [] bytes = refl
  outside-bytes (i ∷ is) bytes =
      let n = data_size (i ∷ []) in
      let rest = outside-bytes is (drop n bytes) in
      elim (which (goes_out outside i)) [
        | inl out ↦
            ap (λ (x : Outside). x.bytes) (outside_next outside i is bytes out)
            ∙ ap (λ (k : ℕ). length (take n bytes) + k) rest
            ∙ sym (ap length (data_chosen (goes_out outside) i is bytes out) ∙ length-append (take n bytes) (data_for (goes_out outside) is (drop n bytes)))
        | inr kept ↦
            ap (λ (x : Outside). x.bytes) (inside_next outside i is bytes kept) ∙ rest ∙ sym (ap length (data_passed (goes_out outside) i is bytes kept))
      ]

  -- where no chunk goes outside, each that does is whole boxes
  pub none_boxes : (is : List Item) (bytes : List ℕ) → some_of (goes_out outside) is ≡ false → boxes_for (goes_out outside) is bytes ≡ true
  unfolding some_of boxes_for
  none_boxes [] bytes none = refl
  none_boxes (i ∷ is) bytes none =
      elim (which (goes_out outside i)) [
        | inl out ↦ absurd (true≢false (rw out at none))
        | inr kept ↦ boxes_passed (goes_out outside) i is bytes kept ∙ none_boxes is (drop (data_size (i ∷ [])) bytes) (rw kept at none)
      ]

  -- where each chunk is whole boxes, so are all together
  pub outside_boxes : (is : List Item) (bytes : List ℕ) → boxes_for (goes_out outside) is bytes ≡ true
      → (are_boxes (data_for (goes_out outside) is bytes) ≡ true) × ((outside_of outside is bytes).boxes ≡ boxes_many (data_for (goes_out outside) is bytes))
  unfolding outside_of data_for together
  outside_boxes [] bytes right = (none_right, none_many)
  outside_boxes (i ∷ is) bytes right =
      let n = data_size (i ∷ []) in
      elim (which (goes_out outside i)) [
        | inl out ↦
            let (one, others) = both (are_boxes (take n bytes)) _ (sym (boxes_chosen (goes_out outside) i is bytes out) ∙ right) in
            let (whole, many) = outside_boxes is (drop n bytes) others in
            let same = data_chosen (goes_out outside) i is bytes out in (
              ap are_boxes same ∙ joined-right (take n bytes) _ one whole,
              ap (λ (x : Outside). x.boxes) (outside_next outside i is bytes out)
                  ∙ ap (λ (x : Outside). x.boxes + (outside_of outside is (drop n bytes)).boxes) (chunk_right (take n bytes) one)
                  ∙ ap (λ (k : ℕ). boxes_many (take n bytes) + k) many
                  ∙ sym (ap boxes_many same ∙ joined-many (take n bytes) _ one whole),
            )
        | inr kept ↦
            let (whole, many) = outside_boxes is (drop n bytes) (sym (boxes_passed (goes_out outside) i is bytes kept) ∙ right) in
            let same = data_passed (goes_out outside) i is bytes kept in
            (ap are_boxes same ∙ whole, ap (λ (x : Outside). x.boxes) (inside_next outside i is bytes kept) ∙ many ∙ sym (ap boxes_many same))
      ]
