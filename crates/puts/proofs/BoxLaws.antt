-- Laws of the boxes that are written: the numbers that each is made of, and how long they are.
use Prim.Native.Nat.{ℕ, ◌+◌, ◌*◌, ◌%◌, ◌^◌, ◌≤◌, ◌<◌, min}
use mathlib.Core.Bool.{Bool, true, false, false≢true}
use mathlib.Core.List.{List, [], ◌∷◌, ◌++◌, map}
use mathlib.Core.Logic.{◌⊎◌, inl, inr, ⊎_elim}
use mathlib.Core.Path.{◌≡◌, refl, sym, ap, ◌∙◌}
use native.Mathlib.Decide.{dec_le}
use native.Mathlib.Omega.{arith}
use borrow.Author.Tests.{ne_eqb, eqb-true, eqb-false}
use lib.Dec.{eqb, lit<}
use lib.ListN.{length, length-append}
use Rattle.std.specs.Prelude.{Result, Err, IsOk}
use Rattle.std.specs.Result.{is_ok}
use Rattle.refusals.specs.declared.Refusal.{Refusal}
use Rattle.fields.specs.declared.state.State.{State}
use Rattle.fields.proofs.StateLaws.{no_state}
use Rattle.boxes.specs.Framing.{boxed}
use Rattle.boxes.specs.Kinds.{pseg, pshd, ploc, pdat}
use Rattle.boxes.proofs.BoxedLaws.{front-size, length-boxed}
use Rattle.numerals.specs.Numbers.{bytes_of, holds, holds_offset}
use Rattle.numerals.proofs.NumberLaws.{length-bytes_of}
use Rattle.numerals.proofs.WidthLaws.{below_holds, least_width-within}
use Rattle.additions.specs.Addition.{asks, flags_for, Item, items, surls_of, surls, goes_in, data_for}
use Rattle.additions.specs.Append.{placed, length_size_of, offset_size_of, flag_byte, entry_bytes, ploc_body, version_for, pshd_body, surl_boxes, pseg_body}
use Rattle.additions.specs.Begin.{brand_code, surl_body, surl_box}
use Rattle.partial.specs.Limits.{file_limit}
use Rattle.partial.specs.Reading.{offset_width_of}
use Rattle.partial.specs.Segments.{is_last, present, corrupted}
use Rattle.partial.specs.Sequences.{all_of, sum}
use Rattle.partial.specs.declared.brand.Brand.{Brand}
use Rattle.partial.specs.declared.brand.Brand.TheVariants.{Paff, Pmff}
use Rattle.additions.specs.declared.header.SegmentHeader.{SegmentHeader}
use Rattle.partial.proofs.Meaning.SequenceLaws.{which}
use Rattle.additions.proofs.FieldsBackLaws.{length-pshd, sizes_eight, sizes_held, offsets-held}
use Rattle.additions.proofs.PlacedLaws.{length-placed, sizes_placed, offsets_eight}
use Rattle.puts.specs.Boxes.{ftyp_box, pfhd_box, pfil_box, data_part, pshd_box, ploc_box, pseg_box}
use Rattle.puts.specs.Entries.{Entries, Fits}

-- ---- what a file begins with

-- a brand has four bytes
pub brand_low : (brand : Brand) → brand_code brand < 2 ^ 32
unfolding brand_code
brand_low Paff = lit< tt
brand_low Pmff = lit< tt

module _ (brand : Brand) where
  pub brands_long : length (bytes_of 4 (brand_code brand) ++ (bytes_of 4 0 ++ bytes_of 4 (brand_code brand))) ≡ 12
  brands_long = simp (length-append, length-bytes_of)

  pub ftyp_long : length (ftyp_box brand) ≡ 20
  ftyp_long = simp (length-boxed, length-append, length-bytes_of, front-size)

pub pfhd_long : length pfhd_box ≡ 12
pfhd_long = simp (length-boxed, length-bytes_of, front-size)

module _ (url mime : List ℕ) where
  pub source_long : length (surl_body url mime) ≡ 6 + length url + length mime
  source_long = simp (length-append, length-bytes_of) (omega arith)

  pub surl_long : length (surl_box url mime) ≡ 14 + length url + length mime
  surl_long = simp (length-boxed, source_long, front-size) (omega arith)

  pub inner_long : length (pfhd_box ++ surl_box url mime) ≡ 26 + length url + length mime
  inner_long = simp (length-append, surl_long, pfhd_long) (omega arith)

  pub pfil_long : length (pfil_box url mime) ≡ 34 + length url + length mime
  pfil_long = simp (length-boxed, inner_long, front-size) (omega arith)

-- ---- what is added to it

-- a number of one byte is that byte
pub one_byte : (n : ℕ) → n < 256 → bytes_of 1 n ≡ n ∷ []
unfolding bytes_of
one_byte n low =
    let same : n % 256 ≡ n = omega arith in
    ap (λ (k : ℕ). k ∷ []) same

-- ---- `pdat`

module _ (o there : Bool) (list bytes : List ℕ) where
  pub no_part : there ≡ false → data_part o there list bytes ≡ []
  no_part none = rw (none, data_part)

  pub some_part : there ≡ true → data_part o there list bytes ≡ boxed pdat.code (data_for (goes_in o) (items list) bytes)
  some_part some = rw (some, data_part)

  pub part_long : there ≡ true → length (data_part o there list bytes) ≡ 8 + length (data_for (goes_in o) (items list) bytes)
  part_long some =
      let inner = data_for (goes_in o) (items list) bytes in
      ap length (some_part some) ∙ length-boxed pdat.code inner ∙ ap (λ (k : ℕ). k + length inner) front-size

-- ---- `pshd`

-- version 0 has four bytes of offset, and version 1 has eight
pub versions : (offset : ℕ)
    → ((version_for offset ≡ 0) × (offset_width_of (version_for offset) ≡ 4) × (holds 4 offset ≡ true))
    ⊎ ((version_for offset ≡ 1) × (offset_width_of (version_for offset) ≡ 8))
unfolding version_for offset_width_of
versions offset =
    elim (which (holds 4 offset)) [
      | inl e ↦ inl (rw (version_for, e), rw (version_for, e), e)
      | inr e ↦ inr (rw (version_for, e), rw (version_for, e))
    ]

pub version_low : (offset : ℕ) → version_for offset < 2
version_low offset = ⊎_elim (λ (v, _, _). omega arith) (λ (v, _). omega arith) (versions offset)

pub width_low : (offset : ℕ) → offset_width_of (version_for offset) ≤ 8
width_low offset = ⊎_elim (λ (_, w, _). omega arith) (λ (_, w). omega arith) (versions offset)

pub version_0 : (offset : ℕ) → offset_width_of (version_for offset) ≡ 4 → version_for offset ≡ 0
version_0 offset four = ⊎_elim (λ (v, _, _). v) (λ (_, w). absurd (omega arith)) (versions offset)

pub version_1 : (offset : ℕ) → (offset_width_of (version_for offset) ≡ 4 → ⊥) → version_for offset ≡ 1
version_1 offset other = ⊎_elim (λ (_, w, _). absurd (other w)) (λ (v, _). v) (versions offset)

-- the width of its version holds it
pub offset_held : (offset : ℕ) → offset < 2 ^ 64 → holds (offset_width_of (version_for offset)) offset ≡ true
offset_held offset low =
    ⊎_elim
    (λ (_, w, held). ap (λ (n : ℕ). holds n offset) w ∙ held)
    (λ (_, w). ap (λ (n : ℕ). holds n offset) w ∙ below_holds 8 offset low)
    (versions offset)

-- last_segment is the lowest bit of the flags
pub last_flag : (flags : ℕ) → flags_for (is_last flags) ≡ flags % 2
unfolding is_last
last_flag flags =
    elim (which (eqb (flags % 2) 1)) [
      | inl e ↦ rw (is_last, e) (sym (eqb-true (flags % 2) 1 e))
      | inr e ↦
          let other = eqb-false (flags % 2) 1 e in
          rw (is_last, e) (omega arith)
    ]

module _ (h : SegmentHeader) where
  pub pshd_numbers : {version width : ℕ} → version ≡ version_for h.offset.0 → width ≡ offset_width_of (version_for h.offset.0)
      → bytes_of 1 version ++ (bytes_of 3 (h.flags % 2) ++ (bytes_of width h.offset.0 ++ bytes_of 8 h.repair)) ≡ pshd_body (asks h false [] [] [] [])
  unfolding pshd_body asks
  pshd_numbers v w =
      let low = version_low h.offset.0 in
      rw (v, w, one_byte (version_for h.offset.0) (omega arith), last_flag h.flags)

  pub pshd_long : length (pshd_body (asks h false [] [] [] [])) ≡ 12 + offset_width_of (version_for h.offset.0)
  unfolding asks
  pshd_long = omega (arith, length-pshd (asks h false [] [] [] []))

  pub pshd-box_long : length (pshd_box h) ≡ 20 + offset_width_of (version_for h.offset.0)
  pshd-box_long = omega (arith, length-boxed pshd.code (pshd_body (asks h false [] [] [] [])), front-size, pshd_long)

-- ---- `ploc`

-- no state but these three has a flag
pub no_flags : (state : ℕ) → (state ≡ 2 → ⊥) → (state ≡ 1 → ⊥) → (state ≡ 0 → ⊥) → flag_byte state ≡ 0
unfolding flag_byte present corrupted
no_flags state good damaged lost = rw (flag_byte, present, corrupted, ne_eqb state 2 good, ne_eqb state 1 damaged, ne_eqb state 0 lost)

-- nor has a number of no state, and it is not present
pub no_state_flags : {n : ℕ} {r : Result State Refusal} {e : Refusal} → r ≡ Err e → (n ≤ 3 → IsOk r) → (flag_byte 3 ≡ flag_byte n) × (present 3 ≡ present n)
unfolding flag_byte present corrupted
no_state_flags {n} err states =
    elim (dec_le n 3) [
      | yes small ↦ absurd (false≢true (sym (ap is_ok err) ∙ states small))
      | no over ↦
          let absent : present n ≡ false = no_state err states in
          (sym (no_flags n (λ h. over (omega arith)) (λ h. over (omega arith)) (λ h. over (omega arith))), sym absent)
    ]

pub flags_low : (state : ℕ) → flag_byte state < 256
unfolding flag_byte
flags_low state =
    elim (which (corrupted state)) [
      | inl c ↦
          elim (which (present state)) [
            | inl p ↦ rw (flag_byte, c, p) (lit< tt)
            | inr p ↦ rw (flag_byte, c, p) (lit< tt)
          ]
      | inr c ↦
          elim (which (present state)) [
            | inl p ↦ rw (flag_byte, c, p) (lit< tt)
            | inr p ↦ rw (flag_byte, c, p) (lit< tt)
          ]
    ]

module _ (o : Bool) (is : List Item) {l w : ℕ} (wide-l : l ≡ length_size_of (placed o is)) (wide-w : w ≡ offset_size_of (placed o is)) where
  -- widths are at most 8
  pub widths_low : (l ≤ 8) × (w ≤ 8)
  unfolding length_size_of offset_size_of
  widths_low = (rw wide-l (least_width-within _), rw wide-w (least_width-within _))

  -- widths that hold every size and offset of items that fit
  pub widths_hold : Fits is → Entries l w (placed o is)
  widths_hold fits =
      let ps = placed o is in
      let sum_low : sum (map (λ p. p.size) ps) < 2 ^ 64 = rw (sizes_placed o is) fits.sizes in
      record {
        narrow = widths_low;
        sizes = ap (λ (k : ℕ). all_of (λ p. holds k p.size) ps) wide-l ∙ sizes_held ps (sizes_eight ps sum_low);
        offsets = ap (λ (k : ℕ). all_of (λ p. holds_offset k p.offset) ps) wide-w ∙ offsets-held ps (offsets_eight o is fits.offsets);
      }

  pub ploc_numbers : {n : ℕ} → n ≡ length is
      → bytes_of 4 0 ++ (bytes_of 1 (l * 16 + w) ++ (bytes_of 2 0 ++ (bytes_of 2 n ++ entry_bytes l w (placed o is)))) ≡ ploc_body (placed o is)
  unfolding ploc_body
  ploc_numbers count =
      let (low-l, low-w) = widths_low in
      rw (one_byte (l * 16 + w) (omega arith), count, ← length-placed o is, wide-l, wide-w)

  pub ploc_long : length (ploc_body (placed o is)) ≡ 9 + length (entry_bytes l w (placed o is))
  unfolding ploc_body
  ploc_long = simp (length-append, length-bytes_of, sym wide-l, sym wide-w) (omega arith)

module _ (o : Bool) (list : List ℕ) where
  pub ploc-box_long : {l w : ℕ} → l ≡ length_size_of (placed o (items list)) → w ≡ offset_size_of (placed o (items list))
      → length (ploc_box o list) ≡ 17 + length (entry_bytes l w (placed o (items list)))
  ploc-box_long wide-l wide-w =
      omega (arith, length-boxed ploc.code (ploc_body (placed o (items list))), front-size, ploc_long o (items list) wide-l wide-w)

  pub ploc_size_of : {n : ℕ} → n ≡ min (length (ploc_body (placed o (items list)))) (file_limit + 1) → length (ploc_box o list) ≤ file_limit
      → n ≡ length (ploc_body (placed o (items list)))
  ploc_size_of size small = omega (arith, length-boxed ploc.code (ploc_body (placed o (items list))))

-- ---- `pseg`

module _ (h : SegmentHeader) (o : Bool) (list texts lengths : List ℕ) where
  abbrev body : List ℕ
  body = pseg_body (asks h o list [] texts lengths)

  pub pseg_boxes : pshd_box h ++ (ploc_box o list ++ surl_boxes (surls_of texts lengths)) ≡ body
  unfolding asks pseg_body pshd_body surls
  pseg_boxes = refl

  pub pseg-box_long : length (pseg_box h o list texts lengths) ≡ 8 + (length (pshd_box h) + (length (ploc_box o list) + length (surl_boxes (surls_of texts lengths))))
  pseg-box_long =
      length-boxed pseg.code body
      ∙ omega (
        arith,
        front-size,
        ap length pseg_boxes,
        length-append (pshd_box h) (ploc_box o list ++ surl_boxes (surls_of texts lengths)),
        length-append (ploc_box o list) (surl_boxes (surls_of texts lengths)),
      )

  pub pseg_size_of : {n : ℕ} → n ≡ min (length body) (file_limit + 1) → length (pseg_box h o list texts lengths) ≤ file_limit → n ≡ length body
  pseg_size_of size small = omega (arith, length-boxed pseg.code body)
