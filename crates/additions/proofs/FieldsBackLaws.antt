-- The bodies of `pshd` and `ploc` as we write them read back: the fields, and the head with the widths that hold every
-- size and offset.
use Prim.Native.Nat.{ℕ, ◌+◌, ◌*◌, ◌/◌, ◌%◌, ◌^◌, ◌≤◌, ◌<◌}
use mathlib.Core.Bool.{Bool, true, false}
use mathlib.Core.List.{List, [], ◌∷◌, ◌++◌, map}
use mathlib.Core.Logic.{inl, inr}
use mathlib.Core.Path.{◌≡◌, refl}
use native.Mathlib.Omega.{arith}
use borrow.Author.Tests.{le-leb}
use lib.Dec.{lit<}
use lib.ListN.{length, length-append}
use Rattle.boxes.specs.Answer.{given}
use Rattle.numerals.specs.Numbers.{bytes_of, holds, holds_offset}
use Rattle.boxes.specs.Framing.{Box}
use Rattle.numerals.proofs.NumberLaws.{length-bytes_of}
use Rattle.numerals.proofs.WidthLaws.{least_width-within, least_width_passes, holds_below, below_holds}
use Rattle.partial.specs.Sequences.{all_of, sum}
use Rattle.partial.specs.Entries.{Ploc, ploc_head}
use Rattle.partial.specs.Reading.{offset_width_of, pshd_fields}
use Rattle.additions.specs.Begin.{version_and_flags}
use Rattle.additions.specs.Addition.{Addition, flags_for}
use Rattle.additions.specs.Append.{length_size_of, offset_size_of, entry_bytes, ploc_body, version_for, pshd_body, Placed}
use Rattle.partial.proofs.Meaning.SequenceLaws.{which}
use Rattle.additions.proofs.StandsLaws.{Stands, stands_byte, stands_tail, stands_left, stands_right, stands_number}

-- ---- `pshd`

-- the writer's version has room for the offset
version_holds : (offset : ℕ) → offset < 2 ^ 64 → offset < 256 ^ offset_width_of (version_for offset)
unfolding version_for offset_width_of
version_holds offset h =
    elim (which (holds 4 offset)) [
      | inl e ↦ rw (version_for, e) (omega (arith, holds_below 4 offset e))
      | inr e ↦ rw (version_for, e) (omega arith)
    ]

flags_hold : (last : Bool) → flags_for last < 256 ^ 3
flags_hold true = lit< tt
flags_hold false = lit< tt

pub length-pshd : (a : Addition) → length (pshd_body a) ≡ 4 + offset_width_of (version_for a.source_offset) + 8
unfolding pshd_body
length-pshd a = simp (length-append, length-bytes_of) (omega arith)

pub fields_back : (g : List ℕ) (b : Box) (a : Addition) → Stands g b.body (pshd_body a) → a.source_offset < 2 ^ 64 → a.repair_time < 2 ^ 64
    → pshd_fields g b ≡ record { flags = flags_for a.last; source_offset = a.source_offset; repair_time = a.repair_time; end = b.body + length (pshd_body a) }
unfolding pshd_fields pshd_body
fields_back g b a stands low time =
    let version = version_for a.source_offset in
    let width = offset_width_of version in
    let at = b.body in
    let flags = bytes_of 3 (flags_for a.last) in
    let offset = bytes_of width a.source_offset in
    let repair = bytes_of 8 a.repair_time in
    let after-version : Stands g (at + 1) (flags ++ (offset ++ repair)) = stands_tail g at version (flags ++ (offset ++ repair)) stands in
    let four : at + 1 + length flags ≡ at + 4 = rw length-bytes_of (omega arith) in
    let after-flags : Stands g (at + 4) (offset ++ repair) = rw four at (stands_right g (at + 1) flags (offset ++ repair) after-version) in
    let after-offset : Stands g (at + 4 + width) repair = rw (length-bytes_of width a.source_offset) at (stands_right g (at + 4) offset repair after-flags) in
    let long = length-pshd a in
    let end_same : at + 4 + width + 8 ≡ at + length (pshd_body a) = omega arith in
    rw (
      stands_byte g at version (flags ++ (offset ++ repair)) stands,
      stands_number g (at + 1) 3 (flags_for a.last) (flags_hold a.last) (stands_left g (at + 1) flags (offset ++ repair) after-version),
      stands_number g (at + 4) width a.source_offset (version_holds a.source_offset low) (stands_left g (at + 4) offset repair after-flags),
      stands_number g (at + 4 + width) 8 a.repair_time time after-offset,
      end_same,
    )

-- ---- `ploc`

-- what is read from the head of a `ploc` with such a body
abbrev pub ploc_of : Box → List Placed → Ploc
ploc_of b ps = record { length_size = length_size_of ps; offset_size = offset_size_of ps; count = length ps; first = b.body + 9; end = b.end }

length-ploc : (ps : List Placed) → length (ploc_body ps) ≡ 9 + length (entry_bytes (length_size_of ps) (offset_size_of ps) ps)
unfolding ploc_body
length-ploc ps = simp (length-append, length-bytes_of) (omega arith)

width_length : (ps : List Placed) → length_size_of ps ≤ 8
unfolding length_size_of
width_length ps = least_width-within (λ w. all_of (λ p. holds w p.size) ps)

width_offset : (ps : List Placed) → offset_size_of ps ≤ 8
unfolding offset_size_of
width_offset ps = least_width-within (λ w. all_of (λ p. holds_offset w p.offset) ps)

pub head_back : (g : List ℕ) (b : Box) (ps : List Placed) → Stands g b.body (ploc_body ps) → b.body + length (ploc_body ps) ≡ b.end → length ps < 2 ^ 16
    → (ploc_head g b ≡ given (ploc_of b ps))
    × Stands g (b.body + 9) (entry_bytes (length_size_of ps) (offset_size_of ps) ps)
    × (b.body + 9 + length (entry_bytes (length_size_of ps) (offset_size_of ps) ps) ≡ b.end)
unfolding ploc_head ploc_body
head_back g b ps stands ends few =
    let l = length_size_of ps in
    let o = offset_size_of ps in
    let at = b.body in
    let widths : ℕ = l * 16 + o in
    let entries = entry_bytes l o ps in
    let count = bytes_of 2 (length ps) in
    let index = bytes_of 2 0 in
    let long = length-ploc ps in
    let wide-length = width_length ps in
    let wide-offset = width_offset ps in
    let high : widths / 16 ≡ l = omega arith in
    let lower : widths % 16 ≡ o = omega arith in
    let after-flags : Stands g (at + 4) (widths ∷ (index ++ (count ++ entries))) = rw length-bytes_of at (stands_right g at version_and_flags (widths ∷ (index ++ (count ++ entries))) stands) in
    let five : at + 4 + 1 ≡ at + 5 = omega arith in
    let after-widths : Stands g (at + 5) (index ++ (count ++ entries)) = rw five at (stands_tail g (at + 4) widths (index ++ (count ++ entries)) after-flags) in
    let seven : at + 5 + length index ≡ at + 7 = rw length-bytes_of (omega arith) in
    let after-index : Stands g (at + 7) (count ++ entries) = rw seven at (stands_right g (at + 5) index (count ++ entries) after-widths) in
    let nine : at + 7 + length count ≡ at + 9 = rw length-bytes_of (omega arith) in (
      rw (
        le-leb (at + 9) b.end (omega arith),
        stands_number g at 4 0 (lit< tt) (stands_left g at version_and_flags (widths ∷ (index ++ (count ++ entries))) stands),
        stands_byte g (at + 4) widths (index ++ (count ++ entries)) after-flags,
        high,
        lower,
        le-leb l 8 wide-length,
        le-leb o 8 wide-offset,
        stands_number g (at + 5) 2 0 (lit< tt) (stands_left g (at + 5) index (count ++ entries) after-widths),
        stands_number g (at + 7) 2 (length ps) few (stands_left g (at + 7) count entries after-index),
      ),
      rw nine at (stands_right g (at + 7) count entries after-index),
      omega arith,
    )

-- eight bytes hold every size that has its end below 2 to the 64
pub sizes_eight : (ps : List Placed) → sum (map (λ p. p.size) ps) < 2 ^ 64 → all_of (λ p. holds 8 p.size) ps ≡ true
unfolding all_of sum
sizes_eight [] h = refl
sizes_eight (p ∷ ps) h = rw (below_holds 8 p.size (omega arith)) (sizes_eight ps (omega arith))

-- what eight bytes hold, the widths that are written hold
pub sizes_held : (ps : List Placed) → all_of (λ p. holds 8 p.size) ps ≡ true → all_of (λ p. holds (length_size_of ps) p.size) ps ≡ true
unfolding length_size_of
sizes_held ps h = least_width_passes (λ w. all_of (λ p. holds w p.size) ps) h

pub offsets-held : (ps : List Placed) → all_of (λ p. holds_offset 8 p.offset) ps ≡ true → all_of (λ p. holds_offset (offset_size_of ps) p.offset) ps ≡ true
unfolding offset_size_of
offsets-held ps h = least_width_passes (λ w. all_of (λ p. holds_offset w p.offset) ps) h
