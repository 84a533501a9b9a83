-- Laws of the fields of a `pshd`: what the version decides, what the tests of the body decide, and what each answer
-- says.
use Prim.Native.Nat.{ℕ, ◌+◌, ◌-◌, ◌≤◌, min}
use mathlib.Core.Bool.{Bool, true, false}
use mathlib.Core.List.{List}
use mathlib.Core.Path.{◌≡◌, refl}
use native.Mathlib.Omega.{arith}
use borrow.Author.Tests.{eq-eqb, ne_eqb}
use lib.Dec.{eqb}
use Rattle.boxes.specs.Answer.{refused, given}
use Rattle.numerals.specs.Numbers.{number}
use Rattle.boxes.specs.Framing.{Box}
use Rattle.partial.specs.Reading.{offset_width_of, pshd_fields}
use Rattle.fields.specs.Fields.{fields_of}

-- the bytes of `source_byte_offset`
module _ (version : ℕ) where
  pub width_first : version ≡ 0 → offset_width_of version ≡ 4
  unfolding offset_width_of
  width_first h = simp (offset_width_of, eq-eqb version 0 h)

  pub width_other : (version ≡ 0 → ⊥) → offset_width_of version ≡ 8
  unfolding offset_width_of
  width_other h = simp (offset_width_of, ne_eqb version 0 h)

  pub width_most : offset_width_of version ≤ 8
  unfolding offset_width_of
  width_most = go (eqb version 0) refl
    where
      go : (t : Bool) → eqb version 0 ≡ t → offset_width_of version ≤ 8
      go true e = simp (offset_width_of, e) (omega arith)
      go false e = simp (offset_width_of, e) (omega arith)

module _ (f : List ℕ) (b : Box) {width : ℕ} (read : width ≡ offset_width_of (number f b.body 1)) where
  pub fields_other : (b.body + 4 + width + 8 ≡ b.end → ⊥) → fields_of f b ≡ refused 14
  unfolding fields_of pshd_fields
  fields_other h = simp (fields_of, pshd_fields, ← read, ne_eqb (b.body + 4 + width + 8) b.end h)

  pub fields_whole : {flags offset repair : ℕ} → b.body + 4 + width + 8 ≡ b.end → flags ≡ number f (b.body + 1) 3
      → offset ≡ number f (b.body + 4) (min width 8) → repair ≡ number f (b.end - 8) 8
      → fields_of f b ≡ given (record { flags = flags; offset = record { 0 = offset }; repair = repair })
  unfolding fields_of pshd_fields
  fields_whole h flags offset repair =
      let narrow : min width 8 ≡ width = omega (arith, width_most (number f b.body 1)) in
      let last : b.end - 8 ≡ b.body + 4 + width = omega arith in
      simp (fields_of, pshd_fields, ← read, eq-eqb (b.body + 4 + width + 8) b.end h, flags, offset, repair, narrow, last)
