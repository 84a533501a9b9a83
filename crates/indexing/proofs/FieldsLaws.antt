-- Laws of the fields of a `bidx`: what the tests decide, and where its list starts.
use Prim.Native.Nat.{ℕ, ◌+◌, ◌≤◌}
use mathlib.Core.Bool.{Bool, true, false}
use mathlib.Core.List.{List}
use Rattle.std.specs.Prelude.{Option}
use mathlib.Core.Path.{◌≡◌}
use native.Mathlib.Omega.{arith}
use lib.Dec.{leb, eqb}
use Rattle.numerals.specs.Numbers.{number}
use Rattle.boxes.specs.Answer.{refused, given}
use Rattle.boxes.specs.Framing.{Box, user_size}
use Rattle.boxes.proofs.HeaderLaws.{user_most}
use Rattle.partial.specs.Index.{size_by, front_by, index_fields}
use Rattle.indexing.specs.Fields.{fields_of}

-- a header has at least 8 bytes, and at most 32
pub front-sized : (short kind : ℕ) → (8 ≤ front_by short kind) × (front_by short kind ≤ 32)
unfolding front_by
front-sized short kind = go (eqb short 1)
  where
    go : (t : Bool) → (8 ≤ (elim t [ true ↦ 16 | false ↦ 8 ]) + user_size kind) × ((elim t [ true ↦ 16 | false ↦ 8 ]) + user_size kind ≤ 32)
    go true = (omega arith, omega (arith, user_most kind))
    go false = (omega arith, omega (arith, user_most kind))

module _ (f : List ℕ) (b : Box) where
  pub fields_short : leb (b.body + 8) b.end ≡ false → index_fields f b ≡ refused 36
  unfolding index_fields
  fields_short h = simp (index_fields, h)

  module _ {short kind front : ℕ} (s : short ≡ number f b.body 4) (k : kind ≡ number f (b.body + 4) 4) (w : front ≡ front_by short kind) (whole : leb (b.body + 8) b.end ≡ true) where
    pub fields_cut : leb (b.body + front) b.end ≡ false → index_fields f b ≡ refused 36
    unfolding index_fields
    fields_cut h =
        let h' : leb (b.body + front_by (number f b.body 4) (number f (b.body + 4) 4)) b.end ≡ false = rw (w, s, k) at h in
        simp (index_fields, whole, h')

    pub fields_whole : {size : Option ℕ} → size ≡ size_by short (number f (b.body + 8) 8) → leb (b.body + front) b.end ≡ true
        → index_fields f b ≡ given (fields_of (record { size = size; front = front; kind = record { code = kind }; list = record { 0 = b.body + front } }))
    unfolding index_fields
    fields_whole z h =
        let h' : leb (b.body + front_by (number f b.body 4) (number f (b.body + 4) 4)) b.end ≡ true = rw (w, s, k) at h in
        simp (index_fields, whole, h', w, z, ← s, ← k)
