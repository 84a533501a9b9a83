-- Laws of flag bytes and entries: what each test of them decides.
use Prim.Native.Nat.{ℕ, ◌+◌, ◌%◌, ◌≤◌, ◌<◌, min}
use mathlib.Core.Bool.{Bool, true, false}
use mathlib.Core.List.{List}
use mathlib.Core.Path.{◌≡◌, refl, ◌∙◌}
use native.Mathlib.Omega.{arith}
use borrow.Author.Tests.{lt-ltb, le-ltb, ne_eqb}
use lib.Dec.{leb}
use Rattle.boxes.specs.Answer.{refused, given, ◌>>=◌, told_as}
use Rattle.numerals.specs.Numbers.{number, signed}
use Rattle.numerals.specs.declared.numbers.Offset.{Offset}
use Rattle.numerals.proofs.NumberLaws.{number_byte}
use Rattle.partial.specs.Segments.{present}
use Rattle.partial.specs.Entries.{Ploc, state_of, entry}
use Rattle.fields.specs.Entry.{offset_bytes, entry_rest}
use Rattle.std.specs.Prelude.{Result, Ok, Err}
use Rattle.refusals.specs.Refusals.{refusal_no}
use Rattle.refusals.specs.declared.Refusal.{Refusal}
use Rattle.fields.specs.State.{state_no}
use Rattle.fields.specs.declared.state.State.{State}

-- a flag byte with a reserved bit
pub state_reserved : (flags : ℕ) → (flags % 64 ≡ 0 → ⊥) → state_of flags ≡ refused 20
unfolding state_of
state_reserved flags h = simp (state_of, ne_eqb (flags % 64) 0 h)

-- the bytes of an offset
module _ (l : Ploc) (state : ℕ) where
  pub bytes_present : present state ≡ true → offset_bytes l state ≡ l.offset_size
  unfolding offset_bytes
  bytes_present h = simp (offset_bytes, h)

  pub bytes_absent : present state ≡ false → offset_bytes l state ≡ 0
  unfolding offset_bytes
  bytes_absent h = simp (offset_bytes, h)

  pub bytes_most : offset_bytes l state ≤ l.offset_size
  bytes_most = go (present state) refl
    where
      go : (t : Bool) → present state ≡ t → offset_bytes l state ≤ l.offset_size
      go true e = omega (arith, bytes_present e)
      go false e = omega (arith, bytes_absent e)

module _ (f : List ℕ) (l : Ploc) (at : ℕ) where
  pub entry-cut : l.end ≤ at → entry f l at ≡ refused 17
  unfolding entry
  entry-cut h = simp (entry, le-ltb at l.end h)

  module _ (short : at < l.end) {flags : ℕ} (read : flags ≡ number f at 1) (r : Result State Refusal) (told : told_as state_no r ≡ state_of flags) where
    by_flags : entry f l at ≡ (told_as state_no r >>= entry_rest f l at)
    unfolding entry entry_rest offset_bytes
    by_flags = simp (entry, lt-ltb at l.end short, told, read, number_byte)

    pub entry_refused : {n : Refusal} → r ≡ Err n → entry f l at ≡ refused (refusal_no n)
    entry_refused e = by_flags ∙ rw e

    pub entry_known : {state : State} → r ≡ Ok state → entry f l at ≡ entry_rest f l at (state_no state)
    entry_known e = by_flags ∙ rw e

  -- what follows the flags, where the widths were read
  module _ (state : ℕ) {n w : ℕ} (length : n ≡ l.length_size) (width : w ≡ offset_bytes l state) where
    summed : at + 1 + l.length_size + offset_bytes l state ≡ at + 1 + (n + w)
    summed = omega arith

    pub rest_cut : leb (at + 1 + (n + w)) l.end ≡ false → entry_rest f l at state ≡ refused 17
    unfolding entry_rest
    rest_cut h = simp (entry_rest, summed, h)

    pub rest_whole : leb (at + 1 + (n + w)) l.end ≡ true → l.length_size ≤ 8 → l.offset_size ≤ 8 → {size : ℕ} {offset : Offset}
        → size ≡ number f (at + 1) (min n 8) → offset ≡ signed (min w 8) (number f (at + 1 + n) (min w 8))
        → entry_rest f l at state ≡ given (record { state = state; size = size; offset = offset; next = at + 1 + n + w })
    unfolding entry_rest
    rest_whole h length_most offset_most size offset =
        let whole : leb (at + 1 + l.length_size + offset_bytes l state) l.end ≡ true = rw summed h in
        let n-most : min l.length_size 8 ≡ l.length_size = omega arith in
        let w-most : min (offset_bytes l state) 8 ≡ offset_bytes l state = omega (arith, bytes_most l state) in
        simp (entry_rest, whole, size, offset, length, width, n-most, w-most)
