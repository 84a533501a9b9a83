-- Document 01, "Framing" and the `ploc` paragraph: numbers of any width, most significant byte first, and signed ones
-- in two's complement. A field of width 0 has value 0.
use Rattle.std.specs.Prelude.{ℕ, zero, suc, ◌+◌, ◌-◌, ◌*◌, ◌/◌, ◌%◌, ◌^◌, Bool, true, false, List, [], ◌∷◌, ◌++◌, get_or, ltb, leb, ℤ, pos, neg_ℤ}
use Rattle.numerals.specs.declared.numbers.Offset.{Offset}
use Rattle.numerals.specs.declared.numbers.Offset.TheVariants.{Ahead, Back}

-- the number in the w bytes of s from place at
unfoldable pub number : List ℕ → ℕ → ℕ → ℕ
number s at zero = 0
number s at (suc w) = number s at w * 256 + get_or s (at + w) 0

-- the w bytes of n
unfoldable pub bytes_of : ℕ → ℕ → List ℕ
bytes_of zero n = []
bytes_of (suc w) n = bytes_of w (n / 256) ++ (n % 256 ∷ [])

-- what an offset is: n for `Ahead n`, -n for `Back n`
unfoldable pub value_of : Offset → ℤ
value_of (Ahead n) = pos n
value_of (Back n) = neg_ℤ (pos n)

-- the number n of w bytes, read in two's complement: a number of the upper half stands for itself less 256 to the w
unfoldable pub signed : ℕ → ℕ → Offset
signed w n = elim (ltb (2 * n) (256 ^ w)) [ true ↦ Ahead n | false ↦ Back (256 ^ w - n) ]

-- the number whose w bytes stand for an offset in two's complement
unfoldable pub twos_complement : ℕ → Offset → ℕ
twos_complement w (Ahead n) = n
twos_complement w (Back n) = 256 ^ w - n

-- whether w bytes hold a number
unfoldable pub holds : ℕ → ℕ → Bool
holds w n = ltb n (256 ^ w)

-- whether w bytes hold an offset
unfoldable pub holds_offset : ℕ → Offset → Bool
holds_offset w (Ahead n) = ltb (2 * n) (256 ^ w)
holds_offset w (Back n) = leb (2 * n) (256 ^ w)

-- the least number from `from` on, and at most `more` above it, that passes a test
unfoldable pub least : (ℕ → Bool) → ℕ → ℕ → ℕ
least test zero from = from
least test (suc more) from = elim (test from) [ true ↦ from | false ↦ least test more (suc from) ]

-- the least width, of 0 to 8 bytes, that passes a test
unfoldable pub least_width : (ℕ → Bool) → ℕ
least_width test = least test 8 0
