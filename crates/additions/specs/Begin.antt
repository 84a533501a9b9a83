-- Document 01, "Begin": the bytes that it writes, and its refusals in order.
use Rattle.std.specs.Prelude.{ℕ, Bool, true, false, not, ◌&&◌, List, [], ◌∷◌, ◌++◌, length, leb, eqb}
use Rattle.boxes.specs.Answer.{Answer, given, ◌>>=◌, hold}
use Rattle.numerals.specs.Numbers.{bytes_of}
use Rattle.boxes.specs.Framing.{boxed}
use Rattle.boxes.specs.Kinds.{ftyp, pfil, pfhd, surl}
use Rattle.partial.specs.Limits.{file_limit}
use Rattle.partial.specs.Sequences.{all_of}
use Rattle.partial.specs.Heading.{paff, pmff}
use Rattle.partial.specs.declared.brand.Brand.{Brand}
use Rattle.partial.specs.declared.brand.Brand.TheVariants.{Paff, Pmff}

-- version 0, flags 0
abbrev pub version_and_flags : List ℕ
version_and_flags = bytes_of 4 0

-- the brand of a mixed file, and that of any other
abbrev pub brand_for : Bool → Brand
brand_for true = Pmff
brand_for false = Paff

-- the four bytes of a brand that a file is begun with, as a number
unfoldable pub brand_code : Brand → ℕ
brand_code Paff = paff
brand_code Pmff = pmff

-- a `surl`: version 0, flags 0, the two texts, each closed by a zero byte
abbrev pub surl_body : List ℕ → List ℕ → List ℕ
surl_body urlText mimeText = version_and_flags ++ (urlText ++ (0 ∷ (mimeText ++ (0 ∷ []))))

abbrev pub surl_box : List ℕ → List ℕ → List ℕ
surl_box urlText mimeText = boxed surl.code (surl_body urlText mimeText)

-- `ftyp` (the brand as major, minor 0, the brand as the one compatible), then `pfil` holding `pfhd` (flags 0) and one
-- `surl`
unfoldable pub beginning : Brand → List ℕ → List ℕ → List ℕ
beginning brand urlText mimeText =
    boxed ftyp.code (bytes_of 4 (brand_code brand) ++ (bytes_of 4 0 ++ bytes_of 4 (brand_code brand)))
    ++ boxed pfil.code (boxed pfhd.code version_and_flags ++ surl_box urlText mimeText)

-- no zero byte
unfoldable pub is_text : List ℕ → Bool
is_text bytes = all_of (λ b. not (eqb b 0)) bytes

-- what begin answers: its refusals in order, or the length of the file. The buffer is left as `written` says, by
-- `beginning`
unfoldable pub begun : List ℕ → Brand → List ℕ → List ℕ → Answer ℕ
begun buffer brand urlText mimeText = do
  let n = length (beginning brand urlText mimeText)
  _ ← hold 34 (is_text urlText && is_text mimeText)
  _ ← hold 1 (leb n file_limit)
  _ ← hold 33 (leb n (length buffer))
  given n
