-- Document 02, [1] and [9]: the list of a file's top-level boxes, with whose a vendor's box is, and its first framing
-- error, as the bytes that a program prints.
use Rattle.std.specs.Prelude.{ℕ, ◌+◌, ◌-◌, Bool, true, false, ◌&&◌, List, [], ◌∷◌, ◌++◌, length, leb, eqb}
use Rattle.std.specs.Prelude.{None, Some}
use Rattle.io.specs.Digits.{last_digits}
use Rattle.boxes.specs.Answer.{refused, given, ◌>>=◌, hold}
use Rattle.boxes.specs.Framing.{Box, Fault, Walked, uuid, walked_in}
use Rattle.boxes.specs.declared.kinds.Container.TheVariants.{File}
use Rattle.partial.specs.Limits.{file_limit}
use Rattle.partial.specs.Map.{ascii, decimal, line, refused_line}
use Rattle.partial.specs.Heading.{bytes_in}

-- a byte in two hex digits
unfoldable pub hex : ℕ → List ℕ
hex b = last_digits 16 2 b

-- whether a byte prints: from the space to `~`
unfoldable pub prints : ℕ → Bool
prints b = leb 32 b && leb b 126

-- a byte as it is where it prints, and else `\x` and two hex digits
unfoldable pub shown : ℕ → List ℕ
shown b = elim (prints b) [ true ↦ b ∷ [] | false ↦ ascii "\\x" ++ hex b ]

-- a text of each, one behind the other
module _ {A : Type 0} where
  unfoldable pub each : (A → List ℕ) → List A → List ℕ
  each text [] = []
  each text (x ∷ xs) = text x ++ each text xs

-- the four bytes of a box's type, which follow those of its size
unfoldable pub type_bytes : List ℕ → Box → List ℕ
type_bytes f b = bytes_in f (record { place = b.at + 4; size = 4 })

-- the bytes of a box's user type, which its body follows
unfoldable pub user_bytes : List ℕ → Box → List ℕ
user_bytes f b = bytes_in f (record { place = b.user; size = b.body - b.user })

-- place, size, type and, for `uuid`, the user type
unfoldable pub box_line : List ℕ → Box → List ℕ
box_line f b =
    line (decimal b.at)
    (decimal (b.end - b.at)
    ∷ each shown (type_bytes f b)
    ∷ elim (eqb b.kind uuid) [ true ↦ each hex (user_bytes f b) ∷ [] | false ↦ [] ])

-- of a framing error its place and its number
unfoldable pub fault_line : Fault → List ℕ
fault_line x = line (decimal x.at) (decimal x.number ∷ [])

-- a line for each box that a walk over a file met, and behind them that of the framing error, if it met one
unfoldable pub walk_lines : List ℕ → Walked → List ℕ
walk_lines f w = each (box_line f) w.boxes ++ elim w.fault [ None ↦ [] | Some x ↦ fault_line x ]

-- what a program prints that takes an input of at most so many bytes: the single line of 27 or 1, or those of the walk
unfoldable pub boxes_text : ℕ → List ℕ → List ℕ
boxes_text most input =
    elim (hold 27 (leb (length input) most) >>= λ _. hold 1 (leb (length input) file_limit)) [
      | refused n ↦ refused_line n
      | given _ ↦ walk_lines input (walked_in File input 0 (length input))
    ]
