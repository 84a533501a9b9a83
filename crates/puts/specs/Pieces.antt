-- Document 01, "Begin" and "Append": what a lent buffer holds after something was put there, and where the next goes. A
-- piece that is put whole or not at all is `PutsPiece`, of the crate of texts.
use Rattle.std.specs.Prelude.{ℕ, ◌+◌, ◌-◌, ◌^◌, ◌<◌, min, Bool, true, false, List, ◌++◌, ◌≡◌, length}
use Rattle.numerals.specs.Numbers.{bytes_of}
use Rattle.numerals.specs.Stored.{stored}
use Rattle.filling.specs.Rows.{Puts}

-- the bytes of a value are stored from a place on, if its field holds the value and there is room for them, and they
-- end at the next; an end past 64 bits counts as the largest number that they hold
pub record PutsField (held : Bool) (before : List ℕ) (at : ℕ) (bytes : List ℕ) (after : List ℕ) (next : ℕ) : Type 0 where
  pub left : after ≡ elim held [ true ↦ stored before at bytes | false ↦ before ]
  pub end : next ≡ min (at + length bytes) (2 ^ 64 - 1)

-- pieces are put one behind the other into a buffer that stays as long; where 64 bits hold the end of the last, they
-- stand there if there was room for them all
pub record PutsPieces (before : List ℕ) (at : ℕ) (bytes : List ℕ) (after : List ℕ) (next : ℕ) : Type 0 where
  pub long : length after ≡ length before
  pub puts : at + length bytes < 2 ^ 64 → Puts before at bytes after next

-- the header of a box with a body of n bytes in the large form: the size field 1, the type, the size in 64 bits
abbrev pub large_front : ℕ → ℕ → List ℕ
large_front kind n = bytes_of 4 1 ++ (bytes_of 4 kind ++ bytes_of 8 (16 + n))
