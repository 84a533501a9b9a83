-- A piece of a text that is put into a lent buffer: what the buffer holds then, and where the next piece goes.
use Rattle.std.specs.Prelude.{ℕ, ◌+◌, ◌-◌, ◌^◌, min, List, ◌≡◌, length}
use Rattle.numerals.specs.Stored.{stored}

-- the bytes are stored from a place on, if there is room for them, and they end at the next; an end past 64 bits counts
-- as the largest number that they hold
pub record PutsPiece (before : List ℕ) (at : ℕ) (bytes : List ℕ) (after : List ℕ) (next : ℕ) : Type 0 where
  pub left : after ≡ stored before at bytes
  pub end : next ≡ min (at + length bytes) (2 ^ 64 - 1)
