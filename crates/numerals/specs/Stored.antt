-- Document 01, "Begin" and "Append": bytes written into a lent buffer. Those before and after them keep their values.
use Rattle.std.specs.Prelude.{ℕ, ◌+◌, ◌≡◌, Bool, true, false, ◌&&◌, List, ◌++◌, length, take, drop, leb}

-- whether a buffer has room for bytes at a place
unfoldable pub room_for : List ℕ → ℕ → List ℕ → Bool
room_for s at bytes = leb (at + length bytes) (length s)

-- the buffer with the bytes at a place; without room for them, the buffer as it is
unfoldable pub stored : List ℕ → ℕ → List ℕ → List ℕ
stored s at bytes = elim (room_for s at bytes) [ true ↦ take at s ++ (bytes ++ drop (at + length bytes) s) | false ↦ s ]

-- what a call that writes the bytes of a value answers, and how it leaves the buffer: nothing is written where the
-- field does not hold the value
pub record Stores (held : Bool) (s : List ℕ) (at : ℕ) (bytes : List ℕ) (answer : Bool) (exit : List ℕ) : Type 0 where
  pub room : answer ≡ (held && room_for s at bytes)
  pub left : exit ≡ elim held [ true ↦ stored s at bytes | false ↦ s ]
