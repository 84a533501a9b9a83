-- Document 01, "Rows fill the lent tables from the front; the rest keeps its contents": rows put into a table from a
-- number on.
use Rattle.std.specs.Prelude.{ℕ, ◌+◌, ◌≤◌, List, ◌≡◌, length}
use Rattle.numerals.specs.Stored.{stored}

-- a table is as long as it was and, where there was room for them all, holds these numbers from that one on, and else
-- what it held
pub record Put (before : List ℕ) (at : ℕ) (rows : List ℕ) (table : List ℕ) : Type 0 where
  pub long : length table ≡ length before
  pub held : at + length rows ≤ length before → table ≡ stored before at rows

-- numbers are put from one on, and they end at the next
pub record Puts (before : List ℕ) (at : ℕ) (rows : List ℕ) (after : List ℕ) (next : ℕ) : Type 0 where
  pub put : Put before at rows after
  pub end : next ≡ at + length rows
