-- Document 01, "Append": the entries of a `ploc`, and what its fields hold.
use Rattle.std.specs.Prelude.{ℕ, ◌+◌, ◌^◌, ◌≤◌, ◌<◌, Bool, true, false, List, [], ◌∷◌, ◌++◌, map, ◌≡◌, length}
use Rattle.numerals.specs.Numbers.{bytes_of, twos_complement, holds, holds_offset}
use Rattle.numerals.specs.declared.numbers.Offset.{Offset}
use Rattle.additions.specs.Addition.{Item, size_of, data_size, goes_out, goes_in}
use Rattle.additions.specs.Append.{Placed, flag_byte}
use Rattle.partial.specs.Segments.{present}
use Rattle.partial.specs.Sequences.{all_of, sum}
use Rattle.puts.specs.declared.ploc.Backs.{Backs}

-- an entry with these widths, its data at an offset from the `pseg`
abbrev pub entry_of : ℕ → ℕ → ℕ → ℕ → Offset → List ℕ
entry_of l o size state z = flag_byte state ∷ (bytes_of l size ++ elim (present state) [ true ↦ bytes_of o (twos_complement o z) | false ↦ [] ])

-- the widths hold its size and, where the chunk is present, its offset
pub record Entry (l o size state : ℕ) (z : Offset) : Type 0 where
  pub narrow : (l ≤ 8) × (o ≤ 8)
  pub sized : holds l size ≡ true
  pub offset : present state ≡ true → holds_offset o z ≡ true

-- the widths hold every size and offset
pub record Entries (l o : ℕ) (ps : List Placed) : Type 0 where
  pub narrow : (l ≤ 8) × (o ≤ 8)
  pub sizes : all_of (λ p. holds l p.size) ps ≡ true
  pub offsets : all_of (λ p. holds_offset o p.offset) ps ≡ true

-- how far before the `pseg` the data of some items lies, in `pdat`, behind which so many bytes stand outside, and
-- outside
pub record Distances (o : Bool) (out : ℕ) (is : List Item) (b : Backs) : Type 0 where
  pub inside : b.inside ≡ size_of (goes_in o) is + out
  pub outside : b.outside ≡ size_of (goes_out o) is

-- 16 bits hold the count of the items, and eight bytes each size and offset
pub record Fits (is : List Item) : Type 0 where
  pub count : length is < 2 ^ 16
  pub sizes : sum (map (λ i. i.size) is) < 2 ^ 64
  pub offsets : data_size is < 2 ^ 63
