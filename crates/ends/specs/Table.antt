-- What the ends of segments say, in a table that has an entry for each source.
use Rattle.std.specs.Prelude.{ℕ, ◌+◌, ◌*◌, ◌/◌, ◌%◌, ◌^◌, ◌<◌, ◌≤◌, true, false, not, Option, None, Some, option_map, List, [], ◌≡◌, eqb, ltb, length, get_or}
use Rattle.std.specs.Bool.{then_some}
use Rattle.partial.specs.declared.position.Position.{Position}
use Rattle.partial.specs.Segments.{Segment}
use Rattle.partial.specs.Sources.{of_source}
use Rattle.ends.specs.Sizes.{sizes_of}
use Rattle.ends.specs.declared.sizes.Sizes.{Sizes}

-- the numbers of an entry
abbrev pub entry_length : ℕ
entry_length = 2

-- as many sources as a file may have segments
abbrev pub sources : ℕ
sources = 64

-- the numbers of the table
abbrev pub all_sizes : ℕ
all_sizes = entry_length * sources

-- above every position of a source
abbrev pub flag : ℕ
flag = 2 ^ 40

-- the first number of an entry: the size with the flag, 0 where it is not known
abbrev pub size_number : Option Position → ℕ
size_number (Some p) = p.0 % flag + flag
size_number None = 0

-- an entry: the size, with the flag if it is known, and the largest end, with the flag if two segments that make the size
-- known end apart; so zeros are the entry of no segment
abbrev pub entry_in : List ℕ → ℕ → Sizes
entry_in t at =
    record {
      size = then_some (not (eqb (get_or t at 0 / flag) 0)) (record { 0 = get_or t at 0 % flag });
      largest = record { 0 = get_or t (at + 1) 0 % flag };
      same = eqb (get_or t (at + 1) 0 / flag) 0;
    }

-- what an entry has room for: positions below the flag
abbrev pub kept_sizes : Sizes → Sizes
kept_sizes x = record { size = option_map (λ p. record { 0 = p.0 % flag }) x.size; largest = record { 0 = x.largest.0 % flag }; same = x.same }

-- the entry of a source; past the table that of no segment
unfoldable pub sizes_in : List ℕ → ℕ → Sizes
sizes_in t source = elim (ltb source sources) [ true ↦ entry_in t (entry_length * source) | false ↦ sizes_of [] ]

-- a table after the entry of a source was put, where it has one: every other stays, number by number, and the first
-- number of the entry holds nothing but the size
pub record SizesPut (before : List ℕ) (source : ℕ) (x : Sizes) (table : List ℕ) : Type 0 where
  pub long : length table ≡ length before
  pub here : source < sources → length before ≡ all_sizes → sizes_in table source ≡ kept_sizes x
  pub others : (k : ℕ) → (k ≡ source → ⊥) → sizes_in table k ≡ sizes_in before k
  pub first : source < sources → length before ≡ all_sizes → get_or table (entry_length * source) 0 ≡ size_number x.size
  pub ahead : (i : ℕ) → i < entry_length * source → get_or table i 0 ≡ get_or before i 0
  pub behind : (i : ℕ) → entry_length * source + entry_length ≤ i → get_or table i 0 ≡ get_or before i 0

-- a table of which each entry is that of no segment, and each number is 0
pub record Cleared (table : List ℕ) : Type 0 where
  pub long : length table ≡ all_sizes
  pub none : (source : ℕ) → sizes_in table source ≡ sizes_of []
  pub zeros : (i : ℕ) → get_or table i 0 ≡ 0

-- a table that holds of each source what the ends of its segments say
pub record Holds (table : List ℕ) (ss : List Segment) : Type 0 where
  pub long : length table ≡ all_sizes
  pub said : (n : ℕ) → sizes_in table n ≡ sizes_of (of_source n ss)
