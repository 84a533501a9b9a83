-- Document 02, [7], "whether none, some or all of its bytes are served": the ranges had of a source, and what each answer
-- says.
use Rattle.std.specs.Prelude.{ℕ, ◌+◌, ◌≤◌, ◌<◌, List, [], ◌∷◌, map, ◌≡◌, length, get_or}
use Rattle.partial.specs.ReadingDemands.{Listing}
use Rattle.partial.specs.Ranges.{Range, had_list}
use Rattle.partial.specs.Segments.{Segment}
use Rattle.indexrows.specs.declared.serving.Served.{Served}
use Rattle.indexrows.specs.declared.serving.Served.TheVariants.{Nothing, Part, All}

-- a range as two numbers
abbrev pub range_row : Range → List ℕ
range_row r = r.first ∷ r.length ∷ []

-- these are the ranges had of the segments of a source, and they are as document 01, "Lists", says
pub record HadIn (ss : List Segment) (ranges : List (List ℕ)) : Type 0 where
  pub lists : Listing ss
  pub rows : ranges ≡ map range_row (had_list ss)

-- the first position of a range among some, its length and its end
abbrev pub row_first : List (List ℕ) → ℕ → ℕ
row_first ranges k = get_or (get_or ranges k []) 0 0

abbrev pub row_length : List (List ℕ) → ℕ → ℕ
row_length ranges k = get_or (get_or ranges k []) 1 0

abbrev pub row_end : List (List ℕ) → ℕ → ℕ
row_end ranges k = row_first ranges k + row_length ranges k

-- the ranges before a number end by a place, and the others behind it
pub record Ended (ranges : List (List ℕ)) (place n : ℕ) : Type 0 where
  pub before : (k : ℕ) → k < n → row_end ranges k ≤ place
  pub behind : (k : ℕ) → n ≤ k → k < length ranges → place < row_end ranges k

-- which number says how many are served
abbrev pub served_no : Served → ℕ
served_no Nothing = 0
served_no Part = 1
served_no All = 2
