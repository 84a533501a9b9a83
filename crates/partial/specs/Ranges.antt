-- Document 01, "Lists": the maximal ranges of positions of one class, had or missing, below the described length.
use Rattle.std.specs.Prelude.{ℕ, zero, suc, ◌+◌, Bool, true, false, ◌&&◌, List, [], ◌∷◌, map, leb, ltb, eqb}
use Rattle.partial.specs.Sequences.{some_of, sum, within}
use Rattle.partial.specs.Segments.{Segment}
use Rattle.partial.specs.Meaning.{supplied, described_length}

-- a range of positions of one class
pub record Range : Type 0 where
  pub class : ℕ
  pub first : ℕ
  pub length : ℕ

-- one position more, before the ranges that follow it: it joins the first of them exactly where the classes are equal
unfoldable pub joined : ℕ → ℕ → List Range → List Range
joined class p [] = record { class = class; first = p; length = 1 } ∷ []
joined class p (r ∷ rs) =
    elim (eqb class r.class) [
      | true ↦ record { class = class; first = p; length = suc r.length } ∷ rs
      | false ↦ record { class = class; first = p; length = 1 } ∷ (r ∷ rs)
    ]

-- so many positions from p on, cut into maximal ranges of one class
unfoldable pub ranges : (ℕ → ℕ) → ℕ → ℕ → List Range
ranges class zero p = []
ranges class (suc more) p = joined (class p) p (ranges class more (suc p))

-- the classes of a position below the described length
abbrev pub missing : ℕ
missing = 0

abbrev pub had : ℕ
had = 1

-- had if some good chunk supplies it, else missing
unfoldable pub class_of : List Segment → ℕ → ℕ
class_of ss p = elim (supplied ss p) [ true ↦ had | false ↦ missing ]

-- both lists merged, ascending
unfoldable pub ranges_of : List Segment → List Range
ranges_of ss = ranges (class_of ss) (described_length ss) 0

-- the ranges of one class
unfoldable pub of_class : ℕ → List Range → List Range
of_class class [] = []
of_class class (r ∷ rs) = elim (eqb r.class class) [ true ↦ r ∷ of_class class rs | false ↦ of_class class rs ]

-- the two lists
unfoldable pub had_list : List Segment → List Range
had_list ss = of_class had (ranges_of ss)

unfoldable pub missing_list : List Segment → List Range
missing_list ss = of_class missing (ranges_of ss)

-- the total of a list: the sum of the lengths
unfoldable pub total : List Range → ℕ
total rs = sum (map (λ r. r.length) rs)

-- whether a list of ranges holds a position
unfoldable pub among : ℕ → List Range → Bool
among p rs = some_of (λ r. within r.first r.length p) rs

-- ascending, never empty, never touching one of the same list: each range ends below the start of the next
unfoldable pub apart : ℕ → List Range → Bool
apart from [] = true
apart from (r ∷ rs) = leb from r.first && ltb 0 r.length && apart (suc (r.first + r.length)) rs

-- merged ascending: each range starts where the one before it ends, from one position to another
unfoldable pub in_row : ℕ → ℕ → List Range → Bool
in_row from to [] = eqb from to
in_row from to (r ∷ rs) = eqb r.first from && ltb 0 r.length && in_row (r.first + r.length) to rs
