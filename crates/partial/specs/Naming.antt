-- Document 02, [6]: the missing positions by name: held where some damaged chunk covers them, lost where none does.
use Rattle.std.specs.Prelude.{ℕ, Bool, true, false, List}
use Rattle.partial.specs.Sequences.{some_of}
use Rattle.partial.specs.Segments.{Segment, damaged, chunks_of}
use Rattle.partial.specs.Meaning.{covers_as, supplied, described_length}
use Rattle.partial.specs.Ranges.{Range, ranges, of_class, missing, had}

-- the classes of a missing position; one that no damaged chunk covers is of no other class than missing itself
abbrev pub held : ℕ
held = 2

abbrev pub lost : ℕ
lost = missing

-- whether some damaged chunk covers a position, wherever in the file it comes
unfoldable pub damaged_at : List Segment → ℕ → Bool
damaged_at ss p = some_of (covers_as damaged p) (chunks_of ss)

-- had if some good chunk supplies it; else held if some damaged chunk covers it, else lost
unfoldable pub named_class : List Segment → ℕ → ℕ
named_class ss p = elim (supplied ss p) [ true ↦ had | false ↦ elim (damaged_at ss p) [ true ↦ held | false ↦ lost ] ]

-- the ranges of all three, merged ascending: a change of name parts neighbours
unfoldable pub named_ranges : List Segment → List Range
named_ranges ss = ranges (named_class ss) (described_length ss) 0

-- the ranges of one name
unfoldable pub held_list : List Segment → List Range
held_list ss = of_class held (named_ranges ss)

unfoldable pub lost_list : List Segment → List Range
lost_list ss = of_class lost (named_ranges ss)
