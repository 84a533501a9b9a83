-- Document 01, "Framing": how many boxes of each kind of the table a container holds, counted in one walk.
use Rattle.std.specs.Prelude.{ℕ, ◌+◌, ◌≤◌, ◌<◌, true, false, List, [], ◌∷◌, map, ◌≡◌, length, get_or, drop, eqb}
use Rattle.boxes.specs.Answer.{Answer, given, ◌>>=◌}
use Rattle.boxes.specs.Framing.{Box}
use Rattle.boxes.specs.Kinds.{rules, those}
use Rattle.boxes.specs.declared.kinds.Kind.{Kind}
use Rattle.boxes.specs.declared.kinds.Rule.{Rule}
use Rattle.tallying.specs.declared.tally.Tally.{Tally}

-- how many there are of the kind of each row of the table
unfoldable pub counts_of : List Box → List ℕ
counts_of bs = map (λ row. length (those row.kind bs)) rules

-- the count of a row after a box of a type: one more where the row's kind has that type
abbrev pub row_after : ℕ → Rule → ℕ → ℕ
row_after code row n = elim (eqb code row.kind.code) [ true ↦ n + 1 | false ↦ n ]

-- the rows of a table from one up to another have counted a box of a type, and the others have not
pub record CountedBy (rs : List Rule) (code from to : ℕ) (before after : List ℕ) : Type 0 where
  pub long : length after ≡ length before
  pub passed : (k : ℕ) → k < to → from ≤ k → (d : Rule) → get_or after k 0 ≡ row_after code (get_or rs k d) (get_or before k 0)
  pub left : (k : ℕ) → (from ≤ k → to ≤ k) → get_or after k 0 ≡ get_or before k 0

-- the numbers of the boxes of a container
unfoldable pub tally_of : List Box → Tally
tally_of bs = record { boxes = length bs; counts = counts_of bs }

-- what is told of a container: the numbers of its boxes, or that of its first fault
abbrev pub tallied : Answer (List Box) → Answer Tally
tallied read = read >>= λ bs. given (tally_of bs)

-- of counts in the order of a table, the one at the first row of a kind; 0 for a kind that the table has not
unfoldable pub count_in : List Rule → Kind → List ℕ → ℕ
count_in [] k counts = 0
count_in (row ∷ rows) k counts = elim (eqb row.kind.code k.code) [ true ↦ get_or counts 0 0 | false ↦ count_in rows k (drop 1 counts) ]

-- the count at the first row of a kind in the table
unfoldable pub tally_for : Kind → List ℕ → ℕ
tally_for = count_in rules
