-- Document 02, [7], refusals 37 and 39 and the rows: what is marked of indexed boxes, as the code gathers it.
use Rattle.std.specs.Prelude.{ℕ, ◌+◌, ◌*◌, Bool, true, false, not, ◌||◌, List, [], ◌∷◌, ◌++◌, ◌≡◌, leb, length}
use Rattle.std.specs.Prelude.{Option}
use Rattle.partial.specs.Index.{Indexed, indexed_size, is_known, level_limit, index_row_length}
use Rattle.partial.specs.Sequences.{all_of}
use Rattle.filling.specs.Rows.{Put}
use Rattle.indexing.specs.declared.marks.Marks.{Marks}

-- a box of the index by its parts
abbrev pub indexed_of : ℕ → ℕ → Option ℕ → ℕ → Indexed
indexed_of level place end kind = record { level = level; place = place; end = end; kind = kind }

-- a row before it is known what is served: level, source place, size, type, 0
unfoldable pub plain_row : Indexed → List ℕ
plain_row i = i.level ∷ i.place ∷ indexed_size i ∷ i.kind ∷ 0 ∷ []

unfoldable pub plain_rows : List Indexed → List ℕ
plain_rows [] = []
plain_rows (i ∷ is) = plain_row i ++ plain_rows is

-- whether one is of a ninth level
unfoldable pub deep_in : List Indexed → Bool
deep_in is = not (all_of (λ i. leb i.level level_limit) is)

-- whether an end is not known
unfoldable pub unknown_in : List Indexed → Bool
unknown_in is = not (all_of (λ i. is_known i.end) is)

-- those that are looked into, whose rows are put
unfoldable pub shown : List Indexed → List Indexed
shown [] = []
shown (i ∷ is) = elim (leb i.level level_limit) [ true ↦ i ∷ shown is | false ↦ shown is ]

-- what is marked with more boxes
abbrev pub marks_with : Marks → List Indexed → Marks
marks_with before is =
    record { count = before.count + length (shown is); deep = before.deep || deep_in is; unknown = before.unknown || unknown_in (shown is) }

-- that they are marked, and their rows are put behind those before
pub record Marked (before : Marks) (t₀ : List ℕ) (is : List Indexed) (m : Marks) (t : List ℕ) : Type 0 where
  pub marks : m ≡ marks_with before is
  pub rows : Put t₀ (index_row_length * before.count) (plain_rows (shown is)) t
