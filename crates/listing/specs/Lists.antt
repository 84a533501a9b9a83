-- Document 01, "Lists": the two lists of the positions below an end, what they hold together, and how they stand in the
-- lent lists.
use Rattle.std.specs.Prelude.{ℕ, ◌+◌, ◌<◌, ◌≤◌, ◌^◌, List, [], ◌∷◌, ◌++◌, ◌≡◌, length}
use Rattle.partial.specs.Ranges.{Range as Stretch, had, missing, ranges, of_class, total}
use Rattle.partial.specs.Tables.{range_rows}
use Rattle.filling.specs.Rows.{Put}
use Rattle.sweeping.specs.Classes.{class_no}
use Rattle.sweeping.specs.declared.ranges.Range.{Range}
use Rattle.partial.specs.declared.answers.Lists.{Lists as Totals}

-- ranges stand in the two lists, each behind those of its class before it, and are counted
pub record Stands (rs : List Stretch) (had₀ had₁ missing₀ missing₁ : List ℕ) (t : Totals) : Type 0 where
  pub had_many : t.had ≡ length (of_class had rs)
  pub missing_many : t.missing ≡ length (of_class missing rs)
  pub received : t.received_total ≡ total (of_class had rs)
  pub missed : t.missing_total ≡ total (of_class missing rs)
  pub had_rows : Put had₀ 0 (range_rows (of_class had rs)) had₁
  pub missing_rows : Put missing₀ 0 (range_rows (of_class missing rs)) missing₁

-- all positions below an end are in the two lists, each by its class
abbrev pub PutLists : (ℕ → ℕ) → ℕ → List ℕ → List ℕ → List ℕ → List ℕ → Totals → Type 0
PutLists class end had₀ had₁ missing₀ missing₁ t = Stands (ranges class end 0) had₀ had₁ missing₀ missing₁ t

-- what is counted of the positions before one is no more than they are
pub record Bounded (t : Totals) (p : ℕ) : Type 0 where
  pub had_many : t.had ≤ p
  pub missing_many : t.missing ≤ p
  pub received : t.received_total ≤ p
  pub missed : t.missing_total ≤ p

-- a range from a position on is of one of the two classes, is not empty and ends in 64 bits
pub record Proper (p : ℕ) (r : Range) : Type 0 where
  pub class : class_no r.class ≤ had
  pub some : 0 < r.length
  pub ends : p + r.length < 2 ^ 64

-- one range more
abbrev pub Joins : Totals → ℕ → Range → List ℕ → List ℕ → List ℕ → List ℕ → Totals → Type 0
Joins t p r had₁ had₂ missing₁ missing₂ t' =
    (rs : List Stretch) (had₀ missing₀ : List ℕ) → Stands rs had₀ had₁ missing₀ missing₁ t
    → Stands (rs ++ (record { class = class_no r.class; first = p; length = r.length } ∷ [])) had₀ had₂ missing₀ missing₂ t'
