-- What is counted of ranges: how many positions those of each class hold.
use Rattle.std.specs.Prelude.{ℕ, ◌≤◌, Bool, true, false, List, [], ◌∷◌, ◌++◌, ◌≡◌}
use Rattle.partial.specs.Naming.{held, lost}
use Rattle.partial.specs.Ranges.{Range as Stretch, had, of_class, total}
use Rattle.sweeping.specs.Classes.{class_no}
use Rattle.sweeping.specs.declared.ranges.Range.{Range}
use Rattle.mapping.specs.declared.totals.Totals.{Totals}

pub record Counts (rs : List Stretch) (t : Totals) : Type 0 where
  pub received : t.received ≡ total (of_class had rs)
  pub held : t.held ≡ total (of_class held rs)
  pub lost : t.lost ≡ total (of_class lost rs)

-- what is counted of the positions before one is no more than they are
pub record Bounded (t : Totals) (p : ℕ) : Type 0 where
  pub received : t.received ≤ p
  pub held : t.held ≤ p
  pub lost : t.lost ≤ p

-- one range more
abbrev pub Joins : Totals → ℕ → Range → Totals → Type 0
Joins t p r t' = (rs : List Stretch) → Counts rs t → Counts (rs ++ (record { class = class_no r.class; first = p; length = r.length } ∷ [])) t'

-- the numbers that are told of them
unfoldable pub told_of : Bool → Totals → List ℕ
told_of named t = elim named [ true ↦ t.received ∷ t.held ∷ t.lost ∷ [] | false ↦ t.received ∷ t.lost ∷ [] ]
