-- Document 01, "Lists": how far the positions from one on are of one class, and what a sweep over ordered spans tells
-- of that.
use Rattle.std.specs.Prelude.{ℕ, ◌+◌, ◌-◌, ◌<◌, ◌≤◌, ◌^◌, true, List, ◌≡◌, eqb}
use Rattle.partial.specs.Sequences.{stretch}
use Rattle.spans.specs.Spans.{first_at, covered_by, class_by, Within}
use Rattle.spans.specs.declared.span.Span.{Span}
use Rattle.sweeping.specs.Classes.{class_no, Run, run_of}
use Rattle.sweeping.specs.declared.ranges.Class.TheVariants.{Missing}
use Rattle.sweeping.specs.declared.ranges.Range.{Range}
use Rattle.sweeping.specs.declared.ranges.Found.{Found}
use Rattle.sweeping.specs.declared.ranges.Reach.{Reach}

-- the class of a position, and how many from there on, below an end, are of that class
unfoldable pub range_in : (ℕ → ℕ) → ℕ → ℕ → Run
range_in class p end = record { class = class p; length = stretch (λ q. eqb (class q) (class p)) (end - p) p }

-- from a position to another all are of one class, and that one is the end or of another class
pub record OneClass (of : ℕ → ℕ) (p end class to : ℕ) : Type 0 where
  pub most : to ≤ end
  pub same : (q : ℕ) → p ≤ q → q < to → of q ≡ class
  pub other : to < end → of to ≡ class → ⊥

-- the first so many of n spans end at or before a position
pub record Passed (t : List Span) (n k p : ℕ) : Type 0 where
  pub most : k ≤ n
  pub ended : Within t k p

-- the positions up to the reach are had, and the spans that are not passed there start behind it, where the first k
-- were passed before
pub record Reaches (t : List Span) (n k p : ℕ) (r : Reach) : Type 0 where
  pub on : p ≤ r.to.0
  pub most : (end : ℕ) → p ≤ end → Within t n end → r.to.0 ≤ end
  pub had : (q : ℕ) → p ≤ q → q < r.to.0 → covered_by t n q ≡ true
  pub passed : Passed t n k p → Passed t n r.passed r.to.0
  pub next : r.passed < n → r.to.0 < first_at t r.passed

-- a range is of no higher class than one, it ends in 64 bits, and below an end it is not empty
pub record GoesOn (most p end : ℕ) (r : Range) : Type 0 where
  pub class : class_no r.class ≤ most
  pub some : p < end → 0 < r.length
  pub ends : p + r.length < 2 ^ 64

-- the range of a position, and the spans that are passed where it ends
pub record Finds (t : List Span) (n p end : ℕ) (r : Found) : Type 0 where
  pub range : run_of r.range ≡ range_in (class_by t n) p end
  pub passed : Passed t n r.passed (p + r.range.length)

-- so many positions that are missing, with so many spans passed
abbrev pub nothing : ℕ → ℕ → Found
nothing passed length = record { range = record { class = Missing; length = length }; passed = passed }
