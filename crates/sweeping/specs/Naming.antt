-- Document 02, [6]: the name of a position by the spans of the good chunks and those of the damaged ones, and what a
-- sweep over each tells of it.
use Rattle.std.specs.Prelude.{ℕ, ◌+◌, true, false, List, ◌≡◌, length}
use Rattle.partial.specs.Naming.{held, lost}
use Rattle.partial.specs.Ranges.{had}
use Rattle.sweeping.specs.Classes.{run_of}
use Rattle.sweeping.specs.Ranges.{range_in}
use Rattle.spans.specs.Spans.{covered_by}
use Rattle.spans.specs.declared.span.Span.{Span}
use Rattle.sweeping.specs.Sweeps.{at_start, Ready}
use Rattle.sweeping.specs.declared.naming.Named.{Named}
use Rattle.sweeping.specs.declared.naming.Sweeps.{Sweeps}

-- had if one of the first n spans of the good chunks holds a position; else held if one of the first m of the damaged
-- ones does, else lost
unfoldable pub name_by : List Span → ℕ → List Span → ℕ → ℕ → ℕ
name_by good n damaged m q = elim (covered_by good n q) [ true ↦ had | false ↦ elim (covered_by damaged m q) [ true ↦ held | false ↦ lost ] ]

-- sweeps that have not begun
abbrev pub both_at_start : Sweeps
both_at_start = record { good = at_start; damaged = at_start }

-- both sweeps are ready for a position
pub record BothReady (good damaged : List Span) (end p : ℕ) (s : Sweeps) : Type 0 where
  pub of_good : Ready good end p s.good
  pub of_damaged : Ready damaged end p s.damaged

-- the range of a position by name, and both sweeps are ready where it ends
pub record Names (good damaged : List Span) (p end : ℕ) (r : Named) : Type 0 where
  pub range : run_of r.range ≡ range_in (name_by good (length good) damaged (length damaged)) p end
  pub ready : BothReady good damaged end (p + r.range.length) r.sweeps
