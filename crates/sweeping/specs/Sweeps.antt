-- What is told of a sweep over ordered spans: that it stands in the range of a position, or can be moved there.
use Rattle.std.specs.Prelude.{ℕ, ◌<◌, ◌≤◌, List, length}
use Rattle.partial.specs.Ranges.{missing}
use Rattle.sweeping.specs.Ranges.{OneClass, Passed}
use Rattle.spans.specs.Spans.{class_by}
use Rattle.spans.specs.declared.span.Span.{Span}
use Rattle.sweeping.specs.declared.sweep.Sweep.{Sweep}

-- a sweep that has not begun
abbrev pub at_start : Sweep
at_start = record { class = missing; to = record { 0 = 0 }; passed = 0 }

-- a sweep that does not end before a position, nor at it where it lies below the end
pub record Moves (p end : ℕ) (s' : Sweep) : Type 0 where
  pub on : p ≤ s'.to.0
  pub some : p < end → p < s'.to.0

-- the spans that a sweep has passed end where it does, and if it ends behind a position, then it stands in the range of
-- that
pub record Ready (t : List Span) (end p : ℕ) (s : Sweep) : Type 0 where
  pub passed : Passed t (length t) s.passed s.to.0
  pub stands : p < s.to.0 → OneClass (class_by t (length t)) p end s.class s.to.0
