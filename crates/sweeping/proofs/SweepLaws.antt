-- Laws of sweeps: one that has not begun is ready for every position, one that is ready stays so further on, and one
-- that was moved stands in its range.
use Prim.Native.Nat.{ℕ, ◌+◌, ◌<◌, ◌≤◌}
use mathlib.Core.List.{List}
use native.Mathlib.Omega.{arith}
use lib.ListN.{length}
use Rattle.spans.specs.declared.span.Span.{Span}
use Rattle.sweeping.specs.Classes.{class_no}
use Rattle.sweeping.specs.Ranges.{Passed, Finds}
use Rattle.spans.specs.Spans.{class_by}
use Rattle.sweeping.specs.Sweeps.{at_start, Ready}
use Rattle.sweeping.specs.declared.ranges.Found.{Found}
use Rattle.sweeping.specs.declared.sweep.Sweep.{Sweep}
use Rattle.sweeping.proofs.RangeLaws.{found_one}

pub ready_start : (t : List Span) (end p : ℕ) → Ready t end p at_start
ready_start t end p =
    record {
      passed = record { most = omega arith; ended = λ j less. absurd (omega arith) };
      stands = λ less. absurd (omega arith);
    }

module _ {t : List Span} {end p : ℕ} {s : Sweep} (r : Ready t end p s) where
  pub ready_on : {q : ℕ} → p ≤ q → Ready t end q s
  ready_on on =
      record {
        passed = r.passed;
        stands = λ less.
            let one = r.stands (omega arith) in
            record { most = one.most; same = λ i from under. one.same i (omega arith) under; other = one.other };
      }

  -- the spans that were passed are passed further on
  pub ready_passed : s.to.0 ≤ p → Passed t (length t) s.passed p
  ready_passed behind = record { most = r.passed.most; ended = λ j less. omega (arith, r.passed.ended j less) }

pub ready_moved : (t : List Span) (p end : ℕ) → p < end → {f : Found} → Finds t (length t) p end f
    → Ready t end p (record { class = class_no f.range.class; to = record { 0 = p + f.range.length }; passed = f.passed })
ready_moved t p end below {f} finds = record { passed = finds.passed; stands = λ less. found_one (class_by t (length t)) p end below finds.range }
