-- `supplying::runs::run_at` meets its contract. The loop's invariant: no chunk of the source before supplies the
-- position, and those that are left decide.
use Prim.Native.Nat.{ℕ, ◌+◌, ◌-◌, ◌≤◌, ◌<◌, min}
use mathlib.Core.Bool.{Bool, true}
use mathlib.Core.Path.{◌≡◌, refl, sym, ap, ◌∙◌}
use native.Mathlib.Omega.{arith}
use Rattle.partial.specs.Meaning.{supplies}
use Rattle.partial.proofs.Meaning.RunLaws.{supplies_true}
use Rattle.supplying.specs.Rows.{told_of}
use Rattle.supplying.specs.declared.rows.Told.{Told}
use Rattle.supplying.proofs.RunsLaws.{passed_other, passed_more, passed_here, passed_all}
use Rattle.supplying.proofs.runs.run_at.Goals as goal
use Rattle.supplying.proofs.runs.run_at.Goals.{in-Some+else-supplies, in_default}

-- a chunk that supplies a position covers it
covered : (c : Told) (p : ℕ) {b : Bool} → b ≡ supplies p (told_of c) → b ≡ true → (c.start.0 ≤ p) × (p < c.start.0 + c.size)
covered c p told here =
    let (_, from, to) = supplies_true (told_of c) p (sym told ∙ here) in
    (from, to)

pub overflow_sub-left : goal.overflow_sub-left
overflow_sub-left c = (covered c.in-Some.c c.args.p.0 c.supplies.ensures c.if-supplies.true).0

pub overflow_sub-left-then-supplies : goal.overflow_sub-left-then-supplies
overflow_sub-left-then-supplies c = omega (arith, covered c.in-Some.c c.args.p.0 c.supplies.ensures c.if-supplies.true)

pub returns-then-supplies : goal.returns-then-supplies
returns-then-supplies c =
    let (this, row) = c.in-Some.ensures in
    let good = sym c.supplies.ensures ∙ c.if-supplies.true in
    let chunk = c.in-Some.c in
    let left : ℕ = chunk.size - (c.args.p.0 - chunk.start.0) in
    passed_here _ _ _ _ _ _ c.loop-k.invariant (omega arith) row this good refl c.good.ensures
    (c.min.ensures ∙ ap (λ (n : ℕ). min n left) c.saturating_sub.ensures)

pub loop-k-preserved : goal.loop-k-preserved
loop-k-preserved c =
    let passed = c.loop-k.invariant in
    elim c.match-of_source.branch [
      | in-Some+else-supplies w ↦
          let (this, row) = w.in-Some.ensures in
          rw (w.stop-is, w.clip-stop.ensures) (passed_more _ _ _ _ _ _ passed (omega arith) row this (sym w.supplies.ensures ∙ w.if-supplies.false))
      | in_default w ↦ rw w.stop-is (passed_other _ _ _ _ _ _ passed (omega arith) w.in_default.ensures)
    ]

pub returns : goal.returns
returns c = passed_all _ _ _ _ _ _ c.loop-k.invariant (omega arith) refl c.saturating_sub-2.ensures
