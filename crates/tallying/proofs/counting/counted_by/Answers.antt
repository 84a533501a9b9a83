-- `tallying::counting::counted_by` meets its contract. The loop's invariant: the rows passed have counted the box, and
-- the others have not.
use mathlib.Core.Path.{◌≡◌, sym, ◌∙◌}
use lib.ListN.{length}
use borrow.Author.Rules.{rules as goal_rules}
use native.Mathlib.Omega.{arith}
use borrow.Author.Tests.{eqb-true, eqb-false}
use Rattle.boxes.specs.Kinds.{rules}
use Rattle.tallying.proofs.RuleLaws.{rows_none, rows_found, rows_passed}
use Rattle.tallying.proofs.counting.counted_by.Goals as goal
use Rattle.tallying.proofs.counting.counted_by.Goals.{then-eq, else-eq}

pub loop-i-init : goal.loop-i-init
loop-i-init c = rows_none _ _ _ _

pub overflow_add-after : goal.overflow_add-after
overflow_add-after c =
    omega (arith, c.loop-i.invariant.left c.loop-i.i (λ h. omega arith), c.requires.2 c.loop-i.i (omega arith))

pub loop-i-preserved : goal.loop-i-preserved
loop-i-preserved c =
    let long : length c.args.counts ≡ length rules = search goal_rules in
    elim c.if-eq.branch [
      | then-eq w ↦ rw w.after-is (rows_found c.loop-i.invariant (omega arith) c.row_at-row.ensures (omega (arith, long)) (eqb-true _ _ (sym c.eq.ensures ∙ w.if-eq.true)))
      | else-eq w ↦ rw w.after-is (rows_passed c.loop-i.invariant (omega arith) c.row_at-row.ensures (eqb-false _ _ (sym c.eq.ensures ∙ w.if-eq.false)))
    ]

pub returns : goal.returns
returns c =
    let all : c.loop-i.i ≡ c.args.to = omega arith in
    rw all at c.loop-i.invariant
