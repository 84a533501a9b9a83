-- `indexrows::marking::mark` meets its contract. The loop's invariant: the rows so far are marked.
use mathlib.Core.Path.{refl, ◌∙◌}
use native.Mathlib.Omega.{arith}
use borrow.Author.Rules.{rules}
use Rattle.indexrows.proofs.MarkingLaws.{midway_none, midway_own, midway_other, midway_end}
use Rattle.indexrows.proofs.marking.mark.Goals as goal
use Rattle.indexrows.proofs.marking.mark.Goals.{then-table-at, else-table-at}

pub loop-i-init : goal.loop-i-init
loop-i-init c = (refl, λ mine is say h long starts. midway_none _ mine say is _ starts)

pub loop-i-preserved : goal.loop-i-preserved
loop-i-preserved c =
    elim c.if-table-at.branch [
      | then-table-at w ↦ rw w.table-is (
        search rules,
        λ mine is say h long starts. midway_own _ mine say is _ (c.loop-i.invariant.1 mine is say h long starts) (omega arith) w.if-table-at.true (w.number.ensures ∙ w.served_of.ensures mine h),
      )
      | else-table-at w ↦ rw w.table-is (
        c.loop-i.invariant.0,
        λ mine is say h long starts. midway_other _ mine say is _ (c.loop-i.invariant.1 mine is say h long starts) (omega arith) w.if-table-at.false,
      )
    ]

pub returns : goal.returns
returns c =
    λ mine is say h long starts. midway_end _ mine say is _ (c.loop-i.invariant.1 mine is say h long starts) (omega arith)
