-- `tallying::counting::tally` meets its contract. The loop's invariant: the walk has passed as many boxes, and of each
-- kind as many, as were counted.
use mathlib.Core.List.{[], ◌∷◌, ◌++◌}
use mathlib.Core.Path.{refl, sym, ap, ◌∙◌}
use native.Mathlib.Omega.{arith}
use lib.ListN.{length-append}
use Rattle.std.specs.Prelude.{Ok}
use Rattle.boxes.specs.Framing.{box_of}
use Rattle.boxes.specs.Kinds.{those}
use Rattle.boxes.proofs.ToldLaws.{handed_on}
use Rattle.boxes.proofs.WalkLaws.{passed_none, passed_more, all_boxes, first_fault, over_left, fewer, next_box, no_more}
use Rattle.boxes.proofs.WalkLaws.{a_fault}
use Rattle.tallying.specs.Rules.{counts_of, tally_of, tallied}
use Rattle.tallying.proofs.RuleLaws.{counts_few}
use Rattle.tallying.proofs.counting.tally.Goals as goal

pub loop-b-init : goal.loop-b-init
unfolding counts_of those
loop-b-init c = ([], passed_none _ _, refl, refl)

pub overflow_add-boxes : goal.overflow_add-boxes
overflow_add-boxes c =
    let few = over_left c.new-walk.ensures in
    omega arith

pub counted-more-requires : goal.counted-more-requires
counted-more-requires c k =
    let inv = c.loop-b.invariant in
    let few = over_left c.new-walk.ensures in
    rw inv.3 (omega (arith, counts_few inv.0 k, inv.1.counted))

pub loop-b-smaller : goal.loop-b-smaller
loop-b-smaller c = fewer _ _ (next_box c.step.ensures (c.in_ok-b.was ∙ ap Ok c.in-Some.is))

pub loop-b-preserved : goal.loop-b-preserved
unfolding box_of
loop-b-preserved c =
    let inv = c.loop-b.invariant in
    let box = box_of c.in-Some.b in (
      inv.0 ++ (box ∷ []),
      passed_more inv.1 (next_box c.step.ensures (c.in_ok-b.was ∙ ap Ok c.in-Some.is)),
      simp length-append (omega arith),
      c.counted-more.ensures inv.0 box inv.3 refl,
    )

pub returns : goal.returns
unfolding tally_of
returns c =
    let inv = c.loop-b.invariant in
    let end = no_more c.step.ensures (c.in_ok-b.was ∙ ap Ok c.in_default.is) in
    rw (inv.2, inv.3) (sym (ap tallied (all_boxes c.new-walk.ensures inv.1 end)))

pub returns-in_err-b : goal.returns-in_err-b
returns-in_err-b c =
    let fault = a_fault c.step.ensures c.in_err-b.was in
    handed_on (λ t. t) _ _ c.from_residual.ensures.1 ∙ sym (ap tallied (first_fault c.new-walk.ensures c.loop-b.invariant.1 fault))
