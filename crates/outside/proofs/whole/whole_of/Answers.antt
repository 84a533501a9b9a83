-- `outside::whole::whole_of` meets its contract. The loop's invariant: the walk has passed as many boxes as were
-- counted, all of them allowed.
use Rattle.std.specs.Prelude.{Some}
use mathlib.Core.List.{[], ◌∷◌, ◌++◌}
use mathlib.Core.Path.{refl, sym, ap, ◌∙◌}
use native.Mathlib.Omega.{arith}
use lib.ListN.{length-append}
use Rattle.boxes.specs.Framing.{box_of}
use Rattle.boxes.proofs.ToldLaws.{was-ok, was-err}
use Rattle.boxes.proofs.WalkLaws.{passed_none, passed_more, fewer, next_box, no_more, a_fault}
use Rattle.outside.proofs.WholeLaws.{all_passed, one_passed, passed_end, passed_fault, passed_other}
use Rattle.outside.proofs.whole.whole_of.Goals as goal

pub loop-b-init : goal.loop-b-init
loop-b-init c = ([], passed_none _ _, refl, all_passed)

pub returns-then-not-may_stand : goal.returns-then-not-may_stand
unfolding box_of
returns-then-not-may_stand c =
    passed_other c.args.bytes.now c.loop-b.invariant.1
    (next_box c.step.ensures (was-ok c.ok.ensures.value (c.in_ok-b.was ∙ ap Some c.in-Some.is))) (sym c.may_stand.ensures ∙ c.if-not-may_stand.true)

pub overflow_add-boxes : goal.overflow_add-boxes
overflow_add-boxes c =
    let inv = c.loop-b.invariant in
    omega (arith, inv.1.counted, inv.2)

pub loop-b-smaller : goal.loop-b-smaller
loop-b-smaller c = fewer _ _ (next_box c.step.ensures (was-ok c.ok.ensures.value (c.in_ok-b.was ∙ ap Some c.in-Some.is)))

pub loop-b-preserved : goal.loop-b-preserved
unfolding box_of
loop-b-preserved c =
    let inv = c.loop-b.invariant in
    let box = box_of c.in-Some.b in (
      inv.0 ++ (box ∷ []),
      passed_more inv.1 (next_box c.step.ensures (was-ok c.ok.ensures.value (c.in_ok-b.was ∙ ap Some c.in-Some.is))),
      simp length-append (omega arith),
      one_passed inv.0 box inv.3 (sym c.may_stand.ensures ∙ c.if-not-may_stand.false),
    )

pub returns-in_err-b : goal.returns-in_err-b
returns-in_err-b c =
    c.from_residual.ensures
    ∙ passed_fault c.args.bytes.now c.loop-b.invariant.1 (a_fault c.step.ensures (was-err c.ok.ensures.value c.in_err-b.was).1)

pub returns : goal.returns
returns c =
    let inv = c.loop-b.invariant in
    ap Some inv.2
    ∙ passed_end c.args.bytes.now inv.1 inv.3 (no_more c.step.ensures (was-ok c.ok.ensures.value (c.in_ok-b.was ∙ ap Some c.in_default.is)))
