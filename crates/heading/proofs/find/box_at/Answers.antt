-- `heading::find::box_at` meets its contract. The loop's invariant: the box is as many further on as are left to pass.
use Prim.Native.Nat.{◌-◌}
use mathlib.Core.Path.{refl, sym, ap, ◌∙◌}
use Rattle.std.specs.Prelude.{Some, slice_get}
use Rattle.boxes.proofs.ToldLaws.{was-ok, was-err}
use Rattle.boxes.proofs.WalkLaws.{fewer, next_box, no_more, a_fault}
use Rattle.tallying.proofs.FoundLaws.{asked_none, asked_more, asked_next, asked_end, asked_sound}
use Rattle.tallying.proofs.FoundLaws.{number_later}
use Rattle.heading.proofs.find.box_at.Goals as goal

pub loop-b-init : goal.loop-b-init
loop-b-init c = asked_none _ _ _

pub returns-then-left-eq0 : goal.returns-then-left-eq0
returns-then-left-eq0 c bs known =
    sym
    (asked_next c.new-walk.ensures c.loop-b.invariant known (next_box c.step.ensures (was-ok c.ok.ensures.value (c.in_ok-b.was ∙ ap Some c.in-Some.is)))
    (λ rest. rw c.if-left-eq0.true refl))

pub loop-b-smaller : goal.loop-b-smaller
loop-b-smaller c = fewer _ _ (next_box c.step.ensures (was-ok c.ok.ensures.value (c.in_ok-b.was ∙ ap Some c.in-Some.is)))

pub loop-b-preserved : goal.loop-b-preserved
loop-b-preserved c =
    let loop = c.loop-b in
    asked_more (λ bs. slice_get bs (loop.left - 1)) loop.invariant
    (next_box c.step.ensures (was-ok c.ok.ensures.value (c.in_ok-b.was ∙ ap Some c.in-Some.is)))
    (number_later loop.left c.if-left-eq0.false _)

pub returns-in_err-b : goal.returns-in_err-b
returns-in_err-b c bs known =
    absurd (asked_sound c.new-walk.ensures c.loop-b.invariant known (a_fault c.step.ensures (was-err c.ok.ensures.value c.in_err-b.was).1))

pub returns : goal.returns
returns c bs known =
    let end = no_more c.step.ensures (was-ok c.ok.ensures.value (c.in_ok-b.was ∙ ap Some c.in_default.is)) in
    sym (asked_end c.new-walk.ensures c.loop-b.invariant known end)
