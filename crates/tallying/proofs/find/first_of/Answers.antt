-- `tallying::find::first_of` meets its contract. The loop's invariant: the first of the kind is among the boxes that
-- are left.
use mathlib.Core.Path.{sym, ap, ◌∙◌}
use Rattle.std.specs.Prelude.{Some}
use Rattle.boxes.proofs.ToldLaws.{was-ok, was-err}
use Rattle.boxes.proofs.WalkLaws.{fewer, next_box, no_more, a_fault}
use Rattle.tallying.specs.Found.{first_in}
use Rattle.boxes.proofs.KindLaws.{those-nil, those_one, those_other}
use Rattle.tallying.proofs.FoundLaws.{asked_none, asked_more, asked_next, asked_end, asked_sound, is_kind, is_other}
use Rattle.tallying.proofs.find.first_of.Goals as goal

pub loop-b-init : goal.loop-b-init
loop-b-init c = asked_none _ _ _

pub returns-then-eq : goal.returns-then-eq
returns-then-eq c bs known =
    sym
    (asked_next c.new-walk.ensures c.loop-b.invariant known (next_box c.step.ensures (was-ok c.ok.ensures.value (c.in_ok-b.was ∙ ap Some c.in-Some.is)))
    (λ rest. ap first_in (those_one _ _ rest (is_kind _ _ c.eq.ensures c.if-eq.true))))

pub loop-b-smaller : goal.loop-b-smaller
loop-b-smaller c = fewer _ _ (next_box c.step.ensures (was-ok c.ok.ensures.value (c.in_ok-b.was ∙ ap Some c.in-Some.is)))

pub loop-b-preserved : goal.loop-b-preserved
loop-b-preserved c =
    asked_more _ c.loop-b.invariant (next_box c.step.ensures (was-ok c.ok.ensures.value (c.in_ok-b.was ∙ ap Some c.in-Some.is))) (λ rest. ap first_in (those_other _ _ rest (is_other _ _ c.eq.ensures c.if-eq.false)))

pub returns-in_err-b : goal.returns-in_err-b
returns-in_err-b c bs known =
    absurd (asked_sound c.new-walk.ensures c.loop-b.invariant known (a_fault c.step.ensures (was-err c.ok.ensures.value c.in_err-b.was).1))

pub returns : goal.returns
returns c bs known =
    let end = no_more c.step.ensures (was-ok c.ok.ensures.value (c.in_ok-b.was ∙ ap Some c.in_default.is)) in
    sym (asked_end c.new-walk.ensures c.loop-b.invariant known end ∙ ap first_in (those-nil _))
