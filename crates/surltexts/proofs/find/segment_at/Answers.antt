-- `surltexts::find::segment_at` meets its contract. The loop's invariant: the box of the number is among those that are
-- left, behind so many fewer of its kind.
use mathlib.Core.Path.{sym, ap, ◌∙◌}
use Rattle.std.specs.Prelude.{Some}
use Rattle.boxes.specs.Kinds.{pseg}
use Rattle.boxes.proofs.ToldLaws.{was-ok, was-err}
use Rattle.boxes.proofs.WalkLaws.{fewer, next_box, no_more, a_fault}
use Rattle.tallying.proofs.FoundLaws.{asked_none, asked_more, asked_next, asked_end, asked_sound, is_kind, is_other}
use Rattle.surltexts.proofs.FindLaws.{pseg_at, pseg_none, pseg_other, pseg_first, pseg_later}
use Rattle.surltexts.proofs.find.segment_at.Goals as goal

pub loop-b-init : goal.loop-b-init
loop-b-init c = asked_none _ _ _

pub returns-then-before-eq0 : goal.returns-then-before-eq0
returns-then-before-eq0 c bs known =
    sym
    (asked_next c.new-walk.ensures c.loop-b.invariant known (next_box c.step.ensures (was-ok c.ok.ensures.value (c.in_ok-b.was ∙ ap Some c.in-Some.is)))
    (λ rest. pseg_first _ rest (is_kind pseg _ c.eq.ensures c.if-eq.true) c.if-before-eq0.true))

pub loop-b-smaller-then-eq : goal.loop-b-smaller-then-eq
loop-b-smaller-then-eq c = fewer _ _ (next_box c.step.ensures (was-ok c.ok.ensures.value (c.in_ok-b.was ∙ ap Some c.in-Some.is)))

pub loop-b-preserved-then-eq : goal.loop-b-preserved-then-eq
loop-b-preserved-then-eq c =
    asked_more (pseg_at _) c.loop-b.invariant (next_box c.step.ensures (was-ok c.ok.ensures.value (c.in_ok-b.was ∙ ap Some c.in-Some.is)))
    (λ rest. pseg_later _ rest _ (is_kind pseg _ c.eq.ensures c.if-eq.true) c.if-before-eq0.false)

pub loop-b-smaller : goal.loop-b-smaller
loop-b-smaller c = fewer _ _ (next_box c.step.ensures (was-ok c.ok.ensures.value (c.in_ok-b.was ∙ ap Some c.in-Some.is)))

pub loop-b-preserved : goal.loop-b-preserved
loop-b-preserved c =
    asked_more (pseg_at _) c.loop-b.invariant (next_box c.step.ensures (was-ok c.ok.ensures.value (c.in_ok-b.was ∙ ap Some c.in-Some.is)))
    (λ rest. pseg_other _ rest _ (is_other pseg _ c.eq.ensures c.if-eq.false))

pub returns-in_err-b : goal.returns-in_err-b
returns-in_err-b c bs known =
    absurd (asked_sound c.new-walk.ensures c.loop-b.invariant known (a_fault c.step.ensures (was-err c.ok.ensures.value c.in_err-b.was).1))

pub returns : goal.returns
returns c bs known =
    let end = no_more c.step.ensures (was-ok c.ok.ensures.value (c.in_ok-b.was ∙ ap Some c.in_default.is)) in
    sym (asked_end c.new-walk.ensures c.loop-b.invariant known end ∙ pseg_none _)
