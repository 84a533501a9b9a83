-- `going::texts::left_behind` meets its contract. The loop's invariant: what both lists say goes by what is left of
-- them.
use Rattle.std.specs.Prelude.{Some}
use mathlib.Core.Path.{refl, ap, ◌∙◌}
use native.Mathlib.Omega.{arith}
use borrow.Author.Rules.{rules}
use Rattle.boxes.proofs.ToldLaws.{was-ok, was-err}
use Rattle.boxes.proofs.WalkLaws.{fewer, next_box, no_more, a_fault}
use Rattle.tallying.proofs.FoundLaws.{asked_none, asked_more, asked_next, asked_end, asked_sound}
use Rattle.surls.proofs.WithinLaws.{met_within, further_within, end_kept}
use Rattle.going.proofs.TextLaws.{passed_on, passed_off}
use Rattle.going.proofs.texts.left_behind.Goals as goal

pub loop-b-init : goal.loop-b-init
loop-b-init c = (asked_none _ _ _, refl, search rules)

pub held_against-requires : goal.held_against-requires
held_against-requires c =
    let inv = c.loop-b.invariant in
    let step = next_box c.step.ensures (was-ok c.ok.ensures.value (c.in_ok-b.was ∙ ap Some c.in-Some.is)) in
    let ends = ap (λ p. p.0) (inv.1 ∙ ap (λ w. w.end) c.new-walk.ensures) in
    (inv.2, further_within (omega (arith, ends, c.requires)) (met_within _ _ _ step))

pub loop-b-smaller : goal.loop-b-smaller
loop-b-smaller c = fewer _ _ (next_box c.step.ensures (was-ok c.ok.ensures.value (c.in_ok-b.was ∙ ap Some c.in-Some.is)))

pub loop-b-preserved : goal.loop-b-preserved
loop-b-preserved c =
    let inv = c.loop-b.invariant in
    let step = next_box c.step.ensures (was-ok c.ok.ensures.value (c.in_ok-b.was ∙ ap Some c.in-Some.is)) in
    let passed = passed_on _ _ _ _ _ _ c.held_against.ensures c.in_ok-cut.was in
    (asked_more _ inv.0 step passed.1, end_kept _ _ _ step ∙ inv.1, passed.0)

pub returns-in_err-cut : goal.returns-in_err-cut
returns-in_err-cut c =
    rw c.from_residual-in_err-cut.ensures
    (λ bs known.
    let step = next_box c.step.ensures (was-ok c.ok.ensures.value (c.in_ok-b.was ∙ ap Some c.in-Some.is)) in
    let passed = passed_off _ _ _ _ c.loop-b.cut _ c.held_against.ensures c.in_err-cut.was in
    asked_next c.new-walk.ensures c.loop-b.invariant.0 known step passed)

pub returns-in_err-b : goal.returns-in_err-b
returns-in_err-b c bs known =
    absurd (asked_sound c.new-walk.ensures c.loop-b.invariant.0 known (a_fault c.step.ensures (was-err c.ok.ensures.value c.in_err-b.was).1))

pub returns : goal.returns
returns c bs known =
    asked_end c.new-walk.ensures c.loop-b.invariant.0 known (no_more c.step.ensures (was-ok c.ok.ensures.value (c.in_ok-b.was ∙ ap Some c.in_default.is)))
