-- `surls::next::next_surl` meets its contract. The loop's invariant: no box passed is a `surl`.
use mathlib.Core.Path.{ap, ◌∙◌}
use Rattle.std.specs.Prelude.{Ok}
use Rattle.boxes.proofs.WalkLaws.{fewer, next_box, no_more, a_fault}
use Rattle.tallying.proofs.FoundLaws.{is_kind, is_other}
use Rattle.boxes.specs.Kinds.{surl}
use Rattle.surls.proofs.NextLaws.{since_none, since_more, since_meets, since_end, since_broken, goes_broken}
use Rattle.surls.proofs.next.next_surl.Goals as goal

pub loop-b-init : goal.loop-b-init
loop-b-init c = since_none _ _

pub returns-then-eq : goal.returns-then-eq
returns-then-eq c =
    since_meets c.loop-b.invariant _ (next_box c.step.ensures (c.in_ok-b.was ∙ ap Ok c.in-Some.is)) (is_kind surl _ c.eq.ensures c.if-eq.true)

pub loop-b-smaller : goal.loop-b-smaller
loop-b-smaller c = fewer _ _ (next_box c.step.ensures (c.in_ok-b.was ∙ ap Ok c.in-Some.is))

pub loop-b-preserved : goal.loop-b-preserved
loop-b-preserved c =
    since_more c.loop-b.invariant _ (next_box c.step.ensures (c.in_ok-b.was ∙ ap Ok c.in-Some.is)) (is_other surl _ c.eq.ensures c.if-eq.false)

pub returns : goal.returns
returns c = since_end c.loop-b.invariant (no_more c.step.ensures (c.in_ok-b.was ∙ ap Ok c.in_default.is))

pub returns-in_err-b : goal.returns-in_err-b
returns-in_err-b c =
    goes_broken _ _ _ _ c.from_residual.ensures.1 (since_broken c.loop-b.invariant (a_fault c.step.ensures c.in_err-b.was))
