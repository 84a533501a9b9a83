-- `surls::urls::same_urls` meets its contract. The loop's invariant: the URLs passed are equal, so those before both
-- walks decide, and each walk ends where it did, which is in the file.
use mathlib.Core.Path.{sym, ap}
use native.Mathlib.Omega.{arith}
use Rattle.surls.proofs.BothLaws.{step_none, step_more, step_decided, both_followed, both_ended, both_differ}
use Rattle.surls.proofs.urls.same_urls.Goals as goal

pub returns-then-size-one : goal.returns-then-size-one
returns-then-size-one c bs cs known known' inside inside' = absurd (omega arith)

pub loop-a-init : goal.loop-a-init
loop-a-init c = step_none _ _ _

pub both_next-requires : goal.both_next-requires
both_next-requires c =
    let inv = c.loop-a.invariant in (
      omega (arith, ap (λ p. p.0) inv.one, ap (λ w. w.end.0) c.new-left.ensures),
      omega (arith, ap (λ p. p.0) inv.other, ap (λ w. w.end.0) c.new-right.ensures),
    )

pub loop-a-smaller : goal.loop-a-smaller
loop-a-smaller c = (both_followed _ _ _ _ c.both_next.ensures c.in-Equal.is).one.fewer

pub loop-a-preserved : goal.loop-a-preserved
loop-a-preserved c = step_more c.loop-a.invariant (both_followed _ _ _ _ c.both_next.ensures c.in-Equal.is)

pub returns-in-Ended : goal.returns-in-Ended
returns-in-Ended c bs cs known known' inside inside' =
    let decided = both_ended _ _ _ _ c.both_next.ensures c.in-Ended.is in
    sym (step_decided c.loop-a.invariant c.new-left.ensures c.new-right.ensures decided bs cs known known')

pub returns-in-Differ : goal.returns-in-Differ
returns-in-Differ c bs cs known known' inside inside' =
    let decided = both_differ _ _ _ _ c.both_next.ensures c.in-Differ.is in
    sym (step_decided c.loop-a.invariant c.new-left.ensures c.new-right.ensures decided bs cs known known')
