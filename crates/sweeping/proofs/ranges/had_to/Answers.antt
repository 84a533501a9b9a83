-- `sweeping::ranges::had_to` meets its contract. The loop's invariant: the positions up to here are had.
use native.Mathlib.Omega.{arith}
use Rattle.sweeping.proofs.RangeLaws.{reached_none, reached_more, reached_all, reached_end}
use Rattle.sweeping.proofs.ranges.had_to.Goals as goal

pub loop-k-init : goal.loop-k-init
loop-k-init c = reached_none _ _ _ _

pub returns-then-to-span : goal.returns-then-to-span
returns-then-to-span c = reached_end _ _ _ _ c.loop-k.invariant (λ less. omega arith)

pub loop-k-preserved : goal.loop-k-preserved
loop-k-preserved c = reached_more _ _ _ _ c.loop-k.invariant (omega arith) (omega arith) c.max-to.ensures

pub returns : goal.returns
returns c = reached_all _ _ _ _ c.loop-k.invariant c.loop-k-test.false c.max.ensures c.loop-k.auto.k-end
