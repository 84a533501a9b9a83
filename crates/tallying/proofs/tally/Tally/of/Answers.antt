-- `tallying::tally::Tally::of` meets its contract. The loop's invariant: the rows passed are of other kinds, so those
-- left decide.
use mathlib.Core.Path.{◌≡◌, refl, sym, ◌∙◌}
use native.Mathlib.Omega.{arith}
use borrow.Author.Tests.{eqb-true, eqb-false}
use lib.ListN.{length}
use Rattle.boxes.specs.Kinds.{rules}
use Rattle.tallying.specs.Rules.{count_in, tally_for}
use Rattle.tallying.proofs.RuleLaws.{count_found, count_passed}
use Rattle.tallying.proofs.tally.Tally.of.Goals as goal

pub loop-i-init : goal.loop-i-init
unfolding tally_for
loop-i-init c = refl

pub returns-then-eq : goal.returns-then-eq
returns-then-eq c =
    sym (c.loop-i.invariant ∙ count_found rules _ _ c.loop-i.i c.row_at-row.ensures (omega arith) (eqb-true _ _ (sym c.eq.ensures ∙ c.if-eq.true)))

pub loop-i-preserved : goal.loop-i-preserved
loop-i-preserved c =
    (c.loop-i.invariant ∙ count_passed rules _ _ c.loop-i.i c.row_at-row.ensures (omega arith) (eqb-false _ _ (sym c.eq.ensures ∙ c.if-eq.false)))

pub returns : goal.returns
unfolding count_in
returns c =
    let all : c.loop-i.i ≡ length rules = omega arith in
    sym (rw all at c.loop-i.invariant)
