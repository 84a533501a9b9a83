-- `indexing::inner::counted` meets its contract, by the kind of the box.
use mathlib.Core.Path.{sym, ◌∙◌}
use borrow.Author.Rules.{rules}
use borrow.Author.Tests.{eqb-true, eqb-false}
use Rattle.boxes.specs.Framing.{box_limit}
use Rattle.indexing.proofs.InnerLaws.{counted_box, counted_other, counted_part}
use Rattle.indexing.proofs.inner.counted.Goals as goal

pub overflow_add-result : goal.overflow_add-result
unfolding box_limit
overflow_add-result c = search rules

pub returns-then-eq : goal.returns-then-eq
returns-then-eq c = λ bs so_far. counted_box bs c.args.b so_far (eqb-true _ _ (sym c.eq.ensures ∙ c.if-eq.true))

pub overflow_add-result-then-eq-2 : goal.overflow_add-result-then-eq-2
unfolding box_limit
overflow_add-result-then-eq-2 c = search rules

pub returns-then-eq-2 : goal.returns-then-eq-2
returns-then-eq-2 c = λ bs so_far.
    counted_part bs c.args.b so_far (eqb-false _ _ (sym c.eq.ensures ∙ c.if-eq.false)) (eqb-true _ _ (sym c.eq-2.ensures ∙ c.if-eq-2.true)) c.saturating_sub.ensures

pub returns : goal.returns
returns c = λ bs so_far.
    counted_other bs c.args.b so_far (eqb-false _ _ (sym c.eq.ensures ∙ c.if-eq.false)) (eqb-false _ _ (sym c.eq-2.ensures ∙ c.if-eq-2.false))
