-- `indexrows::serving::served_of` meets its contract: by where the positions lie to the first range that ends behind
-- their place.
use native.Mathlib.Omega.{arith}
use mathlib.Core.Path.{sym, ◌∙◌}
use Rattle.indexrows.proofs.ServingLaws.{all_of_none, none_behind, none_served, all_served, front-served, back-served}
use Rattle.indexrows.proofs.serving.served_of.Goals as goal

pub returns-then-size-eq0 : goal.returns-then-size-eq0
returns-then-size-eq0 c ss h = sym (all_of_none ss _ _ c.if-size-eq0.true)

pub returns-then-k-had : goal.returns-then-k-had
returns-then-k-had c ss h =
    sym (none_behind h (c.ended_by-k.ensures.1 ss h) _ (omega arith) (omega arith))

pub returns-then-ends_by : goal.returns-then-ends_by
returns-then-ends_by c ss h =
    sym (none_served h (c.ended_by-k.ensures.1 ss h) _ (omega arith) (sym c.ends_by.ensures ∙ c.if-ends_by.true))

pub returns-then-place-first : goal.returns-then-place-first
returns-then-place-first c ss h =
    sym (front-served h (c.ended_by-k.ensures.1 ss h) _ (omega arith) (omega arith) (sym c.ends_by.ensures ∙ c.if-ends_by.false))

pub returns-then-ends_by-2 : goal.returns-then-ends_by-2
returns-then-ends_by-2 c ss h =
    sym (all_served h (c.ended_by-k.ensures.1 ss h) _ (omega arith) (omega arith) (sym c.ends_by-2.ensures ∙ c.if-ends_by-2.true))

pub returns-else-ends_by-2 : goal.returns-else-ends_by-2
returns-else-ends_by-2 c ss h =
    sym (back-served h (c.ended_by-k.ensures.1 ss h) _ (omega arith) (omega arith) (sym c.ends_by-2.ensures ∙ c.if-ends_by-2.false))
