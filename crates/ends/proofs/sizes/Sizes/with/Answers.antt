-- `ends::sizes::Sizes::with` meets its contract: by whether the segment makes the size known, whether one before it
-- did, and where that ended.
use mathlib.Core.Path.{sym, ◌∙◌}
use Rattle.ends.proofs.SizeLaws.{with_stay, with_new, with_later}
use Rattle.ends.proofs.sizes.Sizes.with.Goals as goal

pub returns-then-not-gives : goal.returns-then-not-gives
returns-then-not-gives c =
    λ ss s e ends gives. with_stay _ ss s e _ _ ends c.max.ensures (sym gives ∙ c.if-not-gives.true)

pub returns-then-self : goal.returns-then-self
returns-then-self c =
    λ ss s e ends gives.
    rw c.if-self.true at (with_later _ ss s e _ _ ends c.max.ensures c.in-Some.is (sym gives ∙ c.if-not-gives.false))

pub returns-else-self : goal.returns-else-self
returns-else-self c =
    λ ss s e ends gives.
    let later = with_later _ ss s e _ _ ends c.max.ensures c.in-Some.is (sym gives ∙ c.if-not-gives.false) in
    rw c.if-self.false (rw c.if-self.false at later)

pub returns-in-None : goal.returns-in-None
returns-in-None c =
    λ ss s e ends gives. with_new _ ss s e _ _ ends c.max.ensures c.in-None.is (sym gives ∙ c.if-not-gives.false)
