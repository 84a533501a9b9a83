-- `segment::whole::starts` meets its contract: of a table that ascends the last place before one is followed by that
-- one, or it stands first or not at all.
use mathlib.Core.Logic.{⊎_elim}
use mathlib.Core.Path.{refl, sym, ◌∙◌}
use native.Mathlib.Omega.{arith}
use borrow.Author.Tests.{eqb-true, eqb-false}
use Rattle.partial.proofs.Meaning.SequenceLaws.{which}
use Rattle.segment.proofs.TopsLaws.{listed_at, listed_not}
use Rattle.segment.proofs.whole.starts.Goals as goal

pub top_at-requires : goal.top_at-requires
top_at-requires c = c.top_before-number.ensures.there

pub returns-then-top_at-place : goal.returns-then-top_at-place
returns-then-top_at-place c =
    listed_at c.top_before-number.ensures.there (sym c.top_at.ensures ∙ c.if-top_at-place.true) refl

pub returns-then-number-eq-TOPS : goal.returns-then-number-eq-TOPS
returns-then-number-eq-TOPS c =
    listed_not c.top_before-number.ensures (λ here. c.if-top_at-place.false (c.top_at.ensures ∙ here)) (λ more. absurd (omega arith)) refl

pub top_at-requires-2 : goal.top_at-requires-2
top_at-requires-2 c = omega (arith, c.top_before-number.ensures.there)

pub returns : goal.returns
returns c =
    let last = c.top_before-number.ensures in
    let next = c.top_at-2.ensures in
    ⊎_elim (λ found. listed_at (omega (arith, last.there)) (sym next ∙ eqb-true _ _ found) found)
    (λ none. listed_not last (λ here. c.if-top_at-place.false (c.top_at.ensures ∙ here)) (λ _ here. eqb-false _ _ none (next ∙ here)) none)
    (which _)
