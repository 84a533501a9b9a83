-- `segment::placed::lies_whole` meets its contract: each test is one of the definition's, and no whole box ends past
-- the file.
use mathlib.Core.Path.{sym, ◌∙◌}
use borrow.Author.Tests.{leb-false}
use Rattle.segment.proofs.PlacedLaws.{whole_plain, whole_worse, whole_good, whole_far}
use Rattle.segment.proofs.placed.lies_whole.Goals as goal

pub returns-then-not-mixed : goal.returns-then-not-mixed
returns-then-not-mixed c = λ bs known t. sym (whole_plain _ bs _ _ _ c.if-not-mixed.true)

pub returns-then-not-is_good : goal.returns-then-not-is_good
returns-then-not-is_good c =
    λ bs known t. sym (whole_worse _ bs _ _ _ c.if-not-mixed.false (sym c.is_good.ensures ∙ c.if-not-is_good.true))

pub returns-then-not-ends_by : goal.returns-then-not-ends_by
returns-then-not-ends_by c =
    λ bs known t. sym (whole_far _ bs _ _ _ _ known (leb-false _ _ (sym c.ends_by.ensures ∙ c.if-not-ends_by.true)))

pub returns : goal.returns
returns c =
    λ bs known t.
    c.whole_at.ensures bs known t ∙ sym (whole_good _ bs _ _ _ c.if-not-mixed.false (sym c.is_good.ensures ∙ c.if-not-is_good.false))
