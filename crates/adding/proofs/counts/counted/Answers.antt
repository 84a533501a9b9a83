-- `adding::counts::counted` meets its contract: by whether all that was counted is right.
use borrow.Author.Tests.{not-true, not-false}
use Rattle.adding.proofs.CountLaws.{counted_wrong, counted_all}
use Rattle.adding.proofs.counts.counted.Goals as goal

pub returns-then-not-counts : goal.returns-then-not-counts
returns-then-not-counts c = counted_wrong _ c.counts_of-counts.ensures (not-true _ c.if-not-counts.true)

pub returns : goal.returns
returns c = counted_all _ c.counts_of-counts.ensures (not-false _ c.if-not-counts.false)
