-- `indexing::fields::size_of` meets its contract: each test is one of the definition's.
use borrow.Author.Tests.{ne_eqb}
use Rattle.partial.specs.Index.{size_by}
use Rattle.indexing.proofs.fields.size_of.Goals as goal

pub returns-then-short-eq0 : goal.returns-then-short-eq0
unfolding size_by
returns-then-short-eq0 c = rw c.if-short-eq0.true

pub returns-then-short-eq1 : goal.returns-then-short-eq1
unfolding size_by
returns-then-short-eq1 c = rw (c.if-short-eq1.true, c.unsigned.ensures)

pub returns : goal.returns
unfolding size_by
returns c = rw (size_by, ne_eqb _ 0 c.if-short-eq0.false, ne_eqb _ 1 c.if-short-eq1.false)
