-- `indexing::marks::size_from` meets its contract: each case is one of the definition's.
use Rattle.partial.specs.Index.{indexed_size}
use Rattle.indexing.proofs.marks.size_from.Goals as goal

pub returns-in-Some : goal.returns-in-Some
unfolding indexed_size
returns-in-Some c level kind = rw c.in-Some.is c.saturating_sub.ensures

pub returns-in-None : goal.returns-in-None
unfolding indexed_size
returns-in-None c level kind = rw c.in-None.is
