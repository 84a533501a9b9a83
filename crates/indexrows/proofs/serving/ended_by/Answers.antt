-- `indexrows::serving::ended_by` meets its contract: the ranges had lie in the order of their ends.
use borrow.Author.Rules.{rules}
use lib.Dec.{leb}
use Rattle.std.proofs.lemmas.List.Sorted.{IsPartitionPoint-from_clause, IsPartitionedBy-leb}
use Rattle.indexrows.proofs.ServingLaws.{row_by, ends_ascend, parted}
use Rattle.indexrows.proofs.serving.ended_by.Goals as goal

pub returns : goal.returns
returns c =
    let at = c.partition_point.ensures in
    (at.bound, λ ss h. parted h _ _ (IsPartitionPoint-from_clause (λ r. leb (row_by r) c.args.place.0) _ _ at.partitioned (IsPartitionedBy-leb row_by _ _ (ends_ascend h)) (λ a r f' called. search rules)))
