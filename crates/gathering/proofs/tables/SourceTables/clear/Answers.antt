-- `gathering::tables::SourceTables::clear` meets its contract: each table is cleared.
use Rattle.gathering.proofs.TableLaws.{cleared_blank, blank_noted}
use Rattle.gathering.proofs.tables.SourceTables.clear.Goals as goal

pub returns : goal.returns
returns c =
    let blank = cleared_blank c.clear_sizes.ensures c.clear_sources.ensures c.clear_lists.ensures in
    (blank, λ f h. blank_noted f h blank)
