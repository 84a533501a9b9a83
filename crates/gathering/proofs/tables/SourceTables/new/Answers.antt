-- `gathering::tables::SourceTables::new` meets its contract: each table is one of zeros.
use Rattle.gathering.proofs.TableLaws.{zeros_blank, blank_noted}
use Rattle.gathering.proofs.tables.SourceTables.new.Goals as goal

pub returns : goal.returns
returns c = (zeros_blank, λ f h. blank_noted f h zeros_blank)
