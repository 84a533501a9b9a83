-- `fileindex::parts::source_of` meets its contract: the source of the segment, or that of the list in `pfil`.
use Rattle.boxes.specs.Kinds.{pseg}
use Rattle.tallying.proofs.FoundLaws.{is_kind, is_other}
use Rattle.fileindex.proofs.PartLaws.{sources-segment, sources_file}
use Rattle.fileindex.proofs.parts.source_of.Goals as goal

pub returns-then-eq : goal.returns-then-eq
returns-then-eq c = λ f number ps holds. sources-segment holds (is_kind pseg _ c.eq.ensures c.if-eq.true) c.source_at.ensures

pub returns : goal.returns
returns c = λ f number ps holds. sources_file holds (is_other pseg _ c.eq.ensures c.if-eq.false)
