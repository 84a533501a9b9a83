-- The three demands hold of the definitions, at the product's source limit; and what was accepted under document 01's
-- limit keeps its answers.
use lib.Dec.{lit<, lit≤}
use Rattle.partial.specs.Limits.{source_limit}
use Rattle.additions.specs.Demands.{Demand1, Demand2, Demand3}
use Rattle.additions.specs.Raised.{Raised}
use Rattle.additions.proofs.AdditionLaws as AdditionLaws
use Rattle.additions.proofs.RaisedWriterLaws.{raised_limit}
use Rattle.additions.proofs.RefusalLaws as RefusalLaws
use Rattle.additions.proofs.WriterLaws as WriterLaws

pub demand1 : Demand1 source_limit
demand1 = RefusalLaws.demand1 source_limit

pub demand2 : Demand2 source_limit
demand2 = WriterLaws.demand2 source_limit (lit< tt)

pub demand3 : Demand3 source_limit
demand3 = AdditionLaws.demand3 source_limit (lit< tt)

pub raised : Raised 4_294_967_295 source_limit
raised = raised_limit 4_294_967_295 source_limit (lit≤ tt)
