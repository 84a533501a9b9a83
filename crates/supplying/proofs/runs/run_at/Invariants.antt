-- `supplying::runs::run_at` meets its contract. The loop's invariant: no chunk of the source before supplies the
-- position, and those that are left decide.
use Rattle.supplying.proofs.RunsLaws.{PassedTo}
use Rattle.supplying.proofs.runs.run_at.Given as goal

abbrev pub invariant-loop-k : goal.invariant-loop-k
invariant-loop-k l = PassedTo l.sources l.source l.table l.count l.p.0 l.initial.stop l.k l.stop
