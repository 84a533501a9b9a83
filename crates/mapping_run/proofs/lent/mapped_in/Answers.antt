-- `mapping_run::lent::mapped_in` is safe: a text that was written lies in the buffer.
use Rattle.texts.proofs.WritesLaws.{writes_within}
use Rattle.mapping_run.proofs.lent.mapped_in.Goals as goal

pub written-requires : goal.written-requires
written-requires g c = λ n e. writes_within c.map-named.ensures e

pub written-requires-2 : goal.written-requires-2
written-requires-2 g c = λ n e. writes_within c.missmap-missed.ensures e
