-- `spans::put::join_span` meets its contract.
use native.Mathlib.Omega.{arith}
use Rattle.spans.proofs.SpanLaws.{span_stored, joined-behind, joined_longer}
use Rattle.spans.proofs.put.join_span.Goals as goal

pub returns-then-last-span : goal.returns-then-last-span
returns-then-last-span c = joined_longer _ _ _ _ (omega arith) c.if-last-span.true (span_stored _ _ _ (omega arith))

pub returns : goal.returns
returns c = joined-behind _ _ _ (span_stored _ _ _ (omega arith))
