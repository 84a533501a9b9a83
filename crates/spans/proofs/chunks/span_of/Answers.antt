-- `spans::chunks::span_of` meets its contract.
use mathlib.Core.Path.{refl}
use native.Mathlib.Omega.{arith}
use Rattle.spans.proofs.ChunkLaws.{span_none, span_empty, span_some}
use Rattle.spans.proofs.chunks.span_of.Goals as goal

pub returns-then-number-state : goal.returns-then-number-state
returns-then-number-state c = span_none _ _ _ (λ is below. omega (arith, c.number.ensures))

pub returns-then-to-first : goal.returns-then-to-first
returns-then-to-first c = span_empty _ _ _ (omega arith)

pub returns : goal.returns
returns c = (refl, c.if-to-first.false, span_some _ _ _ (omega (arith, c.number.ensures)) (omega arith) (omega arith) (omega arith) (λ short. omega arith))
