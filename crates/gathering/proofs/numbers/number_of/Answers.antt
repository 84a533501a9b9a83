-- `gathering::numbers::number_of` meets its contract.
use mathlib.Core.Path.{sym, ◌∙◌}
use native.Mathlib.Omega.{arith}
use Rattle.fields.proofs.StateLaws.{state-low}
use Rattle.segment.specs.Chunk.{chunk_of}
use Rattle.gathering.proofs.NumberLaws.{number_kept, number_away}
use Rattle.gathering.proofs.numbers.number_of.Goals as goal

pub returns-then-is_present : goal.returns-then-is_present
returns-then-is_present c =
    omega (arith, number_kept (chunk_of c.args.c) (sym c.is_present.ensures ∙ c.if-is_present.true), c.number-state.ensures, state-low c.args.c.state)

pub returns : goal.returns
returns c =
    omega (arith, number_away (chunk_of c.args.c) (sym c.is_present.ensures ∙ c.if-is_present.false), c.number-state.ensures, state-low c.args.c.state)
