-- `gathering::numbers::chunk_by` meets its contract.
use mathlib.Core.Path.{sym, ap, ◌∙◌}
use Rattle.partial.specs.Segments.{present}
use Rattle.gathering.proofs.NumberLaws.{chunk_kept, chunk_away}
use Rattle.gathering.proofs.numbers.chunk_by.Goals as goal

pub returns-then-is_present : goal.returns-then-is_present
returns-then-is_present c =
    rw c.state_of-state.ensures (sym (chunk_kept _ _ (ap present (sym c.state_of-state.ensures) ∙ sym c.is_present.ensures ∙ c.if-is_present.true)))

pub returns : goal.returns
returns c =
    rw c.state_of-state.ensures (sym (chunk_away _ _ (ap present (sym c.state_of-state.ensures) ∙ sym c.is_present.ensures ∙ c.if-is_present.false)))
