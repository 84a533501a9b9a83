-- `segment::data::held_at` meets its contract: the box looked at first holds the chunk, or it is looked for.
use mathlib.Core.Path.{sym, ◌∙◌}
use Rattle.segment.proofs.DataLaws.{holds_kind, finds_box}
use Rattle.segment.proofs.data.held_at.Goals as goal

pub returns-then-holds : goal.returns-then-holds
returns-then-holds c =
    let holds = sym c.holds.ensures ∙ c.if-holds.true in
    finds_box _ holds (λ bs p t. p.known (holds_kind _ _ _ holds))

pub returns : goal.returns
returns c = c.found_at.ensures _
