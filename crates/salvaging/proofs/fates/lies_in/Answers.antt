-- `salvaging::fates::lies_in` meets its contract.
use mathlib.Core.Path.{sym, ap, ◌∙◌}
use native.Mathlib.Omega.{arith}
use borrow.Author.Tests.{lt-leb}
use Rattle.boxes.specs.Framing.{box_of}
use Rattle.rescue.specs.Kept.{lies_in}
use Rattle.salvaging.proofs.FatesLaws.{lies_not_good, lies_behind, lies_ends}
use Rattle.salvaging.proofs.fates.lies_in.Goals as goal

pub returns-then-not-is_good : goal.returns-then-not-is_good
returns-then-not-is_good c = sym (lies_not_good _ _ (sym c.is_good.ensures ∙ c.if-not-is_good.true)) ∙ ap (lies_in _) c.chunk_by-c.ensures

pub returns-then-c-b : goal.returns-then-c-b
unfolding box_of
returns-then-c-b c =
    lies_ends _ _ (sym c.is_good.ensures ∙ c.if-not-is_good.false) c.if-c-b.true (omega arith) c.saturating_add.ensures ∙ ap (lies_in _) c.chunk_by-c.ensures

pub returns-else-c-b : goal.returns-else-c-b
unfolding box_of
returns-else-c-b c =
    lt-leb _ _ c.if-c-b.false ∙ sym (lies_behind _ _ (sym c.is_good.ensures ∙ c.if-not-is_good.false) c.if-c-b.false) ∙ ap (lies_in _) c.chunk_by-c.ensures
