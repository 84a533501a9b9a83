-- `salvaging::places::copy_size` meets its contract: a box that stays is copied as it is, or, a container, without its
-- index.
use mathlib.Core.Path.{ap}
use Rattle.boxes.specs.Framing.{box_of}
use Rattle.boxes.specs.Kinds.{pseg}
use Rattle.rescue.specs.Table.{code_told}
use Rattle.tallying.proofs.FoundLaws.{is_kind, is_other}
use Rattle.salvaging.proofs.TableLaws.{size_none, size_pfil, size_pseg, size_whole}
use Rattle.salvaging.proofs.places.copy_size.Goals as goal

pub returns-in-Dropped : goal.returns-in-Dropped
returns-in-Dropped c h sound there same coded = size_none _ h sound _ there coded same (ap code_told c.in-Dropped.is)

pub returns-then-number-eq-PFIL_NUMBER : goal.returns-then-number-eq-PFIL_NUMBER
unfolding box_of
returns-then-number-eq-PFIL_NUMBER c h sound there same coded =
    size_pfil _ h sound _ there coded same (ap code_told c.in_default.is) _ c.saturating_sub-front.ensures c.saturating_add.ensures c.if-number-eq-PFIL_NUMBER.true (rw c.as_container.ensures at c.inner_size.ensures)

pub returns-then-eq : goal.returns-then-eq
unfolding box_of
returns-then-eq c h sound there same coded =
    size_pseg _ h sound _ there coded same (ap code_told c.in_default.is) _ c.saturating_sub-front.ensures c.saturating_add-then-eq.ensures c.if-number-eq-PFIL_NUMBER.false
    (is_kind pseg _ c.eq.ensures c.if-eq.true) (rw c.as_container-then-eq.ensures at c.inner_size-then-eq.ensures)

pub returns : goal.returns
unfolding box_of
returns c h sound there same coded =
    size_whole _ h sound _ there coded same (ap code_told c.in_default.is) c.if-number-eq-PFIL_NUMBER.false (is_other pseg _ c.eq.ensures c.if-eq.false) c.saturating_sub.ensures
