-- `segment::chunk::Cursor::step` meets its contract: each test is one of the definition's.
use mathlib.Core.Path.{refl, sym, ap, ◌∙◌}
use Rattle.boxes.proofs.ToldLaws.{told-ok, told-err, handed_on}
use Rattle.fields.specs.Entry.{entry_of}
use Rattle.segment.specs.Chunk.{step_of}
use Rattle.segment.specs.Placed.{place_answer}
use Rattle.segment.proofs.ChunkLaws.{step_refused, step_far, step_unplaced, step_placed, steps_refused, steps_given}
use Rattle.segment.proofs.chunk.Cursor.step.Goals as goal

pub returns-in_err-e : goal.returns-in_err-e
returns-in_err-e c =
    let fault = told-err entry_of c.entry_at.ensures c.in_err-e.was in
    steps_refused (handed_on step_of _ _ c.from_residual.ensures.1) (λ h ready. step_refused _ _ h _ _ _ fault)

pub returns-then-not-ends_by : goal.returns-then-not-ends_by
returns-then-not-ends_by c =
    let read = told-ok entry_of c.entry_at.ensures c.in_ok-e.was in
    steps_refused refl (λ h ready. step_far _ _ h _ _ _ read (sym c.ends_by.ensures ∙ c.if-not-ends_by.true))

pub returns-in_err-place : goal.returns-in_err-place
returns-in_err-place c =
    let read = told-ok entry_of c.entry_at.ensures c.in_ok-e.was in
    steps_refused (handed_on step_of _ _ c.from_residual-in_err-place.ensures.1)
    (λ h ready. step_unplaced _ _ h _ _ _ read (sym c.ends_by.ensures ∙ c.if-not-ends_by.false) (sym (c.placed_at.ensures.answer h ready) ∙ ap place_answer c.in_err-place.was))

pub returns : goal.returns
returns c =
    let read = told-ok entry_of c.entry_at.ensures c.in_ok-e.was in
    let placed = c.placed_at.ensures in
    let at = c.in_ok-place.was in
    steps_given (λ h ready. step_placed _ _ h _ _ _ read (sym c.ends_by.ensures ∙ c.if-not-ends_by.false) (sym (placed.answer h ready) ∙ ap place_answer at)) (λ h ready. placed.onward h ready at)
