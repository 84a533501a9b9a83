-- `gathering::chunks::chunks_of` meets its contract. The loop's invariant: the chunks so far were read, and the entries
-- that are left decide.
use mathlib.Core.Path.{refl, ◌∙◌}
use native.Mathlib.Omega.{arith}
use borrow.Author.Rules.{rules}
use Rattle.boxes.proofs.ToldLaws.{told-ok, told-err}
use Rattle.segment.specs.Chunk.{step_of}
use Rattle.gathering.specs.Chunks.{Chunked}
use Rattle.gathering.proofs.ChunksLaws.{midway_none, midway_behind, midway_refused, midway_more, midway_left, midway_end}
use Rattle.gathering.proofs.HandedLaws.{handed_err}
use Rattle.gathering.proofs.chunks.chunks_of.Goals as goal

pub loop-i-init : goal.loop-i-init
loop-i-init c = (search rules, refl, λ h ready. midway_none _ h _ _ _ _ _ _ ready.known)

pub returns-in_err-chunk : goal.returns-in_err-chunk
unfolding Chunked
returns-in_err-chunk c =
    λ h ready.
    let so_far = c.loop-i.invariant.2 h ready in
    let step = c.step.ensures.answer h (record { mix = ready.mix; known = so_far.ran.known; listed = ready.listed }) in
    rw (handed_err _ c.from_residual.ensures.1)
    (midway_refused _ h _ _ _ _ _ _ so_far (omega arith) (told-err step_of step c.in_err-chunk.was), midway_behind _ h _ _ _ _ _ _ so_far (omega arith) (omega arith))

pub loop-i-preserved : goal.loop-i-preserved
loop-i-preserved c =
    let put = c.put_chunk.ensures in
    let inv = c.loop-i.invariant in (
      search rules,
      put.long ∙ inv.1,
      λ h ready.
          let so_far = inv.2 h ready in
          let step = c.step.ensures in
          let e = c.in_ok-chunk.was in
          midway_more _ h _ _ _ _ _ _ so_far (omega arith) _ _ (told-ok step_of (step.answer h (record { mix = ready.mix; known = so_far.ran.known; listed = ready.listed })) e) (step.onward h (record { mix = ready.mix; known = so_far.ran.known; listed = ready.listed }) e).known put,
    )

pub returns-then-cursor-end : goal.returns-then-cursor-end
unfolding Chunked
returns-then-cursor-end c =
    λ h ready.
    let so_far = c.loop-i.invariant.2 h ready in
    (midway_left _ h _ _ _ _ _ _ so_far (omega arith) c.if-cursor-end.true, midway_behind _ h _ _ _ _ _ _ so_far (omega arith) (omega arith))

pub returns : goal.returns
returns c =
    λ h ready.
    midway_end _ h _ _ _ _ _ _ (c.loop-i.invariant.2 h ready) (omega arith) (omega arith) c.if-cursor-end.false
