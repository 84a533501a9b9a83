-- `gathering::step::pseg_of` meets its contract: each test is one of the definition's.
use Prim.Native.Nat.{◌+◌, ◌≤◌}
use mathlib.Core.Path.{refl, subst}
use native.Mathlib.Omega.{arith}
use Rattle.boxes.proofs.ToldLaws.{box_fields, told-ok, told-err}
use Rattle.partial.specs.Limits.{chunk_limit}
use Rattle.gathering.specs.Chunks.{Chunked}
use Rattle.gathering.specs.Parts.{parts_of}
use Rattle.gathering.specs.Step.{Fitting, PsegTold}
use Rattle.gathering.proofs.HandedLaws.{handed_err}
use Rattle.gathering.proofs.StepLaws.{header_whole, any_told, segment_fault, segment_crowded, segment_far, segment-cut}
use Rattle.gathering.proofs.step.pseg_of.Goals as goal

pub returns-in_err-p : goal.returns-in_err-p
unfolding Fitting PsegTold
returns-in_err-p c =
    rw (handed_err _ c.from_residual.ensures.1)
    (tt, λ h ss based ready chunks. (segment_fault _ h ss _ (any_told _ h based) (told-err parts_of c.parts_of.ensures c.in_err-p.was), λ room. refl))

pub returns-then-before-l : goal.returns-then-before-l
unfolding Fitting PsegTold
returns-then-before-l c =
    let parts = told-ok parts_of c.parts_of.ensures c.in_ok-p.was in
    (tt, λ h ss based ready chunks. (segment_crowded _ h ss _ (any_told _ h based) _ parts (omega arith), λ room. refl))

pub returns-then-start-gt-SOURCE_LIMIT : goal.returns-then-start-gt-SOURCE_LIMIT
unfolding Fitting PsegTold
returns-then-start-gt-SOURCE_LIMIT c =
    let parts = told-ok parts_of c.parts_of.ensures c.in_ok-p.was in
    (tt, λ h ss based ready chunks. (segment_far _ h ss _ (any_told _ h based) _ parts (omega arith) (omega arith), λ room. refl))

pub returns-in_err-cursor : goal.returns-in_err-cursor
unfolding Fitting PsegTold Chunked
returns-in_err-cursor c =
    let parts = told-ok parts_of c.parts_of.ensures c.in_ok-p.was in
    let few : c.args.before.chunks + c.in_ok-p.p.location.count ≤ chunk_limit = omega arith in
    let ran = c.chunks_of.ensures in
    rw (handed_err _ c.from_residual-in_err-cursor.ensures.1) (
      tt,
      λ h ss based ready chunks.
          let (cut, behind) = subst (Chunked _ h _ _ _ _ _ _ _) c.in_err-cursor.was (ran h ready) in
          (segment-cut _ h ss _ (any_told _ h based) _ parts (omega (arith, few, chunks)) (omega arith) c.args.last cut, behind),
    )

pub returns : goal.returns
unfolding Fitting PsegTold Chunked
returns c =
    let parts = told-ok parts_of c.parts_of.ensures c.in_ok-p.was in
    let few : c.args.before.chunks + c.in_ok-p.p.location.count ≤ chunk_limit = omega arith in
    let ran = c.chunks_of.ensures in (
      (few, rw (box_fields _) at (header_whole _ _ _ parts)),
      λ h ss based ready chunks.
          let (cs, e, many, here) = subst (Chunked _ h _ _ _ _ _ _ _) c.in_ok-cursor.was (ran h ready) in
          record { parts = parts; near = omega arith; chunks = cs; read = e; many = many; ran = here },
    )
