-- `gathering::step::segment_of` meets its contract: it goes by its box, and what was read of that is put.
use Prim.Native.Nat.{ℕ, ◌≤◌}
use mathlib.Core.Path.{sym, subst}
use native.Mathlib.Omega.{arith}
use borrow.Author.Rules.{rules}
use Rattle.partial.specs.Limits.{chunk_limit}
use Rattle.gathering.specs.Step.{Fitting, PsegTold, Counted, Segmented}
use Rattle.gathering.proofs.GatheredLaws.{gathered_chunks}
use Rattle.gathering.proofs.HandedLaws.{handed_err}
use Rattle.gathering.proofs.StepLaws.{segment-told, any_told}
use Rattle.gathering.proofs.step.segment_of.Goals as goal

pub returns-in_err-p : goal.returns-in_err-p
unfolding Counted Segmented PsegTold
returns-in_err-p c =
    rw (handed_err _ c.from_residual.ensures.1) (
      tt,
      λ h ss based ready beside.
          (subst (PsegTold _ h ss _ _ _ _ _ _ _) c.in_err-p.was (c.pseg_of.ensures.1 h ss based ready (gathered_chunks ss beside.gathered))).0,
    )

pub put_read-gathered-requires : goal.put_read-gathered-requires
unfolding Fitting
put_read-gathered-requires c =
    let (few, whole) = subst (Fitting c.args.before) c.in_ok-p.was c.pseg_of.ensures.0 in
    (search rules, few, whole)

pub returns : goal.returns
unfolding Counted Segmented Fitting PsegTold
returns c =
    let judged = c.pseg_of.ensures in
    let (few, _) = subst (Fitting c.args.before) c.in_ok-p.was judged.0 in
    let entered = c.put_read-gathered.ensures in (
      (entered.segments, subst (λ (n : ℕ). n ≤ chunk_limit) (sym entered.chunks) few),
      λ h ss based ready beside.
          let chunks = gathered_chunks ss beside.gathered in
          let r = subst (PsegTold _ h ss _ _ _ _ _ _ _) c.in_ok-p.was (judged.1 h ss based ready chunks) in
          segment-told _ h ss _ (any_told _ h based) _ r.parts (omega (arith, few)) r.near c.args.last c.requires.2 based.in_pfil beside r.read r.many r.ran
          (rw c.list_of-list.ensures at entered),
    )
