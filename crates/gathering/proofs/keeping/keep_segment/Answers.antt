-- `gathering::keeping::keep_segment` meets its contract: each test is one of the definition's, and what was read is put only
-- where all are passed.
use Prim.Native.Nat.{ℕ, ◌≤◌, ◌<◌}
use mathlib.Core.Path.{sym, subst}
use native.Mathlib.Omega.{arith}
use borrow.Author.Rules.{rules}
use Rattle.boxes.proofs.ToldLaws.{told-ok, told-err}
use Rattle.partial.specs.Limits.{segment_limit, chunk_limit}
use Rattle.gathering.specs.Keeping.{Tried}
use Rattle.gathering.specs.Step.{Fitting, PsegTold, Counted}
use Rattle.gathering.proofs.GatheredLaws.{gathered-segments, gathered_chunks}
use Rattle.gathering.proofs.HandedLaws.{handed_err}
use Rattle.gathering.proofs.KeepingLaws.{so_far_same, few, its_late, tried_late, tried_kept}
use Rattle.gathering.proofs.LateLaws.{beside_full, beside_cut}
use Rattle.gathering.proofs.keeping.keep_segment.Goals as goal

pub returns-then-before-ge-SEGMENT_LIMIT : goal.returns-then-before-ge-SEGMENT_LIMIT
unfolding Counted Tried
returns-then-before-ge-SEGMENT_LIMIT c =
    (tt, λ h kept based ready so. (beside_full _ h kept _ (omega (arith, gathered-segments kept so.gathered)), so))

pub returns-in_err-p : goal.returns-in_err-p
unfolding Counted Tried PsegTold
returns-in_err-p c =
    rw (handed_err _ c.from_residual.ensures.1) (
      tt,
      λ h kept based ready so.
          let short : c.args.before.segments < segment_limit = omega arith in
          let (cut, behind) = subst (PsegTold _ h kept _ _ _ _ _ _ _) c.in_err-p.was (c.pseg_of.ensures.1 h kept based ready (gathered_chunks kept so.gathered)) in
          (beside_cut _ h kept _ (few _ h kept so short) cut, so_far_same _ h kept so (omega arith) behind),
    )

pub returns-in_err-check_late : goal.returns-in_err-check_late
unfolding Counted Fitting PsegTold
returns-in_err-check_late c =
    let (fits, _) = subst (Fitting c.args.before) c.in_ok-p.was c.pseg_of.ensures.0 in
    rw (handed_err _ c.from_residual-in_err-check_late.ensures.1) (
      tt,
      λ h kept based ready so.
          let short : c.args.before.segments < segment_limit = omega arith in
          let r = subst (PsegTold _ h kept _ _ _ _ _ _ _) c.in_ok-p.was (c.pseg_of.ensures.1 h kept based ready (gathered_chunks kept so.gathered)) in
          let found = rw c.list_of-own.ensures at c.source_of-source.ensures in
          let late = its_late _ h kept so short based _ r fits c.requires.2 _ found c.check_late.ensures in
          tried_late _ h kept so short based _ r fits c.requires.2 _ (omega arith) (told-err (λ x. x) late c.in_err-check_late.was),
    )

pub put_read-gathered-requires : goal.put_read-gathered-requires
unfolding Fitting
put_read-gathered-requires c =
    let (few, whole) = subst (Fitting c.args.before) c.in_ok-p.was c.pseg_of.ensures.0 in
    (search rules, few, whole)

pub returns : goal.returns
unfolding Counted Fitting PsegTold
returns c =
    let (fits, _) = subst (Fitting c.args.before) c.in_ok-p.was c.pseg_of.ensures.0 in
    let entered = c.put_read-gathered.ensures in (
      (entered.segments, subst (λ (n : ℕ). n ≤ chunk_limit) (sym entered.chunks) fits),
      λ h kept based ready so.
          let short : c.args.before.segments < segment_limit = omega arith in
          let r = subst (PsegTold _ h kept _ _ _ _ _ _ _) c.in_ok-p.was (c.pseg_of.ensures.1 h kept based ready (gathered_chunks kept so.gathered)) in
          let own = c.list_of-own.ensures in
          let found = rw own at c.source_of-source.ensures in
          let late = its_late _ h kept so short based _ r fits c.requires.2 _ found c.check_late.ensures in
          tried_kept _ h kept so short based _ r fits c.requires.2 (omega arith) (told-ok (λ x. x) late c.in_ok-check_late.was) (rw own at entered),
    )
