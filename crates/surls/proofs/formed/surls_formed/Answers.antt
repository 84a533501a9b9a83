-- `surls::formed::surls_formed` meets its contract. The loop's invariant: each `surl` passed is well-formed, so those
-- left decide, and the walk ends where it did, which is in the file.
use mathlib.Core.Path.{refl, sym, ap, ◌∙◌}
use native.Mathlib.Omega.{arith}
use Rattle.std.specs.Prelude.{Ok}
use Rattle.boxes.specs.Kinds.{surl}
use Rattle.boxes.proofs.WalkLaws.{fewer, next_box, no_more, a_fault}
use Rattle.surls.proofs.FormLaws.{all_formed, formed_none, formed_other, formed_one, formed_ill}
use Rattle.tallying.proofs.FoundLaws.{asked_none, asked_more, asked_next, asked_end, asked_sound, is_kind, is_other}
use Rattle.surls.proofs.WithinLaws.{met_within, further_within, end_kept}
use Rattle.surls.proofs.formed.surls_formed.Goals as goal
use Rattle.surls.proofs.formed.surls_formed.Goals.{else-eq-via-then-eq+else-not-surl_formed, else-eq-via-else-eq}

pub returns-then-file-body : goal.returns-then-file-body
returns-then-file-body c small bs known = absurd (omega arith)

pub loop-step-init : goal.loop-step-init
loop-step-init c = (asked_none _ _ _, refl)

pub surl_formed-requires : goal.surl_formed-requires
surl_formed-requires c =
    further_within (omega (arith, ap (λ p. p.0) c.loop-step.invariant.1, ap (λ w. w.end.0) c.new-walk.ensures)) (met_within _ _ _ (next_box c.step.ensures (c.in-Ok.is ∙ ap Ok c.in-Some.is)))

pub returns-then-not-surl_formed : goal.returns-then-not-surl_formed
returns-then-not-surl_formed c small bs known =
    let ill = sym c.surl_formed.ensures ∙ c.if-not-surl_formed.true in
    sym
    (asked_next c.new-walk.ensures c.loop-step.invariant.0 known (next_box c.step.ensures (c.in-Ok.is ∙ ap Ok c.in-Some.is))
    (λ rest. formed_ill _ _ rest (is_kind surl _ c.eq.ensures c.if-eq.true) ill))

pub loop-step-smaller : goal.loop-step-smaller
loop-step-smaller c = fewer _ _ (next_box c.step.ensures (c.in-Ok.is ∙ ap Ok c.in-Some.is))

pub loop-step-preserved : goal.loop-step-preserved
loop-step-preserved c =
    let inv = c.loop-step.invariant in
    let step = next_box c.step.ensures (c.in-Ok.is ∙ ap Ok c.in-Some.is) in (
      asked_more (all_formed _) inv.0 step
          (elim c.else-eq.branch [
            | else-eq-via-then-eq+else-not-surl_formed w ↦
                λ rest. formed_one _ _ rest (is_kind surl _ c.eq.ensures w.if-eq.true) (sym w.surl_formed.ensures ∙ w.if-not-surl_formed.false)
            | else-eq-via-else-eq w ↦ λ rest. formed_other _ _ rest (is_other surl _ c.eq.ensures w.if-eq.false)
          ]),
      end_kept _ _ _ step ∙ inv.1,
    )

pub returns-in_default-step : goal.returns-in_default-step
returns-in_default-step c small bs known =
    sym (asked_end c.new-walk.ensures c.loop-step.invariant.0 known (no_more c.step.ensures (c.in-Ok.is ∙ ap Ok c.in_default-step.is)) ∙ formed_none _)

pub returns : goal.returns
returns c small bs known = absurd (asked_sound c.new-walk.ensures c.loop-step.invariant.0 known (a_fault c.step.ensures c.in_default.is))
