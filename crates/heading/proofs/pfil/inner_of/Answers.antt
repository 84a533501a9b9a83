-- `heading::pfil::inner_of` meets its contract: the framing of `pfil`, then each test is a stage's, and what is told is
-- read at the first `surl`.
use mathlib.Core.Path.{refl, sym, ap, ◌∙◌}
use native.Mathlib.Omega.{arith}
use Prim.Native.Nat.{◌≤◌}
use lib.ListN.{length}
use Rattle.boxes.specs.Kinds.{pseg, fidx}
use Rattle.boxes.proofs.ToldLaws.{handed_on}
use Rattle.tallying.proofs.RuleLaws.{tally_fault, tally_given, tally_sound}
use Rattle.partial.specs.Heading.{surl_right}
use Rattle.partial.proofs.Reading.IndexedLaws.{has_counted}
use Rattle.surls.specs.First.{text_in}
use Rattle.heading.specs.Facts.{facts_by, told}
use Rattle.heading.proofs.StageLaws.{inner_refused, pfhd_refused, surl_refused, all_right, body_told, found-told}
use Rattle.heading.proofs.pfil.inner_of.Goals as goal

pub returns-in_err-inner : goal.returns-in_err-inner
returns-in_err-inner c bs tallied same inside front =
    let fault = tally_fault c.tally.ensures c.in_err-inner.was in
    handed_on facts_by _ _ c.from_residual.ensures.1 ∙ ap (told c.args.file.now) (sym (inner_refused c.args.file.now bs front c.args.b same c.as_container-list.ensures fault))

pub returns-then-not-pfhd_right : goal.returns-then-not-pfhd_right
returns-then-not-pfhd_right c bs tallied same inside front =
    let (is, known, counted) = tally_sound c.tally.ensures c.in_ok-inner.was in
    let wrong = sym (c.pfhd_right.ensures is known counted) ∙ c.if-not-pfhd_right.true in
    rw (pfhd_refused c.args.file.now bs front c.args.b same c.as_container-list.ensures known wrong)

pub returns-then-not-surls_formed : goal.returns-then-not-surls_formed
unfolding surl_right
returns-then-not-surls_formed c bs tallied same inside front =
    let (is, known, counted) = tally_sound c.tally.ensures c.in_ok-inner.was in
    let right = sym (c.pfhd_right.ensures is known counted) ∙ c.if-not-pfhd_right.false in
    let within : c.as_container-list.result.end.0 ≤ length c.args.file.now = omega (arith, ap (λ x. x.end.0) c.as_container-list.ensures) in
    let wrong = sym (c.surls_formed.ensures within is known) ∙ c.if-not-surls_formed.true in
    rw (surl_refused c.args.file.now bs front c.args.b same c.as_container-list.ensures known right wrong)

pub returns : goal.returns
unfolding text_in surl_right
returns c bs tallied same inside front =
    let (is, known, counted) = tally_sound c.tally.ensures c.in_ok-inner.was in
    let right = sym (c.pfhd_right.ensures is known counted) ∙ c.if-not-pfhd_right.false in
    let within : c.as_container-list.result.end.0 ≤ length c.args.file.now = omega (arith, ap (λ x. x.end.0) c.as_container-list.ensures) in
    let formed = sym (c.surls_formed.ensures within is known) ∙ c.if-not-surls_formed.false in
    let all = tally_given tallied in
    rw (all_right c.args.file.now bs front c.args.b same c.as_container-list.ensures known right formed)
    (found-told c.args.file.now bs is _ all.number (c.of.ensures ∙ all.of pseg refl)
    (has_counted is (c.of-2.ensures ∙ (tally_given counted).of fidx refl))
    (c.as_container-list.ensures ∙ body_told c.args.file.now bs c.args.b same)
    (c.first_text.ensures is known within)
    (c.first_text-2.ensures is known within))
