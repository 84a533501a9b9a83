-- `heading::stages::heading_of` meets its contract: each test is a stage's, in their order.
use mathlib.Core.Path.{sym, ap, ◌∙◌}
use Rattle.boxes.specs.Answer.{refused}
use Rattle.boxes.specs.declared.kinds.Container.TheVariants.{File}
use Rattle.boxes.proofs.ToldLaws.{handed_on}
use Rattle.refusals.specs.Refusals.{refusal_no}
use Rattle.tallying.proofs.RuleLaws.{tally_fault, tally_sound}
use Rattle.heading.specs.Facts.{facts_by, told}
use Rattle.surls.proofs.WithinLaws.{number-within}
use Rattle.heading.proofs.FoundLaws.{number_there, number_missing, no_ftyp, no_pfil}
use Rattle.heading.proofs.StageLaws.{too_long, ill_framed, framed, ftyp_refused, brand_refused, pfil_refused}
use Rattle.heading.proofs.stages.heading_of.Goals as goal

pub returns-then-end-gt-FILE_LIMIT : goal.returns-then-end-gt-FILE_LIMIT
returns-then-end-gt-FILE_LIMIT c = rw (too_long _ c.if-end-gt-FILE_LIMIT.true)

pub returns-in_err-boxes : goal.returns-in_err-boxes
returns-in_err-boxes c =
    let fault = tally_fault c.tally.ensures c.in_err-boxes.was in
    handed_on facts_by _ _ c.from_residual.ensures.1 ∙ sym (ap (told c.args.file.now) (ill_framed _ c.if-end-gt-FILE_LIMIT.false fault))

pub returns-in_err-first : goal.returns-in_err-first
returns-in_err-first c =
    let (bs, known, counted) = tally_sound c.tally.ensures c.in_ok-boxes.was in
    let (none, ftyp) = number_missing 0 bs _ _ c.ok_or.ensures.value (c.box_at.ensures bs known) c.in_err-first.was in
    handed_on facts_by _ _ c.from_residual-in_err-first.ensures.1
    ∙ ap (λ e. refused (refusal_no e)) ftyp
    ∙ rw (framed _ c.if-end-gt-FILE_LIMIT.false known, ftyp_refused _ bs (no_ftyp bs none))

pub returns-then-not-ftyp_right : goal.returns-then-not-ftyp_right
returns-then-not-ftyp_right c =
    let (bs, known, counted) = tally_sound c.tally.ensures c.in_ok-boxes.was in
    let first = number_there 0 bs _ _ c.ok_or.ensures.value (c.box_at.ensures bs known) c.in_ok-first.was in
    let wrong = sym (c.ftyp_right.ensures bs counted first) ∙ c.if-not-ftyp_right.true in
    rw (framed _ c.if-end-gt-FILE_LIMIT.false known, ftyp_refused _ bs wrong)

pub returns-then-not-brand_right : goal.returns-then-not-brand_right
returns-then-not-brand_right c =
    let (bs, known, counted) = tally_sound c.tally.ensures c.in_ok-boxes.was in
    let first = number_there 0 bs _ _ c.ok_or.ensures.value (c.box_at.ensures bs known) c.in_ok-first.was in
    let ftyp = sym (c.ftyp_right.ensures bs counted first) ∙ c.if-not-ftyp_right.false in
    let wrong = sym (c.brand_right.ensures bs first (c.has_brand-mixed.ensures bs first)) ∙ c.if-not-brand_right.true in
    rw (framed _ c.if-end-gt-FILE_LIMIT.false known, brand_refused _ bs ftyp wrong)

pub returns-in_err-second : goal.returns-in_err-second
returns-in_err-second c =
    let (bs, known, counted) = tally_sound c.tally.ensures c.in_ok-boxes.was in
    let first = number_there 0 bs _ _ c.ok_or.ensures.value (c.box_at.ensures bs known) c.in_ok-first.was in
    let ftyp = sym (c.ftyp_right.ensures bs counted first) ∙ c.if-not-ftyp_right.false in
    let brand = sym (c.brand_right.ensures bs first (c.has_brand-mixed.ensures bs first)) ∙ c.if-not-brand_right.false in
    let (none, pfil) = number_missing 1 bs _ _ c.ok_or-2.ensures.value (c.box_at-2.ensures bs known) c.in_err-second.was in
    handed_on facts_by _ _ c.from_residual-in_err-second.ensures.1
    ∙ ap (λ e. refused (refusal_no e)) pfil
    ∙ rw (framed _ c.if-end-gt-FILE_LIMIT.false known, pfil_refused _ bs ftyp brand (no_pfil bs none))

pub returns-then-not-pfil_right : goal.returns-then-not-pfil_right
returns-then-not-pfil_right c =
    let (bs, known, counted) = tally_sound c.tally.ensures c.in_ok-boxes.was in
    let first = number_there 0 bs _ _ c.ok_or.ensures.value (c.box_at.ensures bs known) c.in_ok-first.was in
    let second = number_there 1 bs _ _ c.ok_or-2.ensures.value (c.box_at-2.ensures bs known) c.in_ok-second.was in
    let ftyp = sym (c.ftyp_right.ensures bs counted first) ∙ c.if-not-ftyp_right.false in
    let brand = sym (c.brand_right.ensures bs first (c.has_brand-mixed.ensures bs first)) ∙ c.if-not-brand_right.false in
    let wrong = sym (c.pfil_right.ensures bs counted second) ∙ c.if-not-pfil_right.true in
    rw (framed _ c.if-end-gt-FILE_LIMIT.false known, pfil_refused _ bs ftyp brand wrong)

pub returns : goal.returns
returns c =
    let (bs, known, counted) = tally_sound c.tally.ensures c.in_ok-boxes.was in
    let first = number_there 0 bs _ _ c.ok_or.ensures.value (c.box_at.ensures bs known) c.in_ok-first.was in
    let second = number_there 1 bs _ _ c.ok_or-2.ensures.value (c.box_at-2.ensures bs known) c.in_ok-second.was in
    rw (framed _ c.if-end-gt-FILE_LIMIT.false known)
    (c.inner_of.ensures bs counted second (number-within File _ _ _ known _ 1 second).ends
    (record {
      ftyp = sym (c.ftyp_right.ensures bs counted first) ∙ c.if-not-ftyp_right.false;
      brand = sym (c.brand_right.ensures bs first (c.has_brand-mixed.ensures bs first)) ∙ c.if-not-brand_right.false;
      pfil = sym (c.pfil_right.ensures bs counted second) ∙ c.if-not-pfil_right.false;
      brands = c.has_brand-mixed.ensures bs first;
    }))
