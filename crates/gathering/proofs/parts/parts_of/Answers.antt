-- `gathering::parts::parts_of` meets its contract: framing, 14, 15, 16 and 41, and what the head of the `ploc` says.
use mathlib.Core.Path.{refl, sym, ap, ◌∙◌}
use Rattle.boxes.specs.Kinds.{ploc, surl, fidx}
use Rattle.boxes.specs.declared.kinds.Container.TheVariants.{Pseg}
use Rattle.boxes.proofs.KindLaws.{right_one}
use Rattle.boxes.proofs.ToldLaws.{told-ok, told-err, handed_on}
use Rattle.tallying.specs.Found.{found_of}
use Rattle.tallying.proofs.FoundLaws.{found_there}
use Rattle.tallying.proofs.RuleLaws.{tally_fault, tally_sound, tally_given, rule_kept}
use Rattle.partial.specs.Entries.{ploc_head}
use Rattle.partial.proofs.Reading.IndexedLaws.{has_counted}
use Rattle.fields.specs.Location.{head_of}
use Rattle.fields.proofs.LocationLaws.{location_given}
use Rattle.gathering.specs.Parts.{pshd_of, parts_of}
use Rattle.gathering.proofs.PartsLaws.{surl_counted, parts_fault, parts_header, parts_lone, parts_listless, parts_by, one-found}
use Rattle.gathering.proofs.parts.parts_of.Goals as goal

pub returns-in_err-inner : goal.returns-in_err-inner
returns-in_err-inner c =
    let tally = rw c.as_container-body.ensures at c.tally.ensures in
    handed_on parts_of _ _ c.from_residual.ensures.1 ∙ sym (parts_fault _ _ _ (tally_fault tally c.in_err-inner.was))

pub returns-in_err-header : goal.returns-in_err-header
returns-in_err-header c =
    let (bs, known, counts) = tally_sound (rw c.as_container-body.ensures at c.tally.ensures) c.in_ok-inner.was in
    handed_on parts_of _ _ c.from_residual-in_err-header.ensures.1
    ∙ sym (parts_header _ _ _ known (told-err pshd_of (c.header_of.ensures bs known counts) c.in_err-header.was))

pub returns-then-not-keeps : goal.returns-then-not-keeps
returns-then-not-keeps c =
    let (bs, known, counts) = tally_sound (rw c.as_container-body.ensures at c.tally.ensures) c.in_ok-inner.was in
    let header = told-ok pshd_of (c.header_of.ensures bs known counts) c.in_ok-header.was in
    let rule = rule_kept bs counts Pseg ploc refl c.of.ensures c.keeps.ensures in
    sym (parts_lone _ _ _ known header (sym rule ∙ c.if-not-keeps.true))

pub returns-in_err-check_list : goal.returns-in_err-check_list
returns-in_err-check_list c =
    let (bs, known, counts) = tally_sound (rw c.as_container-body.ensures at c.tally.ensures) c.in_ok-inner.was in
    let header = told-ok pshd_of (c.header_of.ensures bs known counts) c.in_ok-header.was in
    let single = sym (rule_kept bs counts Pseg ploc refl c.of.ensures c.keeps.ensures) ∙ c.if-not-keeps.false in
    let own = surl_counted bs (c.of-listed.ensures ∙ (tally_given counts).of surl refl) in
    handed_on parts_of _ _ c.from_residual-in_err-check_list.ensures.1
    ∙ sym (parts_listless _ _ _ known header single (told-err (λ x. x) (c.check_list.ensures bs known own) c.in_err-check_list.was))

pub returns-in_default : goal.returns-in_default
returns-in_default c =
    let (bs, known, counts) = tally_sound (rw c.as_container-body.ensures at c.tally.ensures) c.in_ok-inner.was in
    let single = sym (rule_kept bs counts Pseg ploc refl c.of.ensures c.keeps.ensures) ∙ c.if-not-keeps.false in
    let first = (rw c.as_container-body.ensures at c.first_of.ensures) bs known in
    absurd (one-found _ (right_one Pseg ploc bs refl single) (sym (ap found_of c.in_default.is) ∙ first))

pub returns-in_err-location : goal.returns-in_err-location
returns-in_err-location c =
    let (bs, known, counts) = tally_sound (rw c.as_container-body.ensures at c.tally.ensures) c.in_ok-inner.was in
    let header = told-ok pshd_of (c.header_of.ensures bs known counts) c.in_ok-header.was in
    let single = sym (rule_kept bs counts Pseg ploc refl c.of.ensures c.keeps.ensures) ∙ c.if-not-keeps.false in
    let own = surl_counted bs (c.of-listed.ensures ∙ (tally_given counts).of surl refl) in
    let passed = told-ok (λ x. x) (c.check_list.ensures bs known own) c.in_ok-check_list.was in
    let first = ap (ploc_head _) (sym (found_there ploc bs (sym (ap found_of c.in-Some.is) ∙ (rw c.as_container-body.ensures at c.first_of.ensures) bs known))) in
    handed_on parts_of _ _ c.from_residual-in_err-location.ensures.1
    ∙ sym (parts_by _ _ _ known header single passed ∙ rw (first ∙ told-err head_of c.location_of.ensures c.in_err-location.was))

pub returns : goal.returns
returns c =
    let (bs, known, counts) = tally_sound (rw c.as_container-body.ensures at c.tally.ensures) c.in_ok-inner.was in
    let header = told-ok pshd_of (c.header_of.ensures bs known counts) c.in_ok-header.was in
    let single = sym (rule_kept bs counts Pseg ploc refl c.of.ensures c.keeps.ensures) ∙ c.if-not-keeps.false in
    let own = surl_counted bs (c.of-listed.ensures ∙ (tally_given counts).of surl refl) in
    let passed = told-ok (λ x. x) (c.check_list.ensures bs known own) c.in_ok-check_list.was in
    let first = ap (ploc_head _) (sym (found_there ploc bs (sym (ap found_of c.in-Some.is) ∙ (rw c.as_container-body.ensures at c.first_of.ensures) bs known))) in
    let flag = has_counted bs (c.of-2.ensures ∙ (tally_given counts).of fidx refl) in
    sym (parts_by _ _ _ known header single passed ∙ rw (first ∙ location_given _ _ c.location_of.ensures c.in_ok-location.was, ← flag, ← own))
