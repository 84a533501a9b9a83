-- `gathering::parts::header_of` meets its contract: the count rule, the first box, its kind and its fields.
use mathlib.Core.Path.{refl, sym, ◌∙◌}
use Rattle.boxes.specs.Framing.{box_of}
use Rattle.boxes.specs.Kinds.{pshd}
use Rattle.boxes.specs.declared.kinds.Container.TheVariants.{Pseg}
use Rattle.boxes.proofs.ToldLaws.{told-ok, told-err, handed_on}
use Rattle.tallying.proofs.RuleLaws.{rule_kept}
use Rattle.gathering.specs.Parts.{pshd_of}
use Rattle.gathering.proofs.PartsLaws.{header_lone, first_sound, first_other, first_by}
use Rattle.gathering.proofs.parts.header_of.Goals as goal

pub returns-then-not-keeps : goal.returns-then-not-keeps
returns-then-not-keeps c =
    λ bs known tallied.
    let rule = rule_kept bs tallied Pseg pshd refl c.of.ensures c.keeps.ensures in
    sym (header_lone _ bs (sym rule ∙ c.if-not-keeps.true))

pub returns-in_default : goal.returns-in_default
returns-in_default c =
    λ bs known tallied.
    let rule = rule_kept bs tallied Pseg pshd refl c.of.ensures c.keeps.ensures in
    let single = sym rule ∙ c.if-not-keeps.false in
    absurd (first_sound _ _ _ bs known single (told-err box_of c.header_at.ensures c.in_default.is))

pub returns-then-ne : goal.returns-then-ne
returns-then-ne c =
    λ bs known tallied.
    let rule = rule_kept bs tallied Pseg pshd refl c.of.ensures c.keeps.ensures in
    let single = sym rule ∙ c.if-not-keeps.false in
    sym (first_other _ _ _ bs known single _ (told-ok box_of c.header_at.ensures c.in-Ok.is) c.if-ne.ensures)

pub returns-in_err-fields : goal.returns-in_err-fields
returns-in_err-fields c =
    λ bs known tallied.
    let rule = rule_kept bs tallied Pseg pshd refl c.of.ensures c.keeps.ensures in
    let single = sym rule ∙ c.if-not-keeps.false in
    let found = told-ok box_of c.header_at.ensures c.in-Ok.is in
    handed_on pshd_of _ _ c.from_residual.ensures.1
    ∙ sym (first_by _ _ _ bs known single _ found c.if-ne.ensures ∙ rw (told-err (λ p. p) c.fields_of.ensures c.in_err-fields.was))

pub returns : goal.returns
returns c =
    λ bs known tallied.
    let rule = rule_kept bs tallied Pseg pshd refl c.of.ensures c.keeps.ensures in
    let single = sym rule ∙ c.if-not-keeps.false in
    let found = told-ok box_of c.header_at.ensures c.in-Ok.is in
    sym (first_by _ _ _ bs known single _ found c.if-ne.ensures ∙ rw (told-ok (λ p. p) c.fields_of.ensures c.in_ok-fields.was))
