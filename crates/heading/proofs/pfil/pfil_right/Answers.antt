-- `heading::pfil::pfil_right` meets its contract: each test is one of the definition's.
use mathlib.Core.Path.{refl, sym, ◌∙◌}
use Rattle.boxes.specs.Kinds.{pfil}
use Rattle.boxes.specs.declared.kinds.Container.TheVariants.{File}
use Rattle.tallying.proofs.RuleLaws.{rule_kept}
use Rattle.heading.proofs.FormLaws.{pfil_tests}
use Rattle.tallying.proofs.FoundLaws.{is_kind, is_other}
use Rattle.heading.proofs.pfil.pfil_right.Goals as goal

pub returns-then-eq : goal.returns-then-eq
returns-then-eq c bs tallied same =
    let b = c.args.b in
    rule_kept bs tallied File pfil refl c.of.ensures c.keeps.ensures
    ∙ sym (pfil_tests b bs same ∙ simp (is_kind pfil b c.eq.ensures c.if-eq.true))

pub returns-else-eq : goal.returns-else-eq
returns-else-eq c bs tallied same =
    let b = c.args.b in
    c.if-eq.false ∙ sym (pfil_tests b bs same ∙ simp (is_other pfil b c.eq.ensures c.if-eq.false))
