-- `heading::ftyp::ftyp_right` meets its contract: each test is one of the definition's.
use Prim.Native.Nat.{◌+◌}
use mathlib.Core.Path.{refl, sym, ◌∙◌}
use native.Mathlib.Omega.{arith}
use borrow.Author.Tests.{le-leb, lt-leb, eq-eqb, ne_eqb}
use Rattle.boxes.specs.Kinds.{ftyp}
use Rattle.boxes.specs.declared.kinds.Container.TheVariants.{File}
use Rattle.tallying.proofs.RuleLaws.{rule_kept}
use Rattle.heading.proofs.FormLaws.{ftyp_tests}
use Rattle.tallying.proofs.FoundLaws.{is_not, is_still}
use Rattle.heading.proofs.ftyp.ftyp_right.Goals as goal

pub returns-then-ne : goal.returns-then-ne
returns-then-ne c bs tallied same =
    let b = c.args.b in
    sym (ftyp_tests b bs same ∙ simp (is_not ftyp b c.ne.ensures c.if-ne.true))

pub returns-then-size-lt-BRANDS_FROM : goal.returns-then-size-lt-BRANDS_FROM
returns-then-size-lt-BRANDS_FROM c bs tallied same =
    let b = c.args.b in
    sym (ftyp_tests b bs same ∙ simp (is_still ftyp b c.ne.ensures c.if-ne.false, lt-leb (b.body.0 + 8) b.end.0 (omega arith)))

pub returns-then-size-ne0 : goal.returns-then-size-ne0
returns-then-size-ne0 c bs tallied same =
    let b = c.args.b in
    sym
    (ftyp_tests b bs same
    ∙ simp (is_still ftyp b c.ne.ensures c.if-ne.false, le-leb (b.body.0 + 8) b.end.0 (omega arith), ← c.saturating_sub-size.ensures, ne_eqb _ _ c.if-size-ne0.true))

pub returns : goal.returns
returns c bs tallied same =
    let b = c.args.b in
    rule_kept bs tallied File ftyp refl c.of.ensures c.keeps.ensures
    ∙ sym
    (ftyp_tests b bs same
    ∙ simp (is_still ftyp b c.ne.ensures c.if-ne.false, le-leb (b.body.0 + 8) b.end.0 (omega arith), ← c.saturating_sub-size.ensures, eq-eqb _ _ c.if-size-ne0.false))
