-- `heading::pfil::pfhd_formed` meets its contract: each test is one of the definition's.
use Prim.Native.Nat.{◌+◌}
use mathlib.Core.Path.{sym, ◌∙◌}
use native.Mathlib.Omega.{arith}
use borrow.Author.Tests.{eq-eqb, ne_eqb}
use Rattle.heading.proofs.FormLaws.{pfhd_tests}
use Rattle.heading.proofs.pfil.pfhd_formed.Goals as goal

pub returns-then-saturating_sub-eq4 : goal.returns-then-saturating_sub-eq4
returns-then-saturating_sub-eq4 c =
    let b = c.args.b in
    sym (pfhd_tests _ b ∙ simp (eq-eqb (b.body.0 + 4) b.end.0 (omega arith), ← c.unsigned.ensures))

pub returns-else-saturating_sub-eq4 : goal.returns-else-saturating_sub-eq4
returns-else-saturating_sub-eq4 c =
    let b = c.args.b in
    ne_eqb _ _ c.if-saturating_sub-eq4.false ∙ sym (pfhd_tests _ b ∙ simp (ne_eqb (b.body.0 + 4) b.end.0 (λ e. c.if-saturating_sub-eq4.false (omega arith))))
