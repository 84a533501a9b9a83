-- `tallying::rules::rule_of` meets its contract. The loop's invariant: the rows passed are others, so those left
-- decide.
use mathlib.Core.Path.{◌≡◌, refl, sym, ◌∙◌}
use native.Mathlib.Omega.{arith}
use lib.ListN.{length}
use Rattle.boxes.specs.Kinds.{rules}
use Rattle.tallying.proofs.RuleLaws.{rule_found, rule_passed}
use Rattle.tallying.proofs.rules.rule_of.Goals as goal

pub loop-i-init : goal.loop-i-init
loop-i-init c = refl

pub returns-then-is_row : goal.returns-then-is_row
returns-then-is_row c =
    sym (c.loop-i.invariant ∙ rule_found rules _ _ c.loop-i.i c.row_at-row.ensures (omega arith) (sym c.is_row.ensures ∙ c.if-is_row.true))

pub loop-i-preserved : goal.loop-i-preserved
loop-i-preserved c =
    (c.loop-i.invariant ∙ rule_passed rules _ _ c.loop-i.i c.row_at-row.ensures (omega arith) (sym c.is_row.ensures ∙ c.if-is_row.false))

pub returns : goal.returns
returns c =
    let all : c.loop-i.i ≡ length rules = omega arith in
    sym (rw all at c.loop-i.invariant)
