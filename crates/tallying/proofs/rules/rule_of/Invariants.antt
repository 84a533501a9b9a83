-- `tallying::rules::rule_of` meets its contract. The loop's invariant: the rows passed are others, so those left
-- decide.
use mathlib.Core.Path.{◌≡◌}
use lib.ListN.{drop}
use Rattle.boxes.specs.Kinds.{rules, rule_in}
use Rattle.tallying.proofs.rules.rule_of.Given as goal

abbrev pub invariant-loop-i : goal.invariant-loop-i
invariant-loop-i l = rule_in rules l.container l.kind ≡ rule_in (drop l.i rules) l.container l.kind
