-- `tallying::rules::keeps` meets its contract: the rule of the table is held against the number.
use mathlib.Core.Path.{sym, ap, ◌∙◌}
use Rattle.boxes.specs.Kinds.{keeps}
use Rattle.boxes.proofs.KindLaws.{count_rule}
use Rattle.tallying.proofs.rules.keeps.Goals as goal

pub returns : goal.returns
returns c =
    c.keeps_rule.ensures
    ∙ ap (λ count. keeps count c.args.n) c.rule_of.ensures
    ∙ sym (count_rule _ _ _)
