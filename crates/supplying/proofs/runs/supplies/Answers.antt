-- `supplying::runs::supplies` meets its contract.
use mathlib.Core.Path.{sym, ◌∙◌}
use native.Mathlib.Omega.{arith}
use Rattle.supplying.specs.Rows.{told_of}
use Rattle.supplying.proofs.RunsLaws.{supplies_before, supplies_by}
use Rattle.supplying.proofs.runs.supplies.Goals as goal

pub returns-then-p-start : goal.returns-then-p-start
returns-then-p-start c = supplies_before (told_of c.args.c) _ c.if-p-start.true

pub returns : goal.returns
returns c = supplies_by (told_of c.args.c) _ (sym c.is_good.ensures ∙ c.if-not-is_good.false) (omega arith)
