-- `supplying::runs::clip` meets its contract.
use native.Mathlib.Omega.{arith}
use mathlib.Core.Path.{sym, ◌∙◌}
use Rattle.supplying.proofs.RunsLaws.{clip_other, clip-begun, clip-empty, clip_begins}
use Rattle.supplying.proofs.runs.clip.Goals as goal

pub returns-then-not-is_good : goal.returns-then-not-is_good
returns-then-not-is_good c = clip_other _ _ _ (sym c.is_good.ensures ∙ c.if-not-is_good.true)

pub returns-then-start-p : goal.returns-then-start-p
returns-then-start-p c = clip-begun _ _ _ c.if-start-p.true

pub returns-then-c-eq0 : goal.returns-then-c-eq0
returns-then-c-eq0 c = clip-empty _ _ _ c.if-c-eq0.true

pub returns : goal.returns
returns c = c.min.ensures ∙ clip_begins _ _ _ (sym c.is_good.ensures ∙ c.if-not-is_good.false) (omega arith) (λ h. omega arith)
