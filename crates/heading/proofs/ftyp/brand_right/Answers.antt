-- `heading::ftyp::brand_right` meets its contract: of a mixed file nothing is left to be looked for.
use mathlib.Core.Path.{sym, ◌∙◌}
use Rattle.heading.proofs.BrandLaws.{mixed-right, unmixed_right}
use Rattle.heading.proofs.ftyp.brand_right.Goals as goal

pub returns-then-mixed : goal.returns-then-mixed
returns-then-mixed c bs same told = c.if-mixed.true ∙ sym (mixed-right _ bs (sym told ∙ c.if-mixed.true))

pub returns-else-mixed : goal.returns-else-mixed
returns-else-mixed c bs same told = c.has_brand.ensures bs same ∙ sym (unmixed_right _ bs (sym told ∙ c.if-mixed.false))
