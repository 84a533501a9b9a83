-- `heading::ftyp::has_brand` meets its contract. The loop's invariant: no brand passed is the one, so those left
-- decide.
use mathlib.Core.Path.{sym, ◌∙◌}
use native.Mathlib.Omega.{arith}
use Rattle.heading.proofs.BrandLaws.{brands-of, brand_none, brand_found, brand_passed}
use Rattle.heading.proofs.ftyp.has_brand.Goals as goal

pub returns-then-unsigned-brand : goal.returns-then-unsigned-brand
returns-then-unsigned-brand c bs same =
    let all = brands-of _ _ _ bs same (omega arith) c.saturating_add-from.ensures c.saturating_sub-brands.ensures in
    sym (all ∙ c.loop-i.invariant ∙ brand_found _ _ _ _ _ c.loop-i-test.true (sym c.unsigned.ensures ∙ c.if-unsigned-brand.true))

pub loop-i-preserved : goal.loop-i-preserved
loop-i-preserved c =
    c.loop-i.invariant ∙ brand_passed _ _ _ _ _ c.loop-i-test.true (λ e. c.if-unsigned-brand.false (c.unsigned.ensures ∙ e))

pub returns : goal.returns
returns c bs same =
    let all = brands-of _ _ _ bs same (omega arith) c.saturating_add-from.ensures c.saturating_sub-brands.ensures in
    sym (all ∙ c.loop-i.invariant ∙ brand_none _ _ _ (omega arith))
