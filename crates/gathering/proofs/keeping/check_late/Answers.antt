-- `gathering::keeping::check_late` meets its contract.
use mathlib.Core.Path.{sym, ap, ◌∙◌}
use mathlib.Core.List.{[], ◌∷◌, ◌++◌}
use native.Mathlib.Omega.{arith}
use borrow.Author.Tests.{le-leb}
use Rattle.partial.specs.Limits.{layer_limit}
use Rattle.partial.specs.Sources.{source_count, of_source}
use Rattle.ends.specs.Table.{sizes_in}
use Rattle.gathering.proofs.LateLaws.{agreed_beside, sources_full, sources_few, late_25, late_40, late_none}
use Rattle.gathering.proofs.keeping.check_late.Goals as goal

pub returns-then-not-agree : goal.returns-then-not-agree
returns-then-not-agree c =
    λ ss s source holds flags count ends agrees few.
    let of = of_source s.source ss in
    let said = c.with-said.ensures of s (c.sizes_at-before.ensures ∙ ap (sizes_in _) source ∙ holds.said s.source) ends (c.gives_size.ensures s flags count) in
    let agreement = sym (c.agree.ensures (of ++ (s ∷ [])) said ∙ agreed_beside ss s agrees) in
    late_25 (ss ++ (s ∷ [])) (agreement ∙ c.if-not-agree.true)

pub returns-then-source-ge-LAYER_LIMIT : goal.returns-then-source-ge-LAYER_LIMIT
returns-then-source-ge-LAYER_LIMIT c =
    λ ss s source holds flags count ends agrees few.
    let of = of_source s.source ss in
    let said = c.with-said.ensures of s (c.sizes_at-before.ensures ∙ ap (sizes_in _) source ∙ holds.said s.source) ends (c.gives_size.ensures s flags count) in
    let agreement = sym (c.agree.ensures (of ++ (s ∷ [])) said ∙ agreed_beside ss s agrees) in
    late_40 (ss ++ (s ∷ [])) (agreement ∙ c.if-not-agree.false)
    (sym (sources_full ss s (omega arith)))

pub returns : goal.returns
returns c =
    λ ss s source holds flags count ends agrees few.
    let of = of_source s.source ss in
    let said = c.with-said.ensures of s (c.sizes_at-before.ensures ∙ ap (sizes_in _) source ∙ holds.said s.source) ends (c.gives_size.ensures s flags count) in
    let agreement = sym (c.agree.ensures (of ++ (s ∷ [])) said ∙ agreed_beside ss s agrees) in
    late_none (ss ++ (s ∷ [])) (agreement ∙ c.if-not-agree.false)
    (sym (sources_few ss s (le-leb (source_count ss) layer_limit few) (omega arith)))
