-- `adding::admission::admitted` meets its contract: 13, 41, 22, 23, 25 and 40 in their order, and then the index.
use Prim.Native.Nat.{◌≤◌}
use mathlib.Core.Path.{◌≡◌, sym, ◌∙◌}
use native.Mathlib.Omega.{arith}
use borrow.Author.Tests.{leb-true, not-true, not-false}
use Rattle.partial.specs.Limits.{source_limit}
use Rattle.partial.specs.Segments.{end_of}
use Rattle.std.specs.Prelude.{Some}
use Rattle.partial.specs.declared.position.Position.{Position}
use Rattle.gathering.proofs.GatheredLaws.{gathered-segments}
use Rattle.gathering.proofs.LateLaws.{agreed_beside, sources_full, sources_few}
use Rattle.adding.proofs.AdmissionLaws.{segments_full, segments_few, chunk_test, source_test, source_end, earlier_segmented, passes_23, own_sizes}
use Rattle.adding.proofs.AdmissionLaws.{admitted_13, admitted_41, admitted_22, admitted_23, admitted_25, admitted_40, admitted_by}
use Rattle.adding.proofs.admission.admitted.Goals as goal

pub returns-then-gathered-ge-SEGMENT_LIMIT : goal.returns-then-gathered-ge-SEGMENT_LIMIT
returns-then-gathered-ge-SEGMENT_LIMIT c =
    λ right h ss s file known goes next tells lacks. admitted_13 _ h ss s (segments_full ss known tells c.if-gathered-ge-SEGMENT_LIMIT.true)

pub returns-then-not-target : goal.returns-then-not-target
returns-then-not-target c =
    λ right h ss s file known goes next tells lacks.
    admitted_41 _ h ss s (segments_few ss known tells c.if-gathered-ge-SEGMENT_LIMIT.false) (sym (not-true _ c.if-not-target.true) ∙ goes.listed)

pub returns-then-not-ends_by : goal.returns-then-not-ends_by
returns-then-not-ends_by c =
    λ right h ss s file known goes next tells lacks.
    let few = segments_few ss known tells c.if-gathered-ge-SEGMENT_LIMIT.false in
    admitted_22 _ h ss s few (sym (not-false _ c.if-not-target.false) ∙ goes.listed) (chunk_test ss known tells (sym c.if-not-ends_by.true ∙ c.ends_by.ensures))

pub returns-then-not-ends_by-2 : goal.returns-then-not-ends_by-2
returns-then-not-ends_by-2 c =
    λ right h ss s file known goes next tells lacks.
    let few = segments_few ss known tells c.if-gathered-ge-SEGMENT_LIMIT.false in
    let chunks = chunk_test ss known tells (sym c.if-not-ends_by.false ∙ c.ends_by.ensures) in
    admitted_23 _ h ss s few (sym (not-false _ c.if-not-target.false) ∙ goes.listed) chunks (source_test ss known tells (sym c.if-not-ends_by-2.true ∙ c.ends_by-2.ensures))

pub returns-then-not-agree : goal.returns-then-not-agree
returns-then-not-agree c =
    λ right h ss s file known goes next tells lacks.
    let low = sym c.if-not-ends_by-2.false ∙ c.ends_by-2.ensures in
    let near = passes_23 ss known tells c.if-gathered-ge-SEGMENT_LIMIT.false (sym (not-false _ c.if-not-target.false) ∙ goes.listed) (sym c.if-not-ends_by.false ∙ c.ends_by.ensures) low in
    let gives = c.gives_size-gives.ensures s tells.flags tells.items in
    let ends = source_end ss known tells low in
    let told = c.agree.ensures _ (c.with-with.ensures _ s (own_sizes ss s goes next) ends gives) in
    let differ = sym c.if-not-agree.true ∙ told in
    admitted_25 _ h ss s near (differ ∙ agreed_beside ss s (earlier_segmented file).agree)

pub returns-then-target-ge-LAYER_LIMIT : goal.returns-then-target-ge-LAYER_LIMIT
returns-then-target-ge-LAYER_LIMIT c =
    λ right h ss s file known goes next tells lacks.
    let low = sym c.if-not-ends_by-2.false ∙ c.ends_by-2.ensures in
    let near = passes_23 ss known tells c.if-gathered-ge-SEGMENT_LIMIT.false (sym (not-false _ c.if-not-target.false) ∙ goes.listed) (sym c.if-not-ends_by.false ∙ c.ends_by.ensures) low in
    let gives = c.gives_size-gives.ensures s tells.flags tells.items in
    let ends = source_end ss known tells low in
    let told = c.agree.ensures _ (c.with-with.ensures _ s (own_sizes ss s goes next) ends gives) in
    let same = sym c.if-not-agree.false ∙ told in
    let full = sources_full ss s (omega (arith, c.if-target-ge-LAYER_LIMIT.true, next, goes.number)) in
    admitted_40 _ h ss s near (same ∙ agreed_beside ss s (earlier_segmented file).agree) full

pub returns : goal.returns
returns c =
    λ right h ss s file known goes next tells lacks.
    let low = sym c.if-not-ends_by-2.false ∙ c.ends_by-2.ensures in
    let near = passes_23 ss known tells c.if-gathered-ge-SEGMENT_LIMIT.false (sym (not-false _ c.if-not-target.false) ∙ goes.listed) (sym c.if-not-ends_by.false ∙ c.ends_by.ensures) low in
    let gives = c.gives_size-gives.ensures s tells.flags tells.items in
    let ends = source_end ss known tells low in
    let told = c.agree.ensures _ (c.with-with.ensures _ s (own_sizes ss s goes next) ends gives) in
    let read = earlier_segmented file in
    let same = sym c.if-not-agree.false ∙ told ∙ agreed_beside ss s read.agree in
    let few = sources_few ss s read.layers (omega (arith, c.if-target-ge-LAYER_LIMIT.false, next, goes.number)) in
    let low : (p : Position) → c.end_beside-size.result ≡ Some p → p.0 ≤ source_limit =
    λ p e. omega (arith, c.end_beside-size.ensures.0 p e, ends, leb-true (end_of s) source_limit (sym near.low)) in
    c.index_beside.ensures h ss s file (gathered-segments ss known) lacks next (c.end_beside-size.ensures.1 h s goes.list gives ends) low
    ∙ admitted_by _ h ss s near same few
