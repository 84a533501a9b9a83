-- `fileindex::parts::index_at` meets its contract: the index in `pfil`, in a `pseg`, or none.
use Prim.Native.Nat.{ℕ}
use mathlib.Core.List.{◌∷◌, []}
use mathlib.Core.Path.{ap, ◌∙◌}
use native.Mathlib.Omega.{arith}
use Rattle.boxes.specs.Kinds.{pfil, pseg}
use Rattle.boxes.specs.declared.kinds.Container.TheVariants.{Pfil, Pseg}
use Rattle.tallying.proofs.FoundLaws.{is_kind, is_other}
use Rattle.fileindex.specs.Parts.{part_in}
use Rattle.fileindex.proofs.PartLaws.{holds_file, holds-segment, holds_none, in-contained, index_promised, adds_one, adds_none}
use Rattle.fileindex.proofs.parts.index_at.Goals as goal

pub returns-then-eq : goal.returns-then-eq
returns-then-eq c x k ends ps holds inside by =
    let (inner, us, known, same) = holds_file holds (is_kind pfil _ c.eq.ensures c.if-eq.true) in
    let (told, counted) = index_promised _ Pfil c.args.b _ _ _ _ _ _ c.as_container-body.ensures c.index_in.ensures inner (in-contained _ inside known (omega arith)) in
    (adds_one _ _ Pfil inner us 0 _ _ _ _ same _ by told, counted)

pub returns-then-eq-2 : goal.returns-then-eq-2
returns-then-eq-2 c x k ends ps holds inside by =
    let other = is_other pfil _ c.eq.ensures c.if-eq.false in
    let (s, known, same) = holds-segment holds other (is_kind pseg _ c.eq-2.ensures c.if-eq-2.true) in
    let from = c.offset_of.ensures s known in
    let (told, counted) = index_promised _ Pseg c.args.b _ _ _ _ _ _ c.as_container-body-then-eq-2.ensures c.index_in-then-eq-2.ensures s.inner (in-contained _ inside known.boxes (omega (arith, from, known.placed))) in
    (adds_one _ _ Pseg s.inner s.urls _ _ _ _ _ (ap (λ (place : ℕ). part_in Pseg s.inner s.urls place ∷ []) from ∙ same) _ by told, counted)

pub returns : goal.returns
returns c x k ends ps holds inside by =
    let other = is_other pfil _ c.eq.ensures c.if-eq.false in
    adds_none _ _ _ (holds_none holds other (is_other pseg _ c.eq-2.ensures c.if-eq-2.false)) _ _ inside
