-- `fileindex::parts::segments_with` meets its contract: a file has too few segments for the sum to be cut.
use Prim.Native.Nat.{suc, ◌+◌, ◌-◌, ◌^◌, min}
use mathlib.Core.Path.{◌≡◌, sym, ◌∙◌}
use native.Mathlib.Omega.{arith}
use Rattle.boxes.specs.Kinds.{pseg}
use Rattle.tallying.proofs.FoundLaws.{is_kind, is_other}
use Rattle.fileindex.proofs.PartLaws.{with_segment, with_other}
use Rattle.fileindex.proofs.parts.segments_with.Goals as goal

pub returns-then-eq : goal.returns-then-eq
returns-then-eq c =
    λ few.
    let n = c.args.segments in
    let sum : min (n + 1) (2 ^ 64 - 1) ≡ suc n = omega arith in
    c.saturating_add.ensures ∙ sum ∙ sym (with_segment _ _ (is_kind pseg _ c.eq.ensures c.if-eq.true))

pub returns : goal.returns
returns c = λ few. sym (with_other _ _ (is_other pseg _ c.eq.ensures c.if-eq.false))
