-- `boxlisting::lines::put_boxes` meets its contract. The loop's invariant: the boxes so far have their lines.
use Prim.Native.Nat.{ℕ}
use mathlib.Core.Path.{refl, ap, ◌∙◌}
use Rattle.std.specs.Prelude.{Ok}
use Rattle.partial.specs.BoxList.{fault_line}
use native.Mathlib.Omega.{arith}
use Rattle.boxes.proofs.WalkLaws.{next_box, no_more, a_fault, fewer}
use Rattle.texts.proofs.TextLaws.{piece_puts, piece_same}
use Rattle.boxlisting.proofs.ListLaws.{midway_none, midway_more, midway_end, midway_fault, framed_read}
use Rattle.boxlisting.proofs.lines.put_boxes.Goals as goal

pub loop-b-init : goal.loop-b-init
loop-b-init c = (midway_none _ _ c.new-walk.ensures refl)

pub put_box-next-requires : goal.put_box-next-requires
put_box-next-requires c =
    let m = c.loop-b.invariant in
    let step = next_box c.step.ensures (c.in-Ok-Some.is ∙ ap Ok c.in-Ok-Some.field-0-is) in
    (omega (arith, m.low), rw c.in-Ok-Some.b-is (framed_read m _ step))

pub loop-b-smaller : goal.loop-b-smaller
loop-b-smaller c = rw c.in-Ok-Some.onward-is (fewer _ _ (next_box c.step.ensures (c.in-Ok-Some.is ∙ ap Ok c.in-Ok-Some.field-0-is)))

pub loop-b-preserved : goal.loop-b-preserved
loop-b-preserved c =
    let inv = c.loop-b.invariant in
    let step = next_box c.step.ensures (c.in-Ok-Some.is ∙ ap Ok c.in-Ok-Some.field-0-is) in
    let (puts, few) = rw c.in-Ok-Some.b-is at c.put_box-next.ensures in
    (rw c.in-Ok-Some.onward-is (midway_more inv step puts few))

pub returns-in-Ok-None : goal.returns-in-Ok-None
returns-in-Ok-None c = midway_end c.loop-b.invariant (no_more c.step.ensures (c.in-Ok-None.is ∙ ap Ok c.in-Ok-None.field-0-is))

pub returns-in-Err : goal.returns-in-Err
returns-in-Err c =
    let m = c.loop-b.invariant in
    let fault = a_fault c.step.ensures c.in-Err.is in
    let (piece, few) = c.put_fault.ensures in
    midway_fault m fault (piece_puts (omega (arith, m.low)) (piece_same (ap (λ (n : ℕ). fault_line (record { at = c.loop-b.walk.at.0; number = n })) c.number.ensures) piece))
