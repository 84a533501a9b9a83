-- `salvaging::fates::lain_in` meets its contract. The loop's invariant: no chunk so far lies in the box.
use mathlib.Core.Path.{refl, sym, ap, ◌∙◌}
use native.Mathlib.Omega.{arith}
use lib.Seq.{take_all}
use Rattle.boxes.specs.Framing.{box_of}
use Rattle.partial.specs.Sequences.{some_of}
use Rattle.salvaging.proofs.FatesLaws.{by_number, none_more, some_found}
use Rattle.salvaging.proofs.fates.lain_in.Goals as goal

pub loop-number-init : goal.loop-number-init
unfolding some_of
loop-number-init c = refl

pub returns-then-lies_in : goal.returns-then-lies_in
returns-then-lies_in c =
    sym (some_found (by_number (box_of c.args.b)) c.args.kept.now c.loop-number.number-index (omega arith) (sym c.lies_in.ensures ∙ c.if-lies_in.true))

pub loop-number-preserved : goal.loop-number-preserved
loop-number-preserved c =
    none_more (by_number (box_of c.args.b)) c.args.kept.now c.loop-number.number-index (omega arith) c.loop-number.invariant (sym c.lies_in.ensures ∙ c.if-lies_in.false)

pub returns : goal.returns
returns c =
    let u = c.args.kept.now in
    sym (ap (some_of (by_number (box_of c.args.b))) (sym (take_all c.loop-number.number-index u (omega arith))) ∙ c.loop-number.invariant)
