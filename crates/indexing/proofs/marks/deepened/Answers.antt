-- `indexing::marks::deepened` meets its contract.
use mathlib.Core.Bool.{Bool, not, ◌||◌}
use mathlib.Core.Path.{refl, sym, ap, ◌∙◌}
use lib.Dec.{eqb}
use lib.ListN.{length}
use Rattle.indexing.proofs.MarksLaws.{marked-deep}
use Rattle.indexing.proofs.marks.deepened.Goals as goal

pub returns-then-marks : goal.returns-then-marks
returns-then-marks c =
    (refl, λ level bs t low many. marked-deep _ level t low bs (c.if-marks.true ∙ sym (ap (λ (d : Bool). d || not (eqb (length bs) 0)) c.if-marks.true)))

pub returns-else-marks : goal.returns-else-marks
returns-else-marks c =
    (refl, λ level bs t low many. marked-deep _ level t low bs (rw many (sym (ap (λ (d : Bool). d || not (eqb (length bs) 0)) c.if-marks.false))))
