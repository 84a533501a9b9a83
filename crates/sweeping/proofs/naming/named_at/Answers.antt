-- `sweeping::naming::named_at` meets its contract: by whether the position is had, and if not, whether it is held.
use mathlib.Core.Path.{◌≡◌, ap}
use native.Mathlib.Omega.{arith}
use Rattle.partial.specs.Ranges.{had}
use Rattle.sweeping.specs.Classes.{class_no}
use Rattle.sweeping.proofs.NameLaws.{names_had, names_held, names_lost}
use Rattle.sweeping.proofs.naming.named_at.Goals as goal
use Rattle.sweeping.proofs.naming.named_at.Goals.{then-held-number, else-held-number}

pub returns-then-had-number : goal.returns-then-had-number
returns-then-had-number c =
    let moves = c.at-had.ensures in (
      record { class = omega arith; some = λ below. omega (arith, moves.0.some below); ends = omega arith },
      λ o u ready below.
          names_had _ _ _ _ (moves.1 o ready.of_good below) (moves.0.some below) (omega (arith, c.number.ensures)) ready.of_damaged,
    )

pub returns : goal.returns
returns c =
    let goods = c.at-had.ensures in
    let damages = c.at-held.ensures in (
      record {
        class = elim c.if-held-number.branch [ then-held-number w ↦ rw w.class-is (omega arith) | else-held-number w ↦ rw w.class-is (omega arith) ];
        some = λ below. omega (arith, goods.0.some below, damages.0.some below);
        ends = omega arith;
      },
      λ o u ready below.
          let good = goods.1 o ready.of_good below in
          let damaged = damages.1 u ready.of_damaged below in
          let missed : c.at-had.result.class ≡ had → ⊥ = λ is. omega (arith, c.number.ensures) in
          elim c.if-held-number.branch [
            | then-held-number w ↦
                names_held _ _ _ _ good (goods.0.some below) damaged (damages.0.some below) missed (omega (arith, c.number-2.ensures)) (ap class_no w.class-is)
                (omega arith)
            | else-held-number w ↦
                names_lost _ _ _ _ good (goods.0.some below) damaged (damages.0.some below) missed (λ is. omega (arith, c.number-2.ensures)) (ap class_no w.class-is)
                (omega arith)
          ],
    )
