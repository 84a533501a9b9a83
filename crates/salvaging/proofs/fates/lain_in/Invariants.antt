-- `salvaging::fates::lain_in` meets its contract. The loop's invariant: no chunk so far lies in the box.
use mathlib.Core.Bool.{false}
use mathlib.Core.Path.{◌≡◌}
use lib.ListN.{take}
use Rattle.boxes.specs.Framing.{box_of}
use Rattle.partial.specs.Sequences.{some_of}
use Rattle.salvaging.proofs.FatesLaws.{by_number}
use Rattle.salvaging.proofs.fates.lain_in.Given as goal

abbrev pub invariant-loop-number : goal.invariant-loop-number
invariant-loop-number l = some_of (by_number (box_of l.b)) (take l.number-index l.kept) ≡ false
