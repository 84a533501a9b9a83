-- `salvaging::lines::put_lines` meets its contract.
use native.Mathlib.Omega.{arith}
use Rattle.filling.proofs.PutsLaws.{puts_same, puts_more}
use Rattle.texts.proofs.TextLaws.{piece_puts}
use Rattle.salvaging.specs.Tables.{fates_in}
use Rattle.salvaging.proofs.LinesLaws.{fault_none, fault_one}
use Rattle.salvaging.proofs.lines.put_lines.Goals as goal

pub returns-in-None : goal.returns-in-None
returns-in-None c =
    λ h sound held. puts_same (fault_none (fates_in _ h) _ c.in-None.is) (c.put_dropped-next.ensures.0 h sound held)

pub returns-in-Some : goal.returns-in-Some
returns-in-Some c =
    λ h sound held.
    let (piece, few) = rw c.number.ensures at c.put_fault.ensures in
    let (dropped, low) = c.put_dropped-next.ensures in
    puts_same (fault_one (fates_in _ h) _ c.in-Some.is) (puts_more (dropped h sound held) (piece_puts (omega (arith, few, low)) piece))
