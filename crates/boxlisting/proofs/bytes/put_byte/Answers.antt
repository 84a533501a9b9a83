-- `boxlisting::bytes::put_byte` meets its contract: one of the two ways.
use native.Mathlib.Omega.{arith}
use Rattle.filling.proofs.PutsLaws.{puts_same}
use Rattle.boxlisting.proofs.BytesLaws.{in-digits, as_shown}
use Rattle.boxlisting.proofs.bytes.put_byte.Goals as goal

pub returns-then-in_hex : goal.returns-then-in_hex
returns-then-in_hex c =
    let (puts, low) = c.put_hex.ensures in
    (puts_same (in-digits _ c.if-in_hex.true) puts, omega arith)

pub returns : goal.returns
returns c =
    let (puts, low) = c.put_shown.ensures in
    (puts_same (as_shown _ c.if-in_hex.false) puts, low)
