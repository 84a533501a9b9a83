-- `mapping::lines::put_last` meets its contract.
use native.Mathlib.Omega.{arith}
use Rattle.mapping.proofs.LineLaws.{last_put}
use Rattle.mapping.proofs.lines.put_last.Goals as goal

pub returns : goal.returns
returns c =
    let (puts, low) = c.put_field-end.ensures in
    let (all, next_low) = last_put (omega arith) (omega arith) puts c.put_text.ensures in
    (all, omega arith)
