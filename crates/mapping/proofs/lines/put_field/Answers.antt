-- `mapping::lines::put_field` meets its contract: two puts, one behind the other.
use native.Mathlib.Omega.{arith}
use Rattle.mapping.proofs.LineLaws.{field_put}
use Rattle.mapping.proofs.lines.put_field.Goals as goal

pub returns : goal.returns
returns c =
    let (digits, few) = c.put_decimal.ensures in
    field_put _ _ (omega arith) (omega arith) c.put_text-number.ensures digits few
