-- `puts::ftyp::code_of` meets its contract.
use mathlib.Core.Path.{sym, ap}
use Rattle.additions.specs.Begin.{brand_code}
use Rattle.puts.proofs.ftyp.code_of.Goals as goal

pub returns-in-Paff : goal.returns-in-Paff
unfolding brand_code
returns-in-Paff c = sym (ap brand_code c.in-Paff.is)

pub returns-in-Pmff : goal.returns-in-Pmff
unfolding brand_code
returns-in-Pmff c = sym (ap brand_code c.in-Pmff.is)
