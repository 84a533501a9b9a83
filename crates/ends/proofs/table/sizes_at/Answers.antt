-- `ends::table::sizes_at` meets its contract: by whether the table has the entry.
use mathlib.Core.Path.{sym, ◌∙◌}
use native.Mathlib.Omega.{arith}
use Rattle.ends.proofs.TableLaws.{sizes_past, sizes_there}
use Rattle.ends.proofs.table.sizes_at.Goals as goal

pub returns-then-source : goal.returns-then-source
returns-then-source c = c.none.ensures ∙ sym (sizes_past _ _ c.if-source.true)

pub returns : goal.returns
returns c = rw c.then_some.ensures (sym (sizes_there _ _ (omega arith)))
