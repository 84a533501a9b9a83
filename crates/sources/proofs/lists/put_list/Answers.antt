-- `sources::lists::put_list` meets its contract: by whether the table has the entry.
use native.Mathlib.Omega.{arith}
use Rattle.sources.proofs.ListLaws.{container_low, list_put_past, list_put_there}
use Rattle.sources.proofs.lists.put_list.Goals as goal

pub overflow_add-lists-then-source : goal.overflow_add-lists-then-source
overflow_add-lists-then-source c = omega (arith, c.number_of.ensures, container_low c.args.list.container)

pub returns-then-source : goal.returns-then-source
returns-then-source c = list_put_there _ _ _ c.number_of.ensures c.min-start.ensures c.min-end.ensures c.if-source.true

pub returns-else-source : goal.returns-else-source
returns-else-source c = list_put_past _ _ _ c.if-source.false
