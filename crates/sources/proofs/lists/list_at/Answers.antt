-- `sources::lists::list_at` meets its contract: by whether the table has the entry.
use mathlib.Core.Path.{sym}
use native.Mathlib.Omega.{arith}
use Rattle.sources.proofs.ListLaws.{list_past, list_by}
use Rattle.sources.proofs.lists.list_at.Goals as goal

pub returns-then-source : goal.returns-then-source
returns-then-source c = sym (list_past _ _ c.if-source.true)

pub returns : goal.returns
returns c = list_by _ _ (omega arith) c.container_of.ensures
