-- `sources::lists::container_of` meets its contract, number by number.
use native.Mathlib.Omega.{arith}
use Rattle.boxes.specs.declared.kinds.Container.TheVariants.{File, Pfil, Pseg, Fidx}
use Rattle.sources.specs.Lists.{container_number}
use Rattle.sources.proofs.ListLaws.{container_by, container_rest}
use Rattle.sources.proofs.lists.container_of.Goals as goal

pub returns-in-0 : goal.returns-in-0
unfolding container_number
returns-in-0 c = container_by File (omega arith)

pub returns-in-1 : goal.returns-in-1
unfolding container_number
returns-in-1 c = container_by Pfil (omega arith)

pub returns-in-2 : goal.returns-in-2
unfolding container_number
returns-in-2 c = container_by Pseg (omega arith)

pub returns-in-3 : goal.returns-in-3
unfolding container_number
returns-in-3 c = container_by Fidx (omega arith)

pub returns-in_default : goal.returns-in_default
returns-in_default c = container_rest _ (omega arith)
