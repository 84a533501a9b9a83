-- `puts::pdat::put_chosen` meets its contract. The loop's invariant: the data of the items passed that are chosen is
-- copied.
use Rattle.puts.specs.Boxes.{chosen}
use Rattle.puts.proofs.CopyLaws.{Copied}
use Rattle.puts.proofs.pdat.put_chosen.Given as goal

abbrev pub invariant-loop-i : goal.invariant-loop-i
invariant-loop-i l = Copied (chosen l.outside l.out) l.list l.bytes l.initial.buffer l.initial.next.0 l.buffer l.next.0 l.from l.i
