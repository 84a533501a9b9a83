-- `outside::chunks::outside_of` meets its contract. The loop's invariant: what was found of the items passed, with what
-- is found of the others, is all.
use Rattle.outside.proofs.ChunkLaws.{Midway}
use Rattle.outside.proofs.chunks.outside_of.Given as goal

abbrev pub invariant-loop-i : goal.invariant-loop-i
invariant-loop-i l = Midway l.outside l.list l.data l.stored l.at l.i
