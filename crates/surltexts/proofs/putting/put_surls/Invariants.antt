-- `surltexts::putting::put_surls` meets its contract. The loop's invariant: of a container that lies in the file, the
-- texts of the `surl` boxes passed are put, and the walk ends where it did.
use Prim.Native.Nat.{◌≤◌}
use mathlib.Core.Path.{◌≡◌}
use lib.ListN.{length}
use Rattle.surltexts.proofs.PuttingLaws.{Putting}
use Rattle.surltexts.proofs.putting.put_surls.Given as goal

abbrev pub invariant-loop-b : goal.invariant-loop-b
invariant-loop-b l = (length l.texts ≡ length l.initial.texts) × (length l.lengths ≡ length l.initial.lengths) × (l.initial.walk.end.0 ≤ length l.file → Putting l.file l.initial.walk l.walk l.initial.texts l.texts l.initial.lengths l.lengths l.amount)

abbrev pub decreases-loop-b : goal.decreases-loop-b
decreases-loop-b l = l.walk.left
