-- `surls::formed::surls_formed` meets its contract. The loop's invariant: each `surl` passed is well-formed, so those
-- left decide, and the walk ends where it did, which is in the file.
use mathlib.Core.Path.{◌≡◌}
use Rattle.surls.proofs.FormLaws.{all_formed}
use Rattle.tallying.proofs.FoundLaws.{Asked}
use Rattle.surls.proofs.formed.surls_formed.Given as goal

abbrev pub invariant-loop-step : goal.invariant-loop-step
invariant-loop-step l = Asked l.file (all_formed l.file) l.initial.walk (all_formed l.file) l.walk × (l.walk.end ≡ l.initial.walk.end)

abbrev pub decreases-loop-step : goal.decreases-loop-step
decreases-loop-step l = l.walk.left
