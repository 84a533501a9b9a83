-- `surls::next::next_surl` meets its contract. The loop's invariant: no box passed is a `surl`.
use Rattle.surls.proofs.NextLaws.{Since}
use Rattle.surls.proofs.next.next_surl.Given as goal

abbrev pub invariant-loop-b : goal.invariant-loop-b
invariant-loop-b l = Since l.file l.initial.walk l.walk

abbrev pub decreases-loop-b : goal.decreases-loop-b
decreases-loop-b l = l.walk.left
