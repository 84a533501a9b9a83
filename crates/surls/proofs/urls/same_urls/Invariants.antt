-- `surls::urls::same_urls` meets its contract. The loop's invariant: the URLs passed are equal, so those before both
-- walks decide, and each walk ends where it did, which is in the file.
use Rattle.surls.proofs.BothLaws.{InStep}
use Rattle.surls.proofs.urls.same_urls.Given as goal

abbrev pub invariant-loop-a : goal.invariant-loop-a
invariant-loop-a l = InStep l.file l.initial.left l.initial.right l.left l.right

abbrev pub decreases-loop-a : goal.decreases-loop-a
decreases-loop-a l = l.left.left
