-- The public call's contract determines its answer, and what it leaves in the lent table: two that it allows of the
-- same arguments are equal.
use mathlib.Core.Path.{sym, ◌∙◌}
use Rattle.numerals.proofs.Determined.{OneResult, OneLeft}
use Rattle.boxes.proofs.ToldLaws.{result-told}
use Rattle.indexrows.proofs.calls.index.Reads as index

index-result : OneResult index.Post
index-result κs args x y after after' p q = result-told (λ t u e. e) x y (p.answer ∙ sym q.answer)

index-rows : OneLeft index.Post (λ κs after. after.1.0.now)
index-rows κs args x y after after' p q = p.rows ∙ sym q.rows
