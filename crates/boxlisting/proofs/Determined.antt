-- The public call's contract determines its answer and what it leaves in the buffer: two that it allows of the same
-- arguments are equal.
use mathlib.Core.Path.{sym, ◌∙◌}
use Rattle.numerals.proofs.Determined.{OneResult, OneLeft}
use Rattle.partial.proofs.Determined.{number-told}
use Rattle.boxlisting.proofs.call.boxes.Reads as boxes

boxes_result : OneResult boxes.Post
boxes_result κs args x y after after' p q = number-told x y (p.answer ∙ sym q.answer)

boxes_bytes : OneLeft boxes.Post (λ κs after. after.1.1.0.now)
boxes_bytes κs args x y after after' p q = p.left ∙ sym q.left
