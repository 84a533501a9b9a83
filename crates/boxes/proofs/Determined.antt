-- Each public call's contract determines its answer: two that it allows of the same arguments are equal.
use mathlib.Core.Path.{sym, ◌∙◌}
use Rattle.numerals.proofs.Determined.{OneResult, OneLeft}
use Rattle.boxes.proofs.ToldLaws.{box-told, result-told, step_told}
use Rattle.refusals.proofs.Refusal.number.Reads as refusal-number
use Rattle.boxes.proofs.framing.Framed.as_container.Reads as as_container
use Rattle.boxes.proofs.framing.header_at.Reads as header_at
use Rattle.boxes.proofs.framing.put_header.Reads as put-header
use Rattle.boxes.proofs.framing.user_size.Reads as user-size
use Rattle.boxes.proofs.kinds.table.Reads as table
use Rattle.boxes.proofs.walk.Walk.new.Reads as new
use Rattle.boxes.proofs.walk.Walk.step.Reads as step

refusal_number_result : OneResult refusal-number.Post
refusal_number_result κs args x y after after' p q = p ∙ sym q

user_size_result : OneResult user-size.Post
user_size_result κs args x y after after' p q = p ∙ sym q

as_container_result : OneResult as_container.Post
as_container_result κs args x y after after' p q = p ∙ sym q

header_at_result : OneResult header_at.Post
header_at_result κs args x y after after' p q = result-told box-told x y (p ∙ sym q)

put_header-result : OneResult put-header.Post
put_header-result κs args x y after after' p q = p.room ∙ sym q.room

put_header_bytes : OneLeft put-header.Post (λ κs after. after.0.now)
put_header_bytes κs args x y after after' p q = p.left ∙ sym q.left

new_result : OneResult new.Post
new_result κs args x y after after' p q = p ∙ sym q

step_result : OneResult step.Post
step_result κs args x y after after' p q = step_told x y (p ∙ sym q)

table-result : OneResult table.Post
table-result κs args x y after after' p q = p ∙ sym q
