-- Each public call's contract determines its answer and what it leaves in the buffer: two that it allows of the same
-- arguments are equal.
use mathlib.Core.Path.{sym, ◌∙◌}
use Rattle.numerals.proofs.Determined.{OneResult, OneLeft}
use Rattle.partial.proofs.Determined.{number-told}
use Rattle.writing.proofs.append.append.Reads as append
use Rattle.writing.proofs.begin.begin.Reads as begin

begin-result : OneResult begin.Post
begin-result κs args x y after after' p q = number-told x y (p.answer ∙ sym q.answer)

begin_bytes : OneLeft begin.Post (λ κs after. after.0.now)
begin_bytes κs args x y after after' p q = p.left ∙ sym q.left

append-result : OneResult append.Post
append-result κs args x y after after' p q = number-told x y (p.answer ∙ sym q.answer)

append_bytes : OneLeft append.Post (λ κs after. after.0.now)
append_bytes κs args x y after after' p q = p.left ∙ sym q.left
