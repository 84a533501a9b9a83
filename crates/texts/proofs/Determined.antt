-- Each public call's contract determines its answer and what it leaves in the buffer: two that it allows of the same
-- arguments are equal.
use mathlib.Core.Path.{sym, ◌∙◌}
use Rattle.numerals.proofs.Determined.{OneResult, OneLeft}
use Rattle.texts.proofs.lines.put_fault.Reads as put-fault
use Rattle.texts.proofs.lines.put_refused.Reads as Put-refused
use Rattle.texts.proofs.puts.put_decimal.Reads as put-decimal
use Rattle.texts.proofs.puts.put_text.Reads as put-text

put_text-result : OneResult put-text.Post
put_text-result κs args x y after after' p q = p.end ∙ sym q.end

put_text_bytes : OneLeft put-text.Post (λ κs after. after.0.now)
put_text_bytes κs args x y after after' p q = p.left ∙ sym q.left

put_decimal-result : OneResult put-decimal.Post
put_decimal-result κs args x y after after' p q = p.0.end ∙ sym q.0.end

put_decimal_bytes : OneLeft put-decimal.Post (λ κs after. after.0.now)
put_decimal_bytes κs args x y after after' p q = p.0.left ∙ sym q.0.left

put_refused_result : OneResult Put-refused.Post
put_refused_result κs args x y after after' p q = p.0.end ∙ sym q.0.end

put_refused_bytes : OneLeft Put-refused.Post (λ κs after. after.0.now)
put_refused_bytes κs args x y after after' p q = p.0.left ∙ sym q.0.left

put_fault_result : OneResult put-fault.Post
put_fault_result κs args x y after after' p q = p.0.end ∙ sym q.0.end

put_fault_bytes : OneLeft put-fault.Post (λ κs after. after.0.now)
put_fault_bytes κs args x y after after' p q = p.0.left ∙ sym q.0.left
