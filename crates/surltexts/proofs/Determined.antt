-- The public call's contract determines its answer, and what it leaves in both lent memories: two that it allows of the
-- same arguments are equal.
use mathlib.Core.Path.{sym, ◌∙◌}
use Rattle.numerals.proofs.Determined.{OneResult, OneLeft}
use Rattle.boxes.proofs.ToldLaws.{Tells, result-told}
use Rattle.surltexts.specs.Calls.{amounts_of}
use Rattle.surltexts.proofs.calls.segment_texts.Reads as segment-texts

-- two that say the same are the same
amounts_told : Tells amounts_of
amounts_told t u e = λ i. record { bytes = (e i).bytes; lengths = (e i).lengths }

segment_texts_result : OneResult segment-texts.Post
segment_texts_result κs args x y after after' p q = result-told amounts_told x y (p.answer ∙ sym q.answer)

segment_texts_bytes : OneLeft segment-texts.Post (λ κs after. after.1.1.0.now)
segment_texts_bytes κs args x y after after' p q = p.bytes ∙ sym q.bytes

segment_texts_lengths : OneLeft segment-texts.Post (λ κs after. after.1.1.1.0.now)
segment_texts_lengths κs args x y after after' p q = p.sizes ∙ sym q.sizes
