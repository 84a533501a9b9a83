-- Laws of a text that is written into a lent buffer: what the one test decides, and that a text that was written lies
-- in the buffer.
use Prim.Native.Nat.{ℕ, ◌≤◌, ◌<◌}
use mathlib.Core.List.{List, ◌++◌}
use mathlib.Core.Path.{◌≡◌, sym, ap, ◌∙◌}
use borrow.Author.Tests.{le-leb, lt-leb}
use native.Mathlib.Omega.{arith}
use lib.ListN.{length, drop, length-append}
use Rattle.boxes.specs.Answer.{Answer, given}
use Rattle.boxes.proofs.AnswerLaws.{given_same, held}
use Rattle.filling.specs.Rows.{Puts}
use Rattle.filling.proofs.RowLaws.{put_fills}
use Rattle.partial.specs.Answers.{number_answer}
use Rattle.partial.specs.Memory.{fits, after, filled, written, text_written}
use Rattle.refusals.specs.declared.Refusal.{Refusal}
use Rattle.refusals.specs.declared.Refusal.TheVariants.{BufferTooShort}
use Rattle.std.specs.Prelude.{Result, Ok, Err}
use Rattle.texts.specs.Writes.{Writes}

module _ (text buffer : List ℕ) where
  pub writes_short : length buffer < length text → Writes text buffer buffer (Err BufferTooShort)
  unfolding text_written fits after
  writes_short short =
      let e = lt-leb (length text) (length buffer) short in
      record { answer = rw e; left = rw e }

  pub writes_given : {buffer' : List ℕ} {n size : ℕ} → size ≡ length text → length text ≤ length buffer → Puts buffer 0 text buffer' n
      → Writes text buffer buffer' (Ok size)
  unfolding text_written fits after filled
  writes_given long room puts =
      let e = le-leb (length text) (length buffer) room in
      record { answer = rw (e, long); left = rw e (put_fills text puts.put room) }

-- a text that was written lies in the buffer
pub writes_within : {text buffer buffer' : List ℕ} {r : Result ℕ Refusal} → Writes text buffer buffer' r → {n : ℕ} → r ≡ Ok n → n ≤ length buffer'
unfolding text_written after filled
writes_within {text} {buffer} {buffer'} w {n} e =
    let answer : text_written text buffer ≡ given n = sym w.answer ∙ ap number_answer e in
    let (_, same) = held 33 (fits text buffer) _ answer in
    let left : buffer' ≡ text ++ drop (length text) buffer = w.left ∙ ap (λ (x : Answer ℕ). written text x buffer) answer in
    omega (arith, ap length left, length-append text (drop (length text) buffer), given_same same)
