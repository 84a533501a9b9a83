-- What a call answers that writes a text into a lent buffer, and what it leaves there.
use Rattle.std.specs.Prelude.{ℕ, List, Result, ◌≡◌}
use Rattle.partial.specs.Answers.{number_answer}
use Rattle.partial.specs.Memory.{written, text_written}
use Rattle.refusals.specs.declared.Refusal.{Refusal}

-- the answer and the buffer, each by what the text and the buffer decide
pub record Writes (text buffer buffer' : List ℕ) (r : Result ℕ Refusal) : Type 0 where
  pub answer : number_answer r ≡ text_written text buffer
  pub left : buffer' ≡ written text (text_written text buffer) buffer
