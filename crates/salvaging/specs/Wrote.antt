-- Document 02, [9]: what a call answers that writes the copy of a file into a lent buffer, and what it leaves there.
use Rattle.std.specs.Prelude.{ℕ, List, ◌≡◌, length, Result}
use Rattle.boxes.specs.Answer.{given, ◌>>=◌}
use Rattle.partial.specs.Answers.{number_answer}
use Rattle.partial.specs.Limits.{source_limit}
use Rattle.partial.specs.Memory.{after}
use Rattle.refusals.specs.declared.Refusal.{Refusal}
use Rattle.rescue.specs.Copy.{salvaged}

-- the length of the copy, which fills the buffer, or a refusal, after which it is as it was
pub record Salvages (f buffer buffer' : List ℕ) (r : Result ℕ Refusal) : Type 0 where
  pub answer : number_answer r ≡ (salvaged source_limit f buffer >>= λ copy. given (length copy))
  pub left : buffer' ≡ after (λ copy. copy) (salvaged source_limit f buffer) buffer
