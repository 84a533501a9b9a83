-- Document 01, "Begin" and refusals 34, 1 and 33: what beginning a file answers, and what it leaves in the lent buffer.
use Rattle.std.specs.Prelude.{ℕ, List, ◌≡◌, Result}
use Rattle.refusals.specs.declared.Refusal.{Refusal}
use Rattle.partial.specs.Answers.{number_answer}
use Rattle.additions.specs.Begin.{beginning, begun}
use Rattle.partial.specs.Memory.{written}
use Rattle.partial.specs.declared.brand.Brand.{Brand}

-- the answer and the buffer, each by what the brand, the two texts and the buffer decide
pub record Begins (brand : Brand) (url mime buffer buffer' : List ℕ) (r : Result ℕ Refusal) : Type 0 where
  pub answer : number_answer r ≡ begun buffer brand url mime
  pub left : buffer' ≡ written (beginning brand url mime) (begun buffer brand url mime) buffer
