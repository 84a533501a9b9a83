-- Two answers that say the same are the same, from which it follows that a contract determines its answer.
use Rattle.boxes.proofs.ToldLaws.{Tells, result-told}
use Rattle.partial.specs.Answers.{number_answer}

pub number-told : Tells number_answer
number-told = result-told (λ m n e. e)
