-- Document 02, [7], "give a table of each indexed box", and refusal 26: what the index answers, and what it leaves in
-- the lent table.
use Rattle.std.specs.Prelude.{ℕ, List, ◌≡◌, Result}
use Rattle.refusals.specs.declared.Refusal.{Refusal}
use Rattle.boxes.specs.Answer.{given, ◌>>=◌}
use Rattle.partial.specs.Answers.{number_answer}
use Rattle.partial.specs.Limits.{source_limit}
use Rattle.partial.specs.Memory.{after}
use Rattle.partial.specs.Tables.{index_tabled, index_table, index_count}

-- the answer and the table, by what the file and the table decide
pub record Indexes (f table table' : List ℕ) (r : Result ℕ Refusal) : Type 0 where
  pub answer : number_answer r ≡ (index_tabled source_limit f table >>= λ told. given (index_count told))
  pub rows : table' ≡ after index_table (index_tabled source_limit f table) table
