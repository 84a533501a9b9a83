-- Document 01, "Serving": what serving and asking of a source answer, and what they leave in the lent tables.
use Rattle.std.specs.Prelude.{ℕ, List, Result, ◌≡◌}
use Rattle.boxes.specs.Answer.{Answer, refused, given, ◌>>=◌}
use Rattle.partial.specs.Answers.{asked_answer}
use Rattle.partial.specs.Limits.{source_limit}
use Rattle.partial.specs.Meaning.{Reply, served_for, missing_for, not_below}
use Rattle.partial.specs.Tables.{tabled, served_part, asked}
use Rattle.partial.specs.declared.answers.Asked.{Asked}
use Rattle.reading.specs.Parts.{HandedBack, located_answer}
use Rattle.reading.specs.Tables.{Filled}
use Rattle.refusals.specs.declared.Refusal.{Refusal}
use Rattle.surls.specs.declared.part.Part.{Part}

-- where the part lies that serves a position
pub record Locates (f : List ℕ) (source : ℕ) (segments segments' chunks chunks' : List ℕ) (p : ℕ) (r : Result Part Refusal) : Type 0 where
  pub answer : located_answer r ≡ (tabled source_limit f segments chunks >>= λ ss. given (served_part (given ss) source p))
  pub tables : Filled (tabled source_limit f segments chunks) segments segments' chunks chunks'

-- serving a position hands back its part of the file
pub record Serves (f : List ℕ) (file : ℕ × ℕ) (source : ℕ) (segments segments' chunks chunks' : List ℕ) (p : ℕ) (there : ℕ × ℕ) (bytes : List ℕ) : Type 0 where
  pub part : HandedBack f file (served_part (tabled source_limit f segments chunks) source p) there bytes
  pub tables : Filled (tabled source_limit f segments chunks) segments segments' chunks chunks'

-- asking of a position answers whether it is served or missing, and for how many
pub record Asks (f : List ℕ) (source : ℕ) (segments segments' chunks chunks' : List ℕ) (p : ℕ) (r : Result Asked Refusal) : Type 0 where
  pub answer : asked_answer r ≡ asked (tabled source_limit f segments chunks) source p
  pub tables : Filled (tabled source_limit f segments chunks) segments segments' chunks chunks'

-- how many positions an answer says are served: none where it says anything else
unfoldable pub served_count : Answer Reply → ℕ
served_count (refused n) = 0
served_count (given (served_for n)) = n
served_count (given (missing_for n)) = 0
served_count (given not_below) = 0
