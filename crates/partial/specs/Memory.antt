-- Document 01, "Rows fill the lent tables from the front; the rest keeps its contents", "A refusal .. changes no lent
-- memory": lent memory after a call.
use Rattle.std.specs.Prelude.{ℕ, Bool, List, ◌++◌, length, drop, leb}
use Rattle.boxes.specs.Answer.{Answer, refused, given, ◌>>=◌, hold}

-- whether numbers fit a lent table, list or buffer
unfoldable pub fits : List ℕ → List ℕ → Bool
fits rows table = leb (length rows) (length table)

-- numbers fill it from the front; the rest keeps its contents
unfoldable pub filled : List ℕ → List ℕ → List ℕ
filled rows table = rows ++ drop (length rows) table

-- what a call leaves: filled by what it gives; after a refusal as it was
unfoldable pub after : {A : Type 0} → (A → List ℕ) → Answer A → List ℕ → List ℕ
after rows (refused n) table = table
after rows (given a) table = filled (rows a) table

-- a buffer after a call that writes these bytes and answers their number
abbrev pub written : List ℕ → Answer ℕ → List ℕ → List ℕ
written bytes answer buffer = after (λ _. bytes) answer buffer

-- what a call answers that writes a text into a buffer: its length, or 33 where the buffer is too short for it
unfoldable pub text_written : List ℕ → List ℕ → Answer ℕ
text_written text buffer = do
  _ ← hold 33 (fits text buffer)
  given (length text)
