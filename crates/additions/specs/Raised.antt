-- Document 02, [5]: "Prove that old files keep their maps and that the writer gives the same bytes for every segment
-- accepted before", of any two source limits of which the one is not below the other.
use Rattle.std.specs.Prelude.{ℕ, List, ◌≡◌}
use Rattle.boxes.specs.Answer.{given}
use Rattle.partial.specs.ReadingRaised.{Kept, RaisedReading}
use Rattle.additions.specs.Addition.{Addition}
use Rattle.additions.specs.Append.{appended}
use Rattle.additions.specs.Runs.{lent, append}

-- what a source limit leaves as it was under a lower one
pub record Raised (low high : ℕ) : Type 0 where
  -- "old files keep their maps", and all else that is read of them
  pub of_reading : RaisedReading low high
  -- an addition that was accepted has the same answer, and "the writer gives the same bytes": the buffer and the length
  -- of the file in it
  pub appends : (buffer : List ℕ) (n : ℕ) (a : Addition) → Kept (appended low buffer n a) (appended high buffer n a)
  pub bytes :
      (buffer : List ℕ) (n : ℕ) (a : Addition) (size : ℕ)
      → appended low buffer n a ≡ given size
      → append high (lent buffer n) a ≡ append low (lent buffer n) a
