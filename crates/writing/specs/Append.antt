-- Document 01, "Append" and refusals 30 to 33 and 35, and document 02, [8]: what it answers, and what it leaves in the
-- lent buffer.
use Rattle.std.specs.Prelude.{ℕ, ◌≤◌, List, ◌≡◌, Result, length, take}
use Rattle.refusals.specs.declared.Refusal.{Refusal}
use Rattle.boxes.specs.Answer.{given}
use Rattle.additions.specs.Addition.{Addition}
use Rattle.partial.specs.Answers.{number_answer}
use Rattle.additions.specs.Append.{new_urls, appended, result}
use Rattle.partial.specs.Heading.{Heading, heading}
use Rattle.partial.specs.Limits.{source_limit}
use Rattle.partial.specs.Memory.{written}
use Rattle.partial.specs.Reading.{earlier_segments}
use Rattle.partial.specs.Segments.{Segment}
use Rattle.adding.specs.Admission.{Goes}
use Rattle.adding.specs.declared.admission.Onto.{Onto}
use Rattle.adding.specs.declared.admission.Target.{Target}
use Rattle.reading.specs.Judged.{judged_by, earlier_told}

-- the source that an addition to a file goes to, where append takes the file
abbrev pub Going : List ℕ → Addition → Target → Type 0
Going f a target = (h : Heading) (ss : List Segment) → heading f ≡ given h → earlier_segments source_limit f ≡ given ss → Goes h ss (new_urls h a) target

-- a file in the first bytes of a buffer that append takes, by what was read of it and the source of an addition
pub record Ready (buffer : List ℕ) (a : Addition) (onto : Onto) : Type 0 where
  pub enough : onto.length ≤ length buffer
  pub told : earlier_told (take onto.length buffer) ≡ given (judged_by onto.judged)
  pub going : Going (take onto.length buffer) a onto.target

-- the answer and the buffer, each by what the buffer, the stated length and the addition decide
pub record Appends (buffer buffer' : List ℕ) (n : ℕ) (a : Addition) (r : Result ℕ Refusal) : Type 0 where
  pub answer : number_answer r ≡ appended source_limit buffer n a
  pub left : buffer' ≡ written (result buffer n a) (appended source_limit buffer n a) buffer
