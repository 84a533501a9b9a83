-- What an exported call says: 0 or the number of its refusal, and the values of its answer as numbers in a lent array.
use Rattle.std.specs.Prelude.{ℕ, Bool, true, false, List, [], ◌∷◌, ◌++◌, ◌≡◌}
use Rattle.boxes.specs.Answer.{Answer, refused, given}
use Rattle.heading.specs.Facts.{Facts}
use Rattle.partial.specs.Heading.{Part}
use Rattle.partial.specs.Meaning.{Reply, served_for, missing_for, not_below}
use Rattle.partial.specs.Tables.{Summary, Totals}
use Rattle.surltexts.specs.Calls.{Amounts}

-- 0, or the number of the refusal
unfoldable pub number_of : {A : Type 0} → Answer A → ℕ
number_of (refused n) = n
number_of (given a) = 0

-- the numbers of the answer; after a refusal the array as it was
unfoldable pub numbers_after : {A : Type 0} → (A → List ℕ) → Answer A → List ℕ → List ℕ
numbers_after numbers (refused n) before = before
numbers_after numbers (given a) before = numbers a

pub record Says {A : Type 0} (numbers : A → List ℕ) (answer : Answer A) (told told' : List ℕ) (r : ℕ) : Type 0 where
  pub number : r ≡ number_of answer
  pub values : told' ≡ numbers_after numbers answer told

-- 1 for yes, 0 for no
abbrev pub flag : Bool → ℕ
flag b = elim b [ true ↦ 1 | false ↦ 0 ]

-- how many rows each table has, how many sources there are, the described length of one, and 1 where its size is known
unfoldable pub summary_numbers : Summary → List ℕ
summary_numbers s = s.segments ∷ s.chunks ∷ s.sources ∷ s.described ∷ flag s.closed ∷ []

-- how many ranges each list has, and the totals
unfoldable pub totals_numbers : Totals → List ℕ
totals_numbers t = t.had_ranges ∷ t.missing_ranges ∷ t.received_total ∷ t.missing_total ∷ []

-- 0 for served, 1 for missing, 2 for not below the described length; and how many positions in a row
unfoldable pub reply_numbers : Reply → List ℕ
reply_numbers (served_for n) = 0 ∷ n ∷ []
reply_numbers (missing_for n) = 1 ∷ n ∷ []
reply_numbers not_below = 2 ∷ 0 ∷ []

-- the place of a part of the file, and its length
unfoldable pub part_numbers : Part → List ℕ
part_numbers p = p.place ∷ p.size ∷ []

-- how many bytes texts have, and how many lengths there are
unfoldable pub texts_numbers : Amounts → List ℕ
texts_numbers told = told.bytes ∷ told.lengths ∷ []

-- 1 where the file is mixed, how many boxes it has and how many of them are `pseg`, then the URL and the MIME text in its `pfil`
unfoldable pub heading_numbers : Facts → List ℕ
heading_numbers h = flag h.mixed ∷ h.boxes ∷ h.segments ∷ (part_numbers h.url ++ part_numbers h.mime)

-- the length of what was written, or how many rows were filled
unfoldable pub one_number : ℕ → List ℕ
one_number n = n ∷ []
