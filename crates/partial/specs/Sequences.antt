-- What is said of a list, or of numbers in a row: some or all pass a test, a sum, the largest, how many in a row; and
-- of two numbers that may be there, the first.
use Rattle.std.specs.Prelude.{ℕ, zero, suc, ◌+◌, max, Bool, true, false, ◌&&◌, ◌||◌, List, [], ◌∷◌, leb, ltb}
use Rattle.std.specs.Prelude.{Option, None, Some}

module _ {A : Type 0} where
  -- some of the list pass the test
  unfoldable pub some_of : (A → Bool) → List A → Bool
  some_of test [] = false
  some_of test (x ∷ xs) = test x || some_of test xs

  -- all of the list pass the test
  unfoldable pub all_of : (A → Bool) → List A → Bool
  all_of test [] = true
  all_of test (x ∷ xs) = test x && all_of test xs

unfoldable pub sum : List ℕ → ℕ
sum [] = 0
sum (n ∷ ns) = n + sum ns

unfoldable pub largest : List ℕ → ℕ
largest [] = 0
largest (n ∷ ns) = max n (largest ns)

-- whether a number is one of so many from the first on
unfoldable pub within : ℕ → ℕ → ℕ → Bool
within first many n = leb first n && ltb n (first + many)

-- how many numbers in a row pass the test, from `at` on, of at most so many
unfoldable pub stretch : (ℕ → Bool) → ℕ → ℕ → ℕ
stretch test zero at = 0
stretch test (suc more) at = elim (test at) [ true ↦ suc (stretch test more (suc at)) | false ↦ 0 ]

-- the first of two that is there
unfoldable pub or_else : Option ℕ → Option ℕ → Option ℕ
or_else None other = other
or_else (Some b) other = Some b
