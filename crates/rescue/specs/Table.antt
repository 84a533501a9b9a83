-- Document 02, [9]: what becomes of the boxes of a file, as a table tells it.
use Rattle.std.specs.Prelude.{ℕ, List, map, Option, None, Some, get_or}
use Rattle.refusals.specs.Refusals.{refusal_no}
use Rattle.refusals.specs.declared.Refusal.{Refusal}
use Rattle.partial.specs.Heading.{Heading}
use Rattle.partial.specs.Limits.{source_limit}
use Rattle.rescue.specs.Kept.{Fate, dropped, whole, of_pfil, of_pseg, fates}
use Rattle.rescue.specs.declared.table.Fate.{Fate as Told}
use Rattle.rescue.specs.declared.table.Fate.TheVariants.{Stays, Dropped}

-- the number of a dropped box; one that stays has none
unfoldable pub code_of : Fate → Option ℕ
code_of (dropped n) = Some n
code_of whole = None
code_of (of_pfil inner) = None
code_of (of_pseg s) = None

-- those of all boxes
abbrev pub codes : List ℕ → Heading → List (Option ℕ)
codes f h = map (λ x. code_of x.fate) (fates source_limit f h)

-- that of a box by its number in the file; past the last one that of nothing
abbrev pub code_for : List ℕ → Heading → ℕ → Option ℕ
code_for f h k = get_or (codes f h) k (Some 0)

-- the number that a dropped box is told by: that of its refusal, 0 where nothing was wrong
abbrev pub number_of : Option Refusal → ℕ
number_of None = 0
number_of (Some e) = refusal_no e

-- what a fate in a table says
abbrev pub code_told : Told → Option ℕ
code_told Stays = None
code_told (Dropped e) = Some (number_of e)

-- what a table says of a box by its number in the file
abbrev pub told_at : List Told → ℕ → Option ℕ
told_at t k = code_told (get_or t k Stays)
