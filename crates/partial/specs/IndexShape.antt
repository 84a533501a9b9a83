-- Document 02, [7], as sentences about the boxes of an index: each stands before those of its own list, on a level of
-- one to eight, and those lie inside it.
use Rattle.std.specs.Prelude.{ℕ, ◌+◌, ◌≤◌, ◌<◌, List, [], ◌∷◌, true, false, ◌↔◌, ◌≡◌, T, leb}
use Rattle.std.specs.Prelude.{Some}
use Rattle.partial.specs.Sequences.{all_of}
use Rattle.partial.specs.Segments.{Segment}
use Rattle.partial.specs.Meaning.{supplied}
use Rattle.partial.specs.Index.{Indexed, is_known, level_limit, served_of}

-- one box lies inside another, where both ends are known
pub record Inside (i j : Indexed) : Type 0 where
  pub from : i.place ≤ j.place
  pub to : (a b : ℕ) → i.end ≡ Some a → j.end ≡ Some b → b ≤ a

-- the boxes that follow one lie inside it, as long as they are on a deeper level
abbrev pub Under : Indexed → List Indexed → Type 0
Under i [] = Unit {0}
Under i (j ∷ js) = i.level < j.level → Inside i j × Under i js

-- so it is with each
abbrev pub Nested : List Indexed → Type 0
Nested [] = Unit {0}
Nested (i ∷ is) = Under i is × Nested is

-- behind a box of a level each is on one of the levels from one to the next deeper
abbrev pub Stepwise : ℕ → List Indexed → Type 0
Stepwise level [] = Unit {0}
Stepwise level (i ∷ is) = (1 ≤ i.level) × (i.level ≤ level + 1) × Stepwise i.level is

-- the boxes of an accepted index
pub record InOrder (boxes : List Indexed) : Type 0 where
  -- each stands before those of its own list, which lie inside it
  pub nested : Nested boxes
  -- the first is on level one, and none is more than one level deeper than the one before it; eight is the deepest
  pub stepwise : Stepwise 0 boxes
  pub deepest : T (all_of (λ i. leb i.level level_limit) boxes)
  -- each has an end
  pub ended : T (all_of (λ i. is_known i.end) boxes)

-- whether none, some or all of its bytes are served, said of each position of a box that has some
pub record ServedAsSaid (ss : List Segment) (place size : ℕ) : Type 0 where
  -- 2 exactly if each of its positions is served
  pub all : (served_of ss place size ≡ 2) ↔ ((i : ℕ) → i < size → supplied ss (place + i) ≡ true)
  -- 0 exactly if none is
  pub nothing : 0 < size → (served_of ss place size ≡ 0) ↔ ((i : ℕ) → i < size → supplied ss (place + i) ≡ false)
  -- and there is no other answer but 1
  pub most : served_of ss place size ≤ 2
