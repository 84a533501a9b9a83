-- The places of the boxes of a file, in a table.
use Rattle.std.specs.Prelude.{ℕ, ◌+◌, ◌^◌, ◌<◌, ◌≤◌, Bool, true, false, List, ◌≡◌, length, get_or}
use Rattle.boxes.specs.Framing.{Box}
use Rattle.boxes.specs.Kinds.{box_at}

-- the place of each box from the front, and behind the last one the largest number of 32 bits, by which every box ends
pub record Tops (bs : List Box) (tops : List ℕ) : Type 0 where
  pub long : length tops ≡ 512
  pub listed : (k : ℕ) → k < length bs → get_or tops k 0 ≡ (box_at k bs).at
  pub beyond : (k : ℕ) → length bs ≤ k → k < 512 → get_or tops k 0 ≡ 0xffffffff
  pub short : (k : ℕ) → k < length bs → (box_at k bs).end < 2 ^ 32

-- the last number before a place: it is before it unless it is the first, and the next one is not
pub record Before (tops : List ℕ) (place number : ℕ) : Type 0 where
  pub there : number < 512
  pub before : 0 < number → get_or tops number 0 < place
  pub next : number + 1 < 512 → place ≤ get_or tops (number + 1) 0

-- no number of a table is less than one before it
abbrev pub Ascends : List ℕ → Type 0
Ascends tops = (i j : ℕ) → i ≤ j → j < 512 → get_or tops i 0 ≤ get_or tops j 0

-- whether a place stands in a table that ascends
pub record Listed (tops : List ℕ) (place : ℕ) (r : Bool) : Type 0 where
  pub there : r ≡ true → (k : ℕ) × (k < 512) × (get_or tops k 0 ≡ place)
  pub missing : r ≡ false → Ascends tops → (k : ℕ) → k < 512 → get_or tops k 0 ≡ place → ⊥
