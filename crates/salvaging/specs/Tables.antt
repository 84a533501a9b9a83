-- Document 02, [9]: what becomes of each box of a file, and where it is in the copy, in tables.
use Rattle.std.specs.Prelude.{ℕ, ◌<◌, List, map, ◌≡◌, length, get_or, take}
use Rattle.boxes.specs.Answer.{given}
use Rattle.boxes.specs.Framing.{boxes_in}
use Rattle.boxes.specs.Kinds.{no_box}
use Rattle.boxes.specs.declared.kinds.Container.TheVariants.{File}
use Rattle.partial.specs.Heading.{Heading}
use Rattle.partial.specs.Limits.{source_limit}
use Rattle.partial.specs.Sequences.{sum}
use Rattle.segment.specs.Tops.{Tops}
use Rattle.rescue.specs.Kept.{dropped, Fated, opening, fates}
use Rattle.rescue.specs.Copy.{copy_size, new_place}
use Rattle.rescue.specs.Table.{code_for, told_at}
use Rattle.rescue.specs.declared.table.Fate.{Fate}
use Rattle.salvaging.specs.declared.places.Moves.{Moves}

-- the fates of the boxes of a file
abbrev pub fates_in : List ℕ → Heading → List Fated
fates_in f h = fates source_limit f h

-- that of a box by its number; past the last one that of nothing
abbrev pub fate_at : List ℕ → Heading → ℕ → Fated
fate_at f h k = get_or (fates_in f h) k (record { box = no_box; fate = dropped 0 })

-- a table tells the fate of each box
pub record FatesHeld (f : List ℕ) (h : Heading) (t : List Fate) : Type 0 where
  pub long : length t ≡ 512
  pub each : (k : ℕ) → k < length h.boxes → told_at t k ≡ code_for f h k

-- where a box is in the copy, if it stays: behind the copies of those before it
abbrev pub start_of : List ℕ → Heading → ℕ → ℕ
start_of f h k = sum (map copy_size (take k (fates_in f h)))

-- a table tells that of each box
pub record PlacesHeld (f : List ℕ) (h : Heading) (t : List ℕ) : Type 0 where
  pub long : length t ≡ 512
  pub each : (k : ℕ) → k < length h.boxes → get_or t k 0 ≡ start_of f h k

-- a file whose framing is right and whose first two boxes are: its boxes
pub record Sound (f : List ℕ) (h : Heading) : Type 0 where
  pub opens : opening f ≡ given h
  pub boxes : boxes_in File f 0 (length f) ≡ given h.boxes

-- with the tables by which a place of it is found in the copy
pub record Moving (f : List ℕ) (h : Heading) (moves : Moves) : Type 0 where
  pub sound : Sound f h
  pub listed : Tops h.boxes moves.tops
  pub placed : PlacesHeld f h moves.places

-- where a place is in the copy
abbrev pub new_in : List ℕ → Heading → ℕ → ℕ
new_in f h = new_place 0 (fates_in f h)
