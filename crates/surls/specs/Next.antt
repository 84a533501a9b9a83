-- What a step over the `surl` boxes of one walk, or of two, says of the boxes that the walks have before them.
use Rattle.std.specs.Prelude.{ℕ, ◌<◌, Bool, true, false, List, [], ◌∷◌, ◌≡◌, Option, None, Some, Result, Ok, Err}
use Rattle.refusals.specs.declared.Refusal.{Refusal}
use Rattle.boxes.specs.Answer.{given}
use Rattle.boxes.specs.Framing.{Box, boxes_from, box_of}
use Rattle.boxes.specs.Kinds.{surl, those}
use Rattle.boxes.specs.declared.framing.Framed.{Framed}
use Rattle.boxes.specs.declared.walk.Walk.{Walk}
use Rattle.surls.specs.Parts.{Within}
use Rattle.partial.specs.Heading.{urls_in}
use Rattle.partial.specs.Sources.{same_urls}
use Rattle.surls.specs.declared.urls.Both.{Both}
use Rattle.surls.specs.declared.urls.Both.TheVariants.{Equal, Ended, Differ}

-- a walk has these boxes before it
abbrev pub Ahead : List ℕ → Walk → List Box → Type 0
Ahead f w bs = boxes_from w.container f w.end.0 w.left w.at.0 ≡ given bs

-- a walk went on over boxes
pub record Onward (w next : Walk) : Type 0 where
  pub ends : next.end ≡ w.end
  pub fewer : next.left < w.left

-- a `surl` that a walk met is the first before it, and lies in its container
pub record Meets (f : List ℕ) (w : Walk) (b : Framed) (next : Walk) : Type 0 where
  pub onward : Onward w next
  pub within : Within w.end.0 b
  pub first : (bs : List Box) → Ahead f w bs → (rest : List Box) × Ahead f next rest × (those surl bs ≡ box_of b ∷ those surl rest)

-- a walk has no `surl` before it
pub record Spent (f : List ℕ) (w : Walk) : Type 0 where
  pub none : (bs : List Box) → Ahead f w bs → those surl bs ≡ []

-- a walk has a fault before it, and no known boxes
pub record Broken (f : List ℕ) (w : Walk) : Type 0 where
  pub unknown : (bs : List Box) → Ahead f w bs → ⊥

-- the next `surl` of a walk, none, or a fault
abbrev pub Goes : List ℕ → Walk → Result (Option (Framed × Walk)) Refusal → Type 0
Goes f w (Ok (Some (b, next))) = Meets f w b next
Goes f w (Ok None) = Spent f w
Goes f w (Err e) = Broken f w

-- what two walks have before them decides whether the lists of URLs are equal
pub record Decides (f : List ℕ) (v w : Walk) (equal : Bool) : Type 0 where
  pub says : (bs cs : List Box) → Ahead f v bs → Ahead f w cs → same_urls (urls_in f bs) (urls_in f cs) ≡ equal

-- it leaves that to what they have before them further on
pub record Leaves (f : List ℕ) (v w v' w' : Walk) : Type 0 where
  pub same : (bs cs : List Box) → Ahead f v bs → Ahead f w cs
      → (bs' cs' : List Box) × Ahead f v' bs' × Ahead f w' cs' × (same_urls (urls_in f bs) (urls_in f cs) ≡ same_urls (urls_in f bs') (urls_in f cs'))

-- two walks went on over a URL each, which are equal
pub record Follows (f : List ℕ) (v w v' w' : Walk) : Type 0 where
  pub one : Onward v v'
  pub other : Onward w w'
  pub leaves : Leaves f v w v' w'

-- what both next URLs say of the two lists
abbrev pub Compares : List ℕ → Walk → Walk → Both → Type 0
Compares f v w (Equal v' w') = Follows f v w v' w'
Compares f v w Ended = Decides f v w true
Compares f v w Differ = Decides f v w false
