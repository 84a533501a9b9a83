-- Document 01, "within the framing of one container .. the first fault in file order counts", as a sentence.
use Rattle.std.specs.Prelude.{ℕ, ◌<◌, List, [], ◌∷◌, ◌⊎◌, ◌≡◌, length}
use Rattle.boxes.specs.Answer.{refused, given}
use Rattle.boxes.specs.Framing.{Box, Fault, header}
use Rattle.boxes.specs.declared.kinds.Container.{Container}

-- boxes that follow each other in a container from a place up to another, each as its header says
abbrev pub Follow : Container → List ℕ → ℕ → ℕ → List Box → ℕ → Type 0
Follow c s end from [] to = from ≡ to
Follow c s end from (b ∷ bs) to = (from < end) × (header c s from end ≡ given b) × Follow c s end b.end bs to

-- boxes of a container that may hold so many, and behind them its first fault: a wrong header, or a box too many
pub record FirstFault (c : Container) (s : List ℕ) (start end most : ℕ) (bs : List Box) (x : Fault) : Type 0 where
  pub before : Follow c s end start bs x.at
  pub short : x.at < end
  pub wrong : ((length bs < most) × (header c s x.at end ≡ refused x.number)) ⊎ ((length bs ≡ most) × (x.number ≡ 6))
