-- Document 02, [8]: the URLs of an addition's texts, and what a box says of them beside those of its container.
use Rattle.std.specs.Prelude.{ℕ, ◌*◌, ◌≤◌, Bool, false, List, [], ◌∷◌, map, ◌≡◌, length, drop, Option, None, Some}
use Rattle.boxes.specs.Framing.{Box, box_of}
use Rattle.boxes.specs.declared.framing.Framed.{Framed}
use Rattle.additions.specs.Addition.{surls_of}
use Rattle.partial.specs.Heading.{urls_in}
use Rattle.partial.specs.Sources.{same_urls}
use Rattle.going.specs.declared.texts.Cut.{Cut}

-- the URLs of texts that a list of lengths cuts
abbrev pub urls_of : List ℕ → List ℕ → List (List ℕ)
urls_of texts lengths = map (λ s. s.url) (surls_of texts lengths)

-- those that are left
abbrev pub urls_from : List ℕ → List ℕ → Cut → List (List ℕ)
urls_from texts lengths cut = urls_of (drop cut.from texts) (drop (2 * cut.pair) lengths)

-- whether the URLs of boxes are those that are left
abbrev pub left_same : List ℕ → List ℕ → List ℕ → Cut → List Box → Bool
left_same f texts lengths cut bs = same_urls (urls_in f bs) (urls_from texts lengths cut)

-- with a box before others it goes by what is left behind it, or they are not the same
abbrev pub Passes : List ℕ → Framed → List ℕ → List ℕ → Cut → Option Cut → Type 0
Passes f b texts lengths cut (Some left) =
    (left.from ≤ length texts) × ((rest : List Box) → left_same f texts lengths cut (box_of b ∷ rest) ≡ left_same f texts lengths left rest)
Passes f b texts lengths cut None = (rest : List Box) → left_same f texts lengths cut (box_of b ∷ rest) ≡ false

-- with all boxes of a container it goes by what is left behind them
abbrev pub Behind : List ℕ → List ℕ → List ℕ → List Box → Option Cut → Type 0
Behind f texts lengths bs (Some left) = same_urls (urls_in f bs) (urls_of texts lengths) ≡ left_same f texts lengths left []
Behind f texts lengths bs None = same_urls (urls_in f bs) (urls_of texts lengths) ≡ false
