-- Document 02, [9]: what stands in the copy for the boxes inside a container, and for its header.
use Rattle.std.specs.Prelude.{ℕ, ◌+◌, Bool, true, false, ◌≡◌, eqb, Option, None, Some}
use mathlib.Core.List.{List, ◌++◌, Memᴰ}
use Rattle.boxes.specs.Answer.{given}
use Rattle.boxes.specs.Framing.{Box, front}
use Rattle.boxes.specs.Kinds.{ploc, is}
use Rattle.numerals.specs.Numbers.{bytes_of}
use Rattle.fields.specs.Location.{ploc_of}
use Rattle.fields.specs.declared.location.Location.{Location}
use Rattle.partial.specs.Entries.{ploc_head}
use Rattle.partial.specs.Heading.{Heading}
use Rattle.partial.specs.Segments.{Segment}
use Rattle.rescue.specs.Copy.{box_bytes, inner_bytes}
use Rattle.partial.proofs.Meaning.SequenceLaws.{Each}
use Rattle.rescue.proofs.PlocLaws.{Lies}
use Rattle.salvaging.specs.Ploc.{PlocRead}
use Rattle.salvaging.specs.Tables.{new_in}
use Rattle.salvaging.specs.declared.ploc.Moved.{Moved}

-- a box inside a `pseg`, where entries are put anew, or inside `pfil`
unfoldable pub inner_text : List ℕ → (ℕ → ℕ) → Segment → Bool → Box → List ℕ
inner_text f new s anew b = elim anew [ true ↦ inner_bytes f new s b | false ↦ box_bytes f b ]

-- each `ploc` among boxes was read as that of a segment
abbrev pub PlocsRead : List ℕ → Heading → ℕ → Segment → List Box → Type 0
PlocsRead f h pseg s bs =
    (b : Box) → Memᴰ b bs → is ploc b ≡ true → (l : Location) × (ploc_head f b ≡ given (ploc_of l)) × PlocRead f h l pseg s

-- a box is one of some
abbrev pub Among : Box → List Box → Type 0
Among b bs = Memᴰ b bs

-- what is known of a `pseg` that is put anew: each `ploc` among its boxes, where its chunks are in the copy, and where it is
abbrev pub Anew : List ℕ → Heading → Heading → Segment → List Box → Option Moved → Type 0
Anew f h copy s bs None = Unit {0}
Anew f h copy s bs (Some m) =
    PlocsRead f h m.from.0 s bs × Each (Lies (new_in f h) s.place copy) s.chunks × (m.to.0 ≡ new_in f h m.from.0)

-- the header of a container with a body of n bytes, in the form that it has
unfoldable pub head_of : Box → ℕ → List ℕ
head_of b n = elim (eqb b.body (b.at + 16)) [ true ↦ bytes_of 4 1 ++ (bytes_of 4 b.kind ++ bytes_of 8 (16 + n)) | false ↦ front b.kind n ]
