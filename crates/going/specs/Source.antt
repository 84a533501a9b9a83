-- Document 02, [8], "Segments whose lists of URLs are byte-equal in the same order belong to one source; a segment
-- without any uses the list in `pfil`": the source of an addition, by where the lists of the file stand.
use Rattle.std.specs.Prelude.{ℕ, Bool, List, ◌≡◌, ltb, length}
use Rattle.boxes.specs.Framing.{Box}
use Rattle.partial.specs.Heading.{Heading, urls_in}
use Rattle.partial.specs.ReadingDemands.{Numbered}
use Rattle.partial.specs.Segments.{Segment}
use Rattle.partial.specs.Sources.{urls_for, same_urls, source_count, source_beside}
use Rattle.boxes.specs.declared.body.Body.{Body}
use Rattle.sources.specs.Held.{Stands, ListsHeld}
use Rattle.going.specs.Texts.{urls_of}

-- the source of texts, beside segments of so many sources
abbrev pub SourceWith : List ℕ → List ℕ → ℕ → List ℕ → List ℕ → ℕ → Type 0
SourceWith f lists many texts lengths source =
    (h : Heading) (ss : List Segment) → many ≡ source_count ss → Numbered ss → ListsHeld f h lists ss → source ≡ source_beside ss (urls_of texts lengths)

-- and of none: that of the list in a container
abbrev pub SourceFor : List ℕ → List ℕ → ℕ → Body → List ℕ → List ℕ → ℕ → Type 0
SourceFor f lists many list texts lengths source =
    (h : Heading) (ss : List Segment) (bs : List Box) → many ≡ source_count ss → Numbered ss → ListsHeld f h lists ss → Stands f list bs
    → source ≡ source_beside ss (urls_for (urls_of texts lengths) (urls_in f bs))

-- whether they go to the source of that list
abbrev pub GoesTo : List ℕ → Body → List ℕ → List ℕ → Bool → Type 0
GoesTo f list texts lengths own = (bs : List Box) → Stands f list bs → own ≡ same_urls (urls_in f bs) (urls_for (urls_of texts lengths) (urls_in f bs))

-- whether an addition with texts of these lengths has a list of URLs: its own, or that in a container
abbrev pub HasList : List ℕ → Body → List ℕ → Bool → Type 0
HasList f list lengths listed = (texts : List ℕ) (bs : List Box) → Stands f list bs → listed ≡ ltb 0 (length (urls_for (urls_of texts lengths) (urls_in f bs)))
