-- Document 02, [8], "Segments whose lists of URLs are byte-equal in the same order belong to one source": the sources of
-- a list of segments, by their numbers.
use Rattle.std.specs.Prelude.{ℕ, suc, Bool, true, false, ◌&&◌, List, [], ◌∷◌, map, eqb}
use Rattle.partial.specs.Sequences.{all_of, largest}
use Rattle.partial.specs.Segments.{Segment}
use Rattle.partial.specs.Meaning.{agree}

-- the URLs of a segment's source: its own list, and that of `pfil` where it has none
unfoldable pub urls_for : List (List ℕ) → List (List ℕ) → List (List ℕ)
urls_for [] in_pfil = in_pfil
urls_for (u ∷ us) in_pfil = u ∷ us

-- whether two lists are equal in the same order, by a test of what stands in them; one that ends before the other is not
unfoldable pub same_list : {A : Type 0} → (A → A → Bool) → List A → List A → Bool
same_list same [] [] = true
same_list same [] (y ∷ ys) = false
same_list same (x ∷ xs) [] = false
same_list same (x ∷ xs) (y ∷ ys) = same x y && same_list same xs ys

-- whether two texts are byte-equal
unfoldable pub same_text : List ℕ → List ℕ → Bool
same_text = same_list eqb

-- whether two lists of URLs are
unfoldable pub same_urls : List (List ℕ) → List (List ℕ) → Bool
same_urls = same_list same_text

-- how many sources segments have: their numbers are given from 0 on
unfoldable pub source_count : List Segment → ℕ
source_count ss = largest (map (λ s. suc s.source) ss)

-- the number of the source with these URLs, by the segments before it: that of the first of them with the same, else the
-- next one
unfoldable pub source_among : ℕ → List Segment → List (List ℕ) → ℕ
source_among next [] us = next
source_among next (s ∷ ss) us = elim (same_urls us s.urls) [ true ↦ s.source | false ↦ source_among next ss us ]

unfoldable pub source_beside : List Segment → List (List ℕ) → ℕ
source_beside before us = source_among (source_count before) before us

-- the segments of a source
unfoldable pub of_source : ℕ → List Segment → List Segment
of_source n [] = []
of_source n (s ∷ ss) = elim (eqb s.source n) [ true ↦ s ∷ of_source n ss | false ↦ of_source n ss ]

-- the segments of the source with these URLs; of a list that no segment uses none
unfoldable pub of_urls : List (List ℕ) → List Segment → List Segment
of_urls us ss = of_source (source_beside ss us) ss

-- 25, per source: the sizes of each segment's source agree
unfoldable pub agreed : List Segment → Bool
agreed ss = all_of (λ s. agree (of_source s.source ss)) ss
