-- Document 02, [8]: the texts of the `surl` boxes of a source and of a segment, as they are handed back and as append
-- takes them.
use Rattle.std.specs.Prelude.{ℕ, ◌&&◌, List, [], ◌∷◌, ◌++◌, map, length, get_or}
use Rattle.boxes.specs.Answer.{Answer, given, ◌>>=◌, hold}
use Rattle.boxes.specs.Framing.{Box}
use Rattle.boxes.specs.Kinds.{surl, those}
use Rattle.partial.specs.Segments.{Segment}
use Rattle.partial.specs.Heading.{Part, Heading, heading, bytes_in, url, mime}
use Rattle.partial.specs.Sources.{of_source}
use Rattle.partial.specs.Reading.{reading}
use Rattle.partial.specs.Memory.{fits}
use Rattle.partial.specs.Tables.{nowhere, first_text}

-- the boxes among which the list of URLs of a segment stands: its own, or those of `pfil` where it has no `surl`
unfoldable pub list_boxes : Heading → Segment → List Box
list_boxes h s = elim (those surl s.inner) [ [] ↦ h.inner | _ ∷ _ ↦ s.inner ]

-- the first URL, or the first MIME text, of a source: that of its first segment's list; empty where the file has no such
-- source
unfoldable pub source_text : (List ℕ → Box → Part) → List ℕ → Heading → List Segment → ℕ → Part
source_text which f h ss source = elim (of_source source ss) [ [] ↦ nowhere | s ∷ _ ↦ first_text which f (list_boxes h s) ]

unfoldable pub source_text_of : (List ℕ → Box → Part) → ℕ → List ℕ → ℕ → Answer Part
source_text_of which limit f source = do
  ss ← reading limit f
  h ← heading f
  given (source_text which f h ss source)

-- the two texts of a `surl`
pub record Surl : Type 0 where
  pub url : List ℕ
  pub mime : List ℕ

-- the two texts of each `surl` among these boxes, in their order
unfoldable pub surls_in : List ℕ → List Box → List Surl
surls_in f bs = map (λ b. record { url = bytes_in f (url f b); mime = bytes_in f (mime f b) }) (those surl bs)

-- those texts one behind the other, and their lengths, URL and MIME by turns
unfoldable pub texts_for : List Surl → List ℕ
texts_for [] = []
texts_for (s ∷ ss) = s.url ++ (s.mime ++ texts_for ss)

unfoldable pub lengths_for : List Surl → List ℕ
lengths_for [] = []
lengths_for (s ∷ ss) = length s.url ∷ length s.mime ∷ lengths_for ss

-- the texts of a segment's own `surl` boxes, told by its number; none of one that is not in the file
unfoldable pub segment_surls : List ℕ → List Segment → ℕ → List Surl
segment_surls f ss n = get_or (map (λ s. surls_in f s.inner) ss) n []

-- these texts with the lent memory for their bytes and for their lengths: all stages of the file, then 26. Both are left
-- as `after` says, by `texts_for` and `lengths_for`
unfoldable pub texts_tabled : ℕ → List ℕ → ℕ → List ℕ → List ℕ → Answer (List Surl)
texts_tabled limit f n texts lengths = do
  ss ← reading limit f
  let told = segment_surls f ss n
  _ ← hold 26 (fits (texts_for told) texts && fits (lengths_for told) lengths)
  given told
