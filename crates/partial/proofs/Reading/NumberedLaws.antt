-- The source numbers of a file's segments: each is given beside the segments before it, so that they are in order of
-- first appearance.
use Prim.Native.Nat.{ℕ}
use mathlib.Core.List.{List, [], ◌∷◌, ◌++◌}
use mathlib.Core.Path.{◌≡◌, refl, subst}
use Rattle.boxes.specs.Answer.{given}
use Rattle.boxes.specs.Framing.{Box}
use Rattle.boxes.specs.Kinds.{pseg, those}
use Rattle.boxes.proofs.AnswerLaws.{both_given, given_same}
use Rattle.partial.specs.Segments.{Segment}
use Rattle.partial.specs.Heading.{Heading}
use Rattle.partial.specs.Sources.{source_beside}
use Rattle.partial.specs.Reading.{segment, segments_from, segments, reading}
use Rattle.partial.specs.ReadingDemands.{Numbered}
use Rattle.partial.proofs.Meaning.SourceLaws.{numbered_none, numbered_more}
use Rattle.partial.proofs.Reading.KeptLaws.{stepped, segmented}
use Rattle.partial.proofs.Reading.ReadingLaws.{reading_read}

module _ (limit : ℕ) (f : List ℕ) (h : Heading) where
  -- a segment has its number beside those before it
  pub segment_beside : (before : List Segment) (b : Box) {s : Segment} → segment limit f h before b ≡ given s → s.source ≡ source_beside before s.urls
  segment_beside before b e =
      let (inner, l, cs, t, same) = stepped limit f h before b e in
      subst (λ (s : Segment). s.source ≡ source_beside before s.urls) same refl

  pub from_numbered : (bs : List Box) (before : List Segment) {ss : List Segment} → Numbered before → segments_from limit f h before bs ≡ given ss → Numbered ss
  unfolding segments_from
  from_numbered [] before numbered e = subst Numbered (given_same e) numbered
  from_numbered (b ∷ bs) before numbered e =
      let (s, read, e1) = both_given (segment limit f h before b) _ e in
      from_numbered bs (before ++ (s ∷ [])) (numbered_more before numbered s (segment_beside before b read)) e1

  pub segments_numbered : {ss : List Segment} → segments limit f h ≡ given ss → Numbered ss
  segments_numbered e = from_numbered (those pseg h.boxes) [] numbered_none (segmented limit f h e).read

pub reading_numbered : (limit : ℕ) (f : List ℕ) {ss : List Segment} → reading limit f ≡ given ss → Numbered ss
reading_numbered limit f e = let (h, is, r) = reading_read limit f e in segments_numbered limit f h r.segmented
