-- Laws of the segments of `pseg` boxes: those that reading gives go with the boxes, and the fields of the `pshd` say
-- where each starts.
use Prim.Native.Nat.{ℕ}
use mathlib.Core.Bool.{true, ◌&&◌}
use mathlib.Core.List.{List, [], ◌∷◌, ◌++◌, append_assoc, append-nil}
use mathlib.Core.Path.{◌≡◌, refl, sym, ap, subst, ◌∙◌}
use native.Mathlib.Omega.{arith}
use borrow.Author.Tests.{eq-eqb, leb-true, eqb-true}
use lib.Dec.{eqb, lit<}
use Rattle.boxes.specs.Answer.{refused, given}
use Rattle.boxes.specs.Framing.{Box}
use Rattle.boxes.specs.Kinds.{pseg, pshd, is, right, those, box_at, first_of}
use Rattle.boxes.specs.declared.kinds.Container.TheVariants.{Pseg}
use Rattle.boxes.proofs.AnswerLaws.{not_both, both_given, given_same}
use Rattle.boxes.proofs.KindLaws.{first_is, first_of-those}
use Rattle.tallying.specs.Found.{first_in}
use Rattle.std.specs.Prelude.{None}
use Rattle.std.proofs.lemmas.Option.{none-some}
use Rattle.partial.specs.Heading.{Heading}
use Rattle.partial.specs.Limits.{source_limit}
use Rattle.partial.specs.Reading.{pshd_fields, pshd_right, segment, segments_from, segments}
use Rattle.partial.specs.Segments.{Segment}
use Rattle.partial.proofs.Meaning.SequenceLaws.{both}
use Rattle.partial.proofs.Reading.KeptLaws.{stepped, segmented}
use Rattle.fields.specs.Fields.{values_of, fields_of}
use Rattle.fields.specs.declared.fields.Fields.{Fields}
use Rattle.fileindex.specs.Parts.{SegmentOf}

-- these are the segments of these `pseg` boxes
abbrev pub SegmentsOf : List ℕ → List Box → List Segment → Type 0
SegmentsOf f [] [] = Unit {0}
SegmentsOf f [] (s ∷ ss) = ⊥
SegmentsOf f (b ∷ bs) [] = ⊥
SegmentsOf f (b ∷ bs) (s ∷ ss) = SegmentOf f b s × SegmentsOf f bs ss

module _ (f : List ℕ) where
  -- a `pshd` that is as 5.1.4.2 is the first of its kind, and its fields end where it ends
  whole_header : (bs : List Box) → pshd_right f bs ≡ true → (pshd_fields f (first_of pshd bs)).end ≡ (first_of pshd bs).end
  unfolding pshd_right
  whole_header bs e =
      let b = box_at 0 bs in
      let (two, whole) = both (is pshd b && right Pseg pshd bs) (eqb (pshd_fields f b).end b.end) e in
      let (kind, _) = both (is pshd b) (right Pseg pshd bs) two in
      rw (first_is pshd (lit< tt) bs kind) (eqb-true (pshd_fields f b).end b.end whole)

  module _ (h : Heading) where
    segment_known : (before : List Segment) (b : Box) {s : Segment} → segment source_limit f h before b ≡ given s → SegmentOf f b s
    segment_known before b e =
        let (inner, l, cs, t, same) = stepped source_limit f h before b e in
        subst (SegmentOf f b) same (record { boxes = t.boxes; whole = whole_header inner t.header; offset = refl; placed = leb-true _ _ t.low })

    from_known : (bs : List Box) (before : List Segment) {ss : List Segment} → segments_from source_limit f h before bs ≡ given ss
        → (new : List Segment) × (before ++ new ≡ ss) × SegmentsOf f bs new
    unfolding segments_from
    from_known [] before e = ([], append-nil before ∙ given_same e, tt)
    from_known (b ∷ bs) before e =
        let (s, read, e1) = both_given (segment source_limit f h before b) _ e in
        let (new, all, rest) = from_known bs (before ++ (s ∷ [])) e1 in
        (s ∷ new, sym (append_assoc before (s ∷ []) new) ∙ all, (segment_known before b read, rest))

    -- the segments of a file are those of its `pseg` boxes
    pub segments_known : {ss : List Segment} → segments source_limit f h ≡ given ss → SegmentsOf f (those pseg h.boxes) ss
    segments_known e =
        let (new, all, known) = from_known (those pseg h.boxes) [] (segmented source_limit f h e).read in
        subst (SegmentsOf f (those pseg h.boxes)) all known

  -- a segment has a `pshd`
  pub header-there : {b : Box} {s : Segment} → SegmentOf f b s → None ≡ first_in (those pshd s.inner) → ⊥
  unfolding pshd_fields box_at
  header-there {s = s} known none = go (those pshd s.inner) refl none
    where
      go : (cs : List Box) → those pshd s.inner ≡ cs → None ≡ first_in cs → ⊥
      go [] e none =
          let first : first_of pshd s.inner ≡ box_at 0 [] = first_of-those pshd s.inner ∙ ap (box_at 0) e in
          let whole = rw first at known.whole in
          omega (arith, whole)
      go (c ∷ cs) e none = none-some c none

  -- the fields of its `pshd` say where a segment starts
  module _ {b header : Box} {s : Segment} (known : SegmentOf f b s) (first : header ≡ first_of pshd s.inner) where
    fields_known : fields_of f header ≡ given (values_of (pshd_fields f (first_of pshd s.inner)))
    unfolding fields_of
    fields_known = rw (first, eq-eqb _ _ known.whole)

    pub offset_known : {x : Fields} → fields_of f header ≡ given x → x.offset.0 ≡ s.source_offset
    offset_known read = ap (λ (x : Fields). x.offset.0) (given_same (sym read ∙ fields_known)) ∙ known.offset

    pub fields_sound : {n : ℕ} → fields_of f header ≡ refused n → ⊥
    fields_sound fault = not_both (sym fault ∙ fields_known)
