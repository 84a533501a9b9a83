-- Laws of the `pseg` box of a number: it is among those that are left, and the boxes inside it are those of its segment.
use Prim.Native.Nat.{ℕ, zero, suc, ◌-◌, ◌≤◌}
use mathlib.Core.Bool.{true, false}
use mathlib.Core.List.{List, [], ◌∷◌}
use mathlib.Core.Path.{◌≡◌, refl, sym, ap, ◌∙◌}
use native.Mathlib.Omega.{arith}
use lib.ListN.{length}
use Rattle.boxes.specs.Answer.{given}
use Rattle.boxes.specs.Bodies.{boxes_of, body_of}
use Rattle.boxes.specs.declared.body.Body.{Body}
use Rattle.boxes.proofs.AnswerLaws.{given_same}
use Rattle.std.specs.Prelude.{Option, None, Some, slice_get}
use Rattle.tallying.proofs.FoundLaws.{number_found, number_none, number_later}
use Rattle.boxes.specs.Framing.{Box, boxes_in, box_of}
use Rattle.boxes.specs.Kinds.{pseg, is, those, box_at}
use Rattle.boxes.specs.Walk.{walk_over}
use Rattle.boxes.specs.declared.framing.Framed.{Framed}
use Rattle.boxes.specs.declared.kinds.Container.TheVariants.{File, Pseg}
use Rattle.boxes.proofs.KindLaws.{those-nil, those_one, those_other}
use Rattle.boxes.proofs.ToldLaws.{box_fields}
use Rattle.boxes.proofs.WalkLaws.{walk_boxes, walk_steps, step_end}
use Rattle.partial.specs.Heading.{Heading, heading}
use Rattle.partial.specs.Limits.{source_limit}
use Rattle.partial.specs.Reading.{segments}
use Rattle.partial.specs.Segments.{Segment}
use Rattle.partial.specs.Texts.{surls_in, segment_surls}
use Rattle.partial.proofs.Reading.HeadingAppendLaws.{lies, lies_ends, boxes_lie, those_all, headed}
use Rattle.surls.proofs.WithinLaws.{number_lies}
use Rattle.fileindex.proofs.SegmentLaws.{SegmentsOf, segments_known}

-- the `pseg` box of a number, as it is looked for
abbrev pub pseg_at : ℕ → List Box → Option Box
pseg_at n bs = slice_get (those pseg bs) n

pub pseg_none : (n : ℕ) → pseg_at n [] ≡ None
pseg_none n = ap (λ bs. slice_get bs n) (those-nil pseg)

module _ (b : Box) (rest : List Box) where
  pub pseg_other : (n : ℕ) → is pseg b ≡ false → pseg_at n (b ∷ rest) ≡ pseg_at n rest
  pseg_other n other = ap (λ bs. slice_get bs n) (those_other pseg b rest other)

  pub pseg_first : {n : ℕ} → is pseg b ≡ true → n ≡ 0 → pseg_at n (b ∷ rest) ≡ Some b
  pseg_first one e = rw (those_one pseg b rest one, e) refl

  pub pseg_later : (n : ℕ) → is pseg b ≡ true → (n ≡ 0 → ⊥) → pseg_at n (b ∷ rest) ≡ pseg_at (n - 1) rest
  pseg_later n one some = rw (those_one pseg b rest one) (number_later n some b (those pseg rest))

module _ (f : List ℕ) where
  -- a container that ends where it starts has no box
  empty_boxes : boxes_in Pseg f 0 0 ≡ given []
  empty_boxes =
      let w = walk_over Pseg (record { 0 = 0 }) (record { 0 = 0 }) in
      walk_boxes f {w = w} refl ∙ walk_steps f w ∙ rw (step_end f w (omega arith))

  -- the boxes inside are those whose texts are told of the segment
  inner_known : (n : ℕ) (bs : List Box) (ss : List Segment) → SegmentsOf f bs ss
      → (inner : List Box) × (boxes_in Pseg f (box_at n bs).body (box_at n bs).end ≡ given inner) × (segment_surls f ss n ≡ surls_in f inner)
  unfolding segment_surls surls_in box_at
  inner_known n [] [] known = ([], empty_boxes, rw those-nil)
  inner_known n [] (s ∷ ss) known = elim known [ ]
  inner_known n (b ∷ bs) [] known = elim known [ ]
  inner_known zero (b ∷ bs) (s ∷ ss) (known, rest) = (s.inner, known.boxes, refl)
  inner_known (suc n) (b ∷ bs) (s ∷ ss) (known, rest) = inner_known n bs ss rest

  -- and it lies in the file
  pseg_inside : (h : Heading) → heading f ≡ given h → (n : ℕ) → (box_at n (those pseg h.boxes)).end ≤ length f
  pseg_inside h head n =
      let lie = boxes_lie File f 0 (length f) h.boxes (headed f h head).boxes in
      lies_ends (length f) (box_at n (those pseg h.boxes)) (number_lies (length f) n (those pseg h.boxes) (those_all pseg (lies (length f)) h.boxes lie))

  module _ (h : Heading) {ss : List Segment} (head : heading f ≡ given h) (read : segments source_limit f h ≡ given ss) (n : ℕ) where
    -- so it is with a box that was found as that of the number
    pub segment_known : (b : Framed) → Some (box_of b) ≡ pseg_at n h.boxes → {list : Body} → list ≡ body_of Pseg b
        → (inner : List Box) × (boxes_of f list ≡ given inner) × (segment_surls f ss n ≡ surls_in f inner) × (list.end.0 ≤ length f)
    segment_known b found body =
        let same = sym (box_fields b) ∙ number_found n (those pseg h.boxes) found in
        let (inner, boxes, told) = inner_known n (those pseg h.boxes) ss (segments_known f h read) in (
          inner,
          rw body ((λ i. boxes_in Pseg f (same i).body (same i).end) ∙ boxes),
          told,
          omega (arith, pseg_inside h head n, ap (λ (b : Box). b.end) same, ap (λ (b : Body). b.end.0) body),
        )

    -- a segment that is not there has no texts
    pub segment_unknown : None ≡ pseg_at n h.boxes → segment_surls f ss n ≡ []
    unfolding surls_in
    segment_unknown none =
        let past = number_none n (those pseg h.boxes) none in
        let (inner, boxes, told) = inner_known n (those pseg h.boxes) ss (segments_known f h read) in
        let empty : inner ≡ [] = given_same (sym boxes ∙ rw (← past) empty_boxes) in
        told ∙ rw (empty, those-nil)
