-- Laws of the boxes of a file whose heading and segments are known: `ftyp`, `pfil`, and behind them no second, so that
-- the containers of the index stand in the order of the definition.
use Prim.Native.Nat.{ℕ, suc, ◌+◌, ◌-◌, ◌%◌, ◌≤◌}
use mathlib.Core.Bool.{true, false, ◌&&◌}
use mathlib.Core.List.{List, [], ◌∷◌, ◌++◌, map, map-append, append_assoc}
use mathlib.Core.Logic.{inl, inr}
use mathlib.Core.Path.{◌≡◌, refl, sym, ap, subst, ◌∙◌}
use native.Mathlib.Omega.{arith}
use borrow.Author.Tests.{lt-ltb}
use lib.Dec.{leb, eqb, lit<}
use lib.ListN.{length, take, get_or, length-append, length-map}
use lib.Seq.{get_or-append_seam, get_or-take}
use Rattle.boxes.specs.Answer.{given}
use Rattle.boxes.specs.Framing.{Box, boxes_in}
use Rattle.boxes.specs.Kinds.{ftyp, pfil, pseg, is, right, those, box_at}
use Rattle.boxes.specs.declared.kinds.Container.TheVariants.{File, Pfil}
use Rattle.boxes.proofs.KindLaws.{is_there, right_one, those_one, those_other}
use Rattle.partial.specs.Heading.{ftyp_right, pfil_right, Heading}
use Rattle.partial.specs.Limits.{segment_limit, source_limit}
use Rattle.partial.specs.Reading.{segments}
use Rattle.partial.specs.Segments.{Segment}
use Rattle.partial.proofs.Meaning.SequenceLaws.{both, which}
use Rattle.partial.proofs.Reading.HeadingAppendLaws.{Headed}
use Rattle.partial.proofs.Reading.LimitLaws.{segments_limited}
use Rattle.sources.specs.Numbers.{source_in}
use Rattle.fileindex.specs.File.{NumberedBy}
use Rattle.fileindex.specs.Parts.{Part, part_in, segment_part, Sourcing, file, segment, other, segments_with}
use Rattle.fileindex.proofs.PartLaws.{parts_of, other_kind, with_segment, with_other, HoldAll}
use Rattle.fileindex.proofs.SegmentLaws.{SegmentsOf, segments_known}

-- a table has the numbers of the sources of segments behind so many
abbrev NumbersFrom : Sourcing → ℕ → List Segment → Type 0
NumbersFrom x k [] = Unit {0}
NumbersFrom x k (s ∷ ss) = (source_in x.sources k ≡ x.number s.urls) × NumbersFrom x (suc k) ss

numbers_from : (x : Sourcing) (before ss : List Segment) → take (length (before ++ ss)) x.sources ≡ map (λ s. x.number s.urls) (before ++ ss) → length (before ++ ss) ≤ segment_limit
    → NumbersFrom x (length before) ss
unfolding source_in
numbers_from x before [] held few = tt
numbers_from x before (s ∷ ss) held few =
    let number : Segment → ℕ = λ t. x.number t.urls in
    let k : ℕ = length before in
    let long = length-append before (s ∷ ss) in
    let split : (before ++ (s ∷ [])) ++ ss ≡ before ++ (s ∷ ss) = append_assoc before (s ∷ []) ss in
    let there : get_or (map number (before ++ (s ∷ ss))) k 0 ≡ number s =
    ap (λ (ns : List ℕ). get_or ns k 0) (map-append number before (s ∷ ss))
    ∙ ap (λ (n : ℕ). get_or (map number before ++ (number s ∷ map number ss)) n 0) (sym (length-map before number))
    ∙ get_or-append_seam (map number before) (number s) (map number ss) 0 in
    let here : get_or x.sources k 0 ≡ number s = sym (get_or-take (length (before ++ (s ∷ ss))) x.sources k 0 (omega arith)) ∙ ap (λ (ns : List ℕ). get_or ns k 0) held ∙ there in
    let rest = numbers_from x (before ++ (s ∷ [])) ss (rw split held) (rw split few) in (
      rw (source_in, lt-ltb k segment_limit (omega arith)) here,
      subst (λ (n : ℕ). NumbersFrom x n ss) (omega (arith, length-append before (s ∷ []))) rest,
    )

module _ (f : List ℕ) (x : Sourcing) where
  -- boxes without a `pfil`
  segments-hold : (bs : List Box) → length (those pfil bs) ≡ 0 → (k : ℕ) (ss : List Segment) → SegmentsOf f (those pseg bs) ss → NumbersFrom x k ss → HoldAll f x k bs (map segment_part ss)
  unfolding those
  segments-hold [] none k [] known numbers = refl
  segments-hold [] none k (s ∷ ss) known numbers = absurd known
  segments-hold (b ∷ bs) none k ss known numbers =
      elim (which (is pfil b)) [
        | inl kind ↦ absurd (omega (arith, none, ap length (those_one pfil b bs kind)))
        | inr not-file ↦
            let rest = segments-hold bs (sym (ap length (those_other pfil b bs not-file)) ∙ none) in
            elim (which (is pseg b)) [
              | inl kind ↦ one not-file kind rest ss (subst (λ (bs : List Box). SegmentsOf f bs ss) (those_one pseg b bs kind) known) numbers
              | inr lacks ↦ (
                [],
                map segment_part ss,
                refl,
                other not-file lacks,
                subst (λ (n : ℕ). HoldAll f x n bs (map segment_part ss)) (sym (with_other b k lacks))
                    (rest k ss (subst (λ (bs : List Box). SegmentsOf f bs ss) (those_other pseg b bs lacks) known) numbers),
              )
            ]
      ]
    where
      one : is pfil b ≡ false → is pseg b ≡ true → ((k : ℕ) (ss : List Segment) → SegmentsOf f (those pseg bs) ss → NumbersFrom x k ss → HoldAll f x k bs (map segment_part ss))
          → (ss : List Segment) → SegmentsOf f (b ∷ those pseg bs) ss → NumbersFrom x k ss → HoldAll f x k (b ∷ bs) (map segment_part ss)
      one not-file kind rest [] known numbers = absurd known
      one not-file kind rest (s ∷ ss) (here, there) (number, numbers) = (
        segment_part s ∷ [],
        map segment_part ss,
        refl,
        segment not-file kind here number,
        subst (λ (n : ℕ). HoldAll f x n bs (map segment_part ss)) (sym (with_segment b k kind)) (rest (suc k) ss there numbers),
      )

  -- boxes of which the first is `ftyp` and the second `pfil`, the only one
  boxes_hold : {inner : List Box} {us : List (List ℕ)} → x.in_pfil ≡ x.number us → (ss : List Segment) → NumbersFrom x 0 ss → (bs : List Box) → is ftyp (box_at 0 bs) ≡ true → is pfil (box_at 1 bs) ≡ true → length (those pfil bs) ≡ 1
      → boxes_in Pfil f (box_at 1 bs).body (box_at 1 bs).end ≡ given inner
      → SegmentsOf f (those pseg bs) ss
      → HoldAll f x 0 bs (part_in Pfil inner us 0 ∷ map segment_part ss)
  unfolding box_at
  boxes_hold number ss numbers [] first second single framed known = absurd (omega (arith, is_there ftyp (lit< tt) 0 [] first))
  boxes_hold number ss numbers (a ∷ []) first second single framed known = absurd (omega (arith, is_there pfil (lit< tt) 1 (a ∷ []) second))
  boxes_hold {inner} {us} number ss numbers (a ∷ b ∷ bs) first second single framed known =
      let no_pfil = other_kind ftyp pfil a first (λ e. omega arith) in
      let no-pseg = other_kind ftyp pseg a first (λ e. omega arith) in
      let lacks = other_kind pfil pseg b second (λ e. omega arith) in
      let one : those pfil (a ∷ b ∷ bs) ≡ b ∷ those pfil bs = those_other pfil a (b ∷ bs) no_pfil ∙ those_one pfil b bs second in
      let same : those pseg (a ∷ b ∷ bs) ≡ those pseg bs = those_other pseg a (b ∷ bs) no-pseg ∙ those_other pseg b bs lacks in
      let rest = segments-hold bs (omega (arith, single, ap length one)) 0 ss (subst (λ (bs : List Box). SegmentsOf f bs ss) same known) numbers in
      let none : segments_with b (segments_with a 0) ≡ 0 = with_other b (segments_with a 0) lacks ∙ with_other a 0 no-pseg in
      let filed : Part = part_in Pfil inner us 0 in (
        [],
        filed ∷ map segment_part ss,
        refl,
        other no_pfil no-pseg,
        (filed ∷ [], map segment_part ss, refl, file second framed number, subst (λ (n : ℕ). HoldAll f x n bs (map segment_part ss)) (sym none) rest),
      )

  pub heading-holds : (h : Heading) (ss : List Segment) → Headed f h → segments source_limit f h ≡ given ss → NumberedBy x.number h ss x.sources x.in_pfil
      → HoldAll f x 0 h.boxes (parts_of h ss)
  unfolding ftyp_right pfil_right
  heading-holds h ss t read numbered =
      let bs = h.boxes in
      let a = box_at 0 bs in
      let (three, _) = both (is ftyp a && leb (a.body + 8) a.end && eqb ((a.end - a.body) % 4) 0) (right File ftyp bs) t.ftyp in
      let (two, _) = both (is ftyp a && leb (a.body + 8) a.end) (eqb ((a.end - a.body) % 4) 0) three in
      let (first, _) = both (is ftyp a) (leb (a.body + 8) a.end) two in
      let (second, single) = both (is pfil (box_at 1 bs)) (right File pfil bs) t.pfil in
      boxes_hold numbered.pfil ss (numbers_from x [] ss numbered.segments (segments_limited source_limit f h read)) bs first second (right_one File pfil bs refl single) t.inner (segments_known f h read)
