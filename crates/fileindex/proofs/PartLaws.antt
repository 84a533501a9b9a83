-- Laws of the containers that may hold an index: which one a box of the file is, and what is told of it.
use Prim.Native.Nat.{ℕ, suc, ◌≤◌}
use mathlib.Core.Bool.{Bool, true, false, false≢true}
use mathlib.Core.List.{List, [], ◌∷◌, ◌++◌, map, append_assoc, append-nil}
use Rattle.std.specs.Prelude.{Option, None, Result, Ok, Err}
use Rattle.refusals.specs.declared.Refusal.{Refusal}
use mathlib.Core.Path.{◌≡◌, refl, sym, ap, ap₂, subst, ◌∙◌}
use native.Mathlib.Omega.{arith}
use borrow.Author.Tests.{eqb-true, ne_eqb}
use Rattle.boxes.specs.Answer.{Answer, refused, given, ◌>>=◌}
use Rattle.boxes.specs.Bodies.{body_of}
use Rattle.boxes.specs.Framing.{Box, boxes_in, box_of}
use Rattle.boxes.specs.Kinds.{pfil, pseg, is}
use Rattle.boxes.specs.declared.body.Body.{Body}
use Rattle.boxes.specs.declared.framing.Framed.{Framed}
use Rattle.boxes.specs.declared.kinds.Kind.{Kind}
use Rattle.boxes.proofs.AnswerLaws.{both_given, given_same}
use Rattle.boxes.proofs.KindLaws.{is-eqb}
use Rattle.boxes.specs.declared.kinds.Container.{Container}
use Rattle.boxes.specs.declared.kinds.Container.TheVariants.{Pfil}
use Rattle.partial.specs.Heading.{Heading}
use Rattle.partial.specs.Index.{Indexed, SourceBox, boxes_alone, belonging, index_in, index_for, index_of_segments}
use Rattle.partial.specs.Limits.{source_limit}
use Rattle.partial.specs.Segments.{Segment}
use Rattle.indexing.specs.Index.{Contained, Indexes, CountedIn, marked_with}
use Rattle.indexing.specs.Marks.{shown, Marked}
use Rattle.indexing.specs.declared.marks.Marks.{Marks}
use Rattle.partial.proofs.Reading.IndexedLaws.{belonging_alone}
use Rattle.sources.specs.Numbers.{source_in}
use Rattle.indexing.proofs.MarksLaws.{marked_none}
use Rattle.fileindex.specs.File.{source_rows, rows_by}
use Rattle.fileindex.proofs.SourceRowLaws.{by_append, by_one, shown_rows}
use Rattle.fileindex.specs.Parts.{SegmentOf, Part, part_in, segment_part, index_of_parts, Sourcing, Holds, file, segment, other, segments_with, SourcesAs, SourceIs, EndsAs, InFile, Adds}

-- the containers of a file, in file order
abbrev pub parts_of : Heading → List Segment → List Part
parts_of h ss = part_in Pfil h.inner h.urls 0 ∷ map segment_part ss

-- ---- which container a box is

-- a box of one kind is of no other
pub other_kind : (k j : Kind) (b : Box) → is k b ≡ true → (k.code ≡ j.code → ⊥) → is j b ≡ false
other_kind k j b kind apart =
    is-eqb j b ∙ ne_eqb b.kind j.code (λ e. apart (sym (eqb-true b.kind k.code (sym (is-eqb k b) ∙ kind)) ∙ e))

-- a box adds one to the segments exactly if it is one
pub with_segment : (b : Box) (k : ℕ) → is pseg b ≡ true → segments_with b k ≡ suc k
unfolding segments_with
with_segment b k e = rw (segments_with, e)

pub with_other : (b : Box) (k : ℕ) → is pseg b ≡ false → segments_with b k ≡ k
unfolding segments_with
with_other b k e = rw (segments_with, e)

-- one more segment at most
pub with_most : (b : Box) (k : ℕ) → segments_with b k ≤ suc k
unfolding segments_with
with_most b k = go (is pseg b)
  where
    go : (t : Bool) → elim t as (λ _. ℕ) [ true ↦ suc k | false ↦ k ] ≤ suc k
    go true = omega arith
    go false = omega arith

-- which containers these boxes are, in their order, behind so many segments
abbrev pub HoldAll : List ℕ → Sourcing → ℕ → List Box → List Part → Type 0
HoldAll f x k [] all = all ≡ []
HoldAll f x k (b ∷ bs) all = (ps : List Part) × (qs : List Part) × (all ≡ ps ++ qs) × Holds f x k b ps × HoldAll f x (segments_with b k) bs qs

module _ {f : List ℕ} {x : Sourcing} {k : ℕ} {b : Box} where
  pub holds_file : {ps : List Part} → Holds f x k b ps → is pfil b ≡ true
      → (inner : List Box) × (us : List (List ℕ)) × (boxes_in Pfil f b.body b.end ≡ given inner) × (part_in Pfil inner us 0 ∷ [] ≡ ps)
  holds_file (file {inner = inner} {us = us} kind known number) e = (inner, us, known, refl)
  holds_file (segment not-file kind known number) e = absurd (false≢true (sym not-file ∙ e))
  holds_file (other not-file lacks) e = absurd (false≢true (sym not-file ∙ e))

  pub holds-segment : {ps : List Part} → Holds f x k b ps → is pfil b ≡ false → is pseg b ≡ true → (s : Segment) × SegmentOf f b s × (segment_part s ∷ [] ≡ ps)
  holds-segment (file kind known number) e there = absurd (false≢true (sym e ∙ kind))
  holds-segment (segment {s = s} not-file kind known number) e there = (s, known, refl)
  holds-segment (other not-file lacks) e there = absurd (false≢true (sym lacks ∙ there))

  pub holds_none : {ps : List Part} → Holds f x k b ps → is pfil b ≡ false → is pseg b ≡ false → [] ≡ ps
  holds_none (file kind known number) e none = absurd (false≢true (sym e ∙ kind))
  holds_none (segment not-file kind known number) e none = absurd (false≢true (sym none ∙ kind))
  holds_none (other not-file lacks) e none = refl

  -- the number of its source: the segment's, or that of the list in `pfil`
  pub sources-segment : {ps : List Part} → Holds f x k b ps → is pseg b ≡ true → {source : ℕ} → source ≡ source_in x.sources k → SourceIs x.number x.in_pfil source ps
  sources-segment (file kind known number) there e = absurd (false≢true (sym (other_kind pfil pseg b kind (λ same. omega arith)) ∙ there))
  sources-segment (segment {s = s} not-file kind known number) there e = record { each = (e ∙ number, tt); most = λ n low all. omega (arith, e, number, all s.urls) }
  sources-segment (other not-file none) there e = absurd (false≢true (sym none ∙ there))

  pub sources_file : {ps : List Part} → Holds f x k b ps → is pseg b ≡ false → SourceIs x.number x.in_pfil x.in_pfil ps
  sources_file (file kind known number) lacks = record { each = (number, tt); most = λ n low all. low }
  sources_file (segment not-file kind known number) lacks = absurd (false≢true (sym lacks ∙ kind))
  sources_file (other not-file none) lacks = record { each = tt; most = λ n low all. low }

-- where its source ends, by its number
pub ends_as : (number : List (List ℕ) → ℕ) (source : ℕ) (size : ℕ → Option ℕ) (end : Option ℕ) (ps : List Part) → SourcesAs number source ps → end ≡ size source
    → EndsAs (λ us. size (number us)) end ps
ends_as number source size end [] same e = tt
ends_as number source size end (p ∷ ps) (here, same) e = (e ∙ ap size here, ends_as number source size end ps same e)

-- ---- what is known where its boxes are read

pub in-contained : {f : List ℕ} {c : Container} (b : Framed) {place count : ℕ} {bs : List Box} → InFile (box_of b) count → boxes_in c f (box_of b).body (box_of b).end ≡ given bs → place ≤ source_limit
    → Contained f (body_of c b) place count bs
unfolding box_of
in-contained b inside known placed =
    record { framed = known; ordered = inside.whole; short = inside.short; placed = placed; rows = omega (arith, inside.rows, inside.header) }

-- what is promised of the index in a box that is such a container
pub index_promised : (f : List ℕ) (c : Container) (b : Framed) (size : Option ℕ) (place : ℕ) (before : Marks) (t₀ t : List ℕ) (r : Result (Option Marks) Refusal) {body : Body} → body ≡ body_of c b
    → ((bs : List Box) → Contained f body place before.count bs → Indexes f body.container bs size place before t₀ t r × CountedIn body.end.0 before r)
    → (bs : List Box) → Contained f (body_of c b) place before.count bs → Indexes f c bs size place before t₀ t r × CountedIn b.end.0 before r
index_promised f c b size place before t₀ t r same promise =
    subst (λ (body : Body). (bs : List Box) → Contained f body place before.count bs → Indexes f body.container bs size place before t₀ t r × CountedIn body.end.0 before r) same promise

-- ---- what is told

module _ (f : List ℕ) (size : List (List ℕ) → Option ℕ) where
  -- of containers behind others
  pub parts_append : (ps qs : List Part) → index_of_parts f size (ps ++ qs) ≡ (index_of_parts f size ps >>= λ first. index_of_parts f size qs >>= λ later. given (first ++ later))
  unfolding index_of_parts
  parts_append [] qs = same (index_of_parts f size qs)
    where
      same : (x : Answer (List SourceBox)) → x ≡ (x >>= given)
      same (refused n) = refl
      same (given boxes) = refl
  parts_append (p ∷ ps) qs =
      go (index_for source_limit f size p.urls p.container p.inner p.from) (index_of_parts f size ps) (index_of_parts f size qs) (parts_append ps qs)
    where
      go : (x y z : Answer (List SourceBox)) {w : Answer (List SourceBox)} → w ≡ (y >>= λ first. z >>= λ later. given (first ++ later))
          → ◌≡◌ {A = Answer (List SourceBox)} (x >>= λ first. w >>= λ later. given (first ++ later))
          (x >>= (λ first. y >>= λ later. given (first ++ later)) >>= λ all. z >>= λ later. given (all ++ later))
      go (refused n) y z e = refl
      go (given a) (refused n) z e = rw e
      go (given a) (given b) (refused n) e = rw e
      go (given a) (given b) (given c) e = rw e (ap given (sym (append_assoc a b c)))

  -- the rows of containers of one source
  pub parts_rows : (number : List (List ℕ) → ℕ) (source : ℕ) (ps : List Part) → SourcesAs number source ps → {is : List SourceBox} → index_of_parts f size ps ≡ given is
      → rows_by number is ≡ source_rows source (shown (boxes_alone is))
  unfolding index_of_parts index_for rows_by boxes_alone source_rows shown
  parts_rows number source [] same e = subst (λ (is : List SourceBox). rows_by number is ≡ source_rows source (shown (boxes_alone is))) (given_same e) refl
  parts_rows number source (p ∷ ps) (here, same) e =
      let (first, one, e1) = both_given (index_for source_limit f size p.urls p.container p.inner p.from) _ e in
      let (later, rest, e2) = both_given (index_of_parts f size ps) _ e1 in
      let (boxes, _, e3) = both_given (index_in source_limit f p.container p.inner (size p.urls) p.from) _ one in
      let own : rows_by number first ≡ source_rows source (shown (boxes_alone first)) =
      subst (λ (is : List SourceBox). rows_by number is ≡ source_rows source (shown (boxes_alone is))) (given_same e3)
      (by_one number p.urls boxes ∙ ap₂ (λ (n : ℕ) (is : List Indexed). source_rows n (shown is)) (sym here) (sym (belonging_alone p.urls boxes))) in
      subst (λ (is : List SourceBox). rows_by number is ≡ source_rows source (shown (boxes_alone is))) (given_same e2)
      (by_append number first later ∙ ap₂ ◌++◌ own (parts_rows number source ps same rest) ∙ sym (shown_rows source first later))

  -- of segments
  pub parts_segments : (ss : List Segment) → index_of_parts f size (map segment_part ss) ≡ index_of_segments source_limit f size ss
  unfolding index_of_parts index_of_segments
  parts_segments [] = refl
  parts_segments (s ∷ ss) = rw (parts_segments ss)

  -- of one
  module _ (c : Container) (bs : List Box) (us : List (List ℕ)) (place : ℕ) (before : Marks) (t₀ t : List ℕ) where
    adds_alone : (r : Result (Option Marks) Refusal) → Indexes f c bs (size us) place before t₀ t r → Adds (index_of_parts f size (part_in c bs us place ∷ [])) before t₀ t r
    unfolding Indexes Adds index_of_parts index_for
    adds_alone (Err n) fault = rw fault
    adds_alone (Ok found) (boxes, read, _, marked) =
        let alone : boxes_alone (belonging us boxes ++ []) ≡ boxes = ap boxes_alone (append-nil (belonging us boxes)) ∙ belonging_alone us boxes in
        (belonging us boxes ++ [], rw read, subst (λ (is : List Indexed). Marked before t₀ is (marked_with before found) t) (sym alone) marked)

    pub adds_one : (r : Result (Option Marks) Refusal) {ps : List Part} → part_in c bs us place ∷ [] ≡ ps → (end : Option ℕ) → EndsAs size end ps → Indexes f c bs end place before t₀ t r
        → Adds (index_of_parts f size ps) before t₀ t r
    adds_one r same end ends told =
        let (e, _) = subst (EndsAs size end) (sym same) ends in
        subst (λ (ps : List Part). Adds (index_of_parts f size ps) before t₀ t r) same (adds_alone r (subst (λ (z : Option ℕ). Indexes f c bs z place before t₀ t r) e told))

  -- of none
  pub adds_none : (b : Framed) {ps : List Part} → [] ≡ ps → (before : Marks) (t : List ℕ) → InFile (box_of b) before.count
      → Adds (index_of_parts f size ps) before t t (Ok None) × CountedIn b.end.0 before (Ok None)
  unfolding Adds index_of_parts CountedIn box_of boxes_alone
  adds_none b same before t inside =
      (([], ap (index_of_parts f size) (sym same), marked_none before t), omega (arith, inside.rows, inside.header, inside.whole))
