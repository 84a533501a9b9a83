-- Laws of stages 36 to 39: what the marks of an index decide, what is told where there is none, and that the stages are
-- those of the definition.
use Prim.Native.Nat.{ℕ, suc, ◌≤◌}
use mathlib.Core.Bool.{Bool, true, false, not, ◌&&◌, ◌||◌, false≢true}
use mathlib.Core.List.{List, [], ◌∷◌, map, Memᴰ}
use Rattle.std.specs.Prelude.{Option, Result, Ok, Err}
use Rattle.refusals.specs.Refusals.{refusal_no}
use Rattle.refusals.specs.declared.Refusal.{Refusal}
use mathlib.Core.Path.{◌≡◌, refl, sym, ap, ap₂, subst, ◌∙◌}
use native.Mathlib.Nat.{zero-add}
use native.Mathlib.Omega.{arith}
use borrow.Author.Tests.{lt-ltb, not-true, not-false}
use lib.Dec.{leb, ltb}
use lib.ListN.{length}
use Rattle.boxes.specs.Answer.{Answer, refused, given, ◌>>=◌, hold}
use Rattle.boxes.specs.Framing.{Box}
use Rattle.boxes.specs.Kinds.{fidx, rules, those, rule_in}
use Rattle.boxes.specs.declared.kinds.Container.{Container}
use Rattle.boxes.specs.declared.kinds.Container.TheVariants.{Pfil, Pseg}
use Rattle.boxes.specs.declared.kinds.Count.TheVariants.{AtMostOne}
use Rattle.boxes.proofs.KindLaws.{few_right}
use Rattle.partial.specs.Heading.{Heading, heading}
use Rattle.partial.specs.Index.{SourceBox, boxes_alone, belonging, size_for, index_for, is_known, level_limit, index_of_segments, index_of, has_index, indexed}
use Rattle.partial.specs.Limits.{segment_limit, source_limit}
use Rattle.partial.specs.Reading.{segments}
use Rattle.partial.specs.ReadingDemands.{Numbered}
use Rattle.partial.specs.Segments.{Segment}
use Rattle.partial.specs.Sequences.{some_of, all_of}
use Rattle.partial.specs.Sources.{source_beside}
use Rattle.partial.proofs.Meaning.SequenceLaws.{neither}
use Rattle.partial.proofs.Meaning.SourceLaws.{beside_there, beside_most, count_most}
use Rattle.partial.proofs.Reading.IndexedLaws.{index_none, has_none}
use Rattle.partial.proofs.Reading.LimitLaws.{segments_limited}
use Rattle.partial.proofs.Reading.NumberedLaws.{segments_numbered}
use Rattle.sources.specs.Held.{SourcesHeld, SourceOf}
use Rattle.indexing.specs.Marks.{deep_in, unknown_in, shown, marks_with}
use Rattle.indexing.specs.declared.marks.Marks.{Marks}
use Rattle.indexing.proofs.MarksLaws.{shown_all}
use Rattle.fileindex.specs.File.{index_by, end_in, NumberedBy, no_marks, Tells}
use Rattle.fileindex.proofs.FileLaws.{by_first, ends_held}
use Rattle.heading.specs.Facts.{facts_of, facts_by}
use Rattle.heading.specs.declared.answers.Head.{Head}
use Rattle.gathering.specs.Gathered.{gathered_of}
use Rattle.gathering.specs.Noted.{Noted}
use Rattle.gathering.specs.declared.tables.SourceTables.{SourceTables}
use Rattle.gathering.specs.declared.gathered.Gathered.{Gathered}
use Rattle.gathering.proofs.GatheredLaws.{gathered-sources, gathered-indexed}
use Rattle.reading.specs.Judged.{indexed_told}
use Rattle.reading.specs.Staged.{staged, HasIndexes}
use Rattle.reading.proofs.JudgedLaws.{facts_indexed, opened, few_segments}

-- ---- what the marks decide

module _ (is : List SourceBox) {m : Marks} (marked : m ≡ marks_with no_marks (boxes_alone is)) (both : Bool) where
  alone_long : (is : List SourceBox) → length (boxes_alone is) ≡ length is
  unfolding boxes_alone
  alone_long [] = refl
  alone_long (i ∷ is) = ap suc (alone_long is)

  depth : not (all_of (λ i. leb i.level level_limit) (boxes_alone is)) ≡ m.deep
  unfolding deep_in
  depth = sym (ap (λ (m : Marks). m.deep) marked)

  pub marked-deep : m.deep ≡ true → staged both (given is) ≡ refused 37
  unfolding staged
  marked-deep deep =
      let over : all_of (λ i. leb i.level level_limit) (boxes_alone is) ≡ false = not-true _ (depth ∙ deep) in
      rw over

  module _ (flat : m.deep ≡ false) where
    shallow : all_of (λ i. leb i.level level_limit) (boxes_alone is) ≡ true
    shallow = not-false _ (depth ∙ flat)

    all_shown : shown (boxes_alone is) ≡ boxes_alone is
    unfolding deep_in
    all_shown = shown_all (boxes_alone is) (depth ∙ flat)

    ends : not (all_of (λ i. is_known i.end) (boxes_alone is)) ≡ m.unknown
    unfolding unknown_in
    ends = sym (ap (λ (m : Marks). m.unknown) marked ∙ ap unknown_in all_shown)

    pub marked_both : both ≡ true → staged both (given is) ≡ refused 38
    unfolding staged
    marked_both e = rw (shallow, e)

    pub marked_unknown : both ≡ false → m.unknown ≡ true → staged both (given is) ≡ refused 39
    unfolding staged
    marked_unknown e unknown =
        let lacks : all_of (λ i. is_known i.end) (boxes_alone is) ≡ false = not-true _ (ends ∙ unknown) in
        rw (shallow, e, lacks)

    pub marked-told : both ≡ false → m.unknown ≡ false → staged both (given is) ≡ given m.count
    unfolding staged
    marked-told e known =
        let count : m.count ≡ length is = ap (λ (m : Marks). m.count) marked ∙ zero-add _ ∙ ap length all_shown ∙ alone_long is in
        let ended : all_of (λ i. is_known i.end) (boxes_alone is) ≡ true = not-false _ (ends ∙ known) in
        rw (shallow, e, ended, count)

-- ---- a file without an index

-- a container without one
lacking : (bs : List Box) → has_index bs ≡ false → those fidx bs ≡ []
unfolding has_index
lacking bs e = go (those fidx bs) e
  where
    go : (cs : List Box) → ltb 0 (length cs) ≡ false → cs ≡ []
    go [] e = refl
    go (c ∷ cs) e = absurd (false≢true (sym e ∙ lt-ltb 0 (length (c ∷ cs)) (omega arith)))

module _ (f : List ℕ) (size : List (List ℕ) → Option ℕ) where
  unindexed : (us : List (List ℕ)) (c : Container) (bs : List Box) (start : ℕ) → rule_in rules c fidx ≡ AtMostOne → has_index bs ≡ false → index_for source_limit f size us c bs start ≡ given []
  unfolding index_for belonging
  unindexed us c bs start rule e =
      let lacks = lacking bs e in
      rw (index_none source_limit f bs lacks c (size us) start (few_right c fidx bs rule (rw lacks (omega arith))))

  segments-unindexed : (ss : List Segment) → some_of (λ s. has_index s.inner) ss ≡ false → index_of_segments source_limit f size ss ≡ given []
  unfolding some_of index_of_segments
  segments-unindexed [] e = refl
  segments-unindexed (s ∷ ss) e =
      let (here, there) = neither (has_index s.inner) (some_of (λ s. has_index s.inner) ss) e in
      rw (unindexed s.urls Pseg s.inner s.source_offset refl here, segments-unindexed ss there)

  pub nothing-staged : (h : Heading) (ss : List Segment) {in_pfil in_segments : Bool} → HasIndexes h ss in_pfil in_segments → (in_pfil || in_segments) ≡ false
      → staged (in_pfil && in_segments) (index_by f h size ss) ≡ given 0
  unfolding staged index_by all_of boxes_alone
  nothing-staged h ss {in_pfil} {in_segments} has e =
      let (first, later) = neither in_pfil in_segments e in
      rw (unindexed h.urls Pfil h.inner 0 refl (sym has.pfil ∙ first), segments-unindexed ss (sym has.segments ∙ later), first)

-- ---- the stages of the definition

pub stages_told : (f : List ℕ) (h : Heading) (ss : List Segment) {in_pfil in_segments : Bool} → HasIndexes h ss in_pfil in_segments
    → staged (in_pfil && in_segments) (index_by f h (size_for ss) ss) ≡ indexed_told f h ss
unfolding staged index_by indexed_told indexed index_of
stages_told f h ss has = rw (has.pfil, has.segments) (go (index_of source_limit f h ss) (has_index h.inner && some_of (λ s. has_index s.inner) ss))
  where
    tests : (is : List SourceBox) (a b c : Bool)
        → ◌>>=◌ {B = ℕ} (hold 37 a) (λ _. hold 38 b >>= λ _. hold 39 c >>= λ _. given (length is))
        ≡ (◌>>=◌ {B = List SourceBox} (hold 37 a) (λ _. hold 38 b >>= λ _. hold 39 c >>= λ _. given is) >>= λ is. given (length is))
    tests is false b c = refl
    tests is true false c = refl
    tests is true true false = refl
    tests is true true true = refl

    go : (x : Answer (List SourceBox)) (both : Bool)
        → staged both x
        ≡ (x >>= λ is. hold 37 (all_of (λ i. leb i.level level_limit) (boxes_alone is)) >>= λ _. hold 38 (not both) >>= λ _. hold 39 (all_of (λ i. is_known i.end) (boxes_alone is)) >>= λ _. given is)
        >>= λ is. given (length is)
    go (refused n) both = refl
    go (given is) both = tests is (all_of (λ i. leb i.level level_limit) (boxes_alone is)) (not both) (all_of (λ i. is_known i.end) (boxes_alone is))

-- those of a file without a segment, beside one that has no index
pub begun-told : (f : List ℕ) (h : Heading) (s : Segment) {in_pfil : Bool} → in_pfil ≡ has_index h.inner → those fidx s.inner ≡ []
    → staged (in_pfil && false) (index_by f h (size_for (s ∷ [])) []) ≡ indexed_told f h (s ∷ [])
unfolding some_of
begun-told f h s {in_pfil} index lacks =
    let none : some_of (λ s. has_index s.inner) (s ∷ []) ≡ false = rw (has_none source_limit f s.inner lacks) in
    ap (staged (in_pfil && false)) (by_first f h (size_for (s ∷ [])) s lacks) ∙ stages_told f h (s ∷ []) (record { pfil = index; segments = sym none })

-- ---- what the calls told

-- the index that was read
module _ (f : List ℕ) (h : Heading) (size : List (List ℕ) → Option ℕ) (ss : List Segment) (number : List (List ℕ) → ℕ) (t₀ t : List ℕ) (r : Result Marks Refusal)
    (told : Tells number (index_by f h size ss) t₀ t r) where
  pub index-refused : (both : Bool) {n : Refusal} → r ≡ Err n → staged both (index_by f h size ss) ≡ refused (refusal_no n)
  unfolding Tells staged
  index-refused both e = rw (subst (Tells number (index_by f h size ss) t₀ t) e told)

  pub index-marked : {m : Marks} → r ≡ Ok m → (is : List SourceBox) × (index_by f h size ss ≡ given is) × (m ≡ marks_with no_marks (boxes_alone is))
  unfolding Tells
  index-marked e =
      let (is, read, marked) = subst (Tells number (index_by f h size ss) t₀ t) e told in
      (is, read, marked.marks)

-- the sources of segments by their lists of URLs, and that of the list in `pfil`
module _ (h : Heading) (ss : List Segment) (few : length ss ≤ segment_limit) (numbered : Numbered ss) where
  beside_each : (ts : List Segment) → ((t : Segment) → Memᴰ t ts → Memᴰ t ss) → map (λ s. s.source) ts ≡ map (λ s. source_beside ss s.urls) ts
  beside_each [] there = refl
  beside_each (t ∷ ts) there =
      ap₂ ◌∷◌ (sym (beside_there ss numbered t (there t (Memᴰ.head refl)))) (beside_each ts (λ u rest. there u (Memᴰ.tail rest)))

  pub numbered_by : {sources : List ℕ} {in_pfil : ℕ} → SourcesHeld sources ss → in_pfil ≡ source_beside ss h.urls → NumberedBy (source_beside ss) h ss sources in_pfil
  numbered_by held pfil = record { small = λ us. omega (arith, beside_most ss us, count_most ss numbered); pfil = pfil; segments = held.numbers ∙ beside_each ss (λ t there. there) }

-- the stages of a file by what its heading tells, what is gathered of its segments and what is noted of them
pub stages_given : (f : List ℕ) (h : Heading) (ss : List Segment) {head : Head} {g : Gathered} {t : SourceTables} {source : ℕ} {x : Answer ℕ} → heading f ≡ given h → facts_of f h ≡ facts_by head
    → segments source_limit f h ≡ given ss
    → g ≡ gathered_of ss
    → Noted f h t ss
    → SourceOf f t.lists g.sources head.list source
    → ((h : Heading) (ss : List Segment) (number : List (List ℕ) → ℕ) → heading f ≡ given h → segments source_limit f h ≡ given ss → NumberedBy number h ss t.sources source
    → HasIndexes h ss head.indexed g.indexed
    → x ≡ staged (head.indexed && g.indexed) (index_by f h (λ us. end_in t.sizes (number us)) ss))
    → x ≡ indexed_told f h ss
unfolding facts_of
stages_given f h ss {head} {g} {t} headed facts all same noted found answer =
    let has : HasIndexes h ss head.indexed g.indexed = record { pfil = facts_indexed f h head facts; segments = gathered-indexed ss same } in
    let numbered = segments_numbered source_limit f h all in
    let in_pfil = (opened f h headed facts (few_segments f h all)).in_pfil in
    let source = found h ss h.inner (gathered-sources ss same) numbered noted.sourced.lists in_pfil.stands ∙ ap (source_beside ss) (sym in_pfil.urls) in
    answer h ss (source_beside ss) headed all (numbered_by h ss (segments_limited source_limit f h all) numbered noted.sourced.sources source) has
    ∙ ap (λ (size : List (List ℕ) → Option ℕ). staged (head.indexed && g.indexed) (index_by f h size ss)) (ends_held t.sizes ss noted.sizes)
    ∙ stages_told f h ss has
