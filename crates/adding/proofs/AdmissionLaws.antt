-- Laws of what append is refused by what was read of the file and counted of the addition: each test, and the answer by
-- the first that fails.
use Prim.Native.Nat.{ℕ, ◌+◌, ◌-◌, ◌%◌, ◌^◌, ◌≤◌, ◌<◌, min}
use mathlib.Core.Bool.{Bool, true, false}
use mathlib.Core.List.{List, [], ◌∷◌, ◌++◌, map}
use mathlib.Core.Path.{◌≡◌, refl, sym, ap, ap₂, subst, ◌∙◌}
use native.Mathlib.Nat.{mod-lt}
use native.Mathlib.Decide.{dec_le}
use native.Mathlib.Omega.{arith}
use borrow.Author.Tests.{le-leb, lt-leb, leb-true, eqb-true, eqb-false}
use lib.Dec.{leb, ltb, lit<}
use lib.ListN.{length}
use Rattle.boxes.specs.Answer.{Answer, refused, given, ◌>>=◌}
use Rattle.boxes.proofs.AnswerLaws.{then-then}
use Rattle.boxes.specs.Framing.{box_limit}
use Rattle.additions.specs.Addition.{Addition, items, flags_for, surls}
use Rattle.boxes.specs.Kinds.{fidx, those}
use Rattle.additions.specs.Append.{added, added_boxes, inner_boxes, new_urls, new_segment, pseg_place, admission, admitted}
use Rattle.partial.specs.Heading.{Heading}
use Rattle.partial.specs.Index.{indexed}
use Rattle.partial.specs.Limits.{file_limit, segment_limit, chunk_limit, source_limit, layer_limit}
use Rattle.partial.specs.Segments.{Segment, is_last, end_of, chunks_of}
use Rattle.partial.specs.Sequences.{sum}
use Rattle.partial.specs.Sources.{source_count, source_beside, of_source, agreed}
use Rattle.ends.specs.Sizes.{sizes_of}
use Rattle.partial.proofs.Reading.KeptLaws.{Segmented, segmented}
use Rattle.partial.proofs.Reading.RefusalLaws.{earlier_read}
use Rattle.additions.specs.declared.header.SegmentHeader.{SegmentHeader}
use Rattle.additions.proofs.NewSegmentLaws.{length_new, end_new, no_index_new, urls_new, source_new}
use Rattle.gathering.specs.Gathered.{gathered_of}
use Rattle.gathering.specs.declared.gathered.Gathered.{Gathered}
use Rattle.gathering.proofs.GatheredLaws.{gathered-segments, gathered_chunks}
use Rattle.reading.specs.declared.judging.Judged.{Judged}
use Rattle.adding.specs.Admission.{Tells, Known, indexed_beside, admitted_beside, Beside, Goes, AskedBy, admitted_length}
use Rattle.adding.specs.Counts.{capped}
use Rattle.adding.specs.Texts.{texts_of}
use Rattle.adding.specs.declared.admission.Asked.{Asked}
use Rattle.adding.specs.declared.admission.Target.{Target}
use Rattle.adding.specs.declared.counts.Counts.{Counts}
use Rattle.adding.specs.declared.texts.Texts.{Texts}
use Rattle.adding.proofs.CountLaws.{counted_items, counted_sum}

-- a sum ends by a limit or not, also where a part of it is cut above the limit
pub capped_ends : (n m limit top : ℕ) → limit < top → leb (n + min m top) limit ≡ leb (n + m) limit
capped_ends n m limit top above =
    elim (dec_le (n + m) limit) [
      | yes low ↦ le-leb (n + min m top) limit (omega arith) ∙ sym (le-leb (n + m) limit low)
      | no over ↦ lt-leb (n + min m top) limit (omega arith) ∙ sym (lt-leb (n + m) limit (omega arith))
    ]

-- the flags of a header that asks for last_segment or not, but for its other flags
flags_last : (flags : ℕ) (last : Bool) → is_last flags ≡ last → flags % 2 ≡ flags_for last
unfolding is_last
flags_last flags true e = eqb-true (flags % 2) 1 e
flags_last flags false e = even (flags % 2) (mod-lt flags (lit< tt)) (eqb-false (flags % 2) 1 e)
  where
    even : (m : ℕ) → m < 2 → (m ≡ 1 → ⊥) → m ≡ 0
    even m small other = omega (arith, other)

-- the segment that an addition to a file of n bytes makes beside those of the file
abbrev pub new : Heading → List Segment → ℕ → Addition → Segment
new h ss n a = new_segment h ss (pseg_place n a) a

-- ---- a segment beside those before it

-- the tests, by what the code has at hand
module _ (ss : List Segment) {s : Segment} {g : Gathered} {header : SegmentHeader} {c : Counts} (known : g ≡ gathered_of ss) (tells : Tells s header c) where
  pub segments_full : segment_limit ≤ g.segments → leb (length ss + 1) segment_limit ≡ false
  segments_full full = lt-leb (length ss + 1) segment_limit (omega (arith, gathered-segments ss known))

  pub segments_few : g.segments < segment_limit → leb (length ss + 1) segment_limit ≡ true
  segments_few few = le-leb (length ss + 1) segment_limit (omega (arith, gathered-segments ss known))

  pub chunk_test : {b : Bool} → b ≡ leb (g.chunks + c.items) chunk_limit → b ≡ leb (length (chunks_of ss) + length s.chunks) chunk_limit
  chunk_test test = test ∙ ap₂ (λ (n m : ℕ). leb (n + m) chunk_limit) (gathered_chunks ss known) tells.items

  pub source_test : {b : Bool} → b ≡ leb (header.offset.0 + c.sum) source_limit → b ≡ leb (end_of s) source_limit
  unfolding end_of
  source_test test =
      test
      ∙ ap₂ (λ (n m : ℕ). leb (n + m) source_limit) tells.offset tells.sum
      ∙ capped_ends s.source_offset (sum (map (λ c. c.size) s.chunks)) source_limit (2 ^ 64 - 1) (omega arith)

  pub source_end : true ≡ leb (header.offset.0 + c.sum) source_limit → header.offset.0 + c.sum ≡ end_of s
  unfolding end_of
  source_end test = omega (arith, leb-true (header.offset.0 + c.sum) source_limit (sym test), tells.offset, tells.sum)

-- those of a file that append takes agree, and are of no more sources than may be
pub earlier_segmented : {f : List ℕ} {h : Heading} {ss : List Segment} {in_pfil : Bool} → Known f h ss in_pfil → Segmented source_limit f h ss
earlier_segmented {f} {h} file = segmented source_limit f h (earlier_read source_limit f file.head file.read)

-- the tests up to 23, where all are passed
pub record Passes23 (ss : List Segment) (s : Segment) : Type 0 where
  pub few : leb (length ss + 1) segment_limit ≡ true
  pub listed : true ≡ ltb 0 (length s.urls)
  pub chunks : true ≡ leb (length (chunks_of ss) + length s.chunks) chunk_limit
  pub low : true ≡ leb (end_of s) source_limit

pub passes_23 : (ss : List Segment) {s : Segment} {g : Gathered} {header : SegmentHeader} {c : Counts} → g ≡ gathered_of ss → Tells s header c
    → g.segments < segment_limit → true ≡ ltb 0 (length s.urls) → true ≡ leb (g.chunks + c.items) chunk_limit → true ≡ leb (header.offset.0 + c.sum) source_limit → Passes23 ss s
passes_23 ss known tells few listed chunks low =
    record { few = segments_few ss known tells few; listed = listed; chunks = chunk_test ss known tells chunks; low = source_test ss known tells low }

-- what the ends of the segments of its source say
pub own_sizes : {h : Heading} (ss : List Segment) (s : Segment) {target : Target} → Goes h ss s.urls target → s.source ≡ source_beside ss s.urls → target.sizes ≡ sizes_of (of_source s.source ss)
own_sizes ss s goes next = goes.sizes ∙ ap (λ (n : ℕ). sizes_of (of_source n ss)) (goes.number ∙ sym next)

-- the answer, by the first test that fails
module _ (f : List ℕ) (h : Heading) (ss : List Segment) (s : Segment) where
  pub admitted_13 : leb (length ss + 1) segment_limit ≡ false → refused 13 ≡ admitted_beside f h ss s
  unfolding admitted_beside admitted
  admitted_13 over = rw over

  module _ (few : leb (length ss + 1) segment_limit ≡ true) where
    pub admitted_41 : false ≡ ltb 0 (length s.urls) → refused 41 ≡ admitted_beside f h ss s
    unfolding admitted_beside admitted
    admitted_41 none = rw (few, ← none)

    module _ (listed : true ≡ ltb 0 (length s.urls)) where
      pub admitted_22 : false ≡ leb (length (chunks_of ss) + length s.chunks) chunk_limit → refused 22 ≡ admitted_beside f h ss s
      unfolding admitted_beside admitted
      admitted_22 over = rw (few, ← listed, ← over)

      pub admitted_23 : true ≡ leb (length (chunks_of ss) + length s.chunks) chunk_limit → false ≡ leb (end_of s) source_limit → refused 23 ≡ admitted_beside f h ss s
      unfolding admitted_beside admitted
      admitted_23 chunks over = rw (few, ← listed, ← chunks, ← over)

  module _ (t : Passes23 ss s) where
    pub admitted_25 : false ≡ agreed (ss ++ (s ∷ [])) → refused 25 ≡ admitted_beside f h ss s
    unfolding admitted_beside admitted
    admitted_25 differ = rw (t.few, ← t.listed, ← t.chunks, ← t.low, ← differ)

    module _ (same : true ≡ agreed (ss ++ (s ∷ []))) where
      pub admitted_40 : false ≡ leb (source_count (ss ++ (s ∷ []))) layer_limit → refused 40 ≡ admitted_beside f h ss s
      unfolding admitted_beside admitted
      admitted_40 over = rw (t.few, ← t.listed, ← t.chunks, ← t.low, ← same, ← over)

      -- and else by the index
      pub admitted_by : true ≡ leb (source_count (ss ++ (s ∷ []))) layer_limit → indexed_beside f h ss s ≡ admitted_beside f h ss s
      unfolding admitted_beside admitted indexed_beside
      admitted_by sources = rw (t.few, ← t.listed, ← t.chunks, ← t.low, ← same, ← sources)

-- ---- an addition to a file

-- the tests, by what the code has at hand
module _ {f : List ℕ} {h : Heading} {ss : List Segment} {j : Judged} {a : Addition} {x : Asked} (n : ℕ) (beside : Beside f h ss j) (asked : AskedBy a x) where
  pub file_test : {b : Bool} → b ≡ leb (n + x.layout.added) file_limit → b ≡ leb (n + length (added a)) file_limit
  file_test test =
      test
      ∙ ap (λ (m : ℕ). leb (n + m) file_limit) asked.laid.all
      ∙ capped_ends n (length (added a)) file_limit (file_limit + 1) (omega arith)

  pub size_whole : true ≡ leb (n + length (added a)) file_limit → x.layout.added ≡ length (added a)
  size_whole test = omega (arith, asked.laid.all, leb-true (n + length (added a)) file_limit (sym test))

  pub box_test : {more : ℕ} {b : Bool} → more ≡ capped (added_boxes a) → b ≡ leb (j.head.boxes + more) 512 → b ≡ leb (length h.boxes + added_boxes a) box_limit
  unfolding box_limit
  box_test more test = test ∙ ap₂ (λ (n m : ℕ). leb (n + m) 512) beside.boxes more ∙ capped_ends (length h.boxes) (added_boxes a) 512 (2 ^ 64 - 1) (omega arith)

  pub inner_test : {b : Bool} → b ≡ leb (2 + x.texts.surls) 512 → b ≡ leb (inner_boxes a) box_limit
  unfolding box_limit inner_boxes surls texts_of
  inner_test test = test ∙ ap (λ (t : Texts). leb (2 + t.surls) 512) asked.texted.counts

  -- the segment that it makes is told of
  sizes_new : sum (map (λ c. c.size) (new h ss n a).chunks) ≡ sum (map (λ i. i.size) (items a.list))
  unfolding end_of new_segment
  sizes_new = omega (arith, end_new h ss (pseg_place n a) a)

  pub tells_new : Tells (new h ss n a) x.header x.counts
  unfolding new_segment
  tells_new =
      record {
        offset = asked.offset;
        flags = flags_last x.header.flags a.last asked.last;
        items = counted_items (items a.list) asked.sorted.counted.items.counts ∙ sym (length_new h ss (pseg_place n a) a);
        sum = counted_sum (items a.list) asked.sorted.counted.items.counts ∙ ap capped (sym sizes_new);
      }

-- the answer, by the first test that fails
module _ (f : List ℕ) (h : Heading) (ss : List Segment) (n : ℕ) (a : Addition) where
  pub admission_1 : false ≡ leb (n + length (added a)) file_limit → refused 1 ≡ admitted_length f h ss n a
  unfolding admitted_length admission
  admission_1 over = rw (← over)

  module _ (small : true ≡ leb (n + length (added a)) file_limit) where
    pub admission_6 : false ≡ leb (length h.boxes + added_boxes a) box_limit → refused 6 ≡ admitted_length f h ss n a
    unfolding admitted_length admission
    admission_6 over = rw (← small, ← over)

    pub admission_6_inner : true ≡ leb (length h.boxes + added_boxes a) box_limit → false ≡ leb (inner_boxes a) box_limit → refused 6 ≡ admitted_length f h ss n a
    unfolding admitted_length admission
    admission_6_inner boxes over = rw (← small, ← boxes, ← over)

    module _ (boxes : true ≡ leb (length h.boxes + added_boxes a) box_limit) (inner : true ≡ leb (inner_boxes a) box_limit) where
      -- and else by whether its segment is admitted
      pub admission_by : (admitted_beside f h ss (new h ss n a) >>= λ _. given (n + length (added a))) ≡ admitted_length f h ss n a
      unfolding admitted_length admission admitted_beside
      admission_by =
          rw (← small, ← boxes, ← inner) (go (admitted source_limit ss (new h ss n a)))
        where
          go : (x : Answer (List Segment))
              → (◌>>=◌ {B = Unit {0}} x (λ ts. indexed source_limit f h ts >>= λ _. given tt) >>= λ _. given (n + length (added a)))
              ≡ (x >>= λ ts. indexed source_limit f h ts >>= λ _. given (n + length (added a)))
          go (refused k) = refl
          go (given ts) = then-then (indexed source_limit f h ts) (λ _. given tt) (λ _. given (n + length (added a)))

-- the tests before that, where all are passed
pub record Passes6 (h : Heading) (n : ℕ) (a : Addition) : Type 0 where
  pub small : true ≡ leb (n + length (added a)) file_limit
  pub boxes : true ≡ leb (length h.boxes + added_boxes a) box_limit
  pub inner : true ≡ leb (inner_boxes a) box_limit

module _ {f : List ℕ} {h : Heading} {ss : List Segment} {j : Judged} {a : Addition} {x : Asked} (n : ℕ) (beside : Beside f h ss j) (asked : AskedBy a x) where
  pub passes_6 : true ≡ leb (n + x.layout.added) file_limit → {more : ℕ} → more ≡ capped (added_boxes a) → true ≡ leb (j.head.boxes + more) 512 → true ≡ leb (2 + x.texts.surls) 512
      → Passes6 h n a
  passes_6 small more boxes inner =
      record { small = file_test n beside asked small; boxes = box_test n beside asked more boxes; inner = inner_test n beside asked inner }

  -- the answer is that about its segment
  pub admission_told : Passes6 h n a → {target : Target} → Goes h ss (new_urls h a) target → {v : Answer (Unit {0})}
      → ((h : Heading) (ss : List Segment) (s : Segment) → Known f h ss j.head.indexed → j.gathered ≡ gathered_of ss → Goes h ss s.urls target
      → s.source ≡ source_beside ss s.urls → Tells s x.header x.counts → those fidx s.inner ≡ [] → v ≡ admitted_beside f h ss s)
      → (v >>= λ _. given (n + length (added a))) ≡ admitted_length f h ss n a
  admission_told t {target} goes answer =
      let urls = sym (urls_new h ss _ a) in
      let there = subst (λ (us : List (List ℕ)). Goes h ss us target) urls goes in
      ap (λ (x : Answer (Unit {0})). x >>= λ _. given (n + length (added a)))
      (answer h ss (new h ss n a) beside.file beside.segments there (source_new h ss _ a ∙ ap (source_beside ss) urls) (tells_new n beside asked) (no_index_new h ss _ a))
      ∙ admission_by f h ss n a t.small t.boxes t.inner
