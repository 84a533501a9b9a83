-- Laws of the index of a file: what each test decides, what the pass over the file puts into the table, and what is
-- left in it.
use Prim.Native.Nat.{ℕ, ◌+◌, ◌*◌, ◌≤◌, ◌<◌}
use mathlib.Core.Bool.{true}
use mathlib.Core.List.{List, [], ◌∷◌, ◌++◌, Memᴰ}
use Rattle.std.specs.Prelude.{Option, Result, Ok, Err, IsErrAnd}
use Rattle.std.proofs.lemmas.Result.{err_from_is_err_and}
use Rattle.refusals.specs.Refusals.{refusal_no}
use Rattle.refusals.specs.declared.Refusal.{Refusal}
use mathlib.Core.Path.{◌≡◌, refl, sym, ap, subst, ◌∙◌}
use native.Mathlib.Omega.{arith}
use borrow.Author.Tests.{le-leb, lt-leb}
use lib.Dec.{leb}
use lib.ListN.{length, drop, length-append}
use Rattle.boxes.specs.Answer.{refused, given}
use Rattle.boxes.specs.Framing.{Box}
use Rattle.boxes.specs.declared.kinds.Container.{Container}
use Rattle.boxes.specs.declared.kinds.Container.TheVariants.{Pseg}
use Rattle.boxes.proofs.AnswerLaws.{not_both, given_same, both_given}
use Rattle.partial.specs.Heading.{Heading, heading}
use Rattle.partial.specs.Index.{Indexed, SourceBox, boxes_alone, belonging, index_in, index_for, index_of_segments, index_of, indexed, index_row, index_rows, index_row_length, level_limit}
use Rattle.partial.specs.Limits.{segment_limit, source_limit}
use Rattle.partial.specs.Memory.{fits, filled, after}
use Rattle.partial.specs.Reading.{segments, reading}
use Rattle.partial.specs.Segments.{Segment}
use Rattle.partial.specs.Sequences.{all_of}
use Rattle.partial.specs.Sources.{source_count, source_beside}
use Rattle.partial.specs.Tables.{index_tabled}
use Rattle.partial.proofs.Meaning.SequenceLaws.{both}
use Rattle.partial.proofs.Meaning.SourceLaws.{source_low, beside_there, beside_most, count_most}
use Rattle.partial.proofs.Reading.IndexedLaws.{indexed_whole}
use Rattle.partial.proofs.Reading.LimitLaws.{segments_limited}
use Rattle.partial.proofs.Reading.NumberedLaws.{segments_numbered}
use Rattle.sources.specs.Held.{SourceOf, ListsHeld}
use Rattle.gathering.proofs.GatheredLaws.{gathered-sources}
use Rattle.gathering.proofs.RowLaws.{put_filled}
use Rattle.filling.proofs.RowLaws.{put_same}
use Rattle.indexing.specs.declared.marks.Marks.{Marks}
use Rattle.fileindex.specs.File.{Tells, source_row, rows_by}
use Rattle.reading.specs.Judged.{Judged}
use Rattle.reading.proofs.JudgedLaws.{Accepted, read_opened}
use Rattle.indexrows.specs.Calls.{Indexes}
use Rattle.indexrows.specs.Marking.{row_with, rows_with, marked_below, Below}
use Rattle.indexrows.proofs.MarkingLaws.{rows_long, rows_none}

index_long : (ss : List Segment) (is : List SourceBox) → length (index_rows ss is) ≡ index_row_length * length is
unfolding index_rows index_row
index_long ss [] = refl
index_long ss (i ∷ is) = omega (arith, length-append (index_row ss i) (index_rows ss is), index_long ss is)

-- ---- what each test decides

module _ (f table : List ℕ) where
  pub index-refused : {n : ℕ} → reading source_limit f ≡ refused n → index_tabled source_limit f table ≡ refused n
  unfolding index_tabled
  index-refused e = rw e

  module _ {h : Heading} {ss : List Segment} {is : List SourceBox} (read : reading source_limit f ≡ given ss) (head : heading f ≡ given h) (told : indexed source_limit f h ss ≡ given is) where
    pub index_short : length table < index_row_length * length is → index_tabled source_limit f table ≡ refused 26
    unfolding index_tabled fits
    index_short short = rw (read, head, told, lt-leb (length (index_rows ss is)) (length table) (omega (arith, index_long ss is)))

    pub index_given : index_row_length * length is ≤ length table → index_tabled source_limit f table ≡ given (ss, is)
    unfolding index_tabled fits
    index_given room = rw (read, head, told, le-leb (length (index_rows ss is)) (length table) (omega (arith, index_long ss is)))

  -- after a refusal the table is as it was
  pub indexes_refused : (n : Refusal) → index_tabled source_limit f table ≡ refused (refusal_no n) → Indexes f table table (Err n)
  unfolding after
  indexes_refused n e = record { answer = rw e; rows = rw e }

  pub indexes_handed : (n : Refusal) (r : Result ℕ Refusal) → IsErrAnd r (λ e. e ≡ n) → index_tabled source_limit f table ≡ refused (refusal_no n) → Indexes f table table r
  indexes_handed n r handed e =
      let (m, is, same) = err_from_is_err_and r handed in
      rw is (indexes_refused m (e ∙ ap (λ n. refused (refusal_no n)) (sym same)))

  -- else it is filled
  pub indexes_given : {table' : List ℕ} {count : ℕ} (ss : List Segment) (is : List SourceBox) → index_tabled source_limit f table ≡ given (ss, is) → count ≡ length is
      → table' ≡ filled (index_rows ss is) table
      → Indexes f table table' (Ok count)
  unfolding after
  indexes_given ss is e many rows = record { answer = rw e (ap given many); rows = rw e rows }

-- an index without a box fills nothing
pub none_filled : (ss : List Segment) (is : List SourceBox) (table : List ℕ) → length is ≡ 0 → table ≡ filled (index_rows ss is) table
unfolding filled index_rows
none_filled ss [] table none = refl
none_filled ss (i ∷ is) table none = absurd (omega arith)

-- ---- what the pass puts into the table

-- the rows of boxes that are all looked into, each with the number of its source
rows-by : (number : List (List ℕ) → ℕ) (is : List SourceBox) → all_of (λ i. leb i.level level_limit) (boxes_alone is) ≡ true
    → rows_by number is ≡ rows_with (λ i. number i.urls + 3) is
unfolding rows_by rows_with row_with source_row boxes_alone all_of
rows-by number [] all = refl
rows-by number (i ∷ is) all =
    let (here, there) = both (leb i.box.level level_limit) (all_of (λ i. leb i.level level_limit) (boxes_alone is)) all in
    rw (rows_by, here) (ap (λ (rows : List ℕ). source_row (number i.urls) i.box ++ rows) (rows-by number is there))

-- an accepted file's index is told
index_known : (f : List ℕ) (h : Heading) (ss : List Segment) {is : List SourceBox} → indexed source_limit f h ss ≡ given is → index_of source_limit f h ss ≡ given is
unfolding index_of
index_known f h ss e =
    let (first, later, whole, same) = indexed_whole source_limit f h ss e in
    rw (whole.in_pfil, whole.in_segments) (ap given same)

module _ (f : List ℕ) (h : Heading) (ss : List Segment) (t₀ t : List ℕ) (is : List SourceBox) where
  -- so the pass over it refuses nothing
  pub told_sound : (n : Refusal) → Tells (source_beside ss) (index_of source_limit f h ss) t₀ t (Err n) → indexed source_limit f h ss ≡ given is → ⊥
  unfolding Tells
  told_sound n fault e = not_both (sym fault ∙ index_known f h ss e)

  -- and puts the rows with the numbers of their sources
  pub told-filled : (m : Marks) → Tells (source_beside ss) (index_of source_limit f h ss) t₀ t (Ok m)
      → indexed source_limit f h ss ≡ given is
      → index_row_length * length is ≤ length t₀
      → t ≡ filled (rows_with (marked_below ss 0) is) t₀
  unfolding Tells
  told-filled m (js, told, marked) e room =
      let (first, later, whole, same_boxes) = indexed_whole source_limit f h ss e in
      let all = subst (λ (is : List SourceBox). all_of (λ i. leb i.level level_limit) (boxes_alone is) ≡ true) same_boxes whole.shallow in
      let same : rows_by (source_beside ss) js ≡ rows_with (marked_below ss 0) is =
      ap (rows_by (source_beside ss)) (given_same (sym told ∙ index_known f h ss e)) ∙ rows-by (source_beside ss) is all ∙ sym (rows_none ss is) in
      put_filled (rows_with (marked_below ss 0) is) (put_same refl same marked.rows) (omega (arith, rows_long (marked_below ss 0) is))

-- a table that they fill has room for them
pub filled-room : (say : SourceBox → ℕ) (is : List SourceBox) (t₀ : List ℕ) {t : List ℕ} → t ≡ filled (rows_with say is) t₀ → index_row_length * length is ≤ length t
unfolding filled
filled-room say is t₀ e =
    let rows = rows_with say is in
    omega (arith, ap length e, length-append rows (drop (length rows) t₀), rows_long say is)

-- ---- the sources of its boxes

module _ (ss : List Segment) (n : ℕ) where
  below_belonging : (us : List (List ℕ)) → source_beside ss us < n → (is : List Indexed) → Below ss n (belonging us is)
  unfolding belonging
  below_belonging us low [] = tt
  below_belonging us low (i ∷ is) = (low, below_belonging us low is)

  below_append : (is js : List SourceBox) → Below ss n is → Below ss n js → Below ss n (is ++ js)
  below_append [] js one two = two
  below_append (i ∷ is) js (here, there) two = (here, below_append is js there two)

  module _ (f : List ℕ) (size : List (List ℕ) → Option ℕ) where
    below_for : (us : List (List ℕ)) (c : Container) (bs : List Box) (start : ℕ) {is : List SourceBox} → index_for source_limit f size us c bs start ≡ given is
        → source_beside ss us < n
        → Below ss n is
    unfolding index_for
    below_for us c bs start e low =
        let (boxes, _, same) = both_given (index_in source_limit f c bs (size us) start) _ e in
        subst (Below ss n) (given_same same) (below_belonging us low boxes)

    below_segments : (ts : List Segment) {is : List SourceBox} → index_of_segments source_limit f size ts ≡ given is
        → ((s : Segment) → Memᴰ s ts → source_beside ss s.urls < n)
        → Below ss n is
    unfolding index_of_segments
    below_segments [] e low = subst (Below ss n) (given_same e) tt
    below_segments (s ∷ ts) e low =
        let (first, here, e1) = both_given (index_for source_limit f size s.urls Pseg s.inner s.source_offset) _ e in
        let (later, there, e2) = both_given (index_of_segments source_limit f size ts) _ e1 in
        subst (Below ss n) (given_same e2)
        (below_append first later (below_for s.urls Pseg s.inner s.source_offset here (low s (Memᴰ.head refl)))
        (below_segments ts there (λ t rest. low t (Memᴰ.tail rest))))

-- those of an accepted file are those of segments and that of the list in `pfil`
pub below_all : (f : List ℕ) (h : Heading) (ss : List Segment) {is : List SourceBox} → segments source_limit f h ≡ given ss → indexed source_limit f h ss ≡ given is
    → (n : ℕ) → source_count ss ≤ n → source_beside ss h.urls < n → Below ss n is
below_all f h ss all e n segs pfil =
    let (first, later, whole, same) = indexed_whole source_limit f h ss e in
    let numbered = segments_numbered source_limit f h all in
    subst (Below ss n) same
    (below_append ss n first later (below_for ss n f _ h.urls _ h.inner 0 whole.in_pfil pfil)
    (below_segments ss n f _ ss whole.in_segments (λ s there. omega (arith, beside_there ss numbered s there, source_low ss s there))))

-- the number of the list in `pfil`
module _ {f : List ℕ} {j : Judged} (a : Accepted f j) {lists : List ℕ} {source : ℕ} (held : ListsHeld f a.h lists a.ss) (found : SourceOf f lists j.gathered.sources j.facts.list source) where
  pub pfil-number : source ≡ source_beside a.ss a.h.urls
  pfil-number =
      let in_pfil = (read_opened f a).in_pfil in
      found a.h a.ss a.h.inner (gathered-sources a.ss a.gathered) (segments_numbered source_limit f a.h a.all) held in_pfil.stands
      ∙ ap (source_beside a.ss) (sym in_pfil.urls)

  pub pfil_low : source ≤ segment_limit
  pfil_low =
      omega (arith, pfil-number, beside_most a.ss a.h.urls, count_most a.ss (segments_numbered source_limit f a.h a.all), segments_limited source_limit f a.h a.all)

pub few_sources : {f : List ℕ} {j : Judged} (a : Accepted f j) → j.gathered.sources ≤ segment_limit
few_sources {f} a =
    omega (arith, gathered-sources a.ss a.gathered, count_most a.ss (segments_numbered source_limit f a.h a.all), segments_limited source_limit f a.h a.all)
