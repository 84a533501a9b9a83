-- Demand 1: every refusal has a number that the paper has for the call, and after it all lent memory holds what it
-- held.
use Prim.Native.Nat.{ℕ, ◌+◌}
use mathlib.Core.Bool.{◌&&◌, ◌||◌}
use mathlib.Core.List.{List, [], ◌∷◌, ◌++◌}
use mathlib.Core.Path.{◌≡◌}
use lib.Dec.{T, leb, ltb, eqb}
use lib.ListN.{length, take}
use Rattle.boxes.specs.Answer.{refused}
use Rattle.boxes.specs.Framing.{box_limit}
use Rattle.boxes.proofs.AnswerLaws.{Only, only_then, only_held, only_given}
use Rattle.partial.specs.Limits.{file_limit, segment_limit, chunk_limit, layer_limit}
use Rattle.partial.specs.Sequences.{some_of, within}
use Rattle.partial.specs.Segments.{Segment, chunks_of, end_of}
use Rattle.partial.specs.Heading.{Heading, heading}
use Rattle.partial.specs.Sources.{source_count, agreed}
use Rattle.partial.specs.Reading.{earlier_segments}
use Rattle.partial.specs.Index.{indexed}
use Rattle.partial.specs.Memory.{after}
use Rattle.partial.specs.ReadingDemands.{before_agreement, from_agreement, of_stages}
use Rattle.partial.specs.declared.brand.Brand.{Brand}
use Rattle.partial.proofs.Reading.RefusalLaws as reading
use Rattle.partial.proofs.Reading.RefusalLaws.{heading_only, told_only, beside, known_file, rest_file, earlier_only, memory_kept}
use Rattle.additions.specs.Begin.{beginning, is_text, begun}
use Rattle.additions.specs.Addition.{Addition, lists_right, bytes_right, outside_right}
use Rattle.additions.specs.Append.{added_boxes, inner_boxes, new_segment, added, admitted, appended, admission, pseg_place}
use Rattle.additions.specs.Runs.{lent, size_after, append}
use Rattle.additions.specs.Demands.{NeverWritten, Demand1}

module _ (P : ℕ → Type 0) (known : (n : ℕ) → T (before_agreement n) → P n) where
  -- 1, 6, 13, 41, 22, 23, 25 and 40 of an addition's result
  pub admission_only : P 25 → P 40 → (limit : ℕ) (h : Heading) (ss : List Segment) (n : ℕ) (a : Addition) → Only P (admission limit h ss n a)
  unfolding admission admitted within
  admission_only apart ninth limit h ss n a =
      let new = new_segment h ss (pseg_place n a) a in
      only_held P 1 (leb (n + length (added a)) file_limit) _ (known 1 tt)
      (only_held P 6 (leb (length h.boxes + added_boxes a) box_limit && leb (inner_boxes a) box_limit) _ (known 6 tt)
      (only_held P 13 (leb (length ss + 1) segment_limit) _ (known 13 tt)
      (only_held P 41 (ltb 0 (length new.urls)) _ (known 41 tt)
      (only_held P 22 (leb (length (chunks_of ss) + length new.chunks) chunk_limit) _ (known 22 tt)
      (only_held P 23 (leb (end_of new) limit) _ (known 23 tt)
      (only_held P 25 (agreed (ss ++ (new ∷ []))) _ apart
      (only_held P 40 (leb (source_count (ss ++ (new ∷ []))) layer_limit) _ ninth (only_given P _))))))))

-- the numbers of each call
module _ (limit : ℕ) where
  -- those of append alone
  abbrev own_numbers : List ℕ
  own_numbers = 30 ∷ 31 ∷ 32 ∷ 33 ∷ 34 ∷ 35 ∷ []

  abbrev OfAddition : ℕ → Type 0
  OfAddition n = T (of_stages n || some_of (eqb n) own_numbers)

  known_added : (n : ℕ) → T (before_agreement n) → OfAddition n
  known_added n before = beside (of_stages n) (some_of (eqb n) own_numbers) (known_file n before)

  rest_added : (n : ℕ) → T (from_agreement n) → OfAddition n
  rest_added n other = beside (of_stages n) (some_of (eqb n) own_numbers) (rest_file n other)

  appended_only : (buffer : List ℕ) (n : ℕ) (a : Addition) → Only OfAddition (appended limit buffer n a)
  unfolding appended within some_of
  appended_only buffer n a =
      let f = take n buffer in
      let size = n + length (added a) in
      only_held OfAddition 30 (leb n (length buffer)) _ tt
      (only_then OfAddition (heading f) _ (heading_only OfAddition known_added f)
      (λ h.
      only_then OfAddition (earlier_segments limit f) _ (earlier_only limit f OfAddition known_added rest_added)
      (λ ss.
      only_held OfAddition 31 (lists_right a) _ tt
      (only_held OfAddition 32 (bytes_right a) _ tt
      (only_held OfAddition 35 (outside_right h a) _ tt
      (only_held OfAddition 34 (is_text a.texts) _ tt
      (only_then OfAddition (admission limit h ss n a) _ (admission_only OfAddition known_added (rest_added 25 tt) (rest_added 40 tt) limit h ss n a)
      (λ ts.
      only_then OfAddition (indexed limit f h ts) _ (told_only OfAddition known_added rest_added limit f h ts)
      (λ _. only_held OfAddition 33 (leb size (length buffer)) _ tt (only_given OfAddition size))))))))))

abbrev OfBegin : ℕ → Type 0
OfBegin n = T (some_of (eqb n) (34 ∷ 1 ∷ 33 ∷ []))

begun_only : (buffer : List ℕ) (brand : Brand) (u m : List ℕ) → Only OfBegin (begun buffer brand u m)
unfolding begun some_of
begun_only buffer brand u m =
    let n = length (beginning brand u m) in
    only_held OfBegin 34 (is_text u && is_text m) _ tt
    (only_held OfBegin 1 (leb n file_limit) _ tt (only_held OfBegin 33 (leb n (length buffer)) _ tt (only_given OfBegin n)))

append-kept : (limit : ℕ) (buffer : List ℕ) (n : ℕ) (a : Addition) (k : ℕ) → appended limit buffer n a ≡ refused k → append limit (lent buffer n) a ≡ lent buffer n
unfolding append after size_after
append-kept limit buffer n a k e = rw e

-- neither answers 21
never_21 : (limit : ℕ) → NeverWritten limit 21
unfolding within some_of
never_21 limit =
    record {
      begin = λ buffer brand u m e. begun_only buffer brand u m 21 e;
      append = λ buffer size a e. appended_only limit buffer size a 21 e;
    }

pub demand1 : (limit : ℕ) → Demand1 limit
demand1 limit =
    record {
      of_reading = reading.demand1 limit;
      begin_numbers = begun_only;
      append_numbers = appended_only limit;
      no21 = never_21 limit;
      begin_kept = λ buffer brand u m. memory_kept (λ _. beginning brand u m) (begun buffer brand u m) buffer;
      append_kept = append-kept limit;
    }
