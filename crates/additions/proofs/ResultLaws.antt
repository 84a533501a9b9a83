-- Demand 3, the reasons for which an addition is refused by its result: what the result would have, 1, 6, 13, 41, 22,
-- 23, 25, 40, 36, 37 or 39, and then 33.
use Prim.Native.Nat.{ℕ, ◌+◌, ◌^◌, ◌≤◌, ◌<◌}
use mathlib.Core.Bool.{Bool, true, false, ◌&&◌}
use mathlib.Core.List.{List, [], ◌∷◌, ◌++◌}
use mathlib.Core.Path.{◌≡◌, refl, ◌∙◌, ap, sym}
use native.Mathlib.Nat.{mod-lt}
use native.Mathlib.Omega.{arith}
use borrow.Author.Tests.{le-leb, ltb-true, lt-leb}
use lib.Dec.{T, leb, ltb, lit<}
use lib.ListN.{length, take, length-append}
use lib.Seq.{length-take-le}
use Rattle.boxes.specs.Answer.{Answer, refused, given, ◌>>=◌, hold}
use Rattle.numerals.specs.Numbers.{holds}
use Rattle.boxes.specs.Framing.{box_limit}
use Rattle.boxes.proofs.AnswerLaws.{then-then}
use Rattle.numerals.proofs.WidthLaws.{below_holds}
use Rattle.partial.specs.Limits.{file_limit, segment_limit, chunk_limit}
use Rattle.partial.specs.Sequences.{all_of}
use Rattle.partial.specs.Segments.{Segment, chunks_of}
use Rattle.partial.specs.Heading.{Heading}
use Rattle.partial.specs.Index.{SourceBox, indexed}
use Rattle.partial.specs.Reading.{reading}
use Rattle.additions.specs.Append.{admitted}
use Rattle.additions.specs.Addition.{items, Addition, sayable}
use Rattle.additions.specs.Append.{added_boxes, inner_boxes, added, new_urls, appended, result, placed_with, placed, admission, pseg_place}
use Rattle.additions.specs.Runs.{file_in}
use Rattle.additions.specs.Demands.{Taking, Sound}
use Rattle.partial.proofs.Meaning.SequenceLaws.{both, passes}
use Rattle.additions.proofs.NewSegmentLaws.{Sayable, length_new, urls_new}
use Rattle.additions.proofs.ReadsBackLaws.{Offered, offered_of, lists_offered, bytes_offered, reading-result}
use Rattle.additions.proofs.RepairTimeLaws.{cut, added-cut, inner_cut, offered_cut, admission-cut, index-cut}

-- the sizes of a list whose numbers 64 bits hold
sizes_said : (o : Bool) (out : ℕ) (list : List ℕ) → all_of (λ n. ltb n (2 ^ 64)) list ≡ true → all_of (λ p. holds 8 p.size) (placed_with o out (items list)) ≡ true
unfolding all_of items placed_with
sizes_said o out [] h = refl
sizes_said o out (size ∷ []) h = refl
sizes_said o out (size ∷ state ∷ rest) h =
    let (first, others) = both (ltb size (2 ^ 64)) (ltb state (2 ^ 64) && all_of (λ n. ltb n (2 ^ 64)) rest) h in
    rw (below_holds 8 size (ltb-true size (2 ^ 64) first)) (sizes_said o out rest (both (ltb state (2 ^ 64)) (all_of (λ n. ltb n (2 ^ 64)) rest) others).1)

-- what 64 bits and `chunk_count` can say is said, but for what is cut from the repair time
said : (a : Addition) → T (sayable a) → Sayable (cut a)
unfolding sayable placed
said a h =
    let (front, count) = both (ltb a.source_offset (2 ^ 64) && all_of (λ n. ltb n (2 ^ 64)) a.list) (ltb (length (items a.list)) (2 ^ 16)) (passes _ h) in
    let (offset, numbers) = both (ltb a.source_offset (2 ^ 64)) (all_of (λ n. ltb n (2 ^ 64)) a.list) front in
    record {
      offset = ltb-true a.source_offset (2 ^ 64) offset;
      time = mod-lt a.repair_time (lit< tt);
      sizes = sizes_said a.outside _ a.list numbers;
      count = ltb-true (length (items a.list)) (2 ^ 16) count;
    }

-- a value that is looked at and passed on, and then something else
passed_by : {A B C : Type 0} (x : Answer A) (look : A → Answer B) (last : Answer C)
    → ((x >>= λ a. look a >>= λ _. given a) >>= λ _. last) ≡ (x >>= λ a. look a >>= λ _. last)
passed_by (refused n) look last = refl
passed_by (given a) look last = then-then (look a) (λ _. given a) (λ _. last)

module _ (limit : ℕ) (buffer : List ℕ) (n : ℕ) (a : Addition) where
  -- what append answers of an addition that is right in itself: admission, the index, and then 33
  pub appended_offered : (h : Heading) (ss : List Segment) → n ≤ length buffer → Offered limit (take n buffer) h ss a
      → appended limit buffer n a
      ≡ (admission limit h ss n a
      >>= λ ts. indexed limit (take n buffer) h ts >>= λ _. hold 33 (leb (n + length (added a)) (length buffer)) >>= λ _. given (n + length (added a)))
  unfolding appended
  appended_offered h ss fits t = rw (le-leb n (length buffer) fits, t.headed, t.before, lists_offered limit (take n buffer) h ss a t, bytes_offered limit (take n buffer) h ss a t, t.outside, t.text)

  pub by-result : (file : Taking limit buffer n) → Sound file.h a → inner_boxes a ≤ box_limit → T (sayable a)
      → let g = result buffer n a in
      appended limit buffer n a ≡ (reading limit g >>= λ _. hold 33 (leb (length g) (length buffer)) >>= λ _. given (length g))
  unfolding file_in result
  by-result file sound few says =
      let f : List ℕ = take n buffer in
      let h = file.h in
      let ss = file.ss in
      let long : length f ≡ n = length-take-le n buffer file.enough in
      let offered = offered_of limit f h ss a file.headed file.before sound in
      let whole : length (f ++ added a) ≡ n + length (added a) = length-append f (added a) ∙ ap (λ (m : ℕ). m + length (added a)) long in
      let same : reading limit (f ++ added a) ≡ (admission limit h ss n (cut a) >>= λ ts. indexed limit f h ts >>= λ _. given ts) = rw (added-cut a, long) at (reading-result limit f h ss (cut a) (offered_cut limit f h ss a offered) (said a says) (rw inner_cut few)) in
      let last : Answer ℕ = hold 33 (leb (n + length (added a)) (length buffer)) >>= λ _. given (n + length (added a)) in
      appended_offered h ss file.enough offered
      ∙ rw (whole, same)
      (sym
      (passed_by (admission limit h ss n (cut a)) (indexed limit f h) last
      ∙ admission-cut limit h ss n a (λ ts. indexed limit f h ts >>= λ _. last)
      (ap (λ (x : Answer (List SourceBox)). x >>= λ _. last) (index-cut a limit f h ss (pseg_place n a)))))

  -- of more boxes than the new `pseg` may hold it is 6, unless 1 comes before
  pub overfull : (file : Taking limit buffer n) → Sound file.h a → box_limit < inner_boxes a
      → appended limit buffer n a ≡ (hold 1 (leb (n + length (added a)) file_limit) >>= λ _. refused 6)
  unfolding file_in admission
  overfull file sound over =
      let h = file.h in
      let ss = file.ss in
      appended_offered h ss file.enough (offered_of limit (take n buffer) h ss a file.headed file.before sound)
      ∙ rw (lt-leb (inner_boxes a) box_limit over) (go _ _ (leb (n + length (added a)) file_limit) (leb (length h.boxes + added_boxes a) box_limit))
    where
      go : (more : Answer (List Segment)) (rest : List Segment → Answer ℕ) (t1 t6 : Bool)
          → ((hold 1 t1 >>= λ _. hold 6 (t6 && false) >>= λ _. more) >>= rest) ≡ (hold 1 t1 >>= λ _. refused 6)
      go more rest true true = refl
      go more rest true false = refl
      go more rest false t6 = refl

  -- of more chunks than `chunk_count` can say it is 22, unless 1, 6, 13 or 41 comes before
  pub too_many : (file : Taking limit buffer n) → Sound file.h a → 2 ^ 16 ≤ length (items a.list)
      → appended limit buffer n a
      ≡ (hold 1 (leb (n + length (added a)) file_limit)
      >>= λ _. hold 6 (leb (length file.h.boxes + added_boxes a) box_limit && leb (inner_boxes a) box_limit)
      >>= λ _. hold 13 (leb (length file.ss + 1) segment_limit)
      >>= λ _. hold 41 (ltb 0 (length (new_urls file.h a)))
      >>= λ _. refused 22)
  unfolding file_in admission admitted
  too_many file sound many =
      let h = file.h in
      let ss = file.ss in
      let over = lt-leb (length (chunks_of ss) + length (items a.list)) chunk_limit (omega arith) in
      appended_offered h ss file.enough (offered_of limit (take n buffer) h ss a file.headed file.before sound)
      ∙ rw (length_new h ss (pseg_place n a) a, over, urls_new h ss (pseg_place n a) a)
      (go _ (leb (n + length (added a)) file_limit) (leb (length h.boxes + added_boxes a) box_limit && leb (inner_boxes a) box_limit) (leb (length ss + 1) segment_limit)
      (ltb 0 (length (new_urls h a))))
    where
      tests : (t1 t6 t13 t41 : Bool) {A : Type 0} → Answer A
      tests t1 t6 t13 t41 = hold 1 t1 >>= λ _. hold 6 t6 >>= λ _. hold 13 t13 >>= λ _. hold 41 t41 >>= λ _. refused 22

      go : (rest : List Segment → Answer ℕ) (t1 t6 t13 t41 : Bool) → (tests t1 t6 t13 t41 >>= rest) ≡ tests t1 t6 t13 t41
      go rest true true true true = refl
      go rest true true true false = refl
      go rest true true false t41 = refl
      go rest true false t13 t41 = refl
      go rest false t6 t13 t41 = refl
