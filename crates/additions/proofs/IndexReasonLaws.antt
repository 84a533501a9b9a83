-- Demand 3, 36 to 39 of an addition: they are the file's own, but of a file whose only refusal is 12, which has no 38.
use Prim.Native.Nat.{ℕ, ◌+◌}
use mathlib.Core.List.{List, [], ◌∷◌, ◌++◌}
use mathlib.Core.Logic.{◌⊎◌, inl, inr, ⊎_elim}
use mathlib.Core.Path.{◌≡◌, refl, sym, ap, subst, ◌∙◌}
use native.Mathlib.Omega.{arith}
use borrow.Author.Tests.{leb-true}
use lib.Dec.{T, leb}
use lib.ListN.{length, take}
use Rattle.boxes.specs.Answer.{Answer, refused, given}
use Rattle.boxes.proofs.AnswerLaws.{only_held, only_given, not_both, given_same, refused_same}
use Rattle.partial.specs.Segments.{Segment}
use Rattle.partial.specs.Heading.{Heading, heading}
use Rattle.partial.specs.Sources.{source_beside}
use Rattle.partial.specs.Index.{indexed}
use Rattle.partial.specs.Reading.{reading, earlier_segments}
use Rattle.additions.specs.Begin.{is_text}
use Rattle.additions.specs.Addition.{Addition, lists_right, bytes_right, outside_right}
use Rattle.additions.specs.Append.{added, new_segment, pseg_place, admission, appended}
use Rattle.partial.specs.ReadingDemands.{of_index}
use Rattle.partial.proofs.Reading.AgreementReadLaws.{passed_on, passed, refused_first, of-index, not_index}
use Rattle.partial.proofs.Reading.IndexedLaws.{indexed_more, no_38}
use Rattle.partial.proofs.Reading.NumberedLaws.{reading_numbered}
use Rattle.partial.proofs.Reading.ReadingLaws.{reading_known}
use Rattle.partial.proofs.Reading.RefusalLaws.{heading_only, twelve_apart}
use Rattle.additions.proofs.RefusalLaws.{admission_only}
use Rattle.additions.proofs.NewSegmentLaws.{urls_new, source_new, no_index_new}
use Rattle.additions.proofs.ReadsBackLaws.{admits}
use Rattle.additions.proofs.ReasonLaws.{file-refused}

module _ (limit : ℕ) (buffer : List ℕ) (n : ℕ) (a : Addition) (k : ℕ) (of : T (of_index k)) where
  abbrev NotIt : ℕ → Type 0
  NotIt m = m ≡ k → ⊥

  abbrev new : Heading → List Segment → Segment
  new h ss = new_segment h ss (pseg_place n a) a

  -- the segments with the new one are those that are admitted
  at_admitted : (h : Heading) (us ts : List Segment) → admission limit h us n a ≡ given ts → indexed limit (take n buffer) h ts ≡ refused k
      → indexed limit (take n buffer) h (us ++ (new h us ∷ [])) ≡ refused k
  at_admitted h us ts admitted told = ap (indexed limit (take n buffer) h) (sym (admits limit h us n a admitted).1) ∙ told

  -- 36 to 39 of an addition to a file that append takes are those of the index beside the new segment
  beside_new : {ss : List Segment} → earlier_segments limit (take n buffer) ≡ given ss → appended limit buffer n a ≡ refused k
      → (h : Heading) × (heading (take n buffer) ≡ given h) × (indexed limit (take n buffer) h (ss ++ (new h ss ∷ [])) ≡ refused k)
  unfolding appended
  beside_new {ss} before e =
      let f : List ℕ = take n buffer in
      let size : ℕ = n + length (added a) in
      let low = (of-index k of).0 in
      let high = (of-index k of).1 in
      let known = not_index k of in
      let (_, e1) = passed 30 (leb n (length buffer)) _ (λ same. omega arith) e in
      let (h, head, e2) = passed_on (heading f) _ (heading_only NotIt known f) e1 in
      let (us, read, e') = passed_on (earlier_segments limit f) _ (λ m z. absurd (not_both (sym z ∙ before))) e2 in
      let (_, e3) = passed 31 (lists_right a) _ (λ same. omega arith) e' in
      let (_, e4) = passed 32 (bytes_right a) _ (λ same. omega arith) e3 in
      let (_, e5) = passed 35 (outside_right h a) _ (λ same. omega arith) e4 in
      let (_, e6) = passed 34 (is_text a.texts) _ (λ same. omega arith) e5 in
      let (ts, admitted-there, e7) = passed_on (admission limit h us n a) _ (admission_only NotIt known (λ same. omega arith) (λ same. omega arith) limit h us n a) e6 in
      let told = refused_first (indexed limit f h ts) _ e7 (λ _. only_held NotIt 33 (leb size (length buffer)) _ (λ same. omega arith) (only_given NotIt size)) in
      let there = at_admitted h us ts admitted-there told in
      (h, head, subst (λ (vs : List Segment). indexed limit f h (vs ++ (new h vs ∷ [])) ≡ refused k) (given_same (sym read ∙ before)) there)

  pub by_index : appended limit buffer n a ≡ refused k
      → (reading limit (take n buffer) ≡ refused k) ⊎ ((reading limit (take n buffer) ≡ refused 12) × (k ≡ 38 → ⊥))
  unfolding appended
  by_index e = ⊎_elim (λ same. inl (own same (earlier_segments limit (take n buffer)) refl)) (λ t. inr (t.0, begun t.1)) (twelve_apart limit (take n buffer))
    where
      own : reading limit (take n buffer) ≡ earlier_segments limit (take n buffer) → (x : Answer (List Segment)) → earlier_segments limit (take n buffer) ≡ x
          → reading limit (take n buffer) ≡ refused k
      own same (refused m) before =
          let low = (of-index k of).0 in
          let (enough, _) = passed 30 (leb n (length buffer)) _ (λ same. omega arith) e in
          same ∙ before ∙ ap (λ (j : ℕ). refused j) (refused_same (sym (file-refused limit buffer n a (leb-true n (length buffer) enough) before) ∙ e))
      own same (given ss) before =
          let (h, head, told) = beside_new before e in
          let (is, r) = reading_known limit (take n buffer) head (same ∙ before) in
          let beside : (new h ss).source ≡ source_beside ss (new h ss).urls = source_new h ss (pseg_place n a) a ∙ ap (source_beside ss) (sym (urls_new h ss (pseg_place n a) a)) in
          let numbered = reading_numbered limit (take n buffer) (same ∙ before) in
          absurd (not_both (sym told ∙ indexed_more limit (take n buffer) h (new h ss) (no_index_new h ss (pseg_place n a) a) ss numbered beside r.told))

      begun : earlier_segments limit (take n buffer) ≡ given [] → k ≡ 38 → ⊥
      begun before =
          let (h, head, told) = beside_new before e in
          no_38 limit (take n buffer) h (new h []) (no_index_new h [] (pseg_place n a) a) k told
