-- Laws of 25 and 40 of segments with one more, and of a `pseg` beside the segments kept before it, which they judge last.
use Prim.Native.Nat.{ℕ, ◌+◌, ◌≤◌, ◌<◌}
use mathlib.Core.Bool.{Bool, true, false, true≢false}
use mathlib.Core.List.{List, [], ◌∷◌, ◌++◌}
use mathlib.Core.Logic.{inl, inr}
use mathlib.Core.Path.{◌≡◌, refl, sym, ap, subst, ◌∙◌}
use native.Mathlib.Omega.{arith}
use borrow.Author.Tests.{le-leb, lt-leb, leb-true, eqb-true, eqb-false}
use lib.Dec.{leb, eqb}
use lib.ListN.{length}
use Rattle.boxes.specs.Answer.{Answer, refused, given, ◌>>=◌, hold}
use Rattle.boxes.specs.Framing.{Box}
use Rattle.boxes.proofs.AnswerLaws.{not_both, held, then-then}
use Rattle.partial.specs.Heading.{Heading}
use Rattle.partial.specs.Limits.{segment_limit, layer_limit, source_limit}
use Rattle.partial.specs.Meaning.{agree}
use Rattle.partial.specs.Reading.{segment}
use Rattle.partial.specs.Segments.{Segment}
use Rattle.partial.specs.Sources.{source_count, of_source, agreed}
use Rattle.partial.proofs.Meaning.SequenceLaws.{which, all_members}
use Rattle.partial.proofs.Meaning.SourceLaws.{agreed-of, source_count_more}
use Rattle.ends.proofs.TableLaws.{of_last, of_other}
use Rattle.rescue.specs.Kept.{beside}
use Rattle.gathering.specs.Keeping.{late_held}

-- 25 of the segments with one more: the sizes of its source agree with it, since those of every other source do
module _ (ss : List Segment) (s : Segment) where
  pub agreed_beside : agreed ss ≡ true → agree (of_source s.source ss ++ (s ∷ [])) ≡ agreed (ss ++ (s ∷ []))
  unfolding agreed
  agreed_beside before =
      elim (which (agree (of_source s.source ss ++ (s ∷ [])))) [
        | inl e ↦ e ∙ sym (all_members _ (ss ++ (s ∷ [])) (λ t _. each e t.source))
        | inr e ↦
            elim (which (agreed (ss ++ (s ∷ [])))) [
              | inl passed ↦ absurd (true≢false (sym (agreed-of (ss ++ (s ∷ [])) passed s.source) ∙ ap agree (of_last ss s) ∙ e))
              | inr lacks ↦ e ∙ sym lacks
            ]
      ]
    where
      each : agree (of_source s.source ss ++ (s ∷ [])) ≡ true → (n : ℕ) → agree (of_source n (ss ++ (s ∷ []))) ≡ true
      each e n =
          elim (which (eqb s.source n)) [
            | inl same ↦
                let k = eqb-true s.source n same in
                subst (λ (m : ℕ). agree (of_source m (ss ++ (s ∷ []))) ≡ true) k (ap agree (of_last ss s) ∙ e)
            | inr other ↦ ap agree (of_other n ss s (eqb-false s.source n other)) ∙ agreed-of ss before n
          ]

  -- 40 is told by the number of the new one's source
  pub sources_full : layer_limit ≤ s.source → false ≡ leb (source_count (ss ++ (s ∷ []))) layer_limit
  sources_full full = sym (lt-leb (source_count (ss ++ (s ∷ []))) layer_limit (omega (arith, source_count_more ss s)))

  pub sources_few : leb (source_count ss) layer_limit ≡ true → s.source < layer_limit → true ≡ leb (source_count (ss ++ (s ∷ []))) layer_limit
  sources_few before few =
      sym (le-leb (source_count (ss ++ (s ∷ []))) layer_limit (omega (arith, source_count_more ss s, leb-true (source_count ss) layer_limit before)))

-- both together
module _ (ss : List Segment) where
  pub late_25 : agreed ss ≡ false → refused 25 ≡ late_held ss
  unfolding late_held
  late_25 differ = rw (late_held, differ)

  pub late_40 : agreed ss ≡ true → leb (source_count ss) layer_limit ≡ false → refused 40 ≡ late_held ss
  unfolding late_held
  late_40 same full = rw (late_held, same, full)

  pub late_none : agreed ss ≡ true → leb (source_count ss) layer_limit ≡ true → given tt ≡ late_held ss
  unfolding late_held
  late_none same few = rw (late_held, same, few)

  -- the tests, where both pass
  pub late_passed : late_held ss ≡ given tt → (agreed ss ≡ true) × (leb (source_count ss) layer_limit ≡ true)
  unfolding late_held
  late_passed passed =
      let (same, rest) = held 25 (agreed ss) _ passed in
      (same, passes (leb (source_count ss) layer_limit) rest)
    where
      passes : (t : Bool) → hold 40 t ≡ given tt → t ≡ true
      passes true e = refl
      passes false e = absurd (not_both e)

  late_refused : {A : Type 0} {n : ℕ} (next : Answer A) → late_held ss ≡ refused n → (hold 25 (agreed ss) >>= λ _. hold 40 (leb (source_count ss) layer_limit) >>= λ _. next) ≡ refused n
  unfolding late_held
  late_refused next late = sym (then-then (hold 25 (agreed ss)) (λ _. hold 40 (leb (source_count ss) layer_limit)) (λ _. next)) ∙ rw late

-- a `pseg` beside the segments kept before it
module _ (f : List ℕ) (h : Heading) (kept : List Segment) (b : Box) where
  pub beside_full : segment_limit ≤ length kept → beside source_limit f h kept b ≡ refused 13
  unfolding beside
  beside_full full = rw (beside, lt-leb (length kept + 1) segment_limit (omega arith))

  module _ (few : length kept < segment_limit) where
    pub beside_cut : {n : ℕ} → segment source_limit f h kept b ≡ refused n → beside source_limit f h kept b ≡ refused n
    unfolding beside
    beside_cut e = rw (beside, le-leb (length kept + 1) segment_limit (omega arith), e)

    module _ {s : Segment} (read : segment source_limit f h kept b ≡ given s) where
      pub beside_late : {n : ℕ} → late_held (kept ++ (s ∷ [])) ≡ refused n → beside source_limit f h kept b ≡ refused n
      unfolding beside
      beside_late late = rw (beside, le-leb (length kept + 1) segment_limit (omega arith), read) (late_refused (kept ++ (s ∷ [])) (given s) late)

      pub beside_kept : late_held (kept ++ (s ∷ [])) ≡ given tt → beside source_limit f h kept b ≡ given s
      unfolding beside
      beside_kept none =
          let (same, few_sources) = late_passed (kept ++ (s ∷ [])) none in
          rw (beside, le-leb (length kept + 1) segment_limit (omega arith), read, same, few_sources)
