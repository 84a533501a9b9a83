-- Laws of the sources of a list of segments: lists of URLs are the same exactly if they are equal, what holds of each
-- segment holds of those of a source, 25 is the agreement of each source's sizes, and segments that are numbered one by
-- one have the same number exactly if they have the same URLs.
use Prim.Native.Nat.{ℕ, suc, ◌≤◌, ◌<◌, max}
use mathlib.Core.Bool.{Bool, true, true≢false}
use mathlib.Core.List.Memᴰ
use mathlib.Core.List.{List, [], ◌∷◌, ◌++◌, append-nil, append_assoc, Memᴰ}
use mathlib.Core.Logic.{◌⊎◌, ◌↔◌, inl, inr, ⊎_elim}
use mathlib.Core.Path.{◌≡◌, refl, sym, ap, ap₂, subst, ◌∙◌}
use native.Mathlib.Decide.{dec_le}
use native.Mathlib.Omega.{arith}
use borrow.Author.Tests.{eq-eqb, eqb-true, ne_eqb}
use lib.Dec.{eqb}
use lib.ListN.{length, length-append}
use Rattle.partial.specs.Sequences.{all_of, largest}
use Rattle.partial.specs.Segments.{Chunk, Segment, chunks_of}
use Rattle.partial.specs.Meaning.{agree}
use Rattle.partial.specs.Sources.{same_urls, source_count, source_among, source_beside, of_source, of_urls, agreed}
use Rattle.partial.specs.ReadingDemands.{Numbered, InAgreement}
use Rattle.partial.proofs.Meaning.SequenceLaws.{which, both, all_append, member_passes, all_members}
use Rattle.partial.proofs.Meaning.SameLaws.{urls_equal, urls_same}
use Rattle.partial.proofs.Meaning.AgreementLaws.{OneSize, one_agrees, agrees_one}
use Rattle.partial.proofs.Meaning.DescribedLaws.{InOrder}
use Rattle.partial.proofs.Meaning.KnownLaws.{largest_both}

-- the segments of a source
module _ (n : ℕ) where
  pub of-append : (ss ts : List Segment) → of_source n (ss ++ ts) ≡ of_source n ss ++ of_source n ts
  unfolding of_source
  of-append [] ts = refl
  of-append (s ∷ ss) ts =
      elim (which (eqb s.source n)) [
        | inl e ↦ rw (of_source, e) (ap (λ (us : List Segment). s ∷ us) (of-append ss ts))
        | inr e ↦ rw (of_source, e) (of-append ss ts)
      ]

  -- are those of its number
  pub of_member : (ss : List Segment) (s : Segment) → Memᴰ s ss → s.source ≡ n → Memᴰ s (of_source n ss)
  unfolding of_source
  of_member [] s there same = absurd (Memᴰ.not-nil there)
  of_member (t ∷ ss) s there same =
      elim (which (eqb t.source n)) [
        | inl e ↦ rw (of_source, e) (⊎_elim (λ here. Memᴰ.head here) (λ rest. Memᴰ.tail (of_member ss s rest same)) (Memᴰ.cases_cons there))
        | inr e ↦
            rw (of_source, e)
            (⊎_elim (λ here. absurd (let z = sym (eq-eqb t.source n (ap (λ (x : Segment). x.source) (sym here) ∙ same)) ∙ e in let y : ◌≡◌ {A = ℕ} 0 1 = cc in omega arith)) (λ rest. of_member ss s rest same) (Memᴰ.cases_cons there))
      ]

  pub member_of : (ss : List Segment) (s : Segment) → Memᴰ s (of_source n ss) → Memᴰ s ss × (s.source ≡ n)
  unfolding of_source
  member_of [] s there = absurd (Memᴰ.not-nil there)
  member_of (t ∷ ss) s there =
      elim (which (eqb t.source n)) [
        | inl e ↦
            ⊎_elim (λ here. (Memᴰ.head here, ap (λ (x : Segment). x.source) here ∙ eqb-true t.source n e))
            (λ rest. let (found, same) = member_of ss s rest in (Memᴰ.tail found, same)) (Memᴰ.cases_cons (rw (of_source, e) at there))
        | inr e ↦ let (found, same) = member_of ss s (rw (of_source, e) at there) in (Memᴰ.tail found, same)
      ]

  -- all of a list whose segments have one number
  pub of_one : (ss : List Segment) → ((s : Segment) → Memᴰ s ss → s.source ≡ n) → of_source n ss ≡ ss
  unfolding of_source
  of_one [] each = refl
  of_one (s ∷ ss) each =
      rw (of_source, eq-eqb s.source n (each s (Memᴰ.head refl)))
      (ap (λ (us : List Segment). s ∷ us) (of_one ss (λ t there. each t (Memᴰ.tail there))))

  -- what holds of each segment holds of theirs
  pub in-order-of : (ss : List Segment) → InOrder ss → InOrder (of_source n ss)
  unfolding of_source
  in-order-of [] o = tt
  in-order-of (s ∷ ss) o =
      elim (which (eqb s.source n)) [
        | inl e ↦ rw (of_source, e) (o.0, in-order-of ss o.1)
        | inr e ↦ rw (of_source, e) (in-order-of ss o.1)
      ]

  pub chunks-of : (test : Chunk → Bool) (ss : List Segment) → all_of test (chunks_of ss) ≡ true → all_of test (chunks_of (of_source n ss)) ≡ true
  unfolding of_source chunks_of
  chunks-of test [] all = all
  chunks-of test (s ∷ ss) all =
      let (here, there) = both (all_of test s.chunks) (all_of test (chunks_of ss)) (rw all_append at all) in
      elim (which (eqb s.source n)) [
        | inl e ↦ rw (of_source, e) (rw (all_append, here) (chunks-of test ss there))
        | inr e ↦ rw (of_source, e) (chunks-of test ss there)
      ]

-- 25 is the agreement of each source's sizes
module _ (ss : List Segment) where
  one_size : InAgreement ss → (n : ℕ) → OneSize (of_source n ss)
  one_size all n s t here there gives =
      let (s-there, s-number) = member_of n ss s here in
      let (t-there, t-number) = member_of n ss t there in
      all s t s-there t-there (s-number ∙ sym t-number) gives

  pub in-agreement : InAgreement ss → agreed ss ≡ true
  unfolding agreed
  in-agreement all = all_members _ ss (λ s there. one_agrees (of_source s.source ss) (one_size all s.source))

  pub agreement : agreed ss ≡ true → InAgreement ss
  unfolding agreed
  agreement passed s t here there same gives =
      agrees_one (of_source s.source ss) (member_passes _ ss passed s here) s t (of_member s.source ss s here refl)
      (of_member s.source ss t there (sym same)) gives

  pub agreed-of : agreed ss ≡ true → (n : ℕ) → agree (of_source n ss) ≡ true
  agreed-of passed n = one_agrees (of_source n ss) (one_size (agreement passed) n)

  -- and of all segments together where they have one
  pub agreed_one : (n : ℕ) → of_source n ss ≡ ss → agreed ss ≡ agree ss
  agreed_one n one =
      elim (which (agree ss)) [
        | inl e ↦ in-agreement (λ s t here there _. agrees_one ss e s t here there) ∙ sym e
        | inr e ↦
            elim (which (agreed ss)) [
              | inl passed ↦ absurd (true≢false (sym (agreed-of passed n) ∙ ap agree one ∙ e))
              | inr lacks ↦ lacks ∙ sym e
            ]
      ]

-- each number is below how many sources there are
pub source_low : (ss : List Segment) (s : Segment) → Memᴰ s ss → s.source < source_count ss
unfolding source_count largest
source_low [] s there = absurd (Memᴰ.not-nil there)
source_low (t ∷ ss) s there =
    ⊎_elim (λ here. omega (arith, ap (λ (x : Segment). x.source) here)) (λ rest. omega (arith, source_low ss s rest)) (Memᴰ.cases_cons there)

pub source_count_more : (ss : List Segment) (s : Segment) → source_count (ss ++ (s ∷ [])) ≡ max (source_count ss) (suc s.source)
unfolding source_count largest
source_count_more ss s = largest_both (λ x. suc x.source) ss (s ∷ []) ∙ omega arith

-- the number of a list of URLs is that of a segment before with the same, or the next one where there is none
abbrev Found : List Segment → List (List ℕ) → ℕ → Type 0
Found ss us n = (s : Segment) × Memᴰ s ss × (s.urls ≡ us) × (s.source ≡ n)

among-found : (next : ℕ) (ss : List Segment) (us : List (List ℕ))
    → Found ss us (source_among next ss us) ⊎ (((s : Segment) → Memᴰ s ss → s.urls ≡ us → ⊥) × (source_among next ss us ≡ next))
unfolding source_among
among-found next [] us = inr (λ s there. absurd (Memᴰ.not-nil there), refl)
among-found next (t ∷ ss) us =
    elim (which (same_urls us t.urls)) [
      | inl e ↦ inl (t, Memᴰ.head refl, sym (urls_equal us t.urls e), rw (source_among, e))
      | inr e ↦
          ⊎_elim (λ found. inl (found.0, Memᴰ.tail found.1, found.2, rw (source_among, e) found.3))
          (λ none. inr (
            λ s there same.
                ⊎_elim (λ here. true≢false (sym (urls_same us us refl) ∙ ap (same_urls us) (sym same ∙ ap (λ (x : Segment). x.urls) here) ∙ e)) (λ rest. none.0 s rest same) (Memᴰ.cases_cons there),
            rw (source_among, e) none.1,
          )) (among-found next ss us)
    ]

module _ (ss : List Segment) (us : List (List ℕ)) where
  beside_found : Found ss us (source_beside ss us) ⊎ (((s : Segment) → Memᴰ s ss → s.urls ≡ us → ⊥) × (source_beside ss us ≡ source_count ss))
  unfolding source_beside
  beside_found = among-found (source_count ss) ss us

  pub beside_most : source_beside ss us ≤ source_count ss
  beside_most = ⊎_elim (λ found. omega (arith, source_low ss found.0 found.1, found.3)) (λ none. omega (arith, none.1)) beside_found

-- a last segment is told by its URLs and its number
pub beside_last : (ss : List Segment) (s t : Segment) → s.urls ≡ t.urls → s.source ≡ t.source → (us : List (List ℕ)) → source_beside (ss ++ (s ∷ [])) us ≡ source_beside (ss ++ (t ∷ [])) us
unfolding source_beside source_among
beside_last ss s t urls number us =
    ap (λ (next : ℕ). source_among next (ss ++ (s ∷ [])) us) (omega (arith, source_count_more ss s, source_count_more ss t, number)) ∙ among (source_count (ss ++ (t ∷ []))) ss
  where
    among : (next : ℕ) (ss : List Segment) → source_among next (ss ++ (s ∷ [])) us ≡ source_among next (ss ++ (t ∷ [])) us
    among next [] = rw (urls, number)
    among next (x ∷ ss) =
        elim (which (same_urls us x.urls)) [
          | inl e ↦ rw (source_among, e)
          | inr e ↦ rw (source_among, e) (among next ss)
        ]

-- of a number that none has there are none, and so of one that is not below
pub of_other : (n : ℕ) (ss : List Segment) → ((s : Segment) → Memᴰ s ss → s.source ≡ n → ⊥) → of_source n ss ≡ []
unfolding of_source
of_other n [] other = refl
of_other n (s ∷ ss) other = rw (of_source, ne_eqb s.source n (other s (Memᴰ.head refl))) (of_other n ss (λ t there. other t (Memᴰ.tail there)))

pub of_none : (n : ℕ) (ss : List Segment) → source_count ss ≤ n → of_source n ss ≡ []
of_none n ss over = of_other n ss (λ s there same. omega (arith, source_low ss s there))

-- where a list with one more at its end is cut
cut_last : (ss : List Segment) (s : Segment) (before after : List Segment) (t : Segment) → ss ++ (s ∷ []) ≡ before ++ (t ∷ after)
    → ((before ≡ ss) × (t ≡ s)) ⊎ ((rest : List Segment) × (ss ≡ before ++ (t ∷ rest)))
cut_last [] s [] after t e = inl (refl, cc)
cut_last [] s (b ∷ before) after t e = absurd (omega (arith, simp length-append at (ap length e)))
cut_last (x ∷ ss) s [] after t e = inr (ss, cc)
cut_last (x ∷ ss) s (b ∷ before) after t e =
    let first : x ≡ b = cc in
    let rest : ss ++ (s ∷ []) ≡ before ++ (t ∷ after) = cc in
    ⊎_elim (λ last. inl (ap₂ ◌∷◌ (sym first) last.0, last.1)) (λ found. inr (found.0, ap₂ ◌∷◌ first found.1)) (cut_last ss s before after t rest)

-- a source has no more numbers than segments where each has that of one before it, or the next
abbrev InTurn : List Segment → Type 0
InTurn ss = (before after : List Segment) (s : Segment) → ss ≡ before ++ (s ∷ after) → s.source ≤ source_count before

count_from : (before after : List Segment) → InTurn (before ++ after) → source_count before ≤ length before → source_count (before ++ after) ≤ length (before ++ after)
count_from before [] turn low = rw append-nil low
count_from before (s ∷ after) turn low =
    let e : (before ++ (s ∷ [])) ++ after ≡ before ++ (s ∷ after) = append_assoc before (s ∷ []) after in
    subst (λ (ss : List Segment). source_count ss ≤ length ss) e
    (count_from (before ++ (s ∷ [])) after (λ b a t same. turn b a t (sym e ∙ same))
    (omega (arith, source_count_more before s, turn before after s refl, length-append before (s ∷ []))))

pub numbered_none : Numbered []
unfolding source_count largest
numbered_none =
    record {
      same_number = λ s t here. absurd (Memᴰ.not-nil here);
      below = λ s there. absurd (Memᴰ.not-nil there);
      used = λ n low. absurd (omega arith);
      in_turn = λ before after s e. absurd (omega (arith, simp length-append at (ap length e)));
    }

module _ (ss : List Segment) (numbered : Numbered ss) where
  -- there are no more sources than segments
  pub count_most : source_count ss ≤ length ss
  unfolding source_count largest
  count_most = count_from [] ss numbered.in_turn (omega arith)

  -- a segment before with these URLs gives its number
  pub beside_there : (s : Segment) → Memᴰ s ss → source_beside ss s.urls ≡ s.source
  beside_there s there =
      ⊎_elim (λ found. sym found.3 ∙ (numbered.same_number found.0 s found.1 there).1 found.2) (λ none. absurd (none.0 s there refl)) (beside_found ss s.urls)

  module _ (s : Segment) (next : s.source ≡ source_beside ss s.urls) where
    same_beside : (t : Segment) → Memᴰ t ss → (t.source ≡ s.source) ↔ (t.urls ≡ s.urls)
    same_beside t there = (
      λ number.
          ⊎_elim (λ found. (numbered.same_number t found.0 there found.1).0 (number ∙ next ∙ sym found.3) ∙ found.2)
          (λ none. absurd (omega (arith, source_low ss t there, none.1))) (beside_found ss s.urls),
      λ urls. sym (beside_there t there) ∙ ap (source_beside ss) urls ∙ sym next,
    )

    pub numbered_more : Numbered (ss ++ (s ∷ []))
    numbered_more = record { same_number = pair; below = source_low (ss ++ (s ∷ [])); used = used; in_turn = turn }
      where
        pair : (t u : Segment) → Memᴰ t (ss ++ (s ∷ [])) → Memᴰ u (ss ++ (s ∷ [])) → (t.source ≡ u.source) ↔ (t.urls ≡ u.urls)
        pair t u t-there u-there =
            ⊎_elim
            (λ t-old.
            ⊎_elim (λ u-old. numbered.same_number t u t-old u-old)
            (λ u-new. let new : u ≡ s = Memᴰ.eq_of_singleton u-new in rw new (same_beside t t-old)) (Memᴰ.append_cases ss u-there))
            (λ t-new.
            let new : t ≡ s = Memᴰ.eq_of_singleton t-new in
            rw new
            (⊎_elim (λ u-old. let (forth, back) = same_beside u u-old in (λ e. sym (forth (sym e)), λ e. sym (back (sym e))))
            (λ u-new. let also : u ≡ s = Memᴰ.eq_of_singleton u-new in rw also (λ _. refl, λ _. refl)) (Memᴰ.append_cases ss u-there)))
            (Memᴰ.append_cases ss t-there)

        used : (n : ℕ) → n < source_count (ss ++ (s ∷ [])) → (t : Segment) × Memᴰ t (ss ++ (s ∷ [])) × (t.source ≡ n)
        used n low =
            elim (dec_le (source_count ss) n) [
              | no under ↦ let (t, there, number) = numbered.used n (omega arith) in (t, Memᴰ.append_left (s ∷ []) there, number)
              | yes over ↦ (s, Memᴰ.append_right ss (Memᴰ.head refl), omega (arith, source_count_more ss s, beside_most ss s.urls))
            ]

        turn : InTurn (ss ++ (s ∷ []))
        turn before after t e =
            ⊎_elim (λ last. rw (last.0, last.1) (omega (arith, beside_most ss s.urls))) (λ found. numbered.in_turn before found.0 t found.1)
            (cut_last ss s before after t e)

-- the segments of the source with these URLs
module _ (us : List (List ℕ)) where
  -- of a list that no segment uses there are none
  pub of_urls_none : (ss : List Segment) → ((s : Segment) → Memᴰ s ss → s.urls ≡ us → ⊥) → of_urls us ss ≡ []
  unfolding of_urls
  of_urls_none ss other =
      ⊎_elim (λ found. absurd (other found.0 found.1 found.2)) (λ none. of_none (source_beside ss us) ss (omega (arith, none.1))) (beside_found ss us)

module _ (ss : List Segment) (numbered : Numbered ss) where
  -- of a segment's list they are those of its source
  pub of_urls_there : (s : Segment) → Memᴰ s ss → of_urls s.urls ss ≡ of_source s.source ss
  unfolding of_urls
  of_urls_there s there = ap (λ (n : ℕ). of_source n ss) (beside_there ss numbered s there)

  -- they are those whose list it is
  pub of_urls_member : (us : List (List ℕ)) (s : Segment) → Memᴰ s (of_urls us ss) ↔ (Memᴰ s ss × (s.urls ≡ us))
  unfolding of_urls
  of_urls_member us s = (forth, λ both. rw (ap (source_beside ss) (sym both.1) ∙ beside_there ss numbered s both.0) (of_member s.source ss s both.0 refl))
    where
      forth : Memᴰ s (of_urls us ss) → Memᴰ s ss × (s.urls ≡ us)
      forth there =
          let (found, number) = member_of (source_beside ss us) ss s there in (
            found,
            ⊎_elim (λ other. (numbered.same_number s other.0 found other.1).0 (number ∙ sym other.3) ∙ other.2)
                (λ none. absurd (omega (arith, source_low ss s found, none.1))) (beside_found ss us),
          )

-- with one segment more, numbered beside them: those of its own list, and those of any other
module _ (ss : List Segment) (numbered : Numbered ss) (s : Segment) (next : s.source ≡ source_beside ss s.urls) where
  pub of_urls_own : of_urls s.urls (ss ++ (s ∷ [])) ≡ of_urls s.urls ss ++ (s ∷ [])
  unfolding of_urls of_source
  of_urls_own =
      rw (beside_there (ss ++ (s ∷ [])) (numbered_more ss numbered s next) s (Memᴰ.append_right ss (Memᴰ.head refl)), ← next, of-append)
      (ap (λ (ts : List Segment). of_source s.source ss ++ ts) (of_one s.source (s ∷ []) (λ t there. ap (λ (x : Segment). x.source) (Memᴰ.eq_of_singleton there))))

  pub of_urls_other : (us : List (List ℕ)) → (s.urls ≡ us → ⊥) → of_urls us (ss ++ (s ∷ [])) ≡ of_urls us ss
  of_urls_other us other = ⊎_elim (λ found. had found.0 found.1 found.2) (λ none. of_urls_none us (ss ++ (s ∷ [])) (unused none.0) ∙ sym (of_urls_none us ss none.0)) (beside_found ss us)
    where
      unused : ((t : Segment) → Memᴰ t ss → t.urls ≡ us → ⊥) → (t : Segment) → Memᴰ t (ss ++ (s ∷ [])) → t.urls ≡ us → ⊥
      unused none t there same =
          ⊎_elim (λ old. none t old same) (λ new. other (ap (λ (x : Segment). x.urls) (sym (Memᴰ.eq_of_singleton new)) ∙ same)) (Memᴰ.append_cases ss there)

      had : (t : Segment) → Memᴰ t ss → t.urls ≡ us → of_urls us (ss ++ (s ∷ [])) ≡ of_urls us ss
      had t there same =
          let ts = ss ++ (s ∷ []) in
          let apart : s.source ≡ t.source → ⊥ = λ number. other (sym ((same_beside ss numbered s next t there).0 (sym number)) ∙ same) in
          let none : of_source t.source (s ∷ []) ≡ [] = of_other t.source (s ∷ []) (λ x new number. apart (ap (λ (y : Segment). y.source) (sym (Memᴰ.eq_of_singleton new)) ∙ number)) in
          rw (← same, of_urls_there ts (numbered_more ss numbered s next) t (Memᴰ.append_left (s ∷ []) there), of_urls_there ss numbered t there, of-append, none)
          (append-nil (of_source t.source ss))
