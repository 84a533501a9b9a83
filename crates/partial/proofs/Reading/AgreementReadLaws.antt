-- A file that reaches 25 is accepted exactly if its sizes agree, it has no ninth source and its index is told, and no
-- other is; it is 25 exactly if they do not agree, 40 exactly if they do and it has a ninth source, and 36 to 39 exactly
-- if it has none and its index has that number.
use Prim.Native.Nat.{ℕ, ◌≤◌, ◌<◌}
use mathlib.Core.Bool.{Bool, true, false}
use mathlib.Core.List.{List, []}
use mathlib.Core.Logic.{◌↔◌, inl, inr}
use mathlib.Core.Path.{◌≡◌, refl, sym, ap, subst, ◌∙◌}
use native.Mathlib.Omega.{arith}
use borrow.Author.Tests.{le-leb, lt-leb, leb-true, leb-false, ne_eqb}
use lib.Dec.{T, leb}
use lib.ListN.{length}
use Rattle.boxes.specs.Answer.{Answer, refused, given, ◌>>=◌, hold}
use Rattle.boxes.specs.Kinds.{pseg, those, right}
use Rattle.boxes.specs.declared.kinds.Container.TheVariants.{File}
use Rattle.boxes.proofs.AnswerLaws.{Only, only_given, only_then, not_both, refused_same}
use Rattle.boxes.proofs.KindLaws.{right_some, some_right}
use Rattle.partial.specs.Limits.{segment_limit, layer_limit}
use Rattle.partial.specs.Sequences.{within}
use Rattle.partial.specs.Segments.{Segment}
use Rattle.partial.specs.Heading.{Heading, heading}
use Rattle.partial.specs.Sources.{source_count, agreed}
use Rattle.partial.specs.Index.{SourceBox, indexed}
use Rattle.partial.specs.Reading.{segments_from, segments, reading}
use Rattle.partial.specs.ReadingDemands.{before_agreement, of_index, InAgreement, Passes40, Reaches25}
use Rattle.partial.proofs.Meaning.SequenceLaws.{which, passes, past, within_true}
use Rattle.partial.proofs.Meaning.SourceLaws.{in-agreement, agreement}
use Rattle.partial.proofs.Reading.IndexGivenLaws.{indexed_only}
use Rattle.partial.proofs.Reading.KeptLaws.{segmented}
use Rattle.partial.proofs.Reading.ReadingLaws.{later_stages, reading_some, reading_read}
use Rattle.partial.proofs.Reading.RefusalLaws.{heading_only, segments_from_only, segments_only}

-- a refusal at the end that is not one of the way comes after a value on the way
pub passed_on : {A B : Type 0} (x : Answer A) (next : A → Answer B) {n : ℕ} → Only (λ k. k ≡ n → ⊥) x → (x >>= next) ≡ refused n
    → (a : A) × (x ≡ given a) × (next a ≡ refused n)
passed_on (refused k) next other e = absurd (other k refl (refused_same e))
passed_on (given a) next other e = (a, refl, e)

-- and after a test that holds
pub passed : {A : Type 0} (k : ℕ) (t : Bool) (next : Unit {0} → Answer A) {n : ℕ} → (k ≡ n → ⊥) → (hold k t >>= next) ≡ refused n
    → (t ≡ true) × (next tt ≡ refused n)
passed k true next other e = (refl, e)
passed k false next other e = absurd (other (refused_same e))

-- a refusal that is none of what follows is one on the way
pub refused_first : {A B : Type 0} (x : Answer A) (next : A → Answer B) {n : ℕ} → (x >>= next) ≡ refused n → ((a : A) → Only (λ k. k ≡ n → ⊥) (next a)) → x ≡ refused n
refused_first (refused k) next e other = ap (λ (m : ℕ). refused m) (refused_same e)
refused_first (given a) next {n} e other = absurd (other a n e refl)

-- no stage before 25 has its number, and none has one of the index
not_25 : (n : ℕ) → T (before_agreement n) → n ≡ 25 → ⊥
unfolding within
not_25 n before e = subst (λ k. T (before_agreement k)) e before

pub of-index : (n : ℕ) → T (of_index n) → (36 ≤ n) × (n < 40)
of-index n of = within_true 36 4 n (passes _ of)

pub not_index : (n : ℕ) → T (of_index n) → (k : ℕ) → T (before_agreement k) → k ≡ n → ⊥
not_index n of k before same =
    let low = (of-index n of).0 in
    let high = (of-index n of).1 in
    absurd (simp (past 1 11 k (omega arith), past 13 8 k (omega arith), past 22 3 k (omega arith), ne_eqb k 41 (λ e. omega arith)) at before)

module _ (limit : ℕ) (f : List ℕ) where
  -- nor has the index 25
  no_other : (h : Heading) (ss : List Segment) → Only (λ k. k ≡ 25 → ⊥) (indexed limit f h ss >>= λ _. given ss)
  no_other h ss =
      let P : ℕ → Type 0 = λ k. k ≡ 25 → ⊥ in
      only_then P (indexed limit f h ss) _ (indexed_only P (λ z. omega arith) limit f (λ z. omega arith) (λ z. omega arith) (λ z. omega arith) h ss) (λ _. only_given P ss)

  -- a file that reaches 25 is judged by it and then by its index
  reached : {ss : List Segment} (r : Reaches25 limit f ss)
      → reading limit f ≡ (hold 25 (agreed ss) >>= λ _. hold 40 (leb (source_count ss) layer_limit) >>= λ _. indexed limit f r.h ss >>= λ _. given ss)
  unfolding segments
  reached {ss} r =
      reading_some limit f r.headed (some_right File pseg r.h.boxes refl r.any)
      ∙ rw (le-leb (length (those pseg r.h.boxes)) segment_limit r.few, r.read) (go (agreed ss) (leb (source_count ss) layer_limit))
    where
      go : (t u : Bool)
          → ((hold 25 t >>= λ _. hold 40 u >>= λ _. given ss) >>= λ ts. indexed limit f r.h ts >>= λ _. given ts)
          ≡ (hold 25 t >>= λ _. hold 40 u >>= λ _. indexed limit f r.h ss >>= λ _. given ss)
      go true true = refl
      go true false = refl
      go false u = refl

  -- segments that were read reach it, and pass 40
  passing : {h : Heading} {ss : List Segment} → heading f ≡ given h → right File pseg h.boxes ≡ true → segments limit f h ≡ given ss
      → ((r : Reaches25 limit f ss) × (r.h ≡ h)) × Passes40 ss
  passing {h} {ss} head there e =
      let t = segmented limit f h e in (
        (record { h = h; headed = head; any = right_some File pseg h.boxes refl there; few = leb-true _ segment_limit t.few; read = t.read }, refl),
        record { agreed = agreement ss t.agree; layers = leb-true (source_count ss) layer_limit t.layers },
      )

  pub agrees : (ss : List Segment)
      → (reading limit f ≡ given ss)
      ↔ ((reached : Reaches25 limit f ss) × Passes40 ss × ((is : List SourceBox) × (indexed limit f reached.h ss ≡ given is)))
  agrees ss = (forth, λ r. reached r.0 ∙ rw (in-agreement ss r.1.agreed, le-leb (source_count ss) layer_limit r.1.layers, r.2.1))
    where
      forth : reading limit f ≡ given ss → (reached : Reaches25 limit f ss) × Passes40 ss × ((is : List SourceBox) × (indexed limit f reached.h ss ≡ given is))
      forth e =
          let (h, is, r) = reading_read limit f e in
          let ((reach, same), passes40) = passing r.headed r.there r.segmented in
          (reach, passes40, (is, rw same r.told))

  -- a refusal that neither the heading nor 12 has comes behind them
  module _ {n : ℕ} (known : (k : ℕ) → T (before_agreement k) → k ≡ n → ⊥) (other : 12 ≡ n → ⊥) where
    headed_past : reading limit f ≡ refused n → (h : Heading) × (heading f ≡ given h) × (right File pseg h.boxes ≡ true) × (later_stages limit f h ≡ refused n)
    unfolding reading
    headed_past e =
        let (h, head, e1) = passed_on (heading f) _ (heading_only (λ k. k ≡ n → ⊥) known f) e in
        let (there, e2) = passed 12 (right File pseg h.boxes) _ other e1 in
        (h, head, there, e2)

  pub disagrees : (reading limit f ≡ refused 25) ↔ ((ss : List Segment) × Reaches25 limit f ss × (InAgreement ss → ⊥))
  unfolding segments
  disagrees = (forth, λ r. back r.0 r.1 r.2)
    where
      forth : reading limit f ≡ refused 25 → (ss : List Segment) × Reaches25 limit f ss × (InAgreement ss → ⊥)
      forth e =
          let (h, head, there, e1) = headed_past not_25 (λ z. omega arith) e in
          let bs = those pseg h.boxes in
          let e2 = refused_first (segments limit f h) _ e1 (λ ss. no_other h ss) in
          let (few, e3) = passed 13 (leb (length bs) segment_limit) _ (λ z. omega arith) e2 in
          let (ss, read, e4) = passed_on (segments_from limit f h [] bs) _ (segments_from_only (λ k. k ≡ 25 → ⊥) not_25 limit f h [] bs) e3 in (
            ss,
            record { h = h; headed = head; any = right_some File pseg h.boxes refl there; few = leb-true _ segment_limit few; read = read },
            λ agree. let e5 = (passed 40 (leb (source_count ss) layer_limit) _ (λ z. omega arith) (rw (in-agreement ss agree) at e4)).1 in not_both (sym e5),
          )

      back : (ss : List Segment) → Reaches25 limit f ss → (InAgreement ss → ⊥) → reading limit f ≡ refused 25
      back ss r differ =
          elim (which (agreed ss)) [
            | inl e ↦ absurd (differ (agreement ss e))
            | inr e ↦ reached r ∙ rw e
          ]

  -- neither a stage before 25 nor the index has 40
  not_40 : (n : ℕ) → T (before_agreement n) → n ≡ 40 → ⊥
  unfolding within
  not_40 n before e = subst (λ k. T (before_agreement k)) e before

  index_not_40 : (h : Heading) (ss : List Segment) → Only (λ k. k ≡ 40 → ⊥) (indexed limit f h ss >>= λ _. given ss)
  index_not_40 h ss =
      let P : ℕ → Type 0 = λ k. k ≡ 40 → ⊥ in
      only_then P (indexed limit f h ss) _ (indexed_only P (λ z. omega arith) limit f (λ z. omega arith) (λ z. omega arith) (λ z. omega arith) h ss) (λ _. only_given P ss)

  pub ninth-source : (reading limit f ≡ refused 40) ↔ ((ss : List Segment) × Reaches25 limit f ss × InAgreement ss × (layer_limit < source_count ss))
  unfolding segments
  ninth-source = (forth, λ r. back r.0 r.1 r.2 r.3)
    where
      forth : reading limit f ≡ refused 40 → (ss : List Segment) × Reaches25 limit f ss × InAgreement ss × (layer_limit < source_count ss)
      forth e =
          let (h, head, there, e1) = headed_past not_40 (λ z. omega arith) e in
          let bs = those pseg h.boxes in
          let e2 = refused_first (segments limit f h) _ e1 (λ ss. index_not_40 h ss) in
          let (few, e3) = passed 13 (leb (length bs) segment_limit) _ (λ z. omega arith) e2 in
          let (ss, read, e4) = passed_on (segments_from limit f h [] bs) _ (segments_from_only (λ k. k ≡ 40 → ⊥) not_40 limit f h [] bs) e3 in
          let (agree, e5) = passed 25 (agreed ss) _ (λ z. omega arith) e4 in (
            ss,
            record { h = h; headed = head; any = right_some File pseg h.boxes refl there; few = leb-true _ segment_limit few; read = read },
            agreement ss agree,
            elim (which (leb (source_count ss) layer_limit)) [
              | inl few ↦ absurd (not_both (sym (rw few at e5)))
              | inr over ↦ leb-false (source_count ss) layer_limit over
            ],
          )

      back : (ss : List Segment) → Reaches25 limit f ss → InAgreement ss → layer_limit < source_count ss → reading limit f ≡ refused 40
      back ss r agree over = reached r ∙ rw (in-agreement ss agree, lt-leb (source_count ss) layer_limit over)

  pub index-refused : (n : ℕ)
      → ((reading limit f ≡ refused n) × T (of_index n))
      ↔ ((ss : List Segment) × (reached : Reaches25 limit f ss) × Passes40 ss × (indexed limit f reached.h ss ≡ refused n))
  unfolding within
  index-refused n = (λ r. forth r.0 r.1, λ r. back r.0 r.1 r.2 r.3)
    where
      forth : reading limit f ≡ refused n → T (of_index n) → (ss : List Segment) × (reached : Reaches25 limit f ss) × Passes40 ss × (indexed limit f reached.h ss ≡ refused n)
      forth e of =
          let known = not_index n of in
          let apart : 25 ≡ n → ⊥ = λ same. omega (arith, (of-index n of).0) in
          let ninth : 40 ≡ n → ⊥ = λ same. omega (arith, (of-index n of).1) in
          let (h, head, there, e1) = headed_past known (λ same. omega (arith, (of-index n of).0)) e in
          let (ss, parts, e2) = passed_on (segments limit f h) _ (segments_only (λ k. k ≡ n → ⊥) known apart ninth limit f h) e1 in
          let ((reach, same), passes40) = passing head there parts in
          (ss, reach, passes40, rw same (refused_first (indexed limit f h ss) _ e2 (λ _. only_given (λ k. k ≡ n → ⊥) ss)))

      back : (ss : List Segment) (r : Reaches25 limit f ss) → Passes40 ss → indexed limit f r.h ss ≡ refused n → (reading limit f ≡ refused n) × T (of_index n)
      back ss r passes40 e = (reached r ∙ rw (in-agreement ss passes40.agreed, le-leb (source_count ss) layer_limit passes40.layers, e), indexed_only (λ k. T (of_index k)) tt limit f tt tt tt r.h ss n e)
