-- Laws of the index of a file beside a new segment, which has none: that of a file with a segment is told again, that
-- of one without goes by its stages.
use Prim.Native.Nat.{ℕ, ◌%◌, ◌≤◌, ◌<◌}
use mathlib.Core.Bool.{Bool, true, false, ◌&&◌}
use Rattle.std.specs.Prelude.{Option, None, Some, option_map}
use Rattle.std.specs.Bool.{then_some}
use mathlib.Core.List.{List, [], ◌∷◌, ◌++◌}
use mathlib.Core.Logic.{inl, inr}
use mathlib.Core.Path.{◌≡◌, refl, sym, ap, ap₂, subst, ◌∙◌}
use native.Mathlib.Nat.{mod-eq_of_lt}
use native.Mathlib.Omega.{arith}
use borrow.Author.Tests.{eq-eqb, ne_eqb}
use lib.Dec.{lit<}
use lib.ListN.{length, drop_of_length-le}
use Rattle.boxes.specs.Answer.{Answer, given, ◌>>=◌}
use Rattle.boxes.specs.Kinds.{pseg, fidx, right, those}
use Rattle.boxes.specs.declared.kinds.Container.TheVariants.{File}
use Rattle.boxes.proofs.AnswerLaws.{given_same, then-then}
use Rattle.partial.specs.Heading.{Heading}
use Rattle.partial.specs.Index.{size_for, index_for, index_of_segments, indexed}
use Rattle.partial.specs.Limits.{source_limit}
use Rattle.partial.specs.Meaning.{gives_size, known_size}
use Rattle.partial.specs.Reading.{segments}
use Rattle.partial.specs.Segments.{Segment, end_of}
use Rattle.partial.specs.Sequences.{some_of}
use Rattle.partial.specs.Sources.{same_urls, source_count, source_among, source_beside, of_source, of_urls}
use Rattle.partial.proofs.Meaning.SequenceLaws.{which}
use Rattle.partial.proofs.Meaning.SourceLaws.{source_count_more}
use Rattle.partial.proofs.Reading.IndexedLaws.{indexed_more}
use Rattle.partial.proofs.Reading.NumberedLaws.{segments_numbered}
use Rattle.partial.proofs.Reading.ReadingLaws.{reading_known}
use Rattle.partial.proofs.Reading.RefusalLaws.{earlier_some, earlier_none, earlier_read}
use Rattle.indexing.specs.Ends.{end_of as endBy}
use Rattle.partial.specs.declared.position.Position.{Position}
use Rattle.ends.specs.Table.{all_sizes, flag, SizesPut}
use Rattle.ends.specs.declared.sizes.Sizes.{Sizes}
use Rattle.fileindex.specs.File.{index_by, end_in, NumberedBy}
use Rattle.reading.specs.Judged.{indexed_told}
use Rattle.reading.specs.Staged.{staged, HasIndexes}
use Rattle.reading.proofs.StagedLaws.{begun-told}
use Rattle.adding.specs.Admission.{Known, indexed_beside}

-- where a source ends by the new segment alone: it is that one's, told by its URLs, or nothing is known of it
module _ (s : Segment) (us : List (List ℕ)) where
  pub size_own : true ≡ same_urls us s.urls → size_for (s ∷ []) us ≡ known_size (s ∷ [])
  unfolding size_for of_urls source_beside source_among of_source
  size_own same = rw (source_among, ← same, of_source, eq-eqb s.source s.source refl)

  pub size_other : false ≡ same_urls us s.urls → size_for (s ∷ []) us ≡ endBy None
  unfolding size_for of_urls source_beside source_among of_source known_size
  size_other other =
      let above : s.source < source_count (s ∷ []) = omega (arith, source_count_more [] s) in
      rw (source_among, ← other, of_source, ne_eqb s.source (source_count (s ∷ [])) (λ e. omega arith))

pub new_end : (s : Segment) {gives : Bool} {end : Position} {size : Option Position} → gives ≡ gives_size s → end.0 ≡ end_of s → size ≡ then_some gives end → endBy size ≡ known_size (s ∷ [])
unfolding known_size
new_end s {gives} {end} known ends is = ap endBy is ∙ by_known gives end ∙ ap₂ (λ (b : Bool) (n : ℕ). then_some b n) known ends ∙ of_one (gives_size s)
  where
    by_known : (b : Bool) (p : Position) → endBy (then_some b p) ≡ then_some b p.0
    by_known true p = refl
    by_known false p = refl

    of_one : (b : Bool) → ◌≡◌ {A = Option ℕ} (then_some b (end_of s)) (elim b [ true ↦ Some (end_of s) | false ↦ None ])
    of_one true = refl
    of_one false = refl

-- it is not past the segment's
pub no_end : {end : ℕ} → (p : Position) → None ≡ Some p → p.0 ≤ end
no_end p e = let z : ◌≡◌ {A = ℕ} 0 1 = cc in absurd (omega arith)

pub end_within : (gives : Bool) (end : Position) {size : Option Position} → size ≡ then_some gives end → (p : Position) → size ≡ Some p → p.0 ≤ end.0
end_within true end is p e = let same : end ≡ p = cc in omega (arith, ap (λ (p : Position). p.0) same)
end_within false end is p e = no_end p (sym is ∙ e)

-- a table that has it as the end of the first source
pub end_put : (size : Option Position) (z t : List ℕ) → length z ≡ all_sizes → ((p : Position) → size ≡ Some p → p.0 ≤ source_limit)
    → SizesPut z 0 (record { size = size; largest = record { 0 = 0 }; same = true }) t → end_in t 0 ≡ endBy size
unfolding end_in
end_put size z t long low put = ap (λ (x : Sizes). endBy x.size) (put.here (lit< tt) long) ∙ kept size low
  where
    kept : (size : Option Position) → ((p : Position) → size ≡ Some p → p.0 ≤ source_limit) → endBy (option_map (λ p. record { 0 = p.0 % flag }) size) ≡ endBy size
    kept None low = refl
    kept (Some p) low = ap (λ (n : ℕ). Some n) (mod-eq_of_lt (omega (arith, low p refl)))

module _ {f : List ℕ} {h : Heading} (ss : List Segment) {in_pfil : Bool} (file : Known f h ss in_pfil) (s : Segment) (lacks : those fidx s.inner ≡ []) where
  -- a file with a segment was accepted
  pub told-again : s.source ≡ source_beside ss s.urls → (length ss ≡ 0 → ⊥) → given tt ≡ indexed_beside f h ss s
  unfolding indexed_beside
  told-again next any =
      elim (which (right File pseg h.boxes)) [
        | inl there ↦
            let (is, r) = reading_known source_limit f file.head (sym (earlier_some source_limit f file.head there) ∙ file.read) in
            rw (indexed_more source_limit f h s lacks ss (segments_numbered source_limit f h (earlier_read source_limit f file.head file.read)) next r.told)
        | inr lacks ↦ absurd (any (ap length (given_same (sym file.read ∙ earlier_none source_limit f file.head lacks))))
      ]

  module _ (empty : length ss ≡ 0) where
    nothing : ss ≡ []
    nothing = drop_of_length-le ss {i = 0} (omega arith)

    -- one without has none that has an index
    pub begun_known : segments source_limit f h ≡ given []
    begun_known = subst (λ (ss : List Segment). segments source_limit f h ≡ given ss) nothing (earlier_read source_limit f file.head file.read)

    pub begun_has : HasIndexes h [] in_pfil false
    unfolding some_of
    begun_has = record { pfil = file.index; segments = refl }

    -- no list but that in `pfil` is asked for
    by_pfil : (size other : List (List ℕ) → Option ℕ) → size h.urls ≡ other h.urls → index_by f h size [] ≡ index_by f h other []
    unfolding index_by index_for index_of_segments
    by_pfil size other same = rw same

    pub begun_numbered : {sources : List ℕ} → NumberedBy (λ _. 0) h [] sources 0
    begun_numbered = record { small = λ _. omega arith; pfil = refl; segments = refl }

    pub begun_beside : (z : List ℕ) {x : Answer ℕ} → end_in z 0 ≡ size_for (s ∷ []) h.urls → x ≡ staged (in_pfil && false) (index_by f h (λ _. end_in z 0) [])
        → ◌>>=◌ {B = Unit {0}} x (λ _. given tt) ≡ indexed_beside f h ss s
    unfolding indexed_beside indexed_told
    begun_beside z ends told =
        ap (λ x. x >>= λ _. given tt) (told ∙ ap (staged (in_pfil && false)) (by_pfil (λ _. end_in z 0) (size_for (s ∷ [])) ends) ∙ begun-told f h s file.index lacks)
        ∙ then-then (indexed source_limit f h (s ∷ [])) (λ is. given (length is)) (λ _. given tt)
        ∙ ap (λ (ss : List Segment). indexed source_limit f h (ss ++ (s ∷ [])) >>= λ _. given tt) (sym nothing)
