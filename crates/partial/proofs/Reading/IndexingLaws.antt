-- What is told of an accepted file's index: its boxes are in order, each belongs to a source, none is empty, and of
-- each is said what is served.
use Prim.Native.Nat.{ℕ, ◌<◌}
use mathlib.Core.List.Memᴰ
use mathlib.Core.List.{List, [], ◌∷◌, Memᴰ}
use mathlib.Core.Logic.{inl, inr, ⊎_elim}
use Rattle.std.specs.Prelude.{Option}
use mathlib.Core.Path.{◌≡◌, refl, sym, ap, subst}
use Rattle.boxes.specs.Answer.{given}
use Rattle.boxes.specs.Framing.{Box}
use Rattle.boxes.specs.declared.kinds.Container.{Container}
use Rattle.boxes.specs.declared.kinds.Container.TheVariants.{Pfil, Pseg}
use Rattle.boxes.proofs.AnswerLaws.{both_given, given_same}
use Rattle.partial.specs.Segments.{Segment}
use Rattle.partial.specs.Heading.{Heading}
use Rattle.partial.specs.Sources.{of_urls}
use Rattle.partial.specs.Index.{Indexed, SourceBox, boxes_alone, belonging, size_for, index_in, index_for, index_of_segments, indexed, indexed_size}
use Rattle.partial.specs.ReadingDemands.{Indexing}
use Rattle.partial.proofs.Meaning.SequenceLaws.{Each}
use Rattle.partial.proofs.Reading.IndexedLaws.{indexed_whole}
use Rattle.partial.proofs.Reading.IndexServedLaws.{served_as_said}
use Rattle.partial.proofs.Reading.IndexShapeLaws.{indexed_order}

-- what is so of each box alone
each_alone : (P : Indexed → Type 0) (is : List SourceBox) → Each P (boxes_alone is) → (i : SourceBox) → Memᴰ i is → P i.box
unfolding boxes_alone
each_alone P [] each i there = absurd (Memᴰ.not-nil there)
each_alone P (x ∷ is) (here, each) i there =
    ⊎_elim (λ same. subst (λ (y : SourceBox). P y.box) (sym same) here) (λ rest. each_alone P is each i rest) (Memᴰ.cases_cons there)

-- the boxes of an index belong to its source
belongs : (us : List (List ℕ)) (is : List Indexed) (i : SourceBox) → Memᴰ i (belonging us is) → i.urls ≡ us
unfolding belonging
belongs us [] i there = absurd (Memᴰ.not-nil there)
belongs us (x ∷ is) i there = ⊎_elim (λ same. ap (λ (y : SourceBox). y.urls) same) (λ rest. belongs us is i rest) (Memᴰ.cases_cons there)

module _ (limit : ℕ) (f : List ℕ) (size : List (List ℕ) → Option ℕ) where
  for_belongs : (us : List (List ℕ)) (c : Container) (bs : List Box) (start : ℕ) (boxes : List SourceBox) → index_for limit f size us c bs start ≡ given boxes
      → (i : SourceBox) → Memᴰ i boxes → i.urls ≡ us
  unfolding index_for
  for_belongs us c bs start boxes e i there =
      let (is, _, e1) = both_given (index_in limit f c bs (size us) start) _ e in
      belongs us is i (subst (λ (xs : List SourceBox). Memᴰ i xs) (sym (given_same e1)) there)

  segments_belong : (ss : List Segment) (boxes : List SourceBox) → index_of_segments limit f size ss ≡ given boxes
      → (i : SourceBox) → Memᴰ i boxes → (s : Segment) × Memᴰ s ss × (i.urls ≡ s.urls)
  unfolding index_of_segments
  segments_belong [] boxes e i there = absurd (Memᴰ.not-nil (subst (λ (xs : List SourceBox). Memᴰ i xs) (sym (given_same e)) there))
  segments_belong (s ∷ ss) boxes e i there =
      let (first, here, e1) = both_given (index_for limit f size s.urls Pseg s.inner s.source_offset) _ e in
      let (later, rest, e2) = both_given (index_of_segments limit f size ss) _ e1 in
      ⊎_elim (λ one. (s, Memᴰ.head refl, for_belongs s.urls Pseg s.inner s.source_offset first here i one))
      (λ other. let (t, found, urls) = segments_belong ss later rest i other in (t, Memᴰ.tail found, urls))
      (Memᴰ.append_cases first (subst (λ (xs : List SourceBox). Memᴰ i xs) (sym (given_same e2)) there))

pub indexing : (limit : ℕ) (f : List ℕ) (h : Heading) (ss : List Segment) (is : List SourceBox) → indexed limit f h ss ≡ given is → Indexing h ss is
indexing limit f h ss is e =
    let (order, sized) = indexed_order limit f h ss is e in
    let (first, later, t, same) = indexed_whole limit f h ss e in
    record {
      in_order = order;
      owned = λ i there.
          ⊎_elim (λ one. inl (for_belongs limit f (size_for ss) h.urls Pfil h.inner 0 first t.in_pfil i one))
          (λ other. inr (segments_belong limit f (size_for ss) ss later t.in_segments i other))
          (Memᴰ.append_cases first (subst (λ (xs : List SourceBox). Memᴰ i xs) (sym same) there));
      not_empty = each_alone (λ i. 0 < indexed_size i) is sized;
      served = λ i _. served_as_said (of_urls i.urls ss) i.box.place (indexed_size i.box);
    }
