-- The index of a file with one more segment that has none, and with more behind it: what was told of it is told again.
use Prim.Native.Nat.{ℕ}
use mathlib.Core.Bool.{Bool, true, false, not, ◌&&◌, ◌||◌, and-false, true≢false}
use mathlib.Core.Logic.{◌⊎◌, inl, inr, ⊎_elim}
use mathlib.Core.List.{List, [], ◌∷◌, ◌++◌}
use Rattle.std.specs.Prelude.{Option, None, Some}
use mathlib.Core.Path.{◌≡◌, refl, sym, ap, subst, ◌∙◌}
use native.Mathlib.Decide.{dec_le}
use native.Mathlib.Omega.{arith}
use borrow.Author.Tests.{eq-eqb, ne_eqb, lt-ltb, le-ltb}
use lib.Dec.{leb, eqb}
use lib.ListN.{length}
use Rattle.boxes.specs.Answer.{Answer, given, ◌>>=◌}
use Rattle.boxes.specs.Framing.{Box, boxes_in}
use Rattle.boxes.specs.Kinds.{fidx, bidx, right, those}
use Rattle.boxes.specs.declared.kinds.Container.{Container}
use Rattle.boxes.specs.declared.kinds.Container.TheVariants.{Pfil, Pseg, Fidx}
use Rattle.boxes.proofs.AnswerLaws.{both_given, held, given_same, Only, only_then, only_held, only_given}
use Rattle.boxes.proofs.KindLaws.{few_right}
use Rattle.partial.specs.Sequences.{some_of, all_of, or_else}
use Rattle.partial.specs.Segments.{Segment}
use Rattle.partial.specs.Heading.{Heading}
use Rattle.partial.specs.Meaning.{known_size}
use Rattle.partial.specs.Sources.{same_urls, source_beside, of_urls}
use Rattle.partial.specs.ReadingDemands.{Numbered}
use Rattle.partial.specs.Index.{list_framed, Indexed, index_list, level_limit, call_limit, index_in, has_index}
use Rattle.partial.specs.Index.{SourceBox, boxes_alone, belonging, size_for, index_for, index_of_segments, index_of, indexed}
use Rattle.partial.proofs.Meaning.SequenceLaws.{which, both, all_append}
use Rattle.partial.proofs.Meaning.SameLaws.{urls_equal, urls_same}
use Rattle.partial.proofs.Meaning.SourceLaws.{of_urls_own, of_urls_other}
use Rattle.partial.proofs.Meaning.DescribedLaws.{known_append}
use Rattle.partial.proofs.Reading.HeadingAppendLaws.{lies}
use Rattle.partial.proofs.Reading.IndexGivenLaws.{index_only, list_sized, known}
use Rattle.partial.proofs.Reading.IndexKeptLaws.{index_in_kept}

-- ---- a container without an index

module _ (limit : ℕ) (f : List ℕ) (bs : List Box) (lacks : those fidx bs ≡ []) where
  pub index_none : (c : Container) (size : Option ℕ) (start : ℕ) → right c fidx bs ≡ true → index_in limit f c bs size start ≡ given []
  unfolding index_in
  index_none c size start single = rw (single, lacks)

  pub has_none : has_index bs ≡ false
  unfolding has_index
  has_none = rw lacks

-- whether it has one, by how many there are
pub has_counted : (bs : List Box) {n : ℕ} → n ≡ length (those fidx bs) → not (eqb n 0) ≡ has_index bs
unfolding has_index
has_counted bs {n} same =
    elim (dec_le 1 n) [
      | yes there ↦ ap not (ne_eqb n 0 (λ e. omega arith)) ∙ sym (lt-ltb 0 (length (those fidx bs)) (omega (arith, same)))
      | no few ↦ ap not (eq-eqb n 0 (omega arith)) ∙ sym (le-ltb 0 (length (those fidx bs)) (omega (arith, same)))
    ]

-- ---- the boxes of an index with their sources

-- the boxes of an index are those that belong to its source
pub belonging_alone : (us : List (List ℕ)) (is : List Indexed) → boxes_alone (belonging us is) ≡ is
unfolding boxes_alone belonging
belonging_alone us [] = refl
belonging_alone us (i ∷ is) = ap (λ (xs : List Indexed). i ∷ xs) (belonging_alone us is)

pub alone_append : (xs ys : List SourceBox) → boxes_alone (xs ++ ys) ≡ boxes_alone xs ++ boxes_alone ys
unfolding boxes_alone
alone_append [] ys = refl
alone_append (x ∷ xs) ys = ap (λ (zs : List Indexed). x.box ∷ zs) (alone_append xs ys)

pub all_alone : (test : Indexed → Bool) (xs ys : List SourceBox) → all_of test (boxes_alone (xs ++ ys)) ≡ true → (all_of test (boxes_alone xs) ≡ true) × (all_of test (boxes_alone ys) ≡ true)
all_alone test xs ys all = both (all_of test (boxes_alone xs)) (all_of test (boxes_alone ys)) (rw (alone_append, all_append) at all)

-- ---- the size of a source, known later

-- with one more segment, numbered beside the others, a known size is as it was
pub size_later : (ss : List Segment) → Numbered ss → (s : Segment) → s.source ≡ source_beside ss s.urls → (us : List (List ℕ))
    → (size_for ss us ≡ None) ⊎ (size_for (ss ++ (s ∷ [])) us ≡ size_for ss us)
unfolding size_for or_else
size_later ss numbered s next us =
    elim (which (same_urls s.urls us)) [
      | inl e ↦ subst (λ (vs : List (List ℕ)). (known_size (of_urls vs ss) ≡ None) ⊎ (known_size (of_urls vs (ss ++ (s ∷ []))) ≡ known_size (of_urls vs ss))) (urls_equal s.urls us e) own
      | inr e ↦ inr (ap known_size (of_urls_other ss numbered s next us (λ same. true≢false (sym (urls_same s.urls us same) ∙ e))))
    ]
  where
    first : (known : Option ℕ) → known_size (of_urls s.urls ss) ≡ known → (known ≡ None) ⊎ (or_else known (known_size (s ∷ [])) ≡ known)
    first None e = inl refl
    first (Some n) e = inr refl

    own : (known_size (of_urls s.urls ss) ≡ None) ⊎ (known_size (of_urls s.urls (ss ++ (s ∷ []))) ≡ known_size (of_urls s.urls ss))
    own =
        ⊎_elim (λ unknown. inl unknown) (λ same. inr (ap known_size (of_urls_own ss numbered s next) ∙ known_append (of_urls s.urls ss) (s ∷ []) ∙ same))
        (first (known_size (of_urls s.urls ss)) refl)

module _ (limit : ℕ) (f : List ℕ) where
  in-sized : (c : Container) (bs : List Box) (size : Option ℕ) (start : ℕ) (boxes : List Indexed) → index_in limit f c bs None start ≡ given boxes
      → all_of known boxes ≡ true
      → index_in limit f c bs size start ≡ given boxes
  unfolding index_in
  in-sized c bs size start boxes e all =
      let (single, e1) = held 36 (right c fidx bs) _ e in
      rw single (go (those fidx bs) e1)
    where
      go : (cs : List Box)
          → ◌≡◌ {A = Answer (List Indexed)} (elim cs [ [] ↦ given [] | b ∷ _ ↦ list_framed (boxes_in Fidx f b.body b.end) >>= λ inner. index_list limit f call_limit 1 None start (those bidx inner) >>= λ told. given told.boxes ]) (given boxes)
          → ◌≡◌ {A = Answer (List Indexed)} (elim cs [ [] ↦ given [] | b ∷ _ ↦ list_framed (boxes_in Fidx f b.body b.end) >>= λ inner. index_list limit f call_limit 1 size start (those bidx inner) >>= λ told. given told.boxes ]) (given boxes)
      go [] e = e
      go (b ∷ cs) e =
          let (inner, framed, e1) = both_given (list_framed (boxes_in Fidx f b.body b.end)) _ e in
          let (told, list, e2) = both_given (index_list limit f call_limit 1 None start (those bidx inner)) _ e1 in
          let same : told.boxes ≡ boxes = given_same e2 in
          rw (framed, list_sized limit f call_limit 1 size start (those bidx inner) told list (rw same all)) e2

-- where each source ends, by more segments: what was known is as it was
abbrev pub KnownLater : (List (List ℕ) → Option ℕ) → (List (List ℕ) → Option ℕ) → Type 0
KnownLater size later = (us : List (List ℕ)) → (size us ≡ None) ⊎ (later us ≡ size us)

module _ (limit : ℕ) (f : List ℕ) (size later-size : List (List ℕ) → Option ℕ) (kept : KnownLater size later-size) where
  for_sized : (us : List (List ℕ)) (c : Container) (bs : List Box) (start : ℕ) (boxes : List SourceBox) → index_for limit f size us c bs start ≡ given boxes
      → all_of known (boxes_alone boxes) ≡ true
      → index_for limit f later-size us c bs start ≡ given boxes
  unfolding index_for
  for_sized us c bs start boxes e all =
      let (is, told, e1) = both_given (index_in limit f c bs (size us) start) _ e in
      let ended : all_of known is ≡ true = rw (belonging_alone us is) at (subst (λ (xs : List SourceBox). all_of known (boxes_alone xs) ≡ true) (sym (given_same e1)) all) in
      elim (kept us) [
        | inl unknown ↦ rw (in-sized limit f c bs (later-size us) start is (subst (λ (z : Option ℕ). index_in limit f c bs z start ≡ given is) unknown told) ended) e1
        | inr same ↦ rw (same, told) e1
      ]

  segments-sized : (ss : List Segment) (boxes : List SourceBox) → index_of_segments limit f size ss ≡ given boxes
      → all_of known (boxes_alone boxes) ≡ true
      → index_of_segments limit f later-size ss ≡ given boxes
  unfolding index_of_segments
  segments-sized [] boxes e all = e
  segments-sized (s ∷ ss) boxes e all =
      let (first, here, e1) = both_given (index_for limit f size s.urls Pseg s.inner s.source_offset) _ e in
      let (later, there, e2) = both_given (index_of_segments limit f size ss) _ e1 in
      let (one, others) = all_alone known first later (subst (λ (is : List SourceBox). all_of known (boxes_alone is) ≡ true) (sym (given_same e2)) all) in
      rw (for_sized s.urls Pseg s.inner s.source_offset first here one, segments-sized ss later there others) e2

-- ---- one more segment, which has no index

-- what is told of the index of a file, part by part
pub record Whole (limit : ℕ) (f : List ℕ) (h : Heading) (ss : List Segment) (size : List (List ℕ) → Option ℕ) (first later : List SourceBox) : Type 0 where
  pub in_pfil : index_for limit f size h.urls Pfil h.inner 0 ≡ given first
  pub in_segments : index_of_segments limit f size ss ≡ given later
  pub shallow : all_of (λ i. leb i.level level_limit) (boxes_alone (first ++ later)) ≡ true
  pub apart : not (has_index h.inner && some_of (λ s. has_index s.inner) ss) ≡ true
  pub ended : all_of known (boxes_alone (first ++ later)) ≡ true

module _ (limit : ℕ) (f : List ℕ) (h : Heading) where
  pub indexed_whole : (ss : List Segment) {boxes : List SourceBox} → indexed limit f h ss ≡ given boxes
      → (first : List SourceBox) × (later : List SourceBox) × Whole limit f h ss (size_for ss) first later × (first ++ later ≡ boxes)
  unfolding indexed index_of
  indexed_whole ss e =
      let (is, told, e1) = both_given (index_of limit f h ss) _ e in
      let (first, one, e2) = both_given (index_for limit f (size_for ss) h.urls Pfil h.inner 0) _ told in
      let (later, others, e3) = both_given (index_of_segments limit f (size_for ss) ss) _ e2 in
      let same : first ++ later ≡ is = given_same e3 in
      let (shallow, e4) = held 37 (all_of (λ i. leb i.level level_limit) (boxes_alone is)) _ e1 in
      let (apart, e5) = held 38 (not (has_index h.inner && some_of (λ s. has_index s.inner) ss)) _ e4 in
      let (ended, e6) = held 39 (all_of known (boxes_alone is)) _ e5 in
      (first, later, record { in_pfil = one; in_segments = others; shallow = rw same shallow; apart = apart; ended = rw same ended }, same ∙ given_same e6)

  pub whole_indexed : (ss : List Segment) {first later : List SourceBox} → Whole limit f h ss (size_for ss) first later → indexed limit f h ss ≡ given (first ++ later)
  unfolding indexed index_of
  whole_indexed ss t = rw (t.in_pfil, t.in_segments, t.shallow, t.apart, t.ended)

  -- a size that is known later changes nothing
  sized : (ss : List Segment) (size later-size : List (List ℕ) → Option ℕ) → KnownLater size later-size → {first later : List SourceBox} → Whole limit f h ss size first later
      → Whole limit f h ss later-size first later
  sized ss size later-size kept {first} {later} t =
      let (one, others) = all_alone known first later t.ended in
      record {
        in_pfil = for_sized limit f size later-size kept h.urls Pfil h.inner 0 first t.in_pfil one;
        in_segments = segments-sized limit f size later-size kept ss later t.in_segments others;
        shallow = t.shallow;
        apart = t.apart;
        ended = t.ended;
      }

  module _ (s : Segment) (lacks : those fidx s.inner ≡ []) where
    no_index_lem : (size : List (List ℕ) → Option ℕ) → index_for limit f size s.urls Pseg s.inner s.source_offset ≡ given []
    unfolding index_for belonging
    no_index_lem size = rw (index_none limit f s.inner lacks Pseg (size s.urls) s.source_offset (few_right Pseg fidx s.inner refl (rw lacks (omega arith))))

    segments_last : (size : List (List ℕ) → Option ℕ) (ss : List Segment) → index_of_segments limit f size (ss ++ (s ∷ [])) ≡ index_of_segments limit f size ss
    unfolding index_of_segments
    segments_last size [] = rw (no_index_lem size)
    segments_last size (t ∷ ss) = rw (segments_last size ss)

    still_apart : (ss : List Segment) → some_of (λ s. has_index s.inner) (ss ++ (s ∷ [])) ≡ some_of (λ s. has_index s.inner) ss
    unfolding some_of
    still_apart [] = rw (has_none limit f s.inner lacks)
    still_apart (t ∷ ss) = ap (λ (b : Bool). has_index t.inner || b) (still_apart ss)

    -- the index of an accepted file with a segment more that has none, of whatever source: one whose size an index
    -- needed is closed, and stays so
    pub indexed_more : (ss : List Segment) → Numbered ss → s.source ≡ source_beside ss s.urls → {boxes : List SourceBox} → indexed limit f h ss ≡ given boxes
        → indexed limit f h (ss ++ (s ∷ [])) ≡ given boxes
    indexed_more ss numbered next e =
        let (first, later, t, same) = indexed_whole ss e in
        let u = sized ss (size_for ss) (size_for (ss ++ (s ∷ []))) (size_later ss numbered s next) t in
        whole_indexed (ss ++ (s ∷ [])) {first = first} {later = later} (record {
          in_pfil = u.in_pfil;
          in_segments = segments_last _ ss ∙ u.in_segments;
          shallow = u.shallow;
          apart = rw (still_apart ss) u.apart;
          ended = u.ended;
        })
        ∙ ap given same

-- a file whose only segment has no index has no 38
pub no_38 : (limit : ℕ) (f : List ℕ) (h : Heading) (s : Segment) → those fidx s.inner ≡ [] → Only (λ n. n ≡ 38 → ⊥) (indexed limit f h (s ∷ []))
unfolding indexed some_of
no_38 limit f h s lacks =
    let P : ℕ → Type 0 = λ n. n ≡ 38 → ⊥ in
    only_then P (index_of limit f h (s ∷ [])) _ (index_only P (λ e. omega arith) limit f h (s ∷ []))
    (λ boxes.
    rw (has_none limit f s.inner lacks, and-false)
    (only_held P 37 (all_of (λ i. leb i.level level_limit) (boxes_alone boxes)) _ (λ e. omega arith)
    (only_held P 39 (all_of known (boxes_alone boxes)) _ (λ e. omega arith) (only_given P boxes))))

-- of two such segments only where the sources end is told apart
pub indexed_alike : (limit : ℕ) (f : List ℕ) (h : Heading) (ss : List Segment) (s t : Segment) → those fidx s.inner ≡ [] → those fidx t.inner ≡ []
    → size_for (ss ++ (s ∷ [])) ≡ size_for (ss ++ (t ∷ []))
    → indexed limit f h (ss ++ (s ∷ [])) ≡ indexed limit f h (ss ++ (t ∷ []))
unfolding indexed index_of
indexed_alike limit f h ss s t lacks lacks' size =
    rw (size, segments_last limit f h s lacks _ ss, segments_last limit f h t lacks' _ ss, still_apart limit f h s lacks ss, still_apart limit f h t lacks' ss)

-- ---- more bytes behind the file

module _ (f g : List ℕ) (limit : ℕ) (h k : Heading) (same : k.inner ≡ h.inner) (urls : k.urls ≡ h.urls) (s : Segment) (lacks : those fidx s.inner ≡ []) where
  module _ (size : List (List ℕ) → Option ℕ) where
    for_kept : (us : List (List ℕ)) (c : Container) (bs : List Box) (start : ℕ) → all_of (lies (length f)) bs ≡ true
        → index_for limit (f ++ g) size us c bs start ≡ index_for limit f size us c bs start
    unfolding index_for
    for_kept us c bs start lie = rw (index_in_kept f g limit c bs (size us) start lie)

    segments_kept : (ss : List Segment) → all_of (λ s. all_of (lies (length f)) s.inner) ss ≡ true
        → index_of_segments limit (f ++ g) size (ss ++ (s ∷ [])) ≡ index_of_segments limit f size (ss ++ (s ∷ []))
    unfolding index_of_segments all_of
    segments_kept [] all = rw (no_index_lem limit (f ++ g) k s lacks size, no_index_lem limit f h s lacks size)
    segments_kept (t ∷ ss) all =
        let (here, there) = both (all_of (lies (length f)) t.inner) (all_of (λ s. all_of (lies (length f)) s.inner) ss) all in
        rw (for_kept t.urls Pseg t.inner t.source_offset here, segments_kept ss there)

  -- the index of a file with a segment more that has none
  pub indexed_kept : (ss : List Segment) → all_of (lies (length f)) h.inner ≡ true → all_of (λ s. all_of (lies (length f)) s.inner) ss ≡ true
      → indexed limit (f ++ g) k (ss ++ (s ∷ [])) ≡ indexed limit f h (ss ++ (s ∷ []))
  unfolding indexed index_of
  indexed_kept ss inner all =
      let size = size_for (ss ++ (s ∷ [])) in
      rw (same, urls, for_kept size h.urls Pfil h.inner 0 inner, segments_kept size ss all)
