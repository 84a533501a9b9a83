-- A file read under a source limit and under a higher one: the same answer, or a refusal for the limit under the lower.
use Prim.Native.Nat.{ℕ, zero, suc, ◌+◌, ◌≤◌}
use mathlib.Core.Bool.{Bool, true, false}
use mathlib.Core.List.{List, [], ◌∷◌, ◌++◌}
use mathlib.Core.Logic.{◌⊎◌, inl, inr, ⊎_elim}
use mathlib.Core.Path.{◌≡◌, refl, sym, ap, ◌∙◌}
use native.Mathlib.Omega.{arith}
use borrow.Author.Tests.{leb-true, le-leb}
use lib.Dec.{T, leb, ltb}
use lib.ListN.{length}
use Rattle.boxes.specs.Answer.{Answer, refused, given, ◌>>=◌, hold}
use Rattle.boxes.specs.Framing.{Box, boxes_in}
use Rattle.boxes.specs.Kinds.{pseg, pshd, ploc, right, those, first_of}
use Rattle.boxes.specs.declared.kinds.Container.TheVariants.{File, Pseg}
use Rattle.boxes.proofs.AnswerLaws.{not_both}
use Rattle.partial.specs.Limits.{segment_limit, chunk_limit}
use Rattle.partial.specs.Segments.{Segment, chunks_of}
use Rattle.partial.specs.Heading.{Heading, heading, surl_right, urls_in, Part}
use Rattle.partial.specs.Sources.{urls_for}
use Rattle.partial.specs.Entries.{Ploc, Cursor, ploc_head, entry, chunk_step, chunks_from}
use Rattle.partial.specs.Reading.{pshd_fields, pshd_right, segment, segments_from, segments, reading, earlier_segments}
use Rattle.partial.specs.Index.{SourceBox, index_of, indexed}
use Rattle.partial.specs.Tables.{tabled, listed, index_tabled, served_part, asked, text_of}
use Rattle.partial.specs.Texts.{source_text_of, texts_tabled}
use Rattle.partial.specs.Map.{refused_line, text_for}
use Rattle.partial.specs.ReadingRaised.{Kept, judges_limit, RaisedReading}
use Rattle.partial.proofs.Meaning.SequenceLaws.{which}
use Rattle.partial.proofs.Reading.PrintedLaws.{printed}
use Rattle.partial.proofs.Reading.IndexGivenLaws.{index_only, index_raised}
use Rattle.partial.proofs.Reading.ReadingLaws.{later_stages}

-- the same, or the first was refused for the limit
abbrev pub Same : {A : Type 0} → Answer A → Answer A → Type 0
Same low high = (high ≡ low) ⊎ ((n : ℕ) × T (judges_limit n) × (low ≡ refused n))

-- so what was accepted is accepted with the same
pub kept : {A : Type 0} (low high : Answer A) → Same low high → Kept low high
kept low high same = record { accepted = λ a e. ⊎_elim (λ s. s ∙ e) (λ was. absurd (not_both (sym was.2 ∙ e))) same; else_over = same }

-- what follows the same is the same, where that is so of each value that was given
pub same_then : {A B : Type 0} (x y : Answer A) (f g : A → Answer B) → Same x y → ((a : A) → Same (f a) (g a)) → Same (x >>= f) (y >>= g)
same_then (refused n) y f g (inl e) rest = inl (rw e)
same_then (given a) y f g (inl e) rest = rw e (rest a)
same_then x y f g (inr (n, judges, e)) rest = inr (n, judges, rw e)

pub same_after : {A B : Type 0} (x : Answer A) (f g : A → Answer B) → ((a : A) → Same (f a) (g a)) → Same (x >>= f) (x >>= g)
same_after x f g rest = same_then x x f g (inl refl) rest

same_either : {A : Type 0} (t : Bool) {x y : Answer A} (z : Answer A) → Same x y → Same {A = A} (elim t [ true ↦ x | false ↦ z ]) (elim t [ true ↦ y | false ↦ z ])
same_either true z same = same
same_either false z same = inl refl

module _ (low high : ℕ) (raised : low ≤ high) where
  -- the test of 23: what passes it under the lower limit passes it under the higher
  pub same_held : {A : Type 0} (n : ℕ) (f g : Unit {0} → Answer A) → Same (f tt) (g tt) → Same (hold 23 (leb n low) >>= f) (hold 23 (leb n high) >>= g)
  same_held n f g rest =
      elim (which (leb n low)) [
        | inl passes ↦ rw (passes, le-leb n high (omega (arith, leb-true n low passes))) rest
        | inr fails ↦ inr (23, tt, rw fails)
      ]

  module _ (f : List ℕ) (h : Heading) where
    step_same : (from : ℕ) (l : Ploc) (c : Cursor) → Same (chunk_step low f h from l c) (chunk_step high f h from l c)
    unfolding chunk_step
    step_same from l c = same_after (entry f l c.at) _ _ (λ e. same_held (c.start + e.size) _ _ (inl refl))

    chunks_same : (from : ℕ) (l : Ploc) (n : ℕ) (c : Cursor) → Same (chunks_from low f h from l n c) (chunks_from high f h from l n c)
    unfolding chunks_from
    chunks_same from l zero c = inl refl
    chunks_same from l (suc n) c =
        same_then (chunk_step low f h from l c) (chunk_step high f h from l c) _ _ (step_same from l c)
        (λ met. same_then (chunks_from low f h from l n met.1) (chunks_from high f h from l n met.1) _ _ (chunks_same from l n met.1) (λ rest. inl refl))

    segment_same : (before : List Segment) (b : Box) → Same (segment low f h before b) (segment high f h before b)
    unfolding segment
    segment_same before b =
        same_after (boxes_in Pseg f b.body b.end) _ _
        (λ inner.
        let offset = (pshd_fields f (first_of pshd inner)).source_offset in
        same_after (hold 14 (pshd_right f inner)) _ _
        (λ _.
        same_after (hold 15 (right Pseg ploc inner)) _ _
        (λ _.
        same_after (hold 16 (surl_right f inner)) _ _
        (λ _.
        same_after (hold 41 (ltb 0 (length (urls_for (urls_in f inner) h.urls)))) _ _
        (λ _.
        same_after (ploc_head f (first_of ploc inner)) _ _
        (λ l.
        same_after (hold 22 (leb (length (chunks_of before) + l.count) chunk_limit)) _ _
        (λ _.
        let first : Cursor = record { at = l.first; start = offset } in
        same_held offset _ _
        (same_then (chunks_from low f h b.at l l.count first) (chunks_from high f h b.at l l.count first) _ _
        (chunks_same b.at l l.count first)
        (λ chunks. inl refl)))))))))

    segments_from_same : (before : List Segment) (bs : List Box) → Same (segments_from low f h before bs) (segments_from high f h before bs)
    unfolding segments_from
    segments_from_same before [] = inl refl
    segments_from_same before (b ∷ bs) =
        same_then (segment low f h before b) (segment high f h before b) _ _ (segment_same before b)
        (λ s. segments_from_same (before ++ (s ∷ [])) bs)

    segments_same : Same (segments low f h) (segments high f h)
    unfolding segments
    segments_same =
        let psegs = those pseg h.boxes in
        same_after (hold 13 (leb (length psegs) segment_limit)) _ _
        (λ _. same_then (segments_from low f h [] psegs) (segments_from high f h [] psegs) _ _ (segments_from_same [] psegs) (λ ss. inl refl))

    -- an index that is told stays so, and a refusal while it is told is 36
    index_same : (ss : List Segment) → Same (index_of low f h ss) (index_of high f h ss)
    index_same ss = go (index_of low f h ss) refl
      where
        go : (x : Answer (List SourceBox)) → index_of low f h ss ≡ x → Same (index_of low f h ss) (index_of high f h ss)
        go (given is) e = inl (index_raised low high raised f h ss is e ∙ sym e)
        go (refused n) e = inr (n, index_only (λ n. T (judges_limit n)) tt low f h ss n e, e)

    pub indexed_same : (ss : List Segment) → Same (indexed low f h ss) (indexed high f h ss)
    unfolding indexed
    indexed_same ss = same_then (index_of low f h ss) (index_of high f h ss) _ _ (index_same ss) (λ is. inl refl)

    later_same : Same (later_stages low f h) (later_stages high f h)
    later_same =
        same_then (segments low f h) (segments high f h) _ _ segments_same
        (λ ss. same_then (indexed low f h ss) (indexed high f h ss) _ _ (indexed_same ss) (λ _. inl refl))

  reading_same : (f : List ℕ) → Same (reading low f) (reading high f)
  unfolding reading
  reading_same f = same_after (heading f) _ _ (λ h. same_after (hold 12 (right File pseg h.boxes)) _ _ (λ _. later_same f h))

  pub earlier_same : (f : List ℕ) → Same (earlier_segments low f) (earlier_segments high f)
  unfolding earlier_segments
  earlier_same f = same_after (heading f) _ _ (λ h. same_either (right File pseg h.boxes) (given []) (reading_same f))

  tabled_same : (f a b : List ℕ) → Same (tabled low f a b) (tabled high f a b)
  unfolding tabled
  tabled_same f a b = same_then (reading low f) (reading high f) _ _ (reading_same f) (λ ss. inl refl)

  listed_same : (f a b h m : List ℕ) (source : ℕ) → Same (listed low f source a b h m) (listed high f source a b h m)
  unfolding listed
  listed_same f a b h m source = same_then (tabled low f a b) (tabled high f a b) _ _ (tabled_same f a b) (λ ss. inl refl)

  index-tabled_same : (f table : List ℕ) → Same (index_tabled low f table) (index_tabled high f table)
  unfolding index_tabled
  index-tabled_same f table =
      same_then (reading low f) (reading high f) _ _ (reading_same f)
      (λ ss.
      same_after (heading f) _ _
      (λ h. same_then (indexed low f h ss) (indexed high f h ss) _ _ (indexed_same f h ss) (λ is. inl refl)))

  asked_same : (f a b : List ℕ) (source p : ℕ) → Same (asked (tabled low f a b) source p) (asked (tabled high f a b) source p)
  unfolding asked
  asked_same f a b source p = same_then (tabled low f a b) (tabled high f a b) _ _ (tabled_same f a b) (λ ss. inl refl)

  -- of a file that was accepted
  texts_same : (text : List ℕ → Box → Part) (f : List ℕ) (ss : List Segment) → reading low f ≡ given ss → text_of text high f ≡ text_of text low f
  unfolding text_of
  texts_same text f ss e = rw (text_of, e, (kept _ _ (reading_same f)).accepted ss e)

  source_text_same : (text : List ℕ → Box → Part) (f : List ℕ) (source : ℕ) → Same (source_text_of text low f source) (source_text_of text high f source)
  unfolding source_text_of
  source_text_same text f source = same_then (reading low f) (reading high f) _ _ (reading_same f) (λ ss. inl refl)

  texts_tabled_same : (f t u : List ℕ) (k : ℕ) → Same (texts_tabled low f k t u) (texts_tabled high f k t u)
  unfolding texts_tabled
  texts_tabled_same f t u k = same_then (reading low f) (reading high f) _ _ (reading_same f) (λ ss. inl refl)

  -- what is printed of an accepted file: an over-long input has one text, and any other its text by what is read
  module _ (of : List Segment → List ℕ) (most : ℕ) (input : List ℕ) where
    text_over : leb (length input) most ≡ false → text_for of high most input ≡ text_for of low most input
    unfolding text_for
    text_over over = rw (text_for, over)

    text_by : reading high input ≡ reading low input → text_for of high most input ≡ text_for of low most input
    unfolding text_for
    text_by e = elim (which (leb (length input) most)) [ inl takes ↦ rw (text_for, takes, e) | inr over ↦ text_over over ]

    maps_accepted : (ss : List Segment) → reading low input ≡ given ss → text_for of high most input ≡ text_for of low most input
    maps_accepted ss e = text_by ((kept _ _ (reading_same input)).accepted ss e ∙ sym e)

    abbrev TextSame : Type 0
    TextSame = (text_for of high most input ≡ text_for of low most input) ⊎ ((n : ℕ) × T (judges_limit n) × (text_for of low most input ≡ refused_line n))

    text_was : (n : ℕ) × T (judges_limit n) × (reading low input ≡ refused n) → TextSame
    text_was (n, judges, was) =
        elim (which (leb (length input) most)) [
          | inl takes ↦ inr (n, judges, (printed of low most input).refusal n (leb-true (length input) most takes) was)
          | inr over ↦ inl (text_over over)
        ]

    maps_same : TextSame
    maps_same = ⊎_elim (λ same. inl (text_by same)) text_was (reading_same input)

  pub raised_reading : RaisedReading low high
  raised_reading =
      record {
        reads = λ f. kept _ _ (reading_same f);
        tables = λ f a b. kept _ _ (tabled_same f a b);
        lists = λ f a b h m source. kept _ _ (listed_same f a b h m source);
        indexes = λ f table. kept _ _ (index-tabled_same f table);
        asks = λ f a b source p. kept _ _ (asked_same f a b source p);
        serves = λ f a b source p ss e. ap (λ r. served_part r source p) ((kept _ _ (tabled_same f a b)).accepted ss e ∙ sym e);
        texts = texts_same;
        source_texts = λ which f source. kept _ _ (source_text_same which f source);
        segment_texts = λ f t u k. kept _ _ (texts_tabled_same f t u k);
        maps = maps_accepted;
        map_else_over = maps_same;
      }
