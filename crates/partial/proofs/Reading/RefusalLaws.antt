-- Demand 1, of reading: every refusal has a number that the paper has for the call, and after it all lent memory holds
-- what it held.
use Prim.Native.Nat.{ℕ, zero, suc, ◌+◌, ◌/◌, ◌%◌, ◌<◌}
use mathlib.Core.Bool.{Bool, true, false, ◌&&◌, ◌||◌, true≢false}
use mathlib.Core.List.{List, [], ◌∷◌, ◌++◌}
use mathlib.Core.Logic.{◌⊎◌, inl, inr, ⊎_elim}
use Rattle.std.specs.Prelude.{Option, None, Some}
use mathlib.Core.Path.{◌≡◌, refl, sym, ap, subst, ◌∙◌}
use native.Mathlib.Omega.{arith}
use native.Mathlib.Decide.{dec_le}
use borrow.Author.Tests.{lt-ltb}
use lib.Dec.{T, leb, ltb, eqb}
use lib.ListN.{length, get_or, drop_of_length-le}
use Rattle.boxes.specs.Answer.{Answer, refused, given, ◌>>=◌, hold}
use Rattle.numerals.specs.Numbers.{number}
use Rattle.boxes.specs.Framing.{Box, boxes_in}
use Rattle.boxes.specs.Kinds.{pseg, pshd, ploc, right, those, box_at, first_of}
use Rattle.boxes.specs.declared.kinds.Container.{Container}
use Rattle.boxes.specs.declared.kinds.Container.TheVariants.{File, Pfil, Pseg}
use Rattle.boxes.proofs.AnswerLaws.{not_both, both_given, Only, refused_same, only_then, only_held, only_given, only_refused, only_either}
use Rattle.boxes.proofs.ContainerLaws.{boxes_numbers}
use Rattle.boxes.proofs.KindLaws.{some_right}
use Rattle.partial.specs.Limits.{file_limit, segment_limit, chunk_limit, layer_limit}
use Rattle.partial.specs.Sequences.{some_of, within, all_of, largest}
use Rattle.partial.specs.Segments.{Segment, present, chunks_of, has_place}
use Rattle.partial.specs.Heading.{Heading, heading, ftyp_right, brand_right, pfil_right, pfhd_right, surl_right, urls_in, file_boxes, judged, Part, bytes_in}
use Rattle.partial.specs.Entries.{Ploc, ploc_head, state_of, Entry, entry, may_lie, offset_place, place_of, chunks_from, chunk_step}
use Rattle.partial.specs.Entries.{Cursor}
use Rattle.partial.specs.Sources.{urls_for, source_count, agreed}
use Rattle.partial.specs.Reading.{pshd_fields, pshd_right, segment, segments_from, segments, reading, earlier_segments}
use Rattle.partial.specs.Index.{indexed, index_rows}
use Rattle.partial.specs.Memory.{fits, after, text_written}
use Rattle.partial.specs.Tables.{segment_rows, chunk_rows, had_rows, missing_rows, tabled, listed, index_tabled, index_table, asked, text_of, nowhere}
use Rattle.partial.specs.Texts.{source_text_of, segment_surls, texts_for, lengths_for, texts_tabled}
use Rattle.partial.specs.ReadingDemands.{up_to24, before_agreement, from_agreement, of_stages, NeverRead, Demand1OfReading, Takes}
use Rattle.partial.proofs.Meaning.SequenceLaws.{inside, which}
use Rattle.partial.proofs.Reading.ReadingLaws.{later_stages, reading_headless, reading_none, reading_some, reading-segments}
use Rattle.partial.proofs.Reading.IndexGivenLaws.{indexed_only}

-- stages 1 to 11 and 13 to 24, by a kind that has their numbers
module _ (P : ℕ → Type 0) (known : (n : ℕ) → T (up_to24 n) → P n) where
  boxes_only : (c : Container) (s : List ℕ) (start end : ℕ) → Only P (boxes_in c s start end)
  boxes_only c s start end n e =
      let (low, high) = boxes_numbers c s start end n e in
      known n (rw (inside 1 11 n (omega arith) (omega arith)) tt)

  head_only : (f : List ℕ) → Only P (heading f)
  unfolding heading file_boxes judged within
  head_only f =
      only_then P (file_boxes f) _
      (only_held P 1 (leb (length f) file_limit) _ (known 1 tt) (boxes_only File f 0 (length f)))
      (λ boxes.
      only_held P 7 (ftyp_right boxes) _ (known 7 tt)
      (only_held P 8 (brand_right f boxes) _ (known 8 tt)
      (only_held P 9 (pfil_right boxes) _ (known 9 tt)
      (only_then P (boxes_in Pfil f (box_at 1 boxes).body (box_at 1 boxes).end) _ (boxes_only Pfil f (box_at 1 boxes).body (box_at 1 boxes).end)
      (λ inner.
      only_held P 10 (pfhd_right f inner) _ (known 10 tt)
      (only_held P 11 (surl_right f inner) _ (known 11 tt) (only_given P _)))))))

  ploc_only : (f : List ℕ) (b : Box) → Only P (ploc_head f b)
  unfolding ploc_head within
  ploc_only f b =
      only_held P 17 (leb (b.body + 9) b.end && eqb (number f b.body 4) 0) _ (known 17 tt)
      (only_held P 18 (leb (number f (b.body + 4) 1 / 16) 8 && leb (number f (b.body + 4) 1 % 16) 8) _ (known 18 tt)
      (only_held P 19 (eqb (number f (b.body + 5) 2) 0) _ (known 19 tt) (only_given P _)))

  entry_only : (f : List ℕ) (l : Ploc) (at : ℕ) → Only P (entry f l at)
  unfolding entry state_of within
  entry_only f l at =
      only_held P 17 (ltb at l.end) _ (known 17 tt)
      (only_then P (state_of (get_or f at 0)) _
      (only_held P 20 (eqb (get_or f at 0 % 64) 0) _ (known 20 tt) (only_given P _))
      (λ s.
      let width : ℕ = elim (present s) [ true ↦ l.offset_size | false ↦ 0 ] in
      only_held P 17 (leb (at + 1 + l.length_size + width) l.end) _ (known 17 tt) (only_given P _)))

  lying_only : (h : Heading) (e : Entry) (to : Option ℕ)
      → Only P {A = ℕ} (elim to [ None ↦ refused 24 | Some place ↦ hold 24 (may_lie h e.state place e.size) >>= λ _. given place ])
  unfolding within
  lying_only h e None = only_refused P 24 (known 24 tt)
  lying_only h e (Some place) = only_held P 24 (may_lie h e.state place e.size) _ (known 24 tt) (only_given P place)

  place_only : (h : Heading) (from : ℕ) (e : Entry) → Only P (place_of h from e)
  unfolding place_of
  place_only h from e = only_either P (has_place e.state e.size) (lying_only h e (offset_place from e.offset)) (only_given P 0)

  step_only : (limit : ℕ) (f : List ℕ) (h : Heading) (from : ℕ) (l : Ploc) (c : Cursor) → Only P (chunk_step limit f h from l c)
  unfolding chunk_step within
  step_only limit f h from l c =
      only_then P (entry f l c.at) _ (entry_only f l c.at)
      (λ e.
      only_held P 23 (leb (c.start + e.size) limit) _ (known 23 tt)
      (only_then P (place_of h from e) _ (place_only h from e) (λ place. only_given P _)))

  chunks_only : (limit : ℕ) (f : List ℕ) (h : Heading) (from : ℕ) (l : Ploc) (n : ℕ) (c : Cursor) → Only P (chunks_from limit f h from l n c)
  unfolding chunks_from within
  chunks_only limit f h from l zero c = only_held P 17 (eqb c.at l.end) _ (known 17 tt) (only_given P _)
  chunks_only limit f h from l (suc n) c =
      only_then P (chunk_step limit f h from l c) _ (step_only limit f h from l c)
      (λ met. only_then P (chunks_from limit f h from l n met.1) _ (chunks_only limit f h from l n met.1) (λ rest. only_given P _))

  -- a segment, by what is known of 41
  abbrev Unlisted : List ℕ → Heading → Type 0
  Unlisted f h = (inner : List Box) → Only P (hold 41 (ltb 0 (length (urls_for (urls_in f inner) h.urls))))

  segment_only : (limit : ℕ) (f : List ℕ) (h : Heading) → Unlisted f h → (before : List Segment) (b : Box) → Only P (segment limit f h before b)
  unfolding segment within
  segment_only limit f h unlisted before b =
      only_then P (boxes_in Pseg f b.body b.end) _ (boxes_only Pseg f b.body b.end)
      (λ inner.
      let offset = (pshd_fields f (first_of pshd inner)).source_offset in
      only_held P 14 (pshd_right f inner) _ (known 14 tt)
      (only_held P 15 (right Pseg ploc inner) _ (known 15 tt)
      (only_held P 16 (surl_right f inner) _ (known 16 tt)
      (only_then P (hold 41 (ltb 0 (length (urls_for (urls_in f inner) h.urls)))) _ (unlisted inner)
      (λ _. only_then P (ploc_head f (first_of ploc inner)) _ (ploc_only f (first_of ploc inner))
      (λ l.
      only_held P 22 (leb (length (chunks_of before) + l.count) chunk_limit) _ (known 22 tt)
      (only_held P 23 (leb offset limit) _ (known 23 tt)
      (only_then P (chunks_from limit f h b.at l l.count (record { at = l.first; start = offset })) _
      (chunks_only limit f h b.at l l.count (record { at = l.first; start = offset }))
      (λ chunks. only_given P _)))))))))

  segments_known : (limit : ℕ) (f : List ℕ) (h : Heading) → Unlisted f h → (before : List Segment) (bs : List Box) → Only P (segments_from limit f h before bs)
  unfolding segments_from
  segments_known limit f h unlisted before [] = only_given P before
  segments_known limit f h unlisted before (b ∷ bs) =
      only_then P (segment limit f h before b) _ (segment_only limit f h unlisted before b)
      (λ s. segments_known limit f h unlisted (before ++ (s ∷ [])) bs)

  all_known : (limit : ℕ) (f : List ℕ) (h : Heading) → Unlisted f h → P 25 → P 40 → Only P (segments limit f h)
  unfolding segments within
  all_known limit f h unlisted apart ninth =
      only_held P 13 (leb (length (those pseg h.boxes)) segment_limit) _ (known 13 tt)
      (only_then P (segments_from limit f h [] (those pseg h.boxes)) _ (segments_known limit f h unlisted [] (those pseg h.boxes))
      (λ ss. only_held P 25 (agreed ss) _ apart (only_held P 40 (leb (source_count ss) layer_limit) _ ninth (only_given P ss))))

-- a test that passes beside another
pub beside : (b c : Bool) → T b → T (b || c)
beside true c t = tt
beside false c t = elim t [ ]

-- or is the other
behind : (b c : Bool) → T c → T (b || c)
behind true c t = tt
behind false c t = t

-- the same with 41, then 25, 40 and 36 to 39
module _ (P : ℕ → Type 0) (known : (n : ℕ) → T (before_agreement n) → P n) where
  narrow : (n : ℕ) → T (up_to24 n) → P n
  narrow n t = known n (beside (up_to24 n) (eqb n 41) t)

  pub heading_only : (f : List ℕ) → Only P (heading f)
  heading_only = head_only P narrow

  unlisted_known : (f : List ℕ) (h : Heading) → Unlisted P narrow f h
  unfolding within
  unlisted_known f h inner = go (ltb 0 (length (urls_for (urls_in f inner) h.urls)))
    where
      go : (t : Bool) → Only P (hold 41 t)
      go true = only_given P tt
      go false = only_refused P 41 (known 41 tt)

  pub segments_from_only : (limit : ℕ) (f : List ℕ) (h : Heading) (before : List Segment) (bs : List Box) → Only P (segments_from limit f h before bs)
  segments_from_only limit f h = segments_known P narrow limit f h (unlisted_known f h)

  pub segments_only : P 25 → P 40 → (limit : ℕ) (f : List ℕ) (h : Heading) → Only P (segments limit f h)
  segments_only apart ninth limit f h = all_known P narrow limit f h (unlisted_known f h) apart ninth

  -- and those of the index
  module _ (rest : (n : ℕ) → T (from_agreement n) → P n) where
    pub told_only : (limit : ℕ) (f : List ℕ) (h : Heading) (ss : List Segment) → Only P (indexed limit f h ss)
    unfolding within
    told_only limit f h ss = indexed_only P (rest 36 tt) limit f (rest 37 tt) (rest 38 tt) (rest 39 tt) h ss

    later_only : (limit : ℕ) (f : List ℕ) (h : Heading) → Only P (later_stages limit f h)
    later_only limit f h =
        only_then P (segments limit f h) _ (segments_only (rest 25 tt) (rest 40 tt) limit f h)
        (λ ss. only_then P (indexed limit f h ss) _ (told_only limit f h ss) (λ _. only_given P ss))

abbrev OfFile : ℕ → Type 0
OfFile n = T (of_stages n)

pub known_file : (n : ℕ) → T (before_agreement n) → OfFile n
known_file n = beside (before_agreement n) (from_agreement n)

pub rest_file : (n : ℕ) → T (from_agreement n) → OfFile n
rest_file n = behind (before_agreement n) (from_agreement n)

-- append takes an acceptable file, or one whose only refusal is 12
module _ (limit : ℕ) (f : List ℕ) where
  pub no_segments : (h : Heading) → right File pseg h.boxes ≡ false → segments limit f h ≡ given []
  unfolding segments segments_from agreed all_of source_count largest
  no_segments h lacks =
      elim (dec_le 1 (length (those pseg h.boxes))) [
        | yes there ↦ absurd (true≢false (sym (some_right File pseg h.boxes refl there) ∙ lacks))
        | no few ↦
            let nothing : those pseg h.boxes ≡ [] = drop_of_length-le (those pseg h.boxes) {i = 0} (omega arith) in
            rw nothing
      ]

  module _ {h : Heading} (head : heading f ≡ given h) where
    earlier_by : {t : Bool} → right File pseg h.boxes ≡ t → earlier_segments limit f ≡ elim t [ true ↦ reading limit f | false ↦ given [] ]
    unfolding earlier_segments
    earlier_by e = rw head (ap (λ (t : Bool). elim t [ true ↦ reading limit f | false ↦ given [] ]) e)

    pub earlier_some : right File pseg h.boxes ≡ true → earlier_segments limit f ≡ reading limit f
    earlier_some there = earlier_by there

    pub earlier_none : right File pseg h.boxes ≡ false → earlier_segments limit f ≡ given []
    earlier_none lacks = earlier_by lacks

    -- the segments of a file that append takes are those of its heading
    pub earlier_read : {ss : List Segment} → earlier_segments limit f ≡ given ss → segments limit f h ≡ given ss
    earlier_read e =
        elim (which (right File pseg h.boxes)) [
          | inl there ↦ reading-segments limit f head (sym (earlier_some there) ∙ e)
          | inr lacks ↦ no_segments h lacks ∙ sym (earlier_none lacks) ∙ e
        ]

  pub earlier_headless : {n : ℕ} → heading f ≡ refused n → earlier_segments limit f ≡ refused n
  unfolding earlier_segments
  earlier_headless e = rw (earlier_segments, e)

  -- reading differs from what append goes by only in 12
  pub twelve_apart : (reading limit f ≡ earlier_segments limit f) ⊎ ((reading limit f ≡ refused 12) × (earlier_segments limit f ≡ given []))
  twelve_apart = go (heading f) refl
    where
      go : (x : Answer Heading) → heading f ≡ x
          → (reading limit f ≡ earlier_segments limit f) ⊎ ((reading limit f ≡ refused 12) × (earlier_segments limit f ≡ given []))
      go (refused n) e = inl (reading_headless limit f e ∙ sym (earlier_headless e))
      go (given h) e =
          elim (which (right File pseg h.boxes)) [
            | inl there ↦ inl (sym (earlier_some e there))
            | inr lacks ↦ inr (reading_none limit f e lacks, earlier_none e lacks)
          ]

  -- such a file has a heading
  pub earlier_headed : {ss : List Segment} → earlier_segments limit f ≡ given ss → (h : Heading) × (heading f ≡ given h)
  unfolding earlier_segments
  earlier_headed e =
      let (h, head, _) = both_given (heading f) _ e in
      (h, head)

  module _ (P : ℕ → Type 0) (known : (n : ℕ) → T (before_agreement n) → P n) (rest : (n : ℕ) → T (from_agreement n) → P n) where
    pub earlier_only : Only P (earlier_segments limit f)
    earlier_only n e = go (heading f) refl
      where
        go : (x : Answer Heading) → heading f ≡ x → P n
        go (refused m) head = heading_only P known f n (head ∙ ap refused (refused_same (sym (earlier_headless head) ∙ e)))
        go (given h) head =
            elim (which (right File pseg h.boxes)) [
              | inl there ↦ later_only P known rest limit f h n (sym (earlier_some head there ∙ reading_some limit f head there) ∙ e)
              | inr lacks ↦ absurd (not_both (sym e ∙ earlier_none head lacks))
            ]

  pub takes : Takes limit f
  unfolding within
  takes =
      record {
        acceptable = λ ss e. ⊎_elim (λ same. sym same ∙ e) (λ t. absurd (not_both (sym t.0 ∙ e))) twelve_apart;
        only_twelve = λ e. ⊎_elim (λ same. absurd (earlier_only OfFile known_file rest_file 12 (sym same ∙ e))) (λ t. t.1) twelve_apart;
        its_own = λ k e other. ⊎_elim (λ same. sym same ∙ e) (λ t. absurd (other (refused_same (sym e ∙ t.0)))) twelve_apart;
      }

-- the numbers of each call
module _ (limit : ℕ) where
  abbrev OfReading : ℕ → Type 0
  OfReading n = T (of_stages n || some_of (eqb n) (12 ∷ 26 ∷ []))

  known_read : (n : ℕ) → T (before_agreement n) → OfReading n
  known_read n before = beside (of_stages n) (some_of (eqb n) (12 ∷ 26 ∷ [])) (known_file n before)

  rest_read : (n : ℕ) → T (from_agreement n) → OfReading n
  rest_read n other = beside (of_stages n) (some_of (eqb n) (12 ∷ 26 ∷ [])) (rest_file n other)

  pub reading_only : (f : List ℕ) → Only OfReading (reading limit f)
  unfolding reading within some_of
  reading_only f =
      only_then OfReading (heading f) _ (heading_only OfReading known_read f)
      (λ h. only_held OfReading 12 (right File pseg h.boxes) _ tt (later_only OfReading known_read rest_read limit f h))

  tabled_only : (f a b : List ℕ) → Only OfReading (tabled limit f a b)
  unfolding tabled within some_of
  tabled_only f a b =
      only_then OfReading (reading limit f) _ (reading_only f)
      (λ ss. only_held OfReading 26 (fits (segment_rows ss) a && fits (chunk_rows ss) b) _ tt (only_given OfReading ss))

  listed_only : (f a b h m : List ℕ) (source : ℕ) → Only OfReading (listed limit f source a b h m)
  unfolding listed within some_of
  listed_only f a b h m source =
      only_then OfReading (tabled limit f a b) _ (tabled_only f a b)
      (λ ss. only_held OfReading 26 (fits (had_rows source ss) h && fits (missing_rows source ss) m) _ tt (only_given OfReading ss))

  index-tabled_only : (f t : List ℕ) → Only OfReading (index_tabled limit f t)
  unfolding index_tabled within some_of
  index-tabled_only f t =
      only_then OfReading (reading limit f) _ (reading_only f)
      (λ ss.
      only_then OfReading (heading f) _ (heading_only OfReading known_read f)
      (λ h.
      only_then OfReading (indexed limit f h ss) _ (told_only OfReading known_read rest_read limit f h ss)
      (λ is. only_held OfReading 26 (fits (index_rows ss is) t) _ tt (only_given OfReading (ss, is)))))

  -- a call that is lent no table has no 26
  abbrev OfTexts : ℕ → Type 0
  OfTexts n = T (of_stages n || eqb n 12)

  known_text : (n : ℕ) → T (before_agreement n) → OfTexts n
  known_text n before = beside (of_stages n) (eqb n 12) (known_file n before)

  rest_text : (n : ℕ) → T (from_agreement n) → OfTexts n
  rest_text n other = beside (of_stages n) (eqb n 12) (rest_file n other)

  source_text_only : (which : List ℕ → Box → Part) (f : List ℕ) (source : ℕ) → Only OfTexts (source_text_of which limit f source)
  unfolding source_text_of reading within
  source_text_only which f source =
      only_then OfTexts (reading limit f) _
      (only_then OfTexts (heading f) _ (heading_only OfTexts known_text f)
      (λ h. only_held OfTexts 12 (right File pseg h.boxes) _ tt (later_only OfTexts known_text rest_text limit f h)))
      (λ ss. only_then OfTexts (heading f) _ (heading_only OfTexts known_text f) (λ h. only_given OfTexts _))

  texts_tabled_only : (f texts lengths : List ℕ) (k : ℕ) → Only OfReading (texts_tabled limit f k texts lengths)
  unfolding texts_tabled within some_of
  texts_tabled_only f texts lengths k =
      only_then OfReading (reading limit f) _ (reading_only f)
      (λ ss.
      let told = segment_surls f ss k in
      only_held OfReading 26 (fits (texts_for told) texts && fits (lengths_for told) lengths) _ tt (only_given OfReading told))

text_only : (text buffer : List ℕ) → Only (λ n. n ≡ 33) (text_written text buffer)
unfolding text_written
text_only text buffer = only_held (λ n. n ≡ 33) 33 (fits text buffer) _ refl (only_given (λ n. n ≡ 33) (length text))

ask_refused : (r : Answer (List Segment)) (source p n : ℕ) → r ≡ refused n → asked r source p ≡ refused n
unfolding asked
ask_refused r source p n e = rw e

text-empty : (limit : ℕ) (which : List ℕ → Box → Part) (f : List ℕ) (n : ℕ) → reading limit f ≡ refused n → bytes_in f (text_of which limit f) ≡ []
unfolding text_of bytes_in nowhere
text-empty limit which f n e = rw (text_of, e)

-- after a refusal all lent memory holds what it held
pub memory_kept : {A : Type 0} (rows : A → List ℕ) (r : Answer A) (table : List ℕ) (n : ℕ) → r ≡ refused n → after rows r table ≡ table
unfolding after
memory_kept rows (refused m) table n e = refl
memory_kept rows (given a) table n e = absurd (not_both (sym e))

-- no call of reading answers 21
module _ (limit : ℕ) where
  ask_told : (r : Answer (List Segment)) (source p n : ℕ) → asked r source p ≡ refused n → r ≡ refused n
  unfolding asked
  ask_told (refused m) source p n e = ap (λ k. refused k) (refused_same e)
  ask_told (given ss) source p n e = absurd (not_both (sym e))

  never_21 : NeverRead limit 21
  unfolding within some_of
  never_21 =
      record {
        read = λ f a b e. tabled_only limit f a b 21 e;
        ask = λ f a b source p e. tabled_only limit f a b 21 (ask_told (tabled limit f a b) source p 21 e);
        list = λ f a b h m source e. listed_only limit f a b h m source 21 e;
        index = λ f t e. index-tabled_only limit f t 21 e;
        source_text = λ which f source e. source_text_only limit which f source 21 e;
        segment_texts = λ f t u k e. texts_tabled_only limit f t u k 21 e;
        text = λ text buffer e. omega (arith, text_only text buffer 21 e);
        mapped = λ input e. reading_only limit input 21 e;
        boxes = λ input e. boxes_only OfFile (narrow OfFile known_file) File input 0 (length input) 21 e;
      }

-- a file with a list in `pfil` has no 41
pub no_41 : (limit : ℕ) (f : List ℕ) {h : Heading} → heading f ≡ given h → 0 < length h.urls → reading limit f ≡ refused 41 → ⊥
unfolding within urls_for
no_41 limit f {h} head there e =
    let P : ℕ → Type 0 = λ k. k ≡ 41 → ⊥ in
    let known : (n : ℕ) → T (up_to24 n) → P n = λ n low same. subst (λ k. T (up_to24 k)) same low in
    let listed : (inner : List Box) → Only P (hold 41 (ltb 0 (length (urls_for (urls_in f inner) h.urls)))) =
    λ inner. rw (lt-ltb 0 (length (urls_for (urls_in f inner) h.urls)) (urls_some (urls_in f inner) h.urls there)) (only_given P tt) in
    let later : Only P (later_stages limit f h) =
    only_then P (segments limit f h) _ (all_known P known limit f h listed (λ z. omega arith) (λ z. omega arith))
    (λ ss.
    only_then P (indexed limit f h ss) _
    (indexed_only P (λ z. omega arith) limit f (λ z. omega arith) (λ z. omega arith) (λ z. omega arith) h ss)
    (λ _. only_given P ss)) in
    elim (which (right File pseg h.boxes)) [
      | inl any ↦ later 41 (sym (reading_some limit f head any) ∙ e) refl
      | inr lacks ↦ let z = refused_same (sym (reading_none limit f head lacks) ∙ e) in omega arith
    ]
  where
    urls_some : (own in_pfil : List (List ℕ)) → 0 < length in_pfil → 0 < length (urls_for own in_pfil)
    urls_some [] in_pfil there = there
    urls_some (u ∷ us) in_pfil there = omega arith

pub demand1 : (limit : ℕ) → Demand1OfReading limit
demand1 limit =
    record {
      read_numbers = tabled_only limit;
      list_numbers = listed_only limit;
      index_numbers = index-tabled_only limit;
      source_text_numbers = source_text_only limit;
      segment_texts_numbers = texts_tabled_only limit;
      text_numbers = text_only;
      no21 = never_21 limit;
      ask_numbers = λ f a b. ask_refused (tabled limit f a b);
      texts_empty = text-empty limit;
      tables_kept = λ rows f a b. memory_kept rows (tabled limit f a b);
      lists_kept = λ rows f a b h m table source. memory_kept rows (listed limit f source a b h m) table;
      index_kept = λ f table. memory_kept index_table (index_tabled limit f table) table;
      segment_texts_kept = λ rows f t u table k. memory_kept rows (texts_tabled limit f k t u) table;
      text_kept = λ text buffer. memory_kept (λ _. text) (text_written text buffer) buffer;
    }
