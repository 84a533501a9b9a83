-- Laws of appending a segment: what each test decides, and what the call leaves.
use Prim.Native.Nat.{ℕ, ◌+◌, ◌%◌, ◌^◌, ◌≤◌, ◌<◌}
use mathlib.Core.Bool.{Bool, true, false, and-false}
use mathlib.Core.List.{List, [], ◌++◌, append_assoc}
use mathlib.Core.Logic.{inl, inr}
use mathlib.Core.Path.{◌≡◌, refl, sym, ap, subst, ◌∙◌}
use native.Mathlib.Omega.{arith}
use borrow.Author.Tests.{leb-true, le-leb, lt-leb, eq-eqb, ne_eqb}
use lib.Dec.{leb, ltb}
use lib.ListN.{length, take, drop, length-append}
use lib.Seq.{length-take-le}
use Rattle.std.specs.Prelude.{Result, Ok, Err, IsErrAnd}
use Rattle.refusals.specs.Refusals.{refusal_no}
use Rattle.refusals.specs.declared.Refusal.{Refusal}
use Rattle.boxes.proofs.ToldLaws.{handed_on}
use Rattle.boxes.specs.Answer.{Answer, refused, given, ◌>>=◌, hold}
use Rattle.boxes.specs.Kinds.{pseg, right}
use Rattle.boxes.specs.declared.kinds.Container.TheVariants.{File}
use Rattle.boxes.proofs.AnswerLaws.{not_both, refused_same, given_same, both_given}
use Rattle.numerals.proofs.StoredLaws.{stored-room}
use Rattle.additions.specs.Addition.{Addition, asks, items, list_right, lengths_right, lists_right, data_size, data_right, texts_right, bytes_right, surls, outside_right}
use Rattle.partial.specs.Answers.{number_answer}
use Rattle.additions.specs.Append.{added, new_urls, admission, appended, result}
use Rattle.partial.specs.Heading.{Heading, heading}
use Rattle.partial.specs.Index.{SourceBox, indexed}
use Rattle.partial.specs.Limits.{file_limit, source_limit}
use Rattle.partial.specs.Memory.{after, filled}
use Rattle.partial.specs.Reading.{earlier_segments}
use Rattle.partial.specs.Segments.{Segment}
use Rattle.additions.specs.Begin.{is_text}
use Rattle.partial.specs.Sequences.{all_of}
use Rattle.partial.specs.Sources.{urls_for, same_urls, source_count, source_beside}
use Rattle.additions.specs.declared.header.SegmentHeader.{SegmentHeader}
use Rattle.partial.proofs.Meaning.SequenceLaws.{which}
use Rattle.partial.proofs.Reading.HeadingAppendLaws.{headed}
use Rattle.partial.proofs.Reading.NumberedLaws.{segments_numbered}
use Rattle.partial.proofs.Reading.RefusalLaws.{earlier_headless, earlier_some, earlier_none, earlier_read}
use Rattle.additions.proofs.AddedBoxesLaws.{data_low, length-added}
use Rattle.additions.proofs.ReadsBackLaws.{Offered, Admits, admits}
use Rattle.additions.proofs.ReasonLaws.{lists-wrong, bytes-wrong, outside-wrong, texts-wrong}
use Rattle.additions.proofs.ResultLaws.{appended_offered}
use Rattle.heading.specs.Facts.{facts_of, facts_by}
use Rattle.heading.proofs.FoundLaws.{pfil_inside}
use Rattle.filling.specs.Rows.{Put}
use Rattle.gathering.specs.Gathered.{gathered_of}
use Rattle.reading.specs.Judged.{judged_by, earlier_told, SizedIn, SourcedIn}
use Rattle.reading.specs.declared.judging.Judged.{Judged}
use Rattle.reading.proofs.JudgedLaws.{earlier_cases, accepted, read_refused, read_given}
use Rattle.reading.proofs.JudgedLaws.{earlier_headless as told-headless}
use Rattle.sources.specs.Held.{PfilList}
use Rattle.ends.specs.Table.{sizes_in}
use Rattle.going.specs.Source.{SourceFor, GoesTo, HasList}
use Rattle.going.specs.Texts.{urls_of}
use Rattle.gathering.specs.declared.gathered.Gathered.{Gathered}
use Rattle.adding.specs.Admission.{Beside, Goes, AskedBy, admitted_length}
use Rattle.adding.specs.Counts.{counts_of, right_item, counted, Counted}
use Rattle.adding.specs.Texts.{texts_of}
use Rattle.adding.specs.declared.admission.Asked.{Asked}
use Rattle.adding.specs.declared.admission.Target.{Target}
use Rattle.adding.specs.declared.counts.Counts.{Counts}
use Rattle.adding.specs.declared.texts.Texts.{Texts}
use Rattle.adding.proofs.CountLaws.{counted_bytes}
use Rattle.adding.proofs.OutsideLaws.{data_counted}
use Rattle.puts.specs.Entries.{Fits}
use Rattle.writing.specs.Append.{Going, Appends}

-- ---- what the call leaves

module _ (buffer : List ℕ) (n : ℕ) (a : Addition) where
  -- after a refusal the buffer is as it was
  pub appends_refused : {k : Refusal} → appended source_limit buffer n a ≡ refused (refusal_no k) → Appends buffer buffer n a (Err k)
  unfolding after
  appends_refused e = record { answer = rw e; left = rw e }

  -- so after one that is handed on
  pub appends_handed : (k : Refusal) (r : Result ℕ Refusal) → IsErrAnd r (λ e. e ≡ k) → appended source_limit buffer n a ≡ refused (refusal_no k) → Appends buffer buffer n a r
  unfolding after
  appends_handed k r handed e = record { answer = handed_on (λ n. n) k r handed ∙ sym e; left = rw e }

  -- a file with the addition fills it
  pub appends_given : {buffer' : List ℕ} {m : ℕ} → appended source_limit buffer n a ≡ given m → buffer' ≡ filled (result buffer n a) buffer
      → Appends buffer buffer' n a (Ok m)
  unfolding after
  appends_given e full = record { answer = rw e; left = rw e full }

  -- what is put behind the file is put with it
  pub put_result : {buffer' : List ℕ} → n + length (added a) ≤ length buffer → Put buffer n (added a) buffer' → buffer' ≡ filled (result buffer n a) buffer
  unfolding result filled
  put_result room p =
      let long : length (take n buffer ++ added a) ≡ n + length (added a) =
      length-append (take n buffer) (added a) ∙ ap (λ (k : ℕ). k + length (added a)) (length-take-le n buffer (omega arith)) in
      p.held room
      ∙ stored-room buffer n (added a) room
      ∙ sym (append_assoc (take n buffer) (added a) (drop (n + length (added a)) buffer))
      ∙ ap (λ (k : ℕ). (take n buffer ++ added a) ++ drop k buffer) (sym long)

-- ---- the chunk list and the data

module _ (list : List ℕ) where
  pub list_odd : (length list % 2 ≡ 0 → ⊥) → list_right list ≡ false
  unfolding list_right
  list_odd odd = rw (ne_eqb (length list % 2) 0 odd)

  -- what is counted of its items
  pub list_unright : {k : ℕ} → counted (items list) ≡ refused k → (list_right list ≡ false) × (k ≡ 31)
  unfolding list_right counted
  list_unright e =
      elim (which (all_of right_item (items list))) [
        | inl good ↦ absurd (not_both (sym (rw (counted, good) at e)))
        | inr wrong ↦ (rw (wrong, and-false), sym (refused_same (rw (counted, wrong) at e)))
      ]

  pub list_given : {c : Counts} → counted (items list) ≡ given c → (all_of right_item (items list) ≡ true) × (c ≡ counts_of (items list))
  unfolding counted
  list_given e =
      elim (which (all_of right_item (items list))) [
        | inl good ↦ (good, sym (given_same (rw (counted, good) at e)))
        | inr wrong ↦ absurd (not_both (rw (counted, wrong) at e))
      ]

  pub list_right_lem : {c : Counts} → length list % 2 ≡ 0 → counted (items list) ≡ given c → list_right list ≡ true
  unfolding list_right
  list_right_lem even e = rw (eq-eqb (length list % 2) 0 even, (list_given e).0)

module _ (header : SegmentHeader) (o : Bool) (list bytes texts lengths : List ℕ) {c : Counts} where
  module _ (counts : c ≡ counts_of (items list)) (few : length bytes < 2 ^ 63) where
    -- a sum that was cut is longer than any data
    pub data_differs : (length bytes ≡ c.bytes → ⊥) → data_right (asks header o list bytes texts lengths) ≡ false
    unfolding data_right asks
    data_differs other =
        ne_eqb (length bytes) (data_size (items list))
        (λ same.
        let cut = counted_bytes (items list) counts in
        other (omega arith))

    pub counted_of : length bytes ≡ c.bytes → Counted (asks header o list bytes texts lengths) c
    unfolding asks
    counted_of same =
        let cut = counted_bytes (items list) counts in
        record { items = record { counts = counts; bytes = omega arith }; bytes = sym same }

-- both lists, and both numbers of bytes
module _ (a : Addition) where
  pub list_first : list_right a.list ≡ false → lists_right a ≡ false
  unfolding lists_right
  list_first wrong = rw wrong

  pub lengths_second : lengths_right a.lengths ≡ false → lists_right a ≡ false
  unfolding lists_right
  lengths_second wrong = rw (wrong, and-false)

  pub lists_both : list_right a.list ≡ true → lengths_right a.lengths ≡ true → lists_right a ≡ true
  unfolding lists_right
  lists_both list lengths = rw (list, lengths)

  pub data_first : data_right a ≡ false → bytes_right a ≡ false
  unfolding bytes_right
  data_first wrong = rw wrong

  pub texts_second : texts_right a ≡ false → bytes_right a ≡ false
  unfolding bytes_right
  texts_second wrong = rw (wrong, and-false)

  pub bytes_both : data_right a ≡ true → texts_right a ≡ true → bytes_right a ≡ true
  unfolding bytes_right
  bytes_both carried texts = rw (carried, texts)

-- what is counted of the texts
module _ (texts lengths : List ℕ) {t : Texts} (counts : t ≡ texts_of texts lengths) where
  pub even_told : t.even ≡ lengths_right lengths
  unfolding texts_of
  even_told = ap (λ (t : Texts). t.even) counts

  pub whole_told : (header : SegmentHeader) (o : Bool) (list bytes : List ℕ) → t.whole ≡ texts_right (asks header o list bytes texts lengths)
  unfolding texts_of texts_right asks
  whole_told header o list bytes = ap (λ (t : Texts). t.whole) counts

  pub plain_told : t.plain ≡ is_text texts
  unfolding texts_of
  plain_told = ap (λ (t : Texts). t.plain) counts

-- ---- the file

-- a refusal of two steps before others is theirs whatever follows
stops : {A B C D : Type 0} (x : Answer A) (y : A → Answer B) (m : C) (next : Answer D) {k : ℕ} → (x >>= λ a. y a >>= λ _. given m) ≡ refused k
    → (x >>= λ a. y a >>= λ _. next) ≡ refused k
stops (refused j) y m next e = ap refused (refused_same e)
stops {B = B} {D = D} (given a) y m next {k} e = go (y a) e
  where
    go : (z : Answer B) → (z >>= λ _. given m) ≡ refused k → (z >>= λ _. next) ≡ refused k
    go (refused j) e = ap refused (refused_same e)
    go (given b) e = absurd (not_both (sym e))

-- a refusal of what is told of it is a refusal of its segments
pub earlier_refused : (f : List ℕ) {k : ℕ} → earlier_told f ≡ refused k → earlier_segments source_limit f ≡ refused k
earlier_refused f {k} e = go (heading f) refl
  where
    go : (x : Answer Heading) → heading f ≡ x → earlier_segments source_limit f ≡ refused k
    go (refused m) head = earlier_headless source_limit f head ∙ ap refused (refused_same (sym (told-headless f head) ∙ e))
    go (given h) head =
        elim (which (right File pseg h.boxes)) [
          | inl some ↦ earlier_some source_limit f head some ∙ read_refused f (sym (earlier_cases f head some) ∙ e)
          | inr lacks ↦ absurd (not_both (sym e ∙ earlier_cases f head lacks))
        ]

-- a file that append takes: its heading and its segments, of which all is told
pub record Earlier (f : List ℕ) (j : Judged) : Type 0 where
  pub h : Heading
  pub ss : List Segment
  pub head : heading f ≡ given h
  pub read : earlier_segments source_limit f ≡ given ss
  pub beside : Beside f h ss j
  pub mixed : j.head.mixed ≡ h.mixed
  pub in_pfil : PfilList f h j.head.list

pub earlier : (f : List ℕ) (j : Judged) → earlier_told f ≡ given (judged_by j) → Earlier f j
unfolding earlier_told facts_of
earlier f j e =
    let (h, head, _) = both_given (heading f) _ e in
    elim (which (right File pseg h.boxes)) [
      | inl some ↦
          let a = accepted f (sym (earlier_cases f head some) ∙ e) in
          let same : a.h ≡ h = given_same (sym a.head ∙ head) in
          of h a.ss head (earlier_some source_limit f head some ∙ read_given f a) (rw same at a.facts) a.gathered
      | inr lacks ↦
          let told = given_same (sym (earlier_cases f head lacks) ∙ e) in
          of h [] head (earlier_none source_limit f head lacks) (ap (λ x. x.facts) told) (sym (ap (λ x. x.gathered) told))
    ]
  where
    of : (h : Heading) (ss : List Segment) → heading f ≡ given h → earlier_segments source_limit f ≡ given ss → facts_of f h ≡ facts_by j.head → j.gathered ≡ gathered_of ss → Earlier f j
    of h ss head read facts gathered =
        record {
          h = h;
          ss = ss;
          head = head;
          read = read;
          beside = record {
            file = record { head = head; read = read; index = sym (ap (λ x. x.indexed) facts) };
            boxes = sym (ap (λ x. x.boxes) facts);
            segments = gathered;
          };
          mixed = sym (ap (λ x. x.mixed) facts);
          in_pfil = subst (PfilList f h) (ap (λ x. x.list) facts) (record { within = leb-true (length f) file_limit (headed f h head).small; stands = record { boxes = (headed f h head).inner; inside = pfil_inside f h head }; urls = (headed f h head).urls });
        }

-- it has one heading
pub headed_mixed : {f : List ℕ} {j : Judged} → Earlier f j → {h : Heading} → heading f ≡ given h → j.head.mixed ≡ h.mixed
headed_mixed file head = file.mixed ∙ ap (λ (h : Heading). h.mixed) (given_same (sym file.head ∙ head))

-- ---- the source

-- the source that an addition goes to, by the tables of those of the file
pub going_of : (f : List ℕ) (a : Addition) (j : Judged) → Earlier f j → {z n l : List ℕ} → SizedIn (earlier_segments source_limit f) z
    → SourcedIn f (earlier_segments source_limit f) n l
    → {target : Target}
    → SourceFor f l j.gathered.sources j.head.list a.texts a.lengths target.source
    × (target.sizes ≡ sizes_in z target.source)
    × GoesTo f j.head.list a.texts a.lengths target.in_pfil
    × HasList f j.head.list a.lengths target.listed
    → Going f a target
unfolding new_urls surls gathered_of
going_of f a j file sized sourced {target} (told, said, goes, lists) h ss head read =
    let same_head : file.h ≡ h = given_same (sym file.head ∙ head) in
    let same : file.ss ≡ ss = given_same (sym file.read ∙ read) in
    let pfil = subst (λ (h : Heading). PfilList f h j.head.list) same_head file.in_pfil in
    let count : j.gathered.sources ≡ source_count ss = ap (λ (g : Gathered). g.sources) file.beside.segments ∙ ap source_count same in
    let numbered = segments_numbered source_limit f h (earlier_read source_limit f head read) in
    record {
      number = told h ss h.inner count numbered (sourced ss read h head).lists pfil.stands
          ∙ ap (λ (us : List (List ℕ)). source_beside ss (urls_for (urls_of a.texts a.lengths) us)) (sym pfil.urls);
      sizes = said ∙ (sized ss read).said target.source;
      list = goes h.inner pfil.stands
          ∙ ap (λ (us : List (List ℕ)). same_urls us (urls_for (urls_of a.texts a.lengths) us)) (sym pfil.urls);
      listed = lists a.texts h.inner pfil.stands
          ∙ ap (λ (us : List (List ℕ)). ltb 0 (length (urls_for (urls_of a.texts a.lengths) us))) (sym pfil.urls);
    }

-- ---- the tests, in their order

module _ (buffer : List ℕ) (n : ℕ) (a : Addition) (fits : n ≤ length buffer) (j : Judged) (file : Earlier (take n buffer) j) where
  pub wrong_lists : lists_right a ≡ false → appended source_limit buffer n a ≡ refused 31
  wrong_lists wrong = lists-wrong source_limit buffer n a fits file.head file.read wrong

  module _ (lists : lists_right a ≡ true) where
    pub wrong_bytes : bytes_right a ≡ false → appended source_limit buffer n a ≡ refused 32
    wrong_bytes wrong = bytes-wrong source_limit buffer n a fits file.head file.read lists wrong

    module _ (bytes : bytes_right a ≡ true) where
      pub wrong_outside : outside_right file.h a ≡ false → appended source_limit buffer n a ≡ refused 35
      wrong_outside wrong = outside-wrong source_limit buffer n a fits file.head file.read lists bytes wrong

      pub wrong_texts : outside_right file.h a ≡ true → is_text a.texts ≡ false → appended source_limit buffer n a ≡ refused 34
      wrong_texts outer wrong = texts-wrong source_limit buffer n a fits file.head file.read lists bytes outer wrong

  module _ (list : list_right a.list ≡ true) (outer : outside_right file.h a ≡ true) (plain : is_text a.texts ≡ true)
      {x : Asked} (asked : AskedBy a x) {target : Target} (going : Going (take n buffer) a target) where
    offered : Offered source_limit (take n buffer) file.h file.ss a
    offered =
        record {
          headed = file.head;
          before = file.read;
          list = list;
          lengths = asked.texted.lengths;
          carried = data_counted asked.sorted.counted;
          texts = asked.texted.bytes;
          outside = outer;
          text = plain;
        }

    by_admission : appended source_limit buffer n a
        ≡ (admission source_limit file.h file.ss n a
        >>= λ ts. indexed source_limit (take n buffer) file.h ts >>= λ _. hold 33 (leb (n + length (added a)) (length buffer)) >>= λ _. given (n + length (added a)))
    by_admission = appended_offered source_limit buffer n a file.h file.ss fits offered

    module _ (r : Result ℕ Refusal)
        (answer : (h : Heading) (ss : List Segment) (a : Addition) → Beside (take n buffer) h ss j → Goes h ss (new_urls h a) target → AskedBy a x
        → number_answer r ≡ admitted_length (take n buffer) h ss n a) where
      told : number_answer r ≡ admitted_length (take n buffer) file.h file.ss n a
      told = answer file.h file.ss a file.beside (going file.h file.ss file.head file.read) asked

      pub not_admitted : {k : Refusal} → r ≡ Err k → appended source_limit buffer n a ≡ refused (refusal_no k)
      unfolding admitted_length
      not_admitted e =
          by_admission
          ∙ stops (admission source_limit file.h file.ss n a) (indexed source_limit (take n buffer) file.h) _ _ (sym told ∙ ap number_answer e)

      module _ {m : ℕ} (e : r ≡ Ok m) where
        taken : (ts : List Segment)
            × (admission source_limit file.h file.ss n a ≡ given ts)
            × (is : List SourceBox)
            × (indexed source_limit (take n buffer) file.h ts ≡ given is)
            × (given (n + length (added a)) ≡ given m)
        unfolding admitted_length
        taken =
            let (ts, admits, rest) = both_given (admission source_limit file.h file.ss n a) _ (sym told ∙ ap number_answer e) in
            let (is, index, same) = both_given (indexed source_limit (take n buffer) file.h ts) _ rest in
            (ts, admits, is, index, same)

        pub new_length : m ≡ n + length (added a)
        new_length = sym (given_same taken.4)

        all_held : Admits source_limit file.h file.ss n a
        all_held = (admits source_limit file.h file.ss n a taken.1).0

        pub added_small : length (added a) ≤ file_limit
        added_small = omega (arith, all_held.small)

        pub items_fit : Fits (items a.list)
        items_fit =
            let held = all_held in
            record {
              count = omega (arith, held.chunks);
              sizes = omega (arith, held.low);
              offsets = omega (arith, held.small, length-added a, data_low a (data_counted asked.sorted.counted));
            }

        pub too_short : length buffer < m → appended source_limit buffer n a ≡ refused 33
        too_short short =
            let long = new_length in
            by_admission ∙ rw (taken.1, taken.3, lt-leb (n + length (added a)) (length buffer) (omega arith))

        pub appended_given : {end : ℕ} → m ≤ length buffer → end ≡ n + length (added a) → appended source_limit buffer n a ≡ given end
        appended_given room ends =
            let long = new_length in
            by_admission ∙ rw (taken.1, taken.3, le-leb (n + length (added a)) (length buffer) (omega arith), ends)
