-- Laws of what is told of a file before its tables are filled: which refusal comes where, and what is known of a file
-- that has none.
use Prim.Native.Nat.{ℕ, ◌≤◌, ◌<◌}
use mathlib.Core.Bool.{Bool, true, false}
use mathlib.Core.List.{List, []}
use mathlib.Core.Logic.{inl, inr}
use mathlib.Core.Path.{◌≡◌, refl, sym, ap, subst, ◌∙◌}
use borrow.Author.Tests.{le-leb, lt-leb, leb-true}
use lib.ListN.{length}
use Rattle.boxes.specs.Answer.{Answer, refused, given, ◌>>=◌, hold}
use Rattle.boxes.specs.Kinds.{pseg, those, right}
use Rattle.boxes.specs.declared.kinds.Container.TheVariants.{File}
use Rattle.std.specs.Prelude.{Result, Ok, Err}
use Rattle.refusals.specs.Refusals.{refusal_no}
use Rattle.refusals.specs.declared.Refusal.{Refusal}
use Rattle.boxes.proofs.ToldLaws.{told-ok, told-err}
use Rattle.boxes.proofs.AnswerLaws.{not_both, refused_same, given_same, both_given, held}
use Rattle.partial.specs.Heading.{Heading, heading}
use Rattle.partial.specs.Index.{SourceBox, has_index, indexed}
use Rattle.partial.specs.Limits.{file_limit, segment_limit, layer_limit, source_limit}
use Rattle.partial.specs.Sources.{source_count, agreed}
use Rattle.partial.specs.Reading.{segments, reading, earlier_segments}
use Rattle.partial.specs.Segments.{Segment}
use Rattle.partial.proofs.Meaning.SequenceLaws.{which}
use Rattle.partial.proofs.Reading.HeadingAppendLaws.{headed}
use Rattle.partial.proofs.Reading.KeptLaws.{segmented}
use Rattle.partial.proofs.Reading.ReadingLaws.{reading-segments}
use Rattle.partial.proofs.Reading.RefusalLaws.{no_segments, earlier_read}
use Rattle.heading.specs.Facts.{Facts, facts_of, facts_by, told, headed_answer}
use Rattle.heading.specs.declared.answers.Head.{Head}
use Rattle.heading.proofs.FoundLaws.{pfil_inside}
use Rattle.sources.specs.Held.{Sourced}
use Rattle.gathering.specs.Forms.{all_puts}
use Rattle.gathering.specs.Gathered.{gathered_of}
use Rattle.gathering.specs.Pass.{segments_by, Opened, Gathers}
use Rattle.gathering.specs.Noted.{Noted}
use Rattle.gathering.proofs.PassLaws.{rows_put}
use Rattle.gathering.specs.declared.gathered.Gathered.{Gathered}
use Rattle.gathering.specs.declared.tables.SourceTables.{SourceTables}
use Rattle.reading.specs.Judged.{Judged, gathered_in, indexed_told, judged_in, earlier_told, reading_told, judged_by, judged_answer, WhereRead, KeptIn, SizedIn, SourcedIn}
use Rattle.reading.specs.declared.judging.Judged.{Judged as CodeJudged}

-- a refusal behind which nothing is refused stands before it
pub first_refused : {A B : Type 0} (x : Answer A) (next : A → B) {n : ℕ} → (x >>= λ a. given (next a)) ≡ refused n → x ≡ refused n
first_refused (refused m) next e = ap refused (refused_same e)
first_refused (given a) next e = absurd (not_both (sym e))

-- ---- the heading

module _ (f : List ℕ) {r : Result Head Refusal} (answer : headed_answer r ≡ told f (heading f)) where
  pub heading_refused : {n : Refusal} → r ≡ Err n → heading f ≡ refused (refusal_no n)
  heading_refused e = first_refused (heading f) (facts_of f) (told-err facts_by answer e)

  pub heading-found : {head : Head} → r ≡ Ok head → (h : Heading) × (heading f ≡ given h) × (facts_of f h ≡ facts_by head)
  heading-found e =
      let (h, known, same) = both_given (heading f) _ (told-ok facts_by answer e) in
      (h, known, given_same same)

pub facts_segments : (f : List ℕ) (h : Heading) (head : Head) → facts_of f h ≡ facts_by head → head.segments ≡ length (those pseg h.boxes)
unfolding facts_of
facts_segments f h head e = sym (ap (λ x. x.segments) e)

pub facts_indexed : (f : List ℕ) (h : Heading) (head : Head) → facts_of f h ≡ facts_by head → head.indexed ≡ has_index h.inner
unfolding facts_of
facts_indexed f h head e = sym (ap (λ x. x.indexed) e)

-- the file as the pass over its segments is told of it
pub opened : (f : List ℕ) (h : Heading) {x : Facts} → heading f ≡ given h → facts_of f h ≡ x → length (those pseg h.boxes) ≤ segment_limit → Opened f x.mixed x.list h
unfolding facts_of
opened f h known e few =
    let t = headed f h known in
    subst (λ (x : Facts). Opened f x.mixed x.list h) e
    (record { boxes = t.boxes; few = few; mix = refl; in_pfil = record { within = leb-true (length f) file_limit t.small; stands = record { boxes = t.inner; inside = pfil_inside f h known }; urls = t.urls } })

-- ---- stages 13 to 25, and 40

module _ (f : List ℕ) (h : Heading) where
  pub gathered_crowded : segment_limit < length (those pseg h.boxes) → gathered_in f h ≡ refused 13
  unfolding gathered_in segments
  gathered_crowded many = rw (lt-leb (length (those pseg h.boxes)) segment_limit many)

  module _ (few : length (those pseg h.boxes) ≤ segment_limit) where
    pub gathered_refused : {n : ℕ} → segments_by f h ≡ refused n → gathered_in f h ≡ refused n
    unfolding gathered_in segments
    gathered_refused fault = rw (le-leb (length (those pseg h.boxes)) segment_limit few, fault)

    module _ {ss : List Segment} (read : segments_by f h ≡ given ss) where
      pub gathered_differ : agreed ss ≡ false → gathered_in f h ≡ refused 25
      unfolding gathered_in segments
      gathered_differ differ = rw (le-leb (length (those pseg h.boxes)) segment_limit few, read, differ)

      module _ (same : agreed ss ≡ true) where
        pub gathered_ninth : layer_limit < source_count ss → gathered_in f h ≡ refused 40
        unfolding gathered_in segments
        gathered_ninth over = rw (le-leb (length (those pseg h.boxes)) segment_limit few, read, same, lt-leb (source_count ss) layer_limit over)

        pub gathered_given : source_count ss ≤ layer_limit → gathered_in f h ≡ given (gathered_of ss)
        unfolding gathered_in segments
        gathered_given layers = rw (le-leb (length (those pseg h.boxes)) segment_limit few, read, same, le-leb (source_count ss) layer_limit layers)

-- the segments, before they are held against each other
pub segments-by : (f : List ℕ) (h : Heading) {ss : List Segment} → segments source_limit f h ≡ given ss → segments_by f h ≡ given ss
segments-by f h e = (segmented source_limit f h e).read

-- they are not too many
pub few_segments : (f : List ℕ) (h : Heading) {ss : List Segment} → segments source_limit f h ≡ given ss → length (those pseg h.boxes) ≤ segment_limit
few_segments f h e = leb-true (length (those pseg h.boxes)) segment_limit (segmented source_limit f h e).few

-- what the pass over them told, with the numbers of their chunks or their rows
pub pass_refused : (f : List ℕ) (h : Heading) (numbered : Bool) (t₀ t u₀ u : List ℕ) (n : SourceTables) (r : Result Gathered Refusal) → Gathers f h numbered t₀ t u₀ u n r → {m : Refusal} → r ≡ Err m
    → segments_by f h ≡ refused (refusal_no m)
unfolding Gathers
pass_refused f h numbered t₀ t u₀ u n r gathers e = subst (Gathers f h numbered t₀ t u₀ u n) e gathers

module _ (f : List ℕ) (h : Heading) (t₀ t u₀ u : List ℕ) (n : SourceTables) (r : Result Gathered Refusal) (gathers : Gathers f h true t₀ t u₀ u n r) where
  pub passed_refused : {m : Refusal} → r ≡ Err m → segments_by f h ≡ refused (refusal_no m)
  passed_refused = pass_refused f h true t₀ t u₀ u n r gathers

  pub passed_given : {g : Gathered} → r ≡ Ok g → (ss : List Segment) × (segments_by f h ≡ given ss) × (g ≡ gathered_of ss) × Noted f h n ss
  unfolding Gathers
  passed_given e =
      let (ss, read, same, _, _, noted) = subst (Gathers f h true t₀ t u₀ u n) e gathers in
      (ss, read, same, noted)

  pub passed_kept : KeptIn (segments source_limit f h) t₀ t u₀ u
  unfolding all_puts
  passed_kept = λ ss all.
      let (rows, numbers, _) = rows_put f h true n r gathers (segments-by f h all) in
      (rows, numbers)

  pub passed_noted : WhereRead (segments source_limit f h) (Noted f h n)
  passed_noted = λ ss all. (rows_put f h true n r gathers (segments-by f h all)).2

-- ---- what is kept, of which nothing is said after a refusal

pub kept_refused : (P : List Segment → Type 0) {read : Answer (List Segment)} {n : ℕ} → read ≡ refused n → WhereRead read P
kept_refused P e = λ ss all. absurd (not_both (sym e ∙ all))

module _ (P : List Segment → Type 0) (f : List ℕ) (h : Heading) where
  pub kept_ungathered : {n : ℕ} → gathered_in f h ≡ refused n → WhereRead (segments source_limit f h) P
  unfolding gathered_in
  kept_ungathered e = kept_refused P (first_refused (segments source_limit f h) gathered_of e)

module _ {P : List Segment → Type 0} (f : List ℕ) (h : Heading) where
  pub kept_read : heading f ≡ given h → WhereRead (segments source_limit f h) P → WhereRead (reading source_limit f) P
  kept_read known kept = λ ss all. kept ss (reading-segments source_limit f known all)

  pub kept_earlier : heading f ≡ given h → WhereRead (segments source_limit f h) P → WhereRead (earlier_segments source_limit f) P
  kept_earlier known kept = λ ss all. kept ss (earlier_read source_limit f known all)

-- what is noted of segments that were read, by the heading of their file
module _ (f : List ℕ) (h : Heading) (known : heading f ≡ given h) {t : SourceTables} (noted : WhereRead (segments source_limit f h) (Noted f h t)) where
  pub noted_sized : SizedIn (segments source_limit f h) t.sizes
  noted_sized = λ ss all. (noted ss all).sizes

  pub noted_sourced : SourcedIn f (segments source_limit f h) t.sources t.lists
  noted_sourced = λ ss all k head. subst (λ (h : Heading). Sourced f h t.sources t.lists ss) (given_same (sym known ∙ head)) (noted ss all).sourced

-- ---- the index

module _ (f : List ℕ) (h : Heading) where
  pub judged_refused : {n : ℕ} → gathered_in f h ≡ refused n → judged_in f h ≡ refused n
  unfolding judged_in gathered_in
  judged_refused e = rw (first_refused (segments source_limit f h) gathered_of e)

  pub gathered_known : {g : Gathered} → gathered_in f h ≡ given g → (ss : List Segment) × (segments source_limit f h ≡ given ss) × (g ≡ gathered_of ss)
  unfolding gathered_in
  gathered_known e =
      let (ss, all, same) = both_given (segments source_limit f h) _ e in
      (ss, all, sym (given_same same))

  module _ {ss : List Segment} (all : segments source_limit f h ≡ given ss) where
    pub judged-unindexed : {n : ℕ} → indexed_told f h ss ≡ refused n → judged_in f h ≡ refused n
    unfolding judged_in
    judged-unindexed e = rw (all, e)

    pub judged_given : {n : ℕ} {g : Gathered} {x : Facts} → indexed_told f h ss ≡ given n → facts_of f h ≡ x → g ≡ gathered_of ss
        → judged_in f h ≡ given (record { facts = x; gathered = g; index = n })
    unfolding judged_in
    judged_given e same of = rw (all, e, same, ← of)

-- ---- a file

module _ (f : List ℕ) where
  pub earlier_headless : {n : ℕ} → heading f ≡ refused n → earlier_told f ≡ refused n
  unfolding earlier_told
  earlier_headless e = rw e

  pub reading_headless : {n : ℕ} → heading f ≡ refused n → reading_told f ≡ refused n
  unfolding reading_told
  reading_headless e = rw e

  module _ {h : Heading} (known : heading f ≡ given h) where
    pub reading_none : right File pseg h.boxes ≡ false → reading_told f ≡ refused 12
    unfolding reading_told
    reading_none lacks = rw (known, lacks)

    pub reading_by : right File pseg h.boxes ≡ true → reading_told f ≡ judged_in f h
    unfolding reading_told
    reading_by some = rw (known, some)

    pub earlier_cases : {t : Bool} → right File pseg h.boxes ≡ t
        → earlier_told f ≡ elim t [ true ↦ reading_told f | false ↦ given (record { facts = facts_of f h; gathered = gathered_of []; index = 0 }) ]
    unfolding earlier_told
    earlier_cases e = rw known (ap (λ (t : Bool). elim t [ true ↦ reading_told f | false ↦ given (record { facts = facts_of f h; gathered = gathered_of []; index = 0 }) ]) e)

    -- a file with a segment is told of by the same steps
    pub earlier_by : right File pseg h.boxes ≡ true → earlier_told f ≡ judged_in f h
    earlier_by some = earlier_cases some ∙ reading_by some

    pub earlier_unread : {n : ℕ} → gathered_in f h ≡ refused n → earlier_told f ≡ refused n
    unfolding gathered_in
    earlier_unread e =
        elim (which (right File pseg h.boxes)) [
          | inl some ↦ earlier_by some ∙ judged_refused f h e
          | inr lacks ↦
              let none : gathered_in f h ≡ given (gathered_of []) = rw (no_segments source_limit f h lacks) in
              absurd (not_both (sym e ∙ none))
        ]

    -- one without is told of by its heading
    pub earlier_begun : {g : Gathered} {x : Facts} → right File pseg h.boxes ≡ false → gathered_in f h ≡ given g → facts_of f h ≡ x
        → earlier_told f ≡ given (record { facts = x; gathered = g; index = 0 })
    unfolding gathered_in
    earlier_begun lacks e same =
        earlier_cases lacks ∙ rw (same, given_same (sym (rw (no_segments source_limit f h lacks) at e)))

-- ---- what a judgement says of reading

-- an accepted file: its heading, its segments and the boxes of its index, of which all is told
pub record Accepted (f : List ℕ) (j : Judged) : Type 0 where
  pub h : Heading
  pub ss : List Segment
  pub head : heading f ≡ given h
  pub some : right File pseg h.boxes ≡ true
  pub all : segments source_limit f h ≡ given ss
  pub boxes : List SourceBox
  pub index : indexed source_limit f h ss ≡ given boxes
  pub facts : facts_of f h ≡ j.facts
  pub gathered : j.gathered ≡ gathered_of ss
  pub counted : j.index ≡ length boxes

module _ (f : List ℕ) where
  pub accepted : {j : Judged} → reading_told f ≡ given j → Accepted f j
  unfolding reading_told judged_in indexed_told
  accepted {j} e =
      let (h, head, e) = both_given (heading f) _ e in
      let (some, e) = held 12 (right File pseg h.boxes) _ e in
      let (ss, all, e) = both_given (segments source_limit f h) _ e in
      let (n, told, e) = both_given (indexed_told f h ss) _ e in
      let (boxes, index, counted) = both_given (indexed source_limit f h ss) _ told in
      let same = given_same e in
      record {
        h = h;
        ss = ss;
        head = head;
        some = some;
        all = all;
        boxes = boxes;
        index = index;
        facts = ap (λ (j : Judged). j.facts) same;
        gathered = sym (ap (λ (j : Judged). j.gathered) same);
        counted = sym (given_same counted ∙ ap (λ (j : Judged). j.index) same);
      }

  pub read_refused : {n : ℕ} → reading_told f ≡ refused n → reading source_limit f ≡ refused n
  unfolding reading_told reading judged_in indexed_told
  read_refused {n} e = go (heading f) e
    where
      -- the index, then the segments, then 12
      last : (h : Heading) (ss : List Segment) (x : Answer (List SourceBox))
          → ◌>>=◌ {B = Judged} (x >>= λ is. given (length is)) (λ n. given (record { facts = facts_of f h; gathered = gathered_of ss; index = n })) ≡ refused n
          → ◌>>=◌ {B = List Segment} x (λ _. given ss) ≡ refused n
      last h ss (refused m) e = ap refused (refused_same e)
      last h ss (given is) e = absurd (not_both (sym e))

      within : (h : Heading) (t : Bool) (x : Answer (List Segment))
          → ◌>>=◌ {B = Judged} (hold 12 t) (λ _. x >>= λ ss. indexed_told f h ss >>= λ n. given (record { facts = facts_of f h; gathered = gathered_of ss; index = n })) ≡ refused n
          → ◌>>=◌ {B = List Segment} (hold 12 t) (λ _. x >>= λ ss. indexed source_limit f h ss >>= λ _. given ss) ≡ refused n
      within h false x e = ap refused (refused_same e)
      within h true (refused m) e = ap refused (refused_same e)
      within h true (given ss) e = last h ss (indexed source_limit f h ss) e

      go : (x : Answer Heading)
          → ◌>>=◌ {B = Judged} x (λ h. hold 12 (right File pseg h.boxes) >>= λ _. judged_in f h) ≡ refused n
          → ◌>>=◌ {B = List Segment} x (λ h. hold 12 (right File pseg h.boxes) >>= λ _. segments source_limit f h >>= λ ss. indexed source_limit f h ss >>= λ _. given ss) ≡ refused n
      go (refused m) e = ap refused (refused_same e)
      go (given h) e = within h (right File pseg h.boxes) (segments source_limit f h) e

  module _ {j : Judged} (a : Accepted f j) where
    pub read_given : reading source_limit f ≡ given a.ss
    unfolding reading
    read_given = rw (a.head, a.some, a.all, a.index)

    -- as the pass over its segments is told of it
    pub read_opened : Opened f j.facts.mixed j.facts.list a.h
    read_opened = opened f a.h a.head a.facts (few_segments f a.h a.all)

    pub read_segments : segments_by f a.h ≡ given a.ss
    read_segments = segments-by f a.h a.all

-- what each answer about a file says
module _ {r : Result CodeJudged Refusal} {x : Answer Judged} (answer : judged_answer r ≡ x) where
  pub judgement_refused : {n : Refusal} → r ≡ Err n → x ≡ refused (refusal_no n)
  judgement_refused = told-err judged_by answer

  pub judgement_given : {j : CodeJudged} → r ≡ Ok j → x ≡ given (judged_by j)
  judgement_given = told-ok judged_by answer
