-- The data of each kept chunk lies in the copy where it may, no further from its `pseg`, and is what it was.
use Prim.Native.Nat.{ℕ, zero, suc, ◌+◌, ◌-◌, ◌^◌, ◌<◌, ◌≤◌}
use mathlib.Core.Bool.{Bool, true, ◌&&◌, or-true, true≢false}
use mathlib.Core.List.Memᴰ
use mathlib.Core.List.{List, [], ◌∷◌, ◌++◌, map, append_assoc, Memᴰ}
use mathlib.Core.Logic.{inl, inr, ⊎_elim}
use mathlib.Core.Path.{◌≡◌, refl, sym, ap, subst, ◌∙◌}
use native.Mathlib.Decide.{dec_le}
use native.Mathlib.Nat.{zero-add, add_assoc}
use native.Mathlib.Omega.{arith}
use borrow.Author.Tests.{leb-true, le-leb, ltb-true, eqb-true}
use lib.Dec.{leb, ltb, eqb}
use lib.ListN.{length, get_or, drop}
use Rattle.boxes.specs.Answer.{given}
use Rattle.boxes.specs.Framing.{Box}
use Rattle.boxes.specs.Kinds.{pfil, pseg, pdat, is, box_at}
use Rattle.boxes.specs.declared.kinds.Container.TheVariants.{File}
use Rattle.boxes.proofs.AnswerLaws.{given_same, both_given, held}
use Rattle.boxes.proofs.HeaderLaws.{header_inside}
use Rattle.partial.specs.BoxList.{each}
use Rattle.partial.specs.Sequences.{some_of, all_of, sum}
use Rattle.partial.specs.Segments.{Chunk, Segment, good, present, chunks_of, has_place}
use Rattle.partial.specs.Heading.{Heading}
use Rattle.partial.specs.Mixed.{allowed, fill_up, whole_boxes}
use Rattle.partial.specs.Entries.{Ploc, Cursor, in_data, may_lie, chunk_step, chunks_from}
use Rattle.partial.specs.Reading.{segment}
use Rattle.partial.proofs.Meaning.MappedLaws.{lies}
use Rattle.partial.proofs.Meaning.SequenceLaws.{which, both, Each, each_member, member_passes, some_append}
use Rattle.partial.proofs.Reading.KeptLaws.{stepped}
use Rattle.partial.proofs.Reading.ReadingLaws.{step_told}
use Rattle.additions.proofs.WholeLaws.{Row, filled_row, row_starts, starts, whole_row, allowed_other}
use Rattle.rescue.specs.Kept.{Fate, dropped, whole, of_pfil, of_pseg, Fated, opening, lies_in, kept_with, kept_of, fates_from, fates}
use Rattle.rescue.specs.Copy.{copy_of, copy_size, new_place, copied}
use Rattle.rescue.proofs.Shapes.{Alike, resized, boxes_anew}
use Rattle.rescue.proofs.PlaceLaws.{Chained, ends, sizes, chained_behind, new_in_lem, Copied, new_nearer, AsLong, new_run, new_along}
use Rattle.rescue.proofs.PlocLaws.{Lies}
use Rattle.rescue.proofs.CopyLaws.{Ready, pieces_long, copy_filled, copy_alike, boxes_anew_split}
use Rattle.rescue.proofs.FateLaws.{segments_of, kept_all, fate_pseg, fate_data, fate_lain, beside_given}
use Rattle.rescue.proofs.HeadingLaws.{Opened, opened}
use Rattle.rescue.proofs.SegmentLaws.{segment_place, segment-header}
use Rattle.rescue.proofs.WholeLaws.{Stood, fates_all, fates_stood, fates_ready, fates_chained, heading_back}

-- ---- lists

module _ {A : Type 0} where
  -- what holds of each of two lists in a row
  each_first : (P : A → Type 0) (xs ys : List A) → Each P (xs ++ ys) → Each P xs
  each_first P [] ys all = tt
  each_first P (x ∷ xs) ys (here, all) = (here, each_first P xs ys all)

  each_second : (P : A → Type 0) (xs ys : List A) → Each P (xs ++ ys) → Each P ys
  each_second P [] ys all = all
  each_second P (x ∷ xs) ys (here, all) = each_second P xs ys all

  -- what holds of every member
  pub each_by : (P : A → Type 0) (xs : List A) → ((x : A) → Memᴰ x xs → P x) → Each P xs
  each_by P [] all = tt
  each_by P (x ∷ xs) all = (all x (Memᴰ.head refl), each_by P xs (λ y there. all y (Memᴰ.tail there)))

  -- a member that passes a test
  pub some_member : (test : A → Bool) (xs : List A) (x : A) → Memᴰ x xs → test x ≡ true → some_of test xs ≡ true
  unfolding some_of
  some_member test [] x there h = absurd (Memᴰ.not-nil there)
  some_member test (y ∷ ys) x there h =
      ⊎_elim (λ same. rw (← same, h)) (λ further. rw (some_member test ys x further h, or-true)) (Memᴰ.cases_cons there)

some_chunk : (test : Chunk → Bool) (ss : List Segment) (s : Segment) → Memᴰ s ss → some_of test s.chunks ≡ true → some_of test (chunks_of ss) ≡ true
unfolding chunks_of
some_chunk test [] s there h = absurd (Memᴰ.not-nil there)
some_chunk test (t ∷ ts) s there h =
    rw (some_append test t.chunks (chunks_of ts))
    (⊎_elim (λ same. rw (← same, h)) (λ further. rw (some_chunk test ts s further h, or-true)) (Memᴰ.cases_cons there))

-- ---- where a box is among those with fates: those before it, it and those behind it

record At (xs : List Fated) (P : Fated → Type 0) : Type 0 where
  before : List Fated
  x : Fated
  behind : List Fated
  all : xs ≡ before ++ (x ∷ behind)
  here : P x

at_first : (x : Fated) (xs : List Fated) (P : Fated → Type 0) → P x → At (x ∷ xs) P
at_first x xs P h = record { before = []; x = x; behind = xs; all = refl; here = h }

at_further : (y : Fated) (xs : List Fated) (P : Fated → Type 0) → At xs P → At (y ∷ xs) P
at_further y xs P a = record { before = y ∷ a.before; x = a.x; behind = a.behind; all = ap (λ (l : List Fated). y ∷ l) a.all; here = a.here }

-- what is known of each is known of it
at_known : {xs : List Fated} {P : Fated → Type 0} (a : At xs P) (Q : Fated → Type 0) → Each Q xs → Q a.x
at_known a Q each = (each_second Q a.before (a.x ∷ a.behind) (rw a.all at each)).0

-- one of the boxes that passes a test
box-at : (test : Box → Bool) (xs : List Fated) → some_of test (map (λ x. x.box) xs) ≡ true → At xs (λ x. test x.box ≡ true)
unfolding some_of
box-at test [] h = absurd (true≢false (sym h))
box-at test (x ∷ xs) h =
    elim (which (test x.box)) [
      | inl e ↦ at_first x xs (λ x. test x.box ≡ true) e
      | inr e ↦ at_further x xs (λ x. test x.box ≡ true) (box-at test xs (rw e at h))
    ]

-- that of a segment
segment-at : (s : Segment) (xs : List Fated) → Memᴰ s (segments_of xs) → At xs (λ x. x.fate ≡ of_pseg s)
unfolding segments_of
segment-at s [] there = absurd (Memᴰ.not-nil there)
segment-at s (x ∷ xs) there = go (λ further. at_further x xs (λ x. x.fate ≡ of_pseg s) (segment-at s xs further)) x.fate refl there
  where
    go : (Memᴰ s (segments_of xs) → At (x ∷ xs) (λ x. x.fate ≡ of_pseg s)) → (t : Fate) → x.fate ≡ t
        → Memᴰ s (elim t [ dropped n ↦ segments_of xs | whole ↦ segments_of xs | of_pfil inner ↦ segments_of xs | of_pseg s ↦ s ∷ segments_of xs ])
        → At (x ∷ xs) (λ x. x.fate ≡ of_pseg s)
    go rest (dropped n) e there = rest there
    go rest whole e there = rest there
    go rest (of_pfil inner) e there = rest there
    go rest (of_pseg t) e there = ⊎_elim (λ same. at_first x xs (λ x. x.fate ≡ of_pseg s) (rw same e)) rest (Memᴰ.cases_cons there)

-- ---- boxes that stay whole

abbrev Stays : Fated → Type 0
Stays x = x.fate ≡ whole

-- each is as long in the copy, and a box there
stays_long : (x : Fated) → Stays x → AsLong x
unfolding copy_size
stays_long x stays = rw (copy_size, stays)

stays_anew : (at : ℕ) (x : Fated) (xs : List Fated) → Stays x → boxes_anew at (x ∷ xs) ≡ resized at (x.box.end - x.box.at) x.box ∷ boxes_anew (at + (x.box.end - x.box.at)) xs
unfolding boxes_anew
stays_anew at x xs stays = rw (boxes_anew, stays, stays_long x stays)

all_long : (xs : List Fated) → Each Stays xs → Each AsLong xs
all_long [] stay = tt
all_long (x ∷ xs) (here, stay) = (stays_long x here, all_long xs stay)

-- data that one of them holds, its copy holds
data_anew : (before : List Fated) (x : Fated) (behind : List Fated) → Chained 0 (before ++ (x ∷ behind)) → Stays x
    → (place size : ℕ) → 0 < size → is pdat x.box ≡ true → x.box.at ≤ x.box.body → x.box.body ≤ place → place + size ≤ x.box.end
    → in_data (boxes_anew 0 (before ++ (x ∷ behind))) (new_place 0 (before ++ (x ∷ behind)) place) size ≡ true
unfolding in_data some_of is
data_anew before x behind chained stays place size some kind front low high =
    rw (
      new_in_lem 0 0 before x behind chained place (omega arith) (omega arith),
      boxes_anew_split 0 before (x ∷ behind),
      stays_anew (0 + sizes before) x behind stays,
      some_append,
      kind,
      le-leb (0 + sizes before + (x.box.body - x.box.at)) (0 + sizes before + (place - x.box.at)) (omega arith),
      le-leb (0 + sizes before + (place - x.box.at) + size) (0 + sizes before + (x.box.end - x.box.at)) (omega arith),
      or-true,
    )

sizes_more : (before : List Fated) (x : Fated) → sizes (before ++ (x ∷ [])) ≡ sizes before + copy_size x
unfolding sum
sizes_more [] x = omega arith
sizes_more (y ∷ ys) x = omega (arith, sizes_more ys x)

-- boxes as which a good chunk of a mixed file may lie
abbrev Free : Fated → Type 0
Free x = allowed x.box ≡ true

module _ (f : List ℕ) (new : ℕ → ℕ) where
  -- the boxes of the copy before one start before it
  starts_before : (before : List Fated) → Each (Ready f new) before → all_of (starts (sizes before)) (boxes_anew 0 before) ≡ true
  starts_before before ready =
      row_starts 0 (length (each (copy_of f new) before)) (boxes_anew 0 before) (filled_row (omega arith) (copy_filled f new before ready)) (sizes before)
      (omega (arith, pieces_long f new before ready))

  -- those of a run stand in a row
  run_row : (at : ℕ) (run : List Fated) → Each Stays run → Each (Stood f) run → Row at (at + sizes run) (boxes_anew at run)
  unfolding sum boxes_anew
  run_row at [] stay stood = omega arith
  run_row at (x ∷ more) (here, stay) (there, stood) =
      let inside = header_inside File f x.box.at there.end there.read in
      let long = stays_long x here in
      rw (stays_anew at x more here, ← add_assoc, long)
      (refl, omega arith, omega arith, run_row (at + (x.box.end - x.box.at)) more stay stood)

  -- and are whole boxes, where all of them are allowed
  run_allowed : (at : ℕ) (run : List Fated) → Each Stays run → Each Free run → all_of allowed (boxes_anew at run) ≡ true
  unfolding boxes_anew all_of allowed is
  run_allowed at [] stay free = refl
  run_allowed at (x ∷ more) (here, stay) (this, free) =
      rw (stays_anew at x more here, this) (run_allowed (at + (x.box.end - x.box.at)) more stay free)

  run_whole : (before run behind : List Fated) → Each (Ready f new) (before ++ (run ++ behind)) → Each (Stood f) run → Each Stays run → Each Free run
      → 0 < sizes run
      → whole_boxes (boxes_anew 0 (before ++ (run ++ behind))) (sizes before) (sizes before + sizes run) ≡ true
  run_whole before run behind ready stood stay free some =
      rw (boxes_anew_split 0 before (run ++ behind), zero-add (sizes before), boxes_anew_split (sizes before) run behind)
      (whole_row (boxes_anew (sizes before + sizes run) behind) (boxes_anew 0 before) (sizes before) (sizes before + sizes run) (boxes_anew (sizes before) run)
      (starts_before before (each_first (Ready f new) before (run ++ behind) ready)) (omega arith) (run_row (sizes before) run stay stood)
      (run_allowed (sizes before) run stay free))

  -- the bytes of a run are what they were
  run_alike : (before run behind : List Fated) → Each (Ready f new) (before ++ (run ++ behind)) → Each (Stood f) run → Each Stays run
      → (at : ℕ) → Chained at (run ++ behind)
      → Alike f at (each (copy_of f new) (before ++ (run ++ behind))) (sizes before) (ends at run - at)
  run_alike before [] behind ready stood stay at chained i less = absurd (omega arith)
  run_alike before (x ∷ more) behind ready (there, stood) (here, stay) at chained i less =
      let size : ℕ = x.box.end - at in
      elim (dec_le size i) [
        | yes past ↦
            let onward : sizes (before ++ (x ∷ [])) + (i - size) ≡ sizes before + i = omega (arith, sizes_more before x, stays_long x here) in
            let further : x.box.end + (i - size) ≡ at + i = omega arith in
            rw (onward, further, append_assoc before (x ∷ []) (more ++ behind)) at
            (run_alike (before ++ (x ∷ [])) more behind (rw (append_assoc before (x ∷ []) (more ++ behind)) ready) stood stay x.box.end chained.3 (i - size) (omega arith))
        | no inside ↦ copy_alike f new before x (more ++ behind) ready here (omega arith) there.inside i (omega arith) ∙ ap (λ (k : ℕ). get_or f (k + i) 0) chained.0
      ]

-- ---- what a chunk lies in: neighbouring boxes that stay whole

chained_first : (at : ℕ) (xs ys : List Fated) → Chained at (xs ++ ys) → Chained at xs
chained_first at [] ys chained = tt
chained_first at (x ∷ xs) ys (from, some, less, chained) = (from, some, less, chained_first x.box.end xs ys chained)

pub record Run (xs : List Fated) (place size : ℕ) : Type 0 where
  before : List Fated
  run : List Fated
  behind : List Fated
  all : xs ≡ before ++ (run ++ behind)
  stay : Each Stays run
  low : ends 0 before ≤ place
  to : place + size ≤ ends (ends 0 before) run

-- a place in them is in one of them
in-run : (before run behind : List Fated) → Each Stays run → (at place : ℕ) → Chained at (run ++ behind) → at ≤ place → place < ends at run
    → Copied (before ++ (run ++ behind)) place
in-run before [] behind stay at place chained low high = absurd (omega arith)
in-run before (x ∷ more) behind (here, stay) at place chained low high =
    elim (dec_le x.box.end place) [
      | yes past ↦ rw (append_assoc before (x ∷ []) (more ++ behind)) at (in-run (before ++ (x ∷ [])) more behind stay x.box.end place chained.3 past high)
      | no inside ↦
          record { before = before; x = x; behind = more ++ behind; all = refl; low = omega arith; high = omega arith; far = omega (arith, stays_long x here) }
    ]

module _ (xs : List Fated) (chained : Chained 0 xs) (place size : ℕ) (r : Run xs place size) where
  chained_all : Chained 0 (r.before ++ (r.run ++ r.behind))
  chained_all = rw r.all at chained

  chained_run : Chained (ends 0 r.before) (r.run ++ r.behind)
  chained_run = chained_behind 0 r.before (r.run ++ r.behind) chained_all

  pub run_copied : 0 < size → Copied xs place
  run_copied some =
      rw r.all (in-run r.before r.run r.behind r.stay (ends 0 r.before) place chained_run r.low (omega (arith, r.to)))

  run_place : new_place 0 xs place ≡ sizes r.before + (place - ends 0 r.before)
  run_place =
      rw r.all
      (new_along 0 0 r.before r.run r.behind chained_all (all_long r.run r.stay) place r.low (omega (arith, r.to)) ∙ omega arith)

  run_bytes : (f : List ℕ) (new : ℕ → ℕ) → Each (Ready f new) xs → Each (Stood f) xs → Alike f place (each (copy_of f new) xs) (new_place 0 xs place) size
  run_bytes f new ready stood i less =
      let at : ℕ = ends 0 r.before in
      let here : sizes r.before + (place - at + i) ≡ new_place 0 xs place + i = omega (arith, run_place) in
      let there : at + (place - at + i) ≡ place + i = omega (arith, r.low) in
      rw (here, there, ← r.all) at
      (run_alike f new r.before r.run r.behind (rw r.all at ready)
      (each_first (Stood f) r.run r.behind (each_second (Stood f) r.before (r.run ++ r.behind) (rw r.all at stood))) r.stay at chained_run
      (place - at + i) (omega (arith, r.low, r.to)))

-- whole boxes from one place to another, of which each stays whole
module _ (place end : ℕ) where
  abbrev Lain : Fated → Type 0
  Lain x = Free x → place ≤ x.box.at → x.box.end ≤ end → Stays x

  -- a run of them from a place on
  record Filling (xs : List Fated) (at : ℕ) : Type 0 where
    run : List Fated
    behind : List Fated
    all : xs ≡ run ++ behind
    to : ends at run ≡ end
    stay : Each Stays run
    free : Each Free run

  fill_run : (xs : List Fated) (at : ℕ) → Chained at xs → place ≤ at → Each Lain xs → fill_up (map (λ x. x.box) xs) end ≡ true → Filling xs at
  unfolding fill_up
  fill_run [] at chained low lain h = absurd (true≢false (sym h))
  fill_run (x ∷ xs) at chained low lain h =
      let (free, rest) = both (allowed x.box) _ h in
      elim (which (ltb x.box.end end)) [
        | inl e ↦
            let r = fill_run xs x.box.end chained.3 (omega arith) lain.1 (rw e at rest) in
            record {
              run = x ∷ r.run;
              behind = r.behind;
              all = ap (λ (l : List Fated). x ∷ l) r.all;
              to = r.to;
              stay = (lain.0 free (omega arith) (omega (arith, ltb-true x.box.end end e)), r.stay);
              free = (free, r.free);
            }
        | inr e ↦
            let to = eqb-true x.box.end end (rw e at rest) in
            record { run = x ∷ []; behind = xs; all = refl; to = to; stay = (lain.0 free (omega arith) (omega arith), tt); free = (free, tt) }
      ]

  whole_run : (xs : List Fated) (at : ℕ) → Chained at xs → Each Lain xs → whole_boxes (map (λ x. x.box) xs) place end ≡ true
      → (before : List Fated) × (rest : List Fated) × (xs ≡ before ++ rest) × (ends at before ≡ place) × Filling rest place
  unfolding whole_boxes
  whole_run [] at chained lain h = absurd (true≢false (sym h))
  whole_run (x ∷ xs) at chained lain h =
      elim (which (eqb x.box.at place)) [
        | inl e ↦
            let here : at ≡ place = sym chained.0 ∙ eqb-true x.box.at place e in
            ([], x ∷ xs, refl, here, rw here at (fill_run (x ∷ xs) at chained (omega arith) lain (rw (whole_boxes, e) at h)))
        | inr e ↦
            let (before, rest, all, from, r) = whole_run xs x.box.end chained.3 lain.1 (rw (whole_boxes, e) at h) in
            (x ∷ before, rest, ap (λ (l : List Fated). x ∷ l) all, from, r)
      ]

-- ---- a segment that was read: where its chunks lie

module _ (limit : ℕ) (f : List ℕ) (h : Heading) where
  chunks_lie : (from : ℕ) (l : Ploc) (n : ℕ) (c : Cursor) (cs : List Chunk) → chunks_from limit f h from l n c ≡ given cs → all_of (lies h) cs ≡ true
  unfolding chunks_from all_of
  chunks_lie from l zero c cs e = subst (λ (cs : List Chunk). all_of (lies h) cs ≡ true) (given_same (held 17 (eqb c.at l.end) _ e).1) refl
  chunks_lie from l (suc n) c cs e =
      let (met, read, e1) = both_given (chunk_step limit f h from l c) _ e in
      let (rest, others, e2) = both_given (chunks_from limit f h from l n met.1) _ e1 in
      subst (λ (cs : List Chunk). all_of (lies h) cs ≡ true) (given_same e2)
      (rw (step_told limit f h from l c read).2 (chunks_lie from l n met.1 rest others))

  pub segment_lies : (before : List Segment) (b : Box) (s : Segment) → segment limit f h before b ≡ given s → all_of (lies h) s.chunks ≡ true
  segment_lies before b s e =
      let (inner, l, cs, t, same) = stepped limit f h before b e in
      subst (λ (s : Segment). all_of (lies h) s.chunks ≡ true) same (chunks_lie b.at l l.count _ cs t.chunks)

  -- what is known of a box by its fate
  record Known (x : Fated) : Type 0 where
    data_stays : is pdat x.box ≡ true → Stays x
    lain_stays : Free x → h.mixed ≡ true → some_of (lies_in x.box) (chunks_of (kept_of limit f h)) ≡ true → Stays x
    read : (s : Segment) → x.fate ≡ of_pseg s → (is pseg x.box ≡ true) × (before : List Segment) × (segment limit f h before x.box ≡ given s)

  known_from : (kept : List Segment) (bs : List Box) → Each Known (fates_from limit f h kept bs)
  unfolding fates_from
  known_from kept [] = tt
  known_from kept (b ∷ bs) = (
    record {
      data_stays = fate_data limit f h kept b;
      lain_stays = fate_lain limit f h kept b;
      read = λ s e. let (kind, taken) = fate_pseg limit f h kept b e in (kind, kept, (beside_given limit f h kept b taken).1);
    },
    known_from (kept_with limit f h kept b) bs,
  )

  known : Opened f h → Each Known (fates limit f h)
  unfolding fates is
  known o =
      let b = box_at 1 h.boxes in
      let second : Known (record { box = b; fate = of_pfil h.inner }) =
      record {
        data_stays = λ kind. absurd (omega (arith, eqb-true b.kind pdat.code kind, eqb-true b.kind pfil.code o.second));
        lain_stays = λ free. absurd (true≢false (sym o.second ∙ (allowed_other b free).1));
        read = λ s e. let z : ◌≡◌ {A = ℕ} 0 1 = cc in absurd (omega arith);
      } in (
        record { data_stays = λ _. refl; lain_stays = λ _ _ _. refl; read = λ s e. let z : ◌≡◌ {A = ℕ} 0 1 = cc in absurd (omega arith) },
        (second, known_from [] (drop 2 h.boxes)),
      )

module _ (limit : ℕ) (f : List ℕ) (h : Heading) (opens : opening f ≡ given h) (bytes : (k : ℕ) → get_or f k 0 < 256) where
  abbrev pub new_places : ℕ → ℕ
  new_places = new_place 0 (fates limit f h)

  abbrev fated : List Fated
  fated = fates limit f h

  chained : Chained 0 fated
  chained = fates_chained limit f h opens bytes

  stood : Each (Stood f) fated
  stood = fates_stood limit f h opens bytes

  all_known : Each (Known limit f h) fated
  all_known = known limit f h (opened f h opens)

  -- where the data lies of a chunk
  module _ (c : Chunk) (some : 0 < c.size) where
    abbrev Carried : (List Box → ℕ → Bool) → Type 0
    Carried test = Run fated c.place c.size × (test (boxes_anew 0 fated) (new_places c.place) ≡ true)

    -- in one `pdat` body
    data_carried : in_data h.boxes c.place c.size ≡ true → Carried (λ bs place. in_data bs place c.size)
    unfolding in_data
    data_carried may =
        let a = box-at _ fated (rw (← fates_all limit f h opens bytes) at may) in
        let b = a.x.box in
        let (front, fits) = both (is pdat b && leb b.body c.place) (leb (c.place + c.size) b.end) a.here in
        let (kind, from) = both (is pdat b) (leb b.body c.place) front in
        let low = leb-true b.body c.place from in
        let high = leb-true (c.place + c.size) b.end fits in
        let stays = (at_known a (Known limit f h) all_known).data_stays kind in
        let there = at_known a (Stood f) stood in
        let inside = header_inside File f b.at there.end there.read in
        let onward = rw a.all at chained in
        let starts = (chained_behind 0 a.before (a.x ∷ a.behind) onward).0 in (
          record { before = a.before; run = a.x ∷ []; behind = a.behind; all = a.all; stay = (stays, tt); low = omega arith; to = high },
          rw a.all (data_anew a.before a.x a.behind onward stays c.place c.size some kind (omega arith) low high),
        )

    -- or as whole boxes
    boxes_carried : Each (Lain c.place (c.place + c.size)) fated → whole_boxes h.boxes c.place (c.place + c.size) ≡ true
        → Carried (λ bs place. whole_boxes bs place (place + c.size))
    boxes_carried lain may =
        let (before, rest, all, from, r) = whole_run c.place (c.place + c.size) fated 0 chained lain (rw (← fates_all limit f h opens bytes) at may) in
        let split : fated ≡ before ++ (r.run ++ r.behind) = all ∙ ap (λ (l : List Fated). before ++ l) r.all in
        let run : Run fated c.place c.size =
        record { before = before; run = r.run; behind = r.behind; all = split; stay = r.stay; low = omega arith; to = rw from (omega (arith, r.to)) } in
        let row = chained_first (ends 0 before) r.run r.behind (chained_run fated chained c.place c.size run) in
        let long : c.place + sizes r.run ≡ c.place + c.size = rw from at (new_run (ends 0 before) r.run row (all_long r.run r.stay)) ∙ r.to in
        let many : sizes r.run ≡ c.size = omega arith in
        let place : sizes before ≡ new_places c.place = omega (arith, run_place fated chained c.place c.size run) in
        let new : ℕ → ℕ = λ p. p in
        let after = rw split at (fates_ready limit f h opens bytes new) in
        let standing = each_first (Stood f) r.run r.behind (each_second (Stood f) before (r.run ++ r.behind) (rw split at stood)) in
        (run, rw (place, many, ← split) at (run_whole f new before r.run r.behind after standing r.stay r.free (omega arith)))

  -- a kept segment: its box, and what was read of its chunks
  module _ (s : Segment) (kept : Memᴰ s (kept_of limit f h)) where
    own : At fated (λ x. x.fate ≡ of_pseg s)
    own = segment-at s fated (rw (kept_all limit f h) at kept)

    pseg-copied : Copied fated s.place
    pseg-copied =
        let x = own.x in
        let (kind, before, read) = (at_known own (Known limit f h) all_known).read s own.here in
        let there = at_known own (Stood f) stood in
        let inside = header_inside File f x.box.at there.end there.read in
        let low : length f < 2 ^ 32 = omega (arith, (opened f h opens).small) in
        let place = segment_place limit f h before x.box s there.end there.read kind there.inside low bytes read new_places in
        let long : 8 ≤ copy_size x =
        subst (λ (t : Fate). 8 ≤ copy_size (record { box = x.box; fate = t })) (sym own.here)
        (segment-header limit f h before x.box s there.end there.read kind there.inside low bytes read new_places) in
        record { before = own.before; x = x; behind = own.behind; all = own.all; low = omega arith; high = omega arith; far = omega arith }

    module _ (c : Chunk) (chunk : Memᴰ c s.chunks) (placed : has_place c.state c.size ≡ true) where
      some_bytes : 0 < c.size
      unfolding has_place
      some_bytes = ltb-true 0 c.size (both (present c.state) (ltb 0 c.size) placed).1

      pub may-lie : may_lie h c.state c.place c.size ≡ true
      unfolding lies
      may-lie =
          let (kind, before, read) = (at_known own (Known limit f h) all_known).read s own.here in
          rw placed at (member_passes (lies h) s.chunks (segment_lies limit f h before own.x.box s read) c chunk)

      -- each box that it covers stays whole
      all_lain : h.mixed ≡ true → eqb c.state good ≡ true → Each (Lain c.place (c.place + c.size)) fated
      unfolding lies_in
      all_lain mixed is-good =
          each_by (Lain c.place (c.place + c.size)) fated
          (λ x there free low high.
          (each_member (Known limit f h) fated all_known x there).lain_stays free mixed
          (some_chunk (lies_in x.box) (kept_of limit f h) s kept
          (some_member (lies_in x.box) s.chunks c chunk
          (rw (is-good, le-leb c.place x.box.at low, le-leb x.box.end (c.place + c.size) high)))))

      pub chunk_carried : Run fated c.place c.size × (may_lie (heading_back limit f h opens bytes) c.state (new_places c.place) c.size ≡ true)
      unfolding may_lie
      chunk_carried =
          elim (which (in_data h.boxes c.place c.size)) [
            | inl e ↦ let (run, lie) = data_carried c some_bytes e in (run, rw lie)
            | inr e ↦
                let (kinds, may) = both (h.mixed && eqb c.state good) (whole_boxes h.boxes c.place (c.place + c.size)) (rw e at may-lie) in
                let (mixed, is-good) = both h.mixed (eqb c.state good) kinds in
                let (run, lie) = boxes_carried c some_bytes (all_lain mixed is-good) may in
                (run, rw (lie, is-good, mixed, or-true))
          ]

  pub kept_lie : (s : Segment) → Memᴰ s (kept_of limit f h) → Each (Lies new_places s.place (heading_back limit f h opens bytes)) s.chunks
  kept_lie s kept =
      each_by (Lies new_places s.place (heading_back limit f h opens bytes)) s.chunks
      (λ c chunk placed.
      let (run, lie) = chunk_carried s kept c chunk placed in
      let other = run_copied fated chained c.place c.size run (some_bytes s kept c chunk placed) in
      (new_nearer 0 0 fated chained s.place c.place (pseg-copied s kept) other, lie))

  -- the bytes of a chunk
  pub kept_alike : (s : Segment) → Memᴰ s (kept_of limit f h) → (c : Chunk) → Memᴰ c s.chunks → has_place c.state c.size ≡ true
      → Alike f c.place (copied f (fates limit f h)) (new_places c.place) c.size
  unfolding copied
  kept_alike s kept c chunk placed =
      run_bytes fated chained c.place c.size (chunk_carried s kept c chunk placed).0 f new_places (fates_ready limit f h opens bytes new_places) stood
