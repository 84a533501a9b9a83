-- Writing again what a run of additions made: each segment says its addition in the whole file, and is accepted where
-- the whole file fits.
use Prim.Native.Nat.{ℕ, ◌+◌, ◌^◌, ◌≤◌, ◌<◌}
use mathlib.Core.Bool.{true}
use mathlib.Core.List.{List, [], ◌∷◌, ◌++◌, map, append_assoc, append-nil}
use mathlib.Core.Path.{◌≡◌, refl, sym, ap, subst, ◌∙◌}
use native.Mathlib.Nat.{mod-lt}
use native.Mathlib.Omega.{arith}
use borrow.Author.Tests.{le-leb, leb-true}
use lib.Dec.{lit<}
use lib.ListN.{length, take, drop, length-append, length-drop}
use lib.Seq.{take_at}
use Rattle.boxes.specs.Answer.{Answer, refused, given}
use Rattle.boxes.specs.Framing.{Box}
use Rattle.boxes.specs.declared.kinds.Container.TheVariants.{File}
use Rattle.partial.specs.Sequences.{all_of}
use Rattle.partial.specs.Segments.{Segment}
use Rattle.partial.specs.Heading.{Heading, heading}
use Rattle.partial.specs.Reading.{earlier_segments}
use Rattle.partial.specs.Memory.{after, filled}
use Rattle.additions.specs.Addition.{Addition, lists_right, data_right, texts_right, bytes_right}
use Rattle.additions.specs.Append.{added, new_segment, appended, result, pseg_place}
use Rattle.additions.specs.Runs.{Lent, lent, file_in, size_after, append, append_all}
use Rattle.additions.specs.Again.{again, settled}
use Rattle.partial.proofs.Meaning.SequenceLaws.{both, all_append}
use Rattle.partial.proofs.Reading.HeadingAppendLaws.{headed, boxes_lie}
use Rattle.partial.proofs.Reading.RefusalLaws.{takes}
use Rattle.additions.proofs.DataLaws.{settled-added, settled-right, settled-admission}
use Rattle.additions.proofs.WholeLaws.{beyond, row_beyond}
use Rattle.additions.proofs.AddedBoxesLaws.{new_boxes, new_row}
use Rattle.additions.proofs.ToldOutsideLaws.{outside_told}
use Rattle.additions.proofs.AgainLaws.{same-again}
use Rattle.additions.proofs.RepairTimeLaws.{cut, added-cut, taken_cut}
use Rattle.additions.proofs.ReadsBackLaws.{Taken, taken, taken_sayable, grown_heading, heading-added}
use Rattle.additions.proofs.ReadsBackLaws.{reading-added, file_after, admits}
use Rattle.additions.proofs.ResultLaws.{appended_offered}

-- ---- an addition that a file takes is accepted in any buffer that holds the file and has room for the result

module _ (limit : ℕ) (f : List ℕ) (h : Heading) (ss : List Segment) (a : Addition) (t : Taken limit f h ss a)
    (buffer : List ℕ) (same : take (length f) buffer ≡ f) (room : length f + length (added a) ≤ length buffer) where
  appended-of : appended limit buffer (length f) a ≡ given (length f + length (added a))
  appended-of =
      appended_offered limit buffer (length f) a h ss (omega arith) (rw same t.offered)
      ∙ rw (t.admits, same, t.index.1, le-leb (length f + length (added a)) (length buffer) room)

  append-of : append limit (lent buffer (length f)) a ≡ lent (filled (f ++ added a) buffer) (length (f ++ added a))
  unfolding append after size_after result
  append-of = rw (appended-of, same, length-append f (added a))

-- a longer file in a buffer, and the rest of the buffer
pub filled-take : (g buffer : List ℕ) → take (length g) (filled g buffer) ≡ g
unfolding filled
filled-take g buffer = take_at g (drop (length g) buffer) (length g) refl

pub filled_long : (g buffer : List ℕ) → length g ≤ length buffer → length (filled g buffer) ≡ length buffer
unfolding filled
filled_long g buffer h = simp (length-append, length-drop) (omega arith)

-- ---- a run of additions to a file, and writing it again

-- a refused addition leaves the file
append_refused : (limit : ℕ) (buffer : List ℕ) (n : ℕ) (a : Addition) (k : ℕ) → appended limit buffer n a ≡ refused k → file_in (append limit (lent buffer n) a) ≡ take n buffer
unfolding append file_in after size_after
append_refused limit buffer n a k e = rw e

-- what can be told of an addition from the file is appended as the addition is
module _ (limit : ℕ) (a : Addition) where
  settled-appended : (buffer : List ℕ) (n : ℕ) → appended limit buffer n (settled a) ≡ appended limit buffer n a
  unfolding appended lists_right bytes_right data_right texts_right
  settled-appended buffer n = simp (settled-right, settled-admission, settled-added)

  settled-append : (l : Lent) → append limit l (settled a) ≡ append limit l a
  unfolding append result
  settled-append (lent buffer n) = rw (settled-appended buffer n, settled-added a)

-- boxes whose bodies start past a place start past one before it
beyond_earlier : (place at : ℕ) → place ≤ at → (bs : List Box) → all_of (beyond at) bs ≡ true → all_of (beyond place) bs ≡ true
unfolding all_of
beyond_earlier place at h [] later = refl
beyond_earlier place at h (b ∷ bs) later =
    let (here, others) = both (beyond at b) (all_of (beyond at) bs) later in
    rw (le-leb place b.body (omega (arith, leb-true at b.body here))) (beyond_earlier place at h bs others)

-- what a run makes of a file g with a heading and segments, and how what it added is written again into a buffer that
-- holds g
pub record Rewrites (limit : ℕ) (g : List ℕ) (h : Heading) (ss : List Segment) (whole : List ℕ) : Type 0 where
  pub more : List ℕ
  pub longer : whole ≡ g ++ more
  pub heading' : Heading
  pub headed : heading whole ≡ given heading'
  pub inner : heading'.inner ≡ h.inner
  pub mixed : heading'.mixed ≡ h.mixed
  pub later : List Box
  pub boxes : heading'.boxes ≡ h.boxes ++ later
  pub behind : all_of (beyond (length g)) later ≡ true
  pub added' : List Segment
  pub read : earlier_segments limit whole ≡ given (ss ++ added')
  pub rewritten : (other : List ℕ) → take (length g) other ≡ g → length whole ≤ length other
      → file_in (append_all limit (lent other (length g)) (map (again whole heading') added')) ≡ whole

-- an addition that a file takes, in the file with any more behind it
module _ (limit : ℕ) (f : List ℕ) (h : Heading) (ss : List Segment) (a : Addition) (t : Taken limit f h ss a) where
  -- its boxes start behind the file
  new_behind : all_of (beyond (length f)) (new_boxes (length f) a) ≡ true
  new_behind =
      let small = (admits limit h ss (length f) a t.admits).0.small in
      let row = new_row h a t.offered.list t.offered.carried t.offered.outside (omega arith) (length f) in
      row_beyond (length f) (length f + length (added a)) (new_boxes (length f) a) row (length f) (omega arith)

  -- and its segment, beside whatever others, says what of it can be told
  pub says_whole : (more : List ℕ) (k : Heading) (later : List Box) (j : Heading) (us : List Segment) → k.boxes ≡ (grown_heading limit f h ss a).boxes ++ later
      → all_of (beyond (length (f ++ added a))) later ≡ true
      → again ((f ++ added a) ++ more) k (new_segment j us (pseg_place (length f) a) a) ≡ settled a
  says_whole more k later j us boxes behind =
      let n = length f in
      let lie = boxes_lie File f 0 n h.boxes (headed f h t.offered.headed).boxes in
      same-again f more a k j us t.offered.list t.offered.carried t.offered.lengths t.offered.texts t.offered.text
      (rw boxes (outside_told h n a t.offered.list t.offered.carried t.offered.outside lie later (rw length-append at behind) j us))

module _ (limit : ℕ) (below : limit < 2 ^ 64) where
  -- one addition more, before the others
  one_rewrite : (f : List ℕ) (h : Heading) (ss : List Segment) (a : Addition) (t : Taken limit f h ss a) (whole : List ℕ)
      → Rewrites limit (f ++ added a) (grown_heading limit f h ss a) (ss ++ (new_segment h ss (pseg_place (length f) a) a ∷ [])) whole
      → Rewrites limit f h ss whole
  unfolding append_all
  one_rewrite f h ss a t whole r =
      let s = new_segment h ss (pseg_place (length f) a) a in
      let long = length-append f (added a) in
      let says : again whole r.heading' s ≡ settled a = rw r.longer (says_whole limit f h ss a t r.more r.heading' r.later h ss r.boxes r.behind) in
      record {
        more = added a ++ r.more;
        longer = r.longer ∙ append_assoc f (added a) r.more;
        heading' = r.heading';
        headed = r.headed;
        inner = r.inner;
        mixed = r.mixed;
        later = new_boxes (length f) a ++ r.later;
        boxes = r.boxes ∙ append_assoc h.boxes (new_boxes (length f) a) r.later;
        behind = rw (all_append, new_behind limit f h ss a t) (beyond_earlier (length f) (length (f ++ added a)) (omega arith) r.later r.behind);
        added' = s ∷ r.added';
        read = rw append_assoc at r.read;
        rewritten = λ other same room.
            let long-whole : length whole ≡ length (f ++ added a) + length r.more = ap length r.longer ∙ length-append (f ++ added a) r.more in
            rw (says, settled-append limit a (lent other (length f)), append-of limit f h ss a t other same (omega arith))
            (r.rewritten (filled (f ++ added a) other) (filled-take (f ++ added a) other) (rw (filled_long (f ++ added a) other (omega arith)) room));
      }

  step_rewrite : (l : Lent) (a : Addition) (whole : List ℕ) (h : Heading) (ss : List Segment) → heading (file_in l) ≡ given h
      → earlier_segments limit (file_in l) ≡ given ss
      → ((k : Heading) (ts : List Segment)
      → heading (file_in (append limit l a)) ≡ given k
      → earlier_segments limit (file_in (append limit l a)) ≡ given ts
      → Rewrites limit (file_in (append limit l a)) k ts whole)
      → Rewrites limit (file_in l) h ss whole
  unfolding file_in
  step_rewrite (lent buffer n) a whole h ss head read rest = go (appended limit buffer n a) refl
    where
      f : List ℕ
      f = take n buffer

      go : (answer : Answer ℕ) → appended limit buffer n a ≡ answer → Rewrites limit f h ss whole
      go (refused k) e =
          let same : file_in (append limit (lent buffer n) a) ≡ f = append_refused limit buffer n a k e in
          subst (λ (g : List ℕ). Rewrites limit g h ss whole) same (rest h ss (rw same head) (rw same read))
      go (given size) e =
          let (t, long, total) = taken limit buffer n a size h ss head read e in
          let c = cut a in
          let u = taken_cut limit f h ss a t in
          let same : file_in (append limit (lent buffer n) a) ≡ f ++ added c = file_after limit buffer n a size e long total ∙ ap (λ (bytes : List ℕ). f ++ bytes) (sym (added-cut a)) in
          let k = grown_heading limit f h ss c in
          let (ok, _) = admits limit h ss (length f) c u.admits in
          let new-head = heading-added limit f h ss c u.offered ok.small ok.boxes in
          let new-read = (takes limit (f ++ added c)).acceptable _ (reading-added limit f h ss c u (taken_sayable limit f h ss c u below (mod-lt a.repair_time (lit< tt)))) in
          let ts = ss ++ (new_segment h ss (pseg_place (length f) c) c ∷ []) in
          one_rewrite f h ss c u whole
          (subst (λ (g : List ℕ). Rewrites limit g k ts whole) same (rest k ts (rw same new-head) (rw same new-read)))

  pub rewrites : (additions : List Addition) (l : Lent) (h : Heading) (ss : List Segment) → heading (file_in l) ≡ given h
      → earlier_segments limit (file_in l) ≡ given ss
      → Rewrites limit (file_in l) h ss (file_in (append_all limit l additions))
  unfolding append_all file_in all_of
  rewrites [] l h ss head read =
      record {
        more = [];
        longer = sym (append-nil (file_in l));
        heading' = h;
        headed = head;
        inner = refl;
        mixed = refl;
        later = [];
        boxes = sym (append-nil h.boxes);
        behind = refl;
        added' = [];
        read = rw append-nil read;
        rewritten = λ other same room. same;
      }
  rewrites (a ∷ more) l h ss head read =
      step_rewrite l a (file_in (append_all limit (append limit l a) more)) h ss head read (λ k ts. rewrites more (append limit l a) k ts)
