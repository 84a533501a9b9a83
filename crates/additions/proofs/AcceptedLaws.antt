-- After each accepted addition: its source grows and no other is touched, and the longer file reads so.
use Prim.Native.Nat.{ℕ, ◌^◌, ◌<◌, ◌+◌}
use mathlib.Core.List.{List, [], ◌∷◌, ◌++◌}
use mathlib.Core.Logic.{◌↔◌}
use mathlib.Core.Path.{◌≡◌, refl, sym, ap, subst, ◌∙◌}
use native.Mathlib.Nat.{mod-lt}
use native.Mathlib.Omega.{arith}
use borrow.Author.Tests.{le-leb}
use lib.Dec.{lit<}
use lib.ListN.{length, take}
use Rattle.boxes.specs.Answer.{Answer, refused, given}
use Rattle.partial.specs.Segments.{Segment}
use Rattle.partial.specs.Heading.{Heading}
use Rattle.partial.specs.Index.{indexed}
use Rattle.partial.specs.Reading.{reading, earlier_segments}
use Rattle.partial.specs.Memory.{after}
use Rattle.additions.specs.Addition.{Addition, surls}
use Rattle.additions.specs.Append.{added, new_urls, new_segment, appended, pseg_place}
use Rattle.additions.specs.Runs.{Lent, lent, file_in, size_after, append, append_all}
use Rattle.additions.specs.Carried.{carried}
use Rattle.partial.proofs.Reading.ReadingLaws.{accepted_of}
use Rattle.partial.proofs.Reading.NumberedLaws.{segments_numbered}
use Rattle.additions.specs.Demands.{Taking, Extended, Acceptable}
use Rattle.additions.proofs.GrownLaws.{extended}
use Rattle.additions.proofs.RepairTimeLaws.{cut, added-cut, taken_cut}
use Rattle.additions.proofs.ReadsBackLaws.{Taken, taken_any, taken, taken_sayable, reading-added, file_after, admits, Admits}
use Rattle.additions.proofs.ReadsBackLaws.{admission-of, offered_of, sound_offered}
use Rattle.partial.proofs.Reading.RefusalLaws.{takes, earlier_read}
use Rattle.partial.proofs.Meaning.SourceLaws.{in-agreement, agreement}
use Rattle.additions.proofs.ResultLaws.{appended_offered}

-- of an addition that a file takes
extended_taken : (limit : ℕ) (f : List ℕ) (h : Heading) (ss : List Segment) (a : Addition) → Taken limit f h ss a
    → Extended f (f ++ added a) h ss (ss ++ (new_segment h ss (pseg_place (length f) a) a ∷ [])) a
extended_taken limit f h ss a t =
    let before = earlier_read limit f t.offered.headed t.offered.before in
    extended f h ss a (accepted_of limit f h t.offered.headed before) (segments_numbered limit f h before) t.offered.carried
    (admits limit h ss (length f) a t.admits).0.agreed

-- and the longer file reads so, but for what is cut from the repair time
read_taken : (limit : ℕ) (f : List ℕ) (h : Heading) (ss : List Segment) (a : Addition) → Taken limit f h ss a → limit < 2 ^ 64
    → (ts : List Segment) × (reading limit (f ++ added a) ≡ given ts) × Extended f (f ++ added a) h ss ts a
unfolding carried new_urls surls
read_taken limit f h ss a t below =
    let new : List Segment = new_segment h ss (pseg_place (length f) (cut a)) (cut a) ∷ [] in
    let same = added-cut a in
    let u = taken_cut limit f h ss a t in
    let read : reading limit (f ++ added a) ≡ given (ss ++ new) = rw same at (reading-added limit f h ss (cut a) u (taken_sayable limit f h ss (cut a) u below (mod-lt a.repair_time (lit< tt)))) in
    let grew : Extended f (f ++ added a) h ss (ss ++ new) (cut a) = rw same at (extended_taken limit f h ss (cut a) u) in
    let its = grew.grown in
    (ss ++ new, read, record { grown = record { kept = its.kept; no_shorter = its.no_shorter }; untouched = grew.untouched; numbered = grew.numbered; numbers = grew.numbers })

module _ (limit : ℕ) (buffer : List ℕ) (n : ℕ) (a : Addition) (size : ℕ) (file : Taking limit buffer n) (e : appended limit buffer n a ≡ given size) where
  pub extends : Extended (file_in (lent buffer n)) (file_in (append limit (lent buffer n) a)) file.h file.ss (file.ss ++ (new_segment file.h file.ss (pseg_place n a) a ∷ [])) a
  unfolding file_in
  extends =
      let f : List ℕ = take n buffer in
      let h = file.h in
      let ss = file.ss in
      let (t, long, total) = taken limit buffer n a size h ss file.headed file.before e in
      rw (file_after limit buffer n a size e long total)
      (subst (λ (m : ℕ). Extended f (f ++ added a) h ss (ss ++ (new_segment h ss (pseg_place m a) a ∷ [])) a) (sym long) (extended_taken limit f h ss a t))

  pub after_addition : limit < 2 ^ 64
      → let g = file_in (append limit (lent buffer n) a) in
      (ts : List Segment) × (reading limit g ≡ given ts) × Extended (file_in (lent buffer n)) g file.h file.ss ts a
  unfolding file_in
  after_addition below =
      let (t, long, total) = taken limit buffer n a size file.h file.ss file.headed file.before e in
      rw (file_after limit buffer n a size e long total) (read_taken limit (take n buffer) file.h file.ss a t below)

-- an addition is given a length exactly if append takes it, and the length is that of the file and of what is added
module _ (limit : ℕ) (buffer : List ℕ) (n : ℕ) (a : Addition) where
  given_length : Acceptable limit buffer n a → appended limit buffer n a ≡ given (n + length (added a))
  unfolding file_in
  given_length t =
      let h = t.file.h in
      let ss = t.file.ss in
      let r = t.within in
      let ok : Admits limit h ss n a = record {
        small = r.small;
        boxes = r.boxes;
        inner = r.inner;
        few = omega (arith, r.few);
        listed = r.listed;
        chunks = r.chunks;
        low = r.low;
        agreed = in-agreement (ss ++ (new_segment h ss (pseg_place n a) a ∷ [])) r.agreed;
        layers = r.layers;
      } in
      appended_offered limit buffer n a h ss t.file.enough (offered_of limit (take n buffer) h ss a t.file.headed t.file.before t.sound)
      ∙ rw (admission-of limit h ss n a ok, t.index.1, le-leb (n + length (added a)) (length buffer) t.room)

  acceptable : (size : ℕ) → appended limit buffer n a ≡ given size → Acceptable limit buffer n a × (size ≡ n + length (added a))
  unfolding file_in
  acceptable size e =
      let (h, ss, t, long, total, room) = taken_any limit buffer n a size e in
      let (ok, _) = admits limit h ss n a (rw (← long) at t.admits) in (
        record {
          file = record { enough = omega arith; h = h; ss = ss; headed = t.offered.headed; before = t.offered.before };
          sound = sound_offered limit (take n buffer) h ss a t.offered;
          within = record {
            small = ok.small;
            boxes = ok.boxes;
            inner = ok.inner;
            few = omega (arith, ok.few);
            listed = ok.listed;
            chunks = ok.chunks;
            low = ok.low;
            agreed = agreement _ ok.agreed;
            layers = ok.layers;
          };
          index = (t.index.0, ap (λ (m : ℕ). indexed limit (take n buffer) h (ss ++ (new_segment h ss (pseg_place m a) a ∷ []))) long ∙ t.index.1);
          room = omega arith;
        },
        total,
      )

  pub accepts : (size : ℕ) → (appended limit buffer n a ≡ given size) ↔ (Acceptable limit buffer n a × (size ≡ n + length (added a)))
  accepts size = (acceptable size, λ r. given_length r.0 ∙ ap (λ (m : ℕ). given m) (sym r.1))

-- a run of additions leaves a file that append takes
module _ (limit : ℕ) (below : limit < 2 ^ 64) where
  stands_one : (l : Lent) (a : Addition) (ss : List Segment) → earlier_segments limit (file_in l) ≡ given ss
      → (ts : List Segment) × (earlier_segments limit (file_in (append limit l a)) ≡ given ts)
  unfolding file_in append after size_after
  stands_one (lent buffer n) a ss before = go (appended limit buffer n a) refl
    where
      go : (answer : Answer ℕ) → appended limit buffer n a ≡ answer → (ts : List Segment) × (earlier_segments limit (file_in (append limit (lent buffer n) a)) ≡ given ts)
      go (refused k) e = (ss, rw e before)
      go (given size) e =
          let (acceptable, _) = (accepts limit buffer n a size).0 e in
          let (ts, read, _) = after_addition limit buffer n a size acceptable.file e below in
          (ts, (takes limit (file_in (append limit (lent buffer n) a))).acceptable ts read)

  pub stands : (l : Lent) (additions : List Addition) (ss : List Segment) → earlier_segments limit (file_in l) ≡ given ss
      → (ts : List Segment) × (earlier_segments limit (file_in (append_all limit l additions)) ≡ given ts)
  unfolding append_all
  stands l [] ss before = (ss, before)
  stands l (a ∷ more) ss before =
      let (ts, after) = stands_one l a ss before in
      stands (append limit l a) more ts after
