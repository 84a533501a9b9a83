-- What append leaves of the lent buffer: it is as long as it was, and keeps its earlier bytes and those past the new
-- end.
use Prim.Native.Nat.{ℕ, ◌+◌, ◌-◌, ◌≤◌, ◌<◌}
use mathlib.Core.List.{List, ◌++◌}
use mathlib.Core.Path.{◌≡◌, refl, ◌∙◌}
use native.Mathlib.Omega.{arith}
use lib.ListN.{length, take, drop, get_or, length-append, get_or-append}
use lib.Seq.{get_or-append-add, get_or-drop, get_or-take}
use Rattle.boxes.specs.Answer.{Answer, refused, given}
use Rattle.partial.specs.Memory.{after, filled}
use Rattle.additions.specs.Addition.{Addition}
use Rattle.additions.specs.Append.{added, appended, result}
use Rattle.additions.specs.Runs.{Lent, lent, buffer_in, append}
use Rattle.additions.proofs.ReadsBackLaws.{taken_any}
use Rattle.additions.proofs.RunAgainLaws.{filled_long}

-- what fills a buffer leaves what stands behind it
filled-behind : (g buffer : List ℕ) (i : ℕ) → length g ≤ i → get_or (filled g buffer) i 0 ≡ get_or buffer i 0
unfolding filled
filled-behind g buffer i from =
    let at : length g + (i - length g) ≡ i = omega arith in
    rw at at (get_or-append-add g (drop (length g) buffer) (i - length g) 0 ∙ get_or-drop (length g) buffer (i - length g) 0)

module _ (limit : ℕ) (buffer : List ℕ) (n : ℕ) (a : Addition) (size : ℕ) (e : appended limit buffer n a ≡ given size) where
  whole : length (take n buffer ++ added a) ≡ size
  whole =
      let (h, ss, t, long, total, room) = taken_any limit buffer n a size e in
      omega (arith, length-append (take n buffer) (added a))

  buffer_after : buffer_in (append limit (lent buffer n) a) ≡ filled (take n buffer ++ added a) buffer
  unfolding buffer_in append after result
  buffer_after = rw e

  pub earlier-kept : (i : ℕ) → i < n → get_or (buffer_in (append limit (lent buffer n) a)) i 0 ≡ get_or buffer i 0
  unfolding filled
  earlier-kept i less =
      let (h, ss, t, long, total, room) = taken_any limit buffer n a size e in
      let f : List ℕ = take n buffer in
      let rest : List ℕ = drop (length (f ++ added a)) buffer in
      let front : i < length (f ++ added a) = omega (arith, length-append f (added a)) in
      rw buffer_after (get_or-append (f ++ added a) rest 0 i front ∙ get_or-append f (added a) 0 i (omega arith) ∙ get_or-take n buffer i 0 less)

  pub behind-kept : (i : ℕ) → size ≤ i → get_or (buffer_in (append limit (lent buffer n) a)) i 0 ≡ get_or buffer i 0
  behind-kept i from = rw buffer_after (filled-behind (take n buffer ++ added a) buffer i (omega (arith, whole)))

pub as_long : (limit : ℕ) (l : Lent) (a : Addition) → length (buffer_in (append limit l a)) ≡ length (buffer_in l)
unfolding buffer_in append after
as_long limit (lent buffer n) a = go (appended limit buffer n a) refl
  where
    go : (answer : Answer ℕ) → appended limit buffer n a ≡ answer → length (buffer_in (append limit (lent buffer n) a)) ≡ length buffer
    go (refused k) e = rw e
    go (given size) e =
        let (h, ss, t, long, total, room) = taken_any limit buffer n a size e in
        rw (buffer_after limit buffer n a size e) (filled_long (take n buffer ++ added a) buffer (omega (arith, whole limit buffer n a size e)))
