-- What a higher source limit leaves as it was: an addition has the same answer and the same bytes, or had 23 or 36; and
-- with the laws of reading all that is stated.
use Prim.Native.Nat.{ℕ, ◌+◌, ◌≤◌}
use mathlib.Core.Bool.{◌&&◌}
use mathlib.Core.List.{List}
use mathlib.Core.Logic.{inl}
use mathlib.Core.Path.{◌≡◌, refl}
use lib.Dec.{leb, ltb}
use lib.ListN.{length, take}
use Rattle.boxes.specs.Answer.{given, hold}
use Rattle.boxes.specs.Framing.{box_limit}
use Rattle.partial.specs.Limits.{file_limit, segment_limit, chunk_limit}
use Rattle.partial.specs.Segments.{Segment, chunks_of, end_of}
use Rattle.partial.specs.Heading.{Heading, heading}
use Rattle.partial.specs.Reading.{earlier_segments}
use Rattle.additions.specs.Append.{admitted}
use Rattle.partial.specs.Index.{indexed}
use Rattle.additions.specs.Begin.{is_text}
use Rattle.additions.specs.Addition.{Addition, lists_right, bytes_right, outside_right}
use Rattle.additions.specs.Append.{added_boxes, inner_boxes, added, pseg_place, new_segment, admission, appended}
use Rattle.additions.specs.Runs.{lent, append}
use Rattle.additions.specs.Raised.{Raised}
use Rattle.partial.proofs.Reading.RaisedLaws.{Same, kept, same_then, same_after, same_held, earlier_same, indexed_same, raised_reading}

module _ (low high : ℕ) (raised : low ≤ high) where
  admitted_same : (before : List Segment) (s : Segment) → Same (admitted low before s) (admitted high before s)
  unfolding admitted
  admitted_same before s =
      same_after (hold 13 (leb (length before + 1) segment_limit)) _ _
      (λ _.
      same_after (hold 41 (ltb 0 (length s.urls))) _ _
      (λ _.
      same_after (hold 22 (leb (length (chunks_of before) + length s.chunks) chunk_limit)) _ _
      (λ _. same_held low high raised (end_of s) _ _ (inl refl))))

  admission_same : (h : Heading) (ss : List Segment) (n : ℕ) (a : Addition) → Same (admission low h ss n a) (admission high h ss n a)
  unfolding admission
  admission_same h ss n a =
      same_after (hold 1 (leb (n + length (added a)) file_limit)) _ _
      (λ _.
      same_after (hold 6 (leb (length h.boxes + added_boxes a) box_limit && leb (inner_boxes a) box_limit)) _ _
      (λ _. admitted_same ss (new_segment h ss (pseg_place n a) a)))

  appended_same : (buffer : List ℕ) (n : ℕ) (a : Addition) → Same (appended low buffer n a) (appended high buffer n a)
  unfolding appended
  appended_same buffer n a =
      let f = take n buffer in
      same_after (hold 30 (leb n (length buffer))) _ _
      (λ _.
      same_after (heading f) _ _
      (λ h.
      same_then (earlier_segments low f) (earlier_segments high f) _ _ (earlier_same low high raised f)
      (λ ss.
      same_after (hold 31 (lists_right a)) _ _
      (λ _.
      same_after (hold 32 (bytes_right a)) _ _
      (λ _.
      same_after (hold 35 (outside_right h a)) _ _
      (λ _.
      same_after (hold 34 (is_text a.texts)) _ _
      (λ _.
      same_then (admission low h ss n a) (admission high h ss n a) _ _ (admission_same h ss n a)
      (λ ts. same_then (indexed low f h ts) (indexed high f h ts) _ _ (indexed_same low high raised f h ts) (λ _. inl refl)))))))))

  bytes_same : (buffer : List ℕ) (n : ℕ) (a : Addition) (size : ℕ) → appended low buffer n a ≡ given size → append high (lent buffer n) a ≡ append low (lent buffer n) a
  unfolding append
  bytes_same buffer n a size e = rw (e, (kept _ _ (appended_same buffer n a)).accepted size e)

  pub raised_limit : Raised low high
  raised_limit =
      record {
        of_reading = raised_reading low high raised;
        appends = λ buffer n a. kept _ _ (appended_same buffer n a);
        bytes = bytes_same;
      }
