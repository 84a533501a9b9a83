-- The part that serving hands back is empty exactly when the file is refused, a table is too short or the position is
-- not supplied.
use Prim.Native.Nat.{ℕ}
use mathlib.Core.Bool.{true, false, ◌&&◌}
use mathlib.Core.List.{List, []}
use mathlib.Core.Logic.{◌↔◌, ◌⊎◌, inl, inr, ⊎_elim}
use mathlib.Core.Path.{◌≡◌, refl, ap, ◌∙◌}
use native.Mathlib.Omega.{arith}
use lib.ListN.{length}
use Rattle.boxes.specs.Answer.{Answer, refused, given}
use Rattle.boxes.proofs.AnswerLaws.{both_given, held}
use Rattle.partial.specs.Segments.{Segment}
use Rattle.partial.specs.Heading.{Heading, heading, bytes_in}
use Rattle.partial.specs.Meaning.{supplied}
use Rattle.partial.specs.Sources.{of_source}
use Rattle.partial.specs.Reading.{reading}
use Rattle.partial.specs.Memory.{fits}
use Rattle.partial.specs.Tables.{segment_rows, chunk_rows, tabled, nowhere, part_of, served_part}
use Rattle.partial.proofs.Meaning.SequenceLaws.{which}
use Rattle.partial.proofs.Reading.ReadingLaws.{reading_read, mapped_of}

-- an accepted file's heading
pub headed_read : (limit : ℕ) (f : List ℕ) {ss : List Segment} → reading limit f ≡ given ss → (h : Heading) × (heading f ≡ given h)
headed_read limit f e =
    let (h, _, r) = reading_read limit f e in
    (h, r.headed)

-- a file whose tables are long enough is accepted
pub tabled_read : (limit : ℕ) (f a b : List ℕ) {ss : List Segment} → tabled limit f a b ≡ given ss → reading limit f ≡ given ss
unfolding tabled
tabled_read limit f a b e =
    let (ss, read, e1) = both_given (reading limit f) _ e in
    let (_, e2) = held 26 (fits (segment_rows ss) a && fits (chunk_rows ss) b) _ e1 in
    read ∙ e2

module _ (limit : ℕ) (f a b : List ℕ) (source p : ℕ) where
  -- of a supplied position it is not
  some_part : (ss : List Segment) → tabled limit f a b ≡ given ss → supplied (of_source source ss) p ≡ true → bytes_in f (part_of (of_source source ss) p) ≡ [] → ⊥
  some_part ss e there none =
      let read = tabled_read limit f a b e in
      let (h, head) = headed_read limit f read in
      let s = (mapped_of limit f head read source).serving p (rw there tt) in
      omega (arith, ap length none, s.long, s.not_empty)

  pub part-empty : (bytes_in f (served_part (tabled limit f a b) source p) ≡ [])
      ↔ (((n : ℕ) × (tabled limit f a b ≡ refused n)) ⊎ ((ss : List Segment) × (tabled limit f a b ≡ given ss) × (supplied (of_source source ss) p ≡ false)))
  unfolding served_part part_of bytes_in nowhere
  part-empty = (λ empty. why (tabled limit f a b) refl empty, ⊎_elim (λ r. rw r.1) (λ r. rw (r.1, part_of, r.2)))
    where
      why : (x : Answer (List Segment)) → tabled limit f a b ≡ x → bytes_in f (served_part (tabled limit f a b) source p) ≡ []
          → ((n : ℕ) × (tabled limit f a b ≡ refused n)) ⊎ ((ss : List Segment) × (tabled limit f a b ≡ given ss) × (supplied (of_source source ss) p ≡ false))
      why (refused n) e empty = inl (n, e)
      why (given ss) e empty =
          elim (which (supplied (of_source source ss) p)) [
            | inl there ↦ absurd (some_part ss e there (rw e at empty))
            | inr lacks ↦ inr (ss, e, lacks)
          ]
