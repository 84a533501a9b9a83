-- Each public call's contract determines its answer: two that it allows of the same arguments are equal. The index of a
-- file is determined where its heading and its segments are known, and its rows where all of them fit.
use Prim.Native.Nat.{ℕ, ◌≤◌}
use mathlib.Core.List.{List}
use mathlib.Core.Path.{◌≡◌, sym, ap, subst, ◌∙◌}
use native.Mathlib.Omega.{arith}
use lib.ListN.{length}
use Rattle.std.specs.Prelude.{Result, Ok, Err}
use Rattle.refusals.specs.declared.Refusal.{Refusal}
use Rattle.refusals.proofs.NumberLaws.{refusal_told}
use Rattle.boxes.specs.Answer.{Answer, given}
use Rattle.boxes.proofs.AnswerLaws.{not_both, refused_same, given_same}
use Rattle.numerals.proofs.Determined.{OneKnown, OneLeftKnown}
use Rattle.partial.specs.Heading.{Heading, heading}
use Rattle.partial.specs.Index.{SourceBox, boxes_alone}
use Rattle.partial.specs.Limits.{source_limit}
use Rattle.partial.specs.Reading.{segments}
use Rattle.partial.specs.Segments.{Segment}
use Rattle.filling.specs.Rows.{Put}
use Rattle.indexing.specs.declared.marks.Marks.{Marks}
use Rattle.indexing.specs.Marks.{marks_with}
use Rattle.fileindex.specs.File.{index_by, end_in, NumberedBy, rows_by, no_marks, Tells}
use Rattle.fileindex.proofs.file.index_of.Reads as index_of

module _ (number : List (List ℕ) → ℕ) (index : Answer (List SourceBox)) (t₀ : List ℕ) where
  one_told : (t t' : List ℕ) (x y : Result Marks Refusal) → Tells number index t₀ t x → Tells number index t₀ t' y → x ≡ y
  unfolding Tells
  one_told t t' (Err n) (Err m) p q = ap Err (refusal_told n m (refused_same (sym p ∙ q)))
  one_told t t' (Err n) (Ok m) p (boxes, read, _) = absurd (not_both (sym p ∙ read))
  one_told t t' (Ok m) (Err n) (boxes, read, _) q = absurd (not_both (sym q ∙ read))
  one_told t t' (Ok m) (Ok m') (boxes, read, marked) (boxes', read', marked') =
      ap Ok (marked.marks ∙ ap (λ (is : List SourceBox). marks_with no_marks (boxes_alone is)) (given_same (sym read ∙ read')) ∙ sym marked'.marks)

  -- the rows of an index that is known are put
  rows_put : (t : List ℕ) (x : Result Marks Refusal) {boxes : List SourceBox} → Tells number index t₀ t x → index ≡ given boxes → Put t₀ 0 (rows_by number boxes) t
  unfolding Tells
  rows_put t (Err n) fault read = absurd (not_both (sym fault ∙ read))
  rows_put t (Ok m) (boxes', read', marked) read =
      subst (λ (boxes : List SourceBox). Put t₀ 0 (rows_by number boxes) t) (given_same (sym read' ∙ read)) marked.rows

-- the heading and the segments of a file, and the numbers of its sources
pub record What : Type 0 where
  pub h : Heading
  pub ss : List Segment
  pub number : List (List ℕ) → ℕ

pub record Known (f sources : List ℕ) (in_pfil : ℕ) (what : What) : Type 0 where
  pub head : heading f ≡ given what.h
  pub read : segments source_limit f what.h ≡ given what.ss
  pub numbered : NumberedBy what.number what.h what.ss sources in_pfil

index-of-result : OneKnown index_of.Post (λ κs args (what : What). Known args.0.now args.1.1.0.now args.1.1.1.0 what)
index-of-result κs args what known x y after after' p q =
    one_told _ _ _ _ _ x y (p what.h what.ss what.number known.head known.read known.numbered)
    (q what.h what.ss what.number known.head known.read known.numbered)

index-of_rows : OneLeftKnown index_of.Post (λ κs args (what : What × List SourceBox).
    Known args.0.now args.1.1.0.now args.1.1.1.0 what.0
    × (index_by args.0.now what.0.h (λ us. end_in args.1.0.now (what.0.number us)) what.0.ss ≡ given what.1)
    × (length (rows_by what.0.number what.1) ≤ length args.1.1.1.1.0.now)) (λ κs after. after.1.1.1.1.0.now)
index-of_rows κs args (what, boxes) (known, read, room) x y after after' p q =
    (rows_put _ _ _ _ x (p what.h what.ss what.number known.head known.read known.numbered) read).held (omega arith)
    ∙ sym ((rows_put _ _ _ _ y (q what.h what.ss what.number known.head known.read known.numbered) read).held (omega arith))
