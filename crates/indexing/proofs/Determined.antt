-- Each public call's contract determines its answer: two that it allows of the same arguments are equal. The index in a
-- container is determined where the boxes of the container are known, and its rows where all of them fit.
use Prim.Native.Nat.{ℕ, ◌+◌, ◌*◌, ◌≤◌}
use mathlib.Core.Bool.{false≢true}
use mathlib.Core.List.{List}
use Rattle.std.specs.Prelude.{Option, None, Some, Result, Ok, Err, is_some}
use Rattle.refusals.specs.declared.Refusal.{Refusal}
use Rattle.refusals.proofs.NumberLaws.{refusal_told}
use mathlib.Core.Path.{◌≡◌, refl, sym, ap, subst, ◌∙◌}
use lib.ListN.{length}
use Rattle.boxes.specs.Answer.{given}
use Rattle.boxes.specs.Framing.{Box}
use Rattle.boxes.specs.declared.kinds.Container.{Container}
use Rattle.boxes.proofs.AnswerLaws.{not_both, refused_same, given_same}
use Rattle.numerals.proofs.Determined.{OneKnown, OneLeftKnown}
use Rattle.partial.specs.Index.{Indexed, index_in, index_row_length}
use Rattle.partial.specs.Limits.{source_limit}
use Rattle.filling.specs.Rows.{Put}
use Rattle.indexing.specs.Ends.{end_of}
use Rattle.indexing.specs.Index.{Contained, Indexes, marked_with}
use Rattle.indexing.specs.Marks.{plain_rows, shown, marks_with}
use Rattle.indexing.specs.declared.marks.Marks.{Marks}
use Rattle.indexing.proofs.index.index_in.Reads as index_in

one_found : (before : Marks) (x y : Option Marks) → is_some x ≡ is_some y → marked_with before x ≡ marked_with before y → x ≡ y
one_found before None None there marks = refl
one_found before None (Some m) there marks = absurd (false≢true there)
one_found before (Some m) None there marks = absurd (false≢true (sym there))
one_found before (Some m) (Some m') there marks = ap Some marks

module _ (f : List ℕ) (c : Container) (bs : List Box) (size : Option ℕ) (place : ℕ) (before : Marks) (t₀ : List ℕ) where
  one_index : (t t' : List ℕ) (x y : Result (Option Marks) Refusal) → Indexes f c bs size place before t₀ t x → Indexes f c bs size place before t₀ t' y → x ≡ y
  unfolding Indexes
  one_index t t' (Err n) (Err m) p q = ap Err (refusal_told n m (refused_same (sym p ∙ q)))
  one_index t t' (Err n) (Ok found) p (is, read, _, _) = absurd (not_both (sym p ∙ read))
  one_index t t' (Ok found) (Err n) (is, read, _, _) q = absurd (not_both (sym q ∙ read))
  one_index t t' (Ok found) (Ok found') (is, read, has, marked) (is', read', has', marked') =
      let same : is ≡ is' = given_same (sym read ∙ read') in
      ap Ok (one_found before found found' (has ∙ sym has') (marked.marks ∙ ap (marks_with before) same ∙ sym marked'.marks))

  -- the rows of an index that is known are put
  rows_put : (t : List ℕ) (x : Result (Option Marks) Refusal) {is : List Indexed} → Indexes f c bs size place before t₀ t x → index_in source_limit f c bs size place ≡ given is
      → Put t₀ (index_row_length * before.count) (plain_rows (shown is)) t
  unfolding Indexes
  rows_put t (Err n) fault read = absurd (not_both (sym fault ∙ read))
  rows_put t (Ok found) (is', read', _, marked) read =
      subst (λ (is : List Indexed). Put t₀ (index_row_length * before.count) (plain_rows (shown is)) t) (given_same (sym read' ∙ read)) marked.rows

-- the index of a container is known, and a table has room for its rows
abbrev Fits : List ℕ → Container → Option ℕ → ℕ → Marks → List ℕ → List Box × List Indexed → Type 0
Fits f c size place before table (bs, is) =
    (index_in source_limit f c bs size place ≡ given is) × (index_row_length * before.count + length (plain_rows (shown is)) ≤ length table)

index_in_result : OneKnown index_in.Post (λ κs args (bs : List Box). Contained args.0.now args.1.0 args.1.1.1.0.0 args.1.1.1.1.0.count bs)
index_in_result κs args bs known x y after after' p q = one_index _ _ bs _ _ _ _ _ _ x y (p bs known).0 (q bs known).0

index_in_rows : OneLeftKnown index_in.Post (λ κs args (what : List Box × List Indexed).
    Contained args.0.now args.1.0 args.1.1.1.0.0 args.1.1.1.1.0.count what.0
    × Fits args.0.now args.1.0.container (end_of args.1.1.0) args.1.1.1.0.0 args.1.1.1.1.0 args.1.1.1.1.1.0.now what) (λ κs after. after.1.1.1.1.1.0.now)
index_in_rows κs args (bs, is) (known, (read, room)) x y after after' p q =
    (rows_put _ _ bs _ _ _ _ _ x (p bs known).0 read).held room ∙ sym ((rows_put _ _ bs _ _ _ _ _ y (q bs known).0 read).held room)
