-- Laws of the rows of an index, into which the number of their source is put, one behind the other.
use Prim.Native.Nat.{ℕ, ◌+◌, ◌*◌, ◌≤◌, ◌<◌}
use mathlib.Core.List.{List, [], ◌∷◌, ◌++◌, append-nil, append_assoc}
use mathlib.Core.Logic.{inl, inr}
use mathlib.Core.Path.{◌≡◌, refl, sym, ap, ◌∙◌}
use native.Mathlib.Omega.{arith}
use lib.Dec.{leb}
use lib.ListN.{length, take, drop, set, length-append, length-take}
use lib.Seq.{set_at}
use Rattle.numerals.specs.Stored.{stored}
use Rattle.numerals.proofs.StoredLaws.{stored-room}
use Rattle.filling.specs.Rows.{Put}
use Rattle.partial.specs.Index.{Indexed, indexed_size, level_limit, index_row_length, SourceBox, boxes_alone, belonging}
use Rattle.partial.proofs.Meaning.SequenceLaws.{which}
use Rattle.partial.specs.Limits.{segment_limit}
use Rattle.partial.proofs.Reading.IndexedLaws.{alone_append}
use Rattle.filling.proofs.RowLaws.{put_none, put_stored, put_same, put_more}
use Rattle.indexing.specs.Marks.{plain_row, plain_rows, shown, marks_with, Marked}
use Rattle.indexing.specs.declared.marks.Marks.{Marks}
use Rattle.indexing.proofs.MarksLaws.{rows_long as plain-long, marked_none, marked_more}
use Rattle.fileindex.specs.File.{source_row, source_rows, rows_by, MarkedBy, SourcePut}

module _ (source : ℕ) where
  pub source_long : (is : List Indexed) → length (source_rows source is) ≡ index_row_length * length is
  unfolding source_rows source_row
  source_long [] = refl
  source_long (i ∷ is) = omega (arith, length-append (source_row source i) (source_rows source is), source_long is)

  rows_last : (is : List Indexed) (i : Indexed) → source_rows source (is ++ (i ∷ [])) ≡ source_rows source is ++ source_row source i
  unfolding source_rows
  rows_last [] i = append-nil (source_row source i)
  rows_last (x ∷ is) i = ap (λ (rows : List ℕ). source_row source x ++ rows) (rows_last is i) ∙ sym (append_assoc (source_row source x) (source_rows source is) (source_row source i))

  -- the rows of some have it, and those of the others do not
  abbrev partly : List ℕ → List Indexed → List Indexed → List ℕ → List ℕ
  partly front done left rest = front ++ (source_rows source done ++ (plain_rows left ++ rest))

  next_put : (front : List ℕ) (done left : List Indexed) (i : Indexed) (rest : List ℕ) (at : ℕ) → at ≡ length front + (index_row_length * length done + 4)
      → {v : ℕ} → v ≡ source + 3
      → set (partly front done (i ∷ left) rest) at v ≡ partly front (done ++ (i ∷ [])) left rest
  unfolding plain_rows plain_row source_row
  next_put front done left i rest at here {v} e =
      let start : List ℕ = i.level ∷ i.place ∷ indexed_size i ∷ i.kind ∷ [] in
      let before : List ℕ = front ++ (source_rows source done ++ start) in
      let behind : List ℕ = plain_rows left ++ rest in
      let long : length before ≡ at = omega (arith, here, length-append front (source_rows source done ++ start), length-append (source_rows source done) start, source_long done) in
      let split : (v : ℕ) → before ++ (v ∷ behind) ≡ front ++ (source_rows source done ++ (start ++ (v ∷ behind))) =
      λ v. append_assoc front (source_rows source done ++ start) (v ∷ behind) ∙ ap (λ (xs : List ℕ). front ++ xs) (append_assoc (source_rows source done) start (v ∷ behind)) in
      ap (λ (t : List ℕ). set t at v) (sym (split 0))
      ∙ set_at before 0 behind v at long
      ∙ ap (λ (w : ℕ). before ++ (w ∷ behind)) e
      ∙ split (source + 3)
      ∙ ap (λ (xs : List ℕ). front ++ xs) (sym (append_assoc (source_rows source done) (source_row source i) behind) ∙ ap (λ (rows : List ℕ). rows ++ behind) (sym (rows_last done i)))

-- so many of the rows have it
pub record Partway (source : ℕ) (front rest : List ℕ) (is : List Indexed) (t : List ℕ) (n : ℕ) : Type 0 where
  pub done : List Indexed
  pub left : List Indexed
  pub all : is ≡ done ++ left
  pub many : n ≡ length done
  pub rows : t ≡ partly source front done left rest

module _ (source from : ℕ) (t₀ : List ℕ) (is : List Indexed) (room : index_row_length * from + index_row_length * length is ≤ length t₀) where
  abbrev before : List ℕ
  before = take (index_row_length * from) t₀

  abbrev after : List ℕ
  after = drop (index_row_length * from + length (plain_rows is)) t₀

  front_long : length before ≡ index_row_length * from
  front_long = omega (arith, length-take (index_row_length * from) t₀)

  pub partway_none : {t : List ℕ} (n : ℕ) → n ≡ 0 → Put t₀ (index_row_length * from) (plain_rows is) t → Partway source before after is t n
  unfolding source_rows
  partway_none n none put =
      record {
        done = [];
        left = is;
        all = refl;
        many = none;
        rows = put.held (omega (arith, plain-long is)) ∙ stored-room t₀ (index_row_length * from) (plain_rows is) (omega (arith, plain-long is));
      }

  pub partway_more : {t : List ℕ} {n : ℕ} → Partway source before after is t n → n < length is → {v : ℕ} → v ≡ source + 3
      → (at next : ℕ) → at ≡ index_row_length * (from + n) + 4 → next ≡ n + 1 → Partway source before after is (set t at v) next
  partway_more {t} {n} m less {v} e at next here on = go m.done m.left m.all m.many m.rows
    where
      go : (done left : List Indexed) → is ≡ done ++ left → n ≡ length done → t ≡ partly source before done left after
          → Partway source before after is (set t at v) next
      go done [] all many rows = absurd (omega (arith, ap length all, length-append done []))
      go done (i ∷ left) all many rows =
          record {
            done = done ++ (i ∷ []);
            left = left;
            all = all ∙ sym (append_assoc done (i ∷ []) left);
            many = omega (arith, length-append done (i ∷ []));
            rows =
                ap (λ (t : List ℕ). set t at v) rows ∙ next_put source before done left i after at (omega (arith, front_long, many)) e;
          }

  pub partway_end : {t : List ℕ} {n : ℕ} → Partway source before after is t n → length is ≤ n → t ≡ stored t₀ (index_row_length * from) (source_rows source is)
  unfolding plain_rows
  partway_end {t} {n} m over = go m.done m.left m.all m.many m.rows
    where
      go : (done left : List Indexed) → is ≡ done ++ left → n ≡ length done → t ≡ partly source before done left after → t ≡ stored t₀ (index_row_length * from) (source_rows source is)
      go done (i ∷ left) all many rows = absurd (omega (arith, ap length all, length-append done (i ∷ left)))
      go done [] all many rows =
          let same : done ≡ is = sym (all ∙ append-nil done) in
          let long : length (plain_rows is) ≡ length (source_rows source is) = plain-long is ∙ sym (source_long source is) in
          rows
          ∙ (λ j. before ++ (source_rows source (same j) ++ drop (index_row_length * from + long j) t₀))
          ∙ sym (stored-room t₀ (index_row_length * from) (source_rows source is) (omega (arith, source_long source is)))

-- where there is no row, none gets the number
pub no-source_put : (k source : ℕ) (t : List ℕ) → SourcePut k k source t t
unfolding plain_rows source_rows
no-source_put k source t = record { long = refl; rows = λ t₀ is small many put. go t₀ is many put }
  where
    go : (t₀ : List ℕ) (is : List Indexed) → k ≡ k + length is → Put t₀ (index_row_length * k) (plain_rows is) t → Put t₀ (index_row_length * k) (source_rows source is) t
    go t₀ [] many put = put
    go t₀ (i ∷ is) many put = absurd (omega arith)

-- ---- the rows of boxes with their sources

pub by_append : (number : List (List ℕ) → ℕ) (is js : List SourceBox) → rows_by number (is ++ js) ≡ rows_by number is ++ rows_by number js
unfolding rows_by
by_append number [] js = refl
by_append number (i ∷ is) js =
    elim (which (leb i.box.level level_limit)) [
      | inl e ↦ rw (rows_by, e) (ap (λ (rows : List ℕ). source_row (number i.urls) i.box ++ rows) (by_append number is js) ∙ sym (append_assoc (source_row (number i.urls) i.box) (rows_by number is) (rows_by number js)))
      | inr e ↦ rw (rows_by, e) (by_append number is js)
    ]

-- of one source
pub by_one : (number : List (List ℕ) → ℕ) (us : List (List ℕ)) (is : List Indexed) → rows_by number (belonging us is) ≡ source_rows (number us) (shown is)
unfolding rows_by belonging source_rows shown
by_one number us [] = refl
by_one number us (i ∷ is) =
    elim (which (leb i.level level_limit)) [
      | inl e ↦ rw (rows_by, shown, e) (ap (λ (rows : List ℕ). source_row (number us) i ++ rows) (by_one number us is))
      | inr e ↦ rw (rows_by, shown, e) (by_one number us is)
    ]

-- of those that are looked into, some behind others
pub shown_rows : (source : ℕ) (is js : List SourceBox) → source_rows source (shown (boxes_alone (is ++ js))) ≡ source_rows source (shown (boxes_alone is)) ++ source_rows source (shown (boxes_alone js))
unfolding boxes_alone shown source_rows
shown_rows source [] js = refl
shown_rows source (i ∷ is) js =
    elim (which (leb i.box.level level_limit)) [
      | inl e ↦
          rw (shown, e)
          (ap (λ (rows : List ℕ). source_row source i.box ++ rows) (shown_rows source is js)
          ∙ sym (append_assoc (source_row source i.box) (source_rows source (shown (boxes_alone is))) (source_rows source (shown (boxes_alone js)))))
      | inr e ↦ rw (shown, e) (shown_rows source is js)
    ]

-- how long they are
pub by_long : (number : List (List ℕ) → ℕ) (is : List SourceBox) → length (rows_by number is) ≡ index_row_length * length (shown (boxes_alone is))
unfolding rows_by boxes_alone shown source_row
by_long number [] = refl
by_long number (i ∷ is) =
    elim (which (leb i.box.level level_limit)) [
      | inl e ↦ rw (rows_by, shown, e) (omega (arith, length-append (source_row (number i.urls) i.box) (rows_by number is), by_long number is))
      | inr e ↦ rw (rows_by, shown, e) (by_long number is)
    ]

-- ---- what is marked

module _ (number : List (List ℕ) → ℕ) where
  pub marked_by_none : (before : Marks) (t : List ℕ) → MarkedBy number before t [] before t
  unfolding rows_by boxes_alone
  marked_by_none before t = record { marks = (marked_none before t).marks; rows = put_none t (index_row_length * before.count) }

  -- of boxes of one source, whose rows were put without it
  pub marked_by_one : (source : ℕ) (is : List SourceBox) {before m : Marks} {t₀ t t' : List ℕ} → Marked before t₀ (boxes_alone is) m t
      → rows_by number is ≡ source_rows source (shown (boxes_alone is))
      → source ≤ segment_limit
      → SourcePut before.count m.count source t t'
      → MarkedBy number before t₀ is m t'
  marked_by_one source is {t₀ = t₀} marked same small put =
      record {
        marks = marked.marks;
        rows = put_same refl (sym same) (put.rows t₀ (shown (boxes_alone is)) small (ap (λ (m : Marks). m.count) marked.marks) marked.rows);
      }

  -- of some behind others
  pub marked_by_more : {before m m' : Marks} {t₀ t t' : List ℕ} {is js : List SourceBox} → MarkedBy number before t₀ is m t → MarkedBy number m t js m' t'
      → MarkedBy number before t₀ (is ++ js) m' t'
  marked_by_more {before} {m} {m'} {t₀} {t} {t'} {is} {js} one two =
      record {
        marks =
            (marked_more {before = before} (record { marks = one.marks; rows = put_stored [] _ _ refl }) (record { marks = two.marks; rows = put_stored _ _ _ refl })).marks
            ∙ ap (marks_with before) (sym (alone_append is js));
        rows =
            put_same refl (sym (by_append number is js))
            (put_more (index_row_length * before.count) (rows_by number is) (rows_by number js) one.rows
            (put_same (omega (arith, by_long number is, ap (λ (x : Marks). x.count) one.marks)) refl two.rows));
      }
