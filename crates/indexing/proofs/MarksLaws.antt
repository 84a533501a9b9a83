-- Laws of what is marked of indexed boxes, of some behind others.
use Prim.Native.Nat.{ℕ, suc, ◌+◌, ◌*◌, ◌≤◌, ◌<◌}
use mathlib.Core.Bool.{Bool, true, false, not, ◌&&◌, ◌||◌, or-false, or_assoc}
use mathlib.Core.List.{List, [], ◌∷◌, ◌++◌, map, append_assoc}
use mathlib.Core.Path.{◌≡◌, refl, sym, ap, ◌∙◌}
use native.Mathlib.Omega.{arith}
use borrow.Author.Tests.{le-leb, lt-leb, eq-eqb, ne_eqb}
use lib.Dec.{leb, eqb}
use lib.ListN.{length, length-append}
use Rattle.boxes.specs.Framing.{Box}
use Rattle.partial.specs.Index.{Indexed, is_known, untold, level_limit, index_row_length}
use Rattle.partial.specs.Sequences.{all_of}
use Rattle.partial.proofs.Meaning.SequenceLaws.{all_append}
use Rattle.filling.specs.Rows.{Put}
use Rattle.filling.proofs.RowLaws.{put_none, put_more, put_same}
use Rattle.indexing.specs.Marks.{plain_row, plain_rows, deep_in, unknown_in, shown, marks_with, Marked}
use Rattle.indexing.specs.declared.marks.Marks.{Marks}

not_and : (a b : Bool) → not (a && b) ≡ (not a || not b)
not_and true b = refl
not_and false b = refl

module _ (is js : List Indexed) where
  deep-append : deep_in (is ++ js) ≡ (deep_in is || deep_in js)
  unfolding deep_in
  deep-append = ap not (all_append _ is js) ∙ not_and (all_of _ is) (all_of _ js)

  unknown_append : unknown_in (is ++ js) ≡ (unknown_in is || unknown_in js)
  unfolding unknown_in
  unknown_append = ap not (all_append _ is js) ∙ not_and (all_of _ is) (all_of _ js)

rows_append : (is js : List Indexed) → plain_rows (is ++ js) ≡ plain_rows is ++ plain_rows js
unfolding plain_rows
rows_append [] js = refl
rows_append (i ∷ is) js = ap (λ (rows : List ℕ). plain_row i ++ rows) (rows_append is js) ∙ sym (append_assoc (plain_row i) (plain_rows is) (plain_rows js))

pub rows_long : (is : List Indexed) → length (plain_rows is) ≡ index_row_length * length is
unfolding plain_rows plain_row
rows_long [] = refl
rows_long (i ∷ is) = omega (arith, length-append (plain_row i) (plain_rows is), rows_long is)

-- ---- those that are looked into

module _ (i : Indexed) (is : List Indexed) where
  shown_one : i.level ≤ level_limit → shown (i ∷ is) ≡ i ∷ shown is
  unfolding shown
  shown_one h = rw (shown, le-leb i.level level_limit h)

  shown_other : level_limit < i.level → shown (i ∷ is) ≡ shown is
  unfolding shown
  shown_other h = rw (shown, lt-leb i.level level_limit h)

abbrev shown_by : Bool → Indexed → List Indexed → List Indexed
shown_by t i is = elim t [ true ↦ i ∷ is | false ↦ is ]

shown-append : (is js : List Indexed) → shown (is ++ js) ≡ shown is ++ shown js
unfolding shown
shown-append [] js = refl
shown-append (i ∷ is) js = go (leb i.level level_limit) (shown-append is js)
  where
    go : (t : Bool) → shown (is ++ js) ≡ shown is ++ shown js
        → shown_by t i (shown (is ++ js)) ≡ shown_by t i (shown is) ++ shown js
    go true e = ap (λ (rest : List Indexed). i ∷ rest) e
    go false e = e

-- where none is of a ninth level all are looked into
pub shown_all : (is : List Indexed) → deep_in is ≡ false → shown is ≡ is
unfolding deep_in all_of shown
shown_all [] h = refl
shown_all (i ∷ is) h = go (leb i.level level_limit) (shown_all is) h
  where
    go : (t : Bool) → (deep_in is ≡ false → shown is ≡ is) → not (t && all_of (λ (i : Indexed). leb i.level level_limit) is) ≡ false
        → shown_by t i (shown is) ≡ i ∷ is
    go true rest e = ap (λ (rest : List Indexed). i ∷ rest) (rest e)
    go false rest e = let z : ◌≡◌ {A = ℕ} 0 1 = cc in absurd (omega arith)

-- ---- what is marked

abbrev marks_by : ℕ → Bool → Bool → Marks
marks_by count deep unknown = record { count = count; deep = deep; unknown = unknown }

marks_append : (before : Marks) (is js : List Indexed) → marks_with (marks_with before is) js ≡ marks_with before (is ++ js)
marks_append before is js =
    let count : before.count + length (shown is) + length (shown js) ≡ before.count + length (shown (is ++ js)) = omega (arith, ap length (shown-append is js), length-append (shown is) (shown js)) in
    let deep = or_assoc before.deep (deep_in is) (deep_in js) ∙ ap (λ (u : Bool). before.deep || u) (sym (deep-append is js)) in
    let unknown = or_assoc before.unknown (unknown_in (shown is)) (unknown_in (shown js)) ∙ ap (λ (u : Bool). before.unknown || u) (sym (ap unknown_in (shown-append is js) ∙ unknown_append (shown is) (shown js))) in
    λ i. marks_by (count i) (deep i) (unknown i)

module _ {t₀ t t' : List ℕ} {before m m' : Marks} {is js : List Indexed} where
  pub marked_more : Marked before t₀ is m t → Marked m t js m' t' → Marked before t₀ (is ++ js) m' t'
  marked_more p q =
      let here : index_row_length * m.count ≡ index_row_length * before.count + length (plain_rows (shown is)) = omega (arith, ap (λ (m : Marks). m.count) p.marks, rows_long (shown is)) in
      let both : plain_rows (shown is) ++ plain_rows (shown js) ≡ plain_rows (shown (is ++ js)) = sym (ap plain_rows (shown-append is js) ∙ rows_append (shown is) (shown js)) in
      record {
        marks = q.marks ∙ ap (λ (m : Marks). marks_with m js) p.marks ∙ marks_append before is js;
        rows = put_same refl both (put_more _ _ _ p.rows (put_same here refl q.rows));
      }

-- where no row is put
none_marked : (m : Marks) (t : List ℕ) {is : List Indexed} → shown is ≡ [] → {d : Bool} → d ≡ (m.deep || deep_in is) → Marked m t is (marks_by m.count d m.unknown) t
unfolding unknown_in plain_rows all_of
none_marked m t {is} none_shown {d} deep =
    let count : m.count ≡ m.count + length (shown is) = omega (arith, ap length none_shown) in
    let unknown = sym (or-false m.unknown) ∙ ap (λ (is : List Indexed). m.unknown || unknown_in is) (sym none_shown) in
    record { marks = λ i. marks_by (count i) (deep i) (unknown i); rows = put_same refl (ap plain_rows (sym none_shown)) (put_none t _) }

pub marked_none : (m : Marks) (t : List ℕ) → Marked m t [] m t
unfolding deep_in shown all_of
marked_none m t = none_marked m t refl (sym (or-false m.deep))

-- one box, whose row was put
pub marked_one : (before : Marks) {t₀ t : List ℕ} (i : Indexed) {unknown : Bool} → i.level ≤ level_limit → unknown ≡ (before.unknown || not (is_known i.end))
    → Put t₀ (index_row_length * before.count) (plain_row i) t
    → Marked before t₀ (i ∷ []) (record { count = before.count + 1; deep = before.deep; unknown = unknown }) t
unfolding deep_in unknown_in plain_rows plain_row all_of shown
marked_one before i level unknown put =
    let same = shown_one i [] level in
    let count : before.count + 1 ≡ before.count + length (shown (i ∷ [])) = omega (arith, ap length same) in
    let deep = sym (or-false before.deep) ∙ ap (λ (u : Bool). before.deep || not (u && true)) (sym (le-leb i.level level_limit level)) in
    let open-end = unknown ∙ ap (λ (u : Bool). before.unknown || u) (go (is_known i.end)) ∙ ap (λ (is : List Indexed). before.unknown || unknown_in is) (sym same) in
    record { marks = λ j. marks_by (count j) (deep j) (open-end j); rows = put_same refl (ap plain_rows (sym same)) put }
  where
    go : (known : Bool) → not known ≡ not (known && true)
    go true = refl
    go false = refl

-- boxes of a ninth level, of which there are so many
module _ (m : Marks) (level : ℕ) (t : List ℕ) (low : level_limit < level) where
  some_deep : (b : Box) (bs : List Box) → deep_in (map (untold level) (b ∷ bs)) ≡ true
  unfolding deep_in all_of untold
  some_deep b bs = ap (λ (u : Bool). not (u && all_of (λ (i : Indexed). leb i.level level_limit) (map (untold level) bs))) (lt-leb level level_limit low)

  none_shown : (bs : List Box) → shown (map (untold level) bs) ≡ []
  unfolding shown untold
  none_shown [] = refl
  none_shown (b ∷ bs) = shown_other (untold level b) (map (untold level) bs) low ∙ none_shown bs

  deep-many : (bs : List Box) → not (eqb (length bs) 0) ≡ deep_in (map (untold level) bs)
  unfolding deep_in all_of
  deep-many [] = ap not (eq-eqb 0 0 refl)
  deep-many (b ∷ bs) = ap not (ne_eqb (suc (length bs)) 0 (λ h. omega arith)) ∙ sym (some_deep b bs)

  pub marked-deep : (bs : List Box) {d : Bool} → d ≡ (m.deep || not (eqb (length bs) 0)) → Marked m t (map (untold level) bs) (record { count = m.count; deep = d; unknown = m.unknown }) t
  marked-deep bs e = none_marked m t (none_shown bs) (e ∙ ap (λ (u : Bool). m.deep || u) (deep-many bs))
