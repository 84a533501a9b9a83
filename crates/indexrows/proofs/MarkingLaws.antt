-- Laws of the rows of an index, into which what is served of each box is put, one behind the other and source after
-- source.
use Prim.Native.Nat.{ℕ, ◌+◌, ◌*◌, ◌≤◌, ◌<◌}
use mathlib.Core.List.{List, [], ◌∷◌, ◌++◌, append-nil, append_assoc}
use mathlib.Core.Path.{◌≡◌, refl, sym, ap, ◌∙◌}
use native.Mathlib.Decide.{dec_le}
use native.Mathlib.Omega.{arith}
use borrow.Author.Tests.{eq-eqb, ne_eqb, lt-ltb, le-ltb}
use lib.ListN.{length, drop, get_or, set, length-append}
use lib.Seq.{get_or-append-add, set_at, drop_at}
use Rattle.partial.specs.Index.{SourceBox, indexed_size, served_of, index_row, index_rows, index_row_length}
use Rattle.partial.specs.Memory.{filled}
use Rattle.partial.specs.Segments.{Segment}
use Rattle.partial.specs.Sources.{source_beside, of_source, of_urls}
use Rattle.partial.proofs.Reading.IndexServedLaws.{served_as_said}
use Rattle.indexrows.specs.Marking.{row_with, rows_with, served_by, marked, marked_below, Below}

pub rows_long : (say : SourceBox → ℕ) (is : List SourceBox) → length (rows_with say is) ≡ index_row_length * length is
unfolding rows_with row_with
rows_long say [] = refl
rows_long say (i ∷ is) = omega (arith, length-append (row_with say i) (rows_with say is), rows_long say is)

rows_last : (say : SourceBox → ℕ) (is : List SourceBox) (i : SourceBox) → rows_with say (is ++ (i ∷ [])) ≡ rows_with say is ++ row_with say i
unfolding rows_with
rows_last say [] i = append-nil (row_with say i)
rows_last say (x ∷ is) i = ap (λ (rows : List ℕ). row_with say x ++ rows) (rows_last say is i) ∙ sym (append_assoc (row_with say x) (rows_with say is) (row_with say i))

-- rows stand over others of as many boxes
filled_over : (say say' : SourceBox → ℕ) (is : List SourceBox) (t₀ : List ℕ) {t : List ℕ} → t ≡ filled (rows_with say is) t₀
    → filled (rows_with say' is) t ≡ filled (rows_with say' is) t₀
unfolding filled
filled_over say say' is t₀ e =
    let long : length (rows_with say is) ≡ length (rows_with say' is) = rows_long say is ∙ sym (rows_long say' is) in
    ap (λ (rest : List ℕ). rows_with say' is ++ rest)
    (ap (drop (length (rows_with say' is))) e
    ∙ drop_at (rows_with say is) (drop (length (rows_with say is)) t₀) (length (rows_with say' is)) long
    ∙ ap (λ (n : ℕ). drop n t₀) long)

-- ---- one source

module _ (source : ℕ) (mine : List Segment) (say : SourceBox → ℕ) where
  abbrev next : SourceBox → ℕ
  next = marked source mine say

  -- the rows of some are marked, and those of the others are not
  abbrev partly : List SourceBox → List SourceBox → List ℕ → List ℕ
  partly done left rest = rows_with next done ++ (rows_with say left ++ rest)

  -- the row of the next one
  module _ (done left : List SourceBox) (i : SourceBox) (rest : List ℕ) (n : ℕ) (many : n ≡ length done) where
    next_place : get_or (partly done (i ∷ left) rest) (index_row_length * n + 1) 0 ≡ i.box.place
    unfolding rows_with row_with
    next_place =
        let here : index_row_length * n + 1 ≡ length (rows_with next done) + 1 = omega (arith, rows_long next done) in
        rw (here, get_or-append-add)

    next_size : get_or (partly done (i ∷ left) rest) (index_row_length * n + 2) 0 ≡ indexed_size i.box
    unfolding rows_with row_with
    next_size =
        let here : index_row_length * n + 2 ≡ length (rows_with next done) + 2 = omega (arith, rows_long next done) in
        rw (here, get_or-append-add)

    next_said : get_or (partly done (i ∷ left) rest) (index_row_length * n + 4) 0 ≡ say i
    unfolding rows_with row_with
    next_said =
        let here : index_row_length * n + 4 ≡ length (rows_with next done) + 4 = omega (arith, rows_long next done) in
        rw (here, get_or-append-add)

    -- with what is said of it, its row is marked
    next_marked : {v : ℕ} → v ≡ next i → set (partly done (i ∷ left) rest) (index_row_length * n + 4) v ≡ partly (done ++ (i ∷ [])) left rest
    unfolding rows_with row_with
    next_marked {v} e =
        let front : List ℕ = i.box.level ∷ i.box.place ∷ indexed_size i.box ∷ i.box.kind ∷ [] in
        let before : List ℕ = rows_with next done ++ front in
        let behind : List ℕ = rows_with say left ++ rest in
        let long : length before ≡ index_row_length * n + 4 = omega (arith, length-append (rows_with next done) front, rows_long next done) in
        ap (λ (t : List ℕ). set t (index_row_length * n + 4) v) (sym (append_assoc (rows_with next done) front (say i ∷ behind)))
        ∙ set_at before (say i) behind v (index_row_length * n + 4) long
        ∙ ap (λ (v : ℕ). before ++ (v ∷ behind)) e
        ∙ append_assoc (rows_with next done) front (next i ∷ behind)
        ∙ sym (append_assoc (rows_with next done) (row_with next i) behind)
        ∙ ap (λ (rows : List ℕ). rows ++ behind) (sym (rows_last next done i))

    -- one of another source stays as it is
    next_kept : say i ≡ next i → partly done (i ∷ left) rest ≡ partly (done ++ (i ∷ [])) left rest
    unfolding rows_with row_with
    next_kept e =
        let behind : List ℕ = rows_with say left ++ rest in
        ap (λ (v : ℕ). rows_with next done ++ (i.box.level ∷ i.box.place ∷ indexed_size i.box ∷ i.box.kind ∷ v ∷ behind)) e
        ∙ sym (append_assoc (rows_with next done) (row_with next i) behind)
        ∙ ap (λ (rows : List ℕ). rows ++ behind) (sym (rows_last next done i))

  marked_own : (i : SourceBox) → say i ≡ source + 3 → served_by mine i ≡ next i
  unfolding marked
  marked_own i own = rw (marked, eq-eqb (say i) (source + 3) own)

  marked_other : (i : SourceBox) → (say i ≡ source + 3 → ⊥) → say i ≡ next i
  unfolding marked
  marked_other i other = rw (marked, ne_eqb (say i) (source + 3) other)

-- so many of the boxes are marked in a table
pub record Midway (source : ℕ) (mine : List Segment) (say : SourceBox → ℕ) (is : List SourceBox) (rest t : List ℕ) (n : ℕ) : Type 0 where
  pub done : List SourceBox
  pub left : List SourceBox
  pub all : is ≡ done ++ left
  pub many : n ≡ length done
  pub rows : t ≡ partly source mine say done left rest

module _ (source : ℕ) (mine : List Segment) (say : SourceBox → ℕ) (is : List SourceBox) (t₀ : List ℕ) where
  abbrev behind : List ℕ
  behind = drop (length (rows_with say is)) t₀

  pub midway_none : t₀ ≡ filled (rows_with say is) t₀ → Midway source mine say is behind t₀ 0
  unfolding rows_with filled
  midway_none starts = record { done = []; left = is; all = refl; many = refl; rows = starts }

  module _ {t : List ℕ} {n : ℕ} (m : Midway source mine say is behind t n) where
    -- a box more, whose row is as it is marked
    more : (t' : List ℕ) → n < length is
        → ((done left : List SourceBox) (i : SourceBox) → n ≡ length done → t ≡ partly source mine say done (i ∷ left) behind → t' ≡ partly source mine say (done ++ (i ∷ [])) left behind)
        → Midway source mine say is behind t' (n + 1)
    more t' less step = go m.done m.left m.all m.many m.rows
      where
        go : (done left : List SourceBox) → is ≡ done ++ left → n ≡ length done → t ≡ partly source mine say done left behind → Midway source mine say is behind t' (n + 1)
        go done [] all many rows = absurd (omega (arith, ap length all, length-append done []))
        go done (i ∷ left) all many rows =
            record {
              done = done ++ (i ∷ []);
              left = left;
              all = all ∙ sym (append_assoc done (i ∷ []) left);
              many = omega (arith, length-append done (i ∷ []));
              rows = step done left i many rows;
            }

    -- one of the source
    pub midway_own : n < length is → get_or t (index_row_length * n + 4) 0 ≡ source + 3 → {v : ℕ}
        → v ≡ served_of mine (get_or t (index_row_length * n + 1) 0) (get_or t (index_row_length * n + 2) 0)
        → Midway source mine say is behind (set t (index_row_length * n + 4) v) (n + 1)
    midway_own less own {v} e = more (set t (index_row_length * n + 4) v) less (λ done left i many rows.
        let said = ap (λ (t : List ℕ). get_or t (index_row_length * n + 4) 0) rows ∙ next_said source mine say done left i behind n many in
        let place = ap (λ (t : List ℕ). get_or t (index_row_length * n + 1) 0) rows ∙ next_place source mine say done left i behind n many in
        let size = ap (λ (t : List ℕ). get_or t (index_row_length * n + 2) 0) rows ∙ next_size source mine say done left i behind n many in
        let served : v ≡ served_by mine i = e ∙ (λ j. served_of mine (place j) (size j)) in
        ap (λ (t : List ℕ). set t (index_row_length * n + 4) v) rows
        ∙ next_marked source mine say done left i behind n many (served ∙ marked_own source mine say i (sym said ∙ own)))

    -- one of another
    pub midway_other : n < length is → (get_or t (index_row_length * n + 4) 0 ≡ source + 3 → ⊥) → Midway source mine say is behind t (n + 1)
    midway_other less other = more t less (λ done left i many rows.
        let said = ap (λ (t : List ℕ). get_or t (index_row_length * n + 4) 0) rows ∙ next_said source mine say done left i behind n many in
        rows ∙ next_kept source mine say done left i behind n many (marked_other source mine say i (λ own. other (said ∙ own))))

    pub midway_end : length is ≤ n → t ≡ filled (rows_with (marked source mine say) is) t₀
    unfolding rows_with filled
    midway_end over = go m.done m.left m.all m.many m.rows
      where
        go : (done left : List SourceBox) → is ≡ done ++ left → n ≡ length done → t ≡ partly source mine say done left behind → t ≡ filled (rows_with (marked source mine say) is) t₀
        go done (i ∷ left) all many rows = absurd (omega (arith, ap length all, length-append done (i ∷ left)))
        go done [] all many rows =
            let same : done ≡ is = sym (all ∙ append-nil done) in
            let long : length (rows_with say is) ≡ length (rows_with (marked source mine say) is) = rows_long say is ∙ sym (rows_long (marked source mine say) is) in
            rows ∙ (λ j. rows_with (marked source mine say) (same j) ++ drop (long j) t₀)

-- ---- source after source

module _ (ss : List Segment) where
  below_yes : (n : ℕ) (i : SourceBox) → source_beside ss i.urls < n → marked_below ss n i ≡ served_by (of_urls i.urls ss) i
  unfolding marked_below
  below_yes n i less = rw (marked_below, lt-ltb (source_beside ss i.urls) n less)

  below_no : (n : ℕ) (i : SourceBox) → n ≤ source_beside ss i.urls → marked_below ss n i ≡ source_beside ss i.urls + 3
  unfolding marked_below
  below_no n i over = rw (marked_below, le-ltb (source_beside ss i.urls) n over)

  below_next : (n : ℕ) (i : SourceBox) → marked n (of_source n ss) (marked_below ss n) i ≡ marked_below ss (n + 1) i
  unfolding of_urls
  below_next n i =
      let number = source_beside ss i.urls in
      let mine = of_source n ss in
      let say = marked_below ss n in
      elim (dec_le (n + 1) number) [
        | yes later ↦
            let said = below_no n i (omega arith) in
            sym (marked_other n mine say i (λ own. omega (arith, said, own))) ∙ said ∙ sym (below_no (n + 1) i later)
        | no low ↦
            elim (dec_le n number) [
              | yes here ↦
                  let same : number ≡ n = omega arith in
                  sym (marked_own n mine say i (below_no n i here ∙ ap (λ (k : ℕ). k + 3) same))
                  ∙ ap (λ (k : ℕ). served_by (of_source k ss) i) (sym same)
                  ∙ sym (below_yes (n + 1) i (omega arith))
              | no before ↦
                  let said = below_yes n i (omega arith) in
                  let few = (served_as_said (of_urls i.urls ss) i.box.place (indexed_size i.box)).most in
                  sym (marked_other n mine say i (λ own. omega (arith, said, own, few))) ∙ said ∙ sym (below_yes (n + 1) i (omega arith))
            ]
      ]

  -- with a source more
  rows_next : (n : ℕ) (is : List SourceBox) → rows_with (marked n (of_source n ss) (marked_below ss n)) is ≡ rows_with (marked_below ss (n + 1)) is
  rows_next n is = ap (λ (say : SourceBox → ℕ). rows_with say is) (λ k i. below_next n i k)

  pub filled_next : (n : ℕ) (is : List SourceBox) (t₀ : List ℕ) {t t' : List ℕ} → t ≡ filled (rows_with (marked_below ss n) is) t₀
      → t' ≡ filled (rows_with (marked n (of_source n ss) (marked_below ss n)) is) t
      → t' ≡ filled (rows_with (marked_below ss (n + 1)) is) t₀
  filled_next n is t₀ before e =
      e ∙ filled_over (marked_below ss n) (marked n (of_source n ss) (marked_below ss n)) is t₀ before ∙ ap (λ (rows : List ℕ). filled rows t₀) (rows_next n is)

  -- with all of them
  rows_all : (n : ℕ) (is : List SourceBox) → Below ss n is → rows_with (marked_below ss n) is ≡ index_rows ss is
  unfolding rows_with row_with index_rows index_row
  rows_all n [] below = refl
  rows_all n (i ∷ is) (here, there) =
      (λ k. i.box.level ∷ i.box.place ∷ indexed_size i.box ∷ i.box.kind ∷ below_yes n i here k ∷ rows_all n is there k)

  pub filled_all : (n : ℕ) (is : List SourceBox) (t₀ : List ℕ) {t t' : List ℕ} → t ≡ filled (rows_with (marked_below ss 0) is) t₀
      → t' ≡ filled (rows_with (marked_below ss n) is) t
      → Below ss n is
      → t' ≡ filled (index_rows ss is) t₀
  filled_all n is t₀ before e below =
      e ∙ filled_over (marked_below ss 0) (marked_below ss n) is t₀ before ∙ ap (λ (rows : List ℕ). filled rows t₀) (rows_all n is below)

  -- before the first
  pub rows_none : (is : List SourceBox) → rows_with (marked_below ss 0) is ≡ rows_with (λ i. source_beside ss i.urls + 3) is
  rows_none is = ap (λ (say : SourceBox → ℕ). rows_with say is) (λ k i. below_no 0 i (omega arith) k)
