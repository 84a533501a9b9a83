-- Laws of the ranges had: which positions they hold, by their numbers in a table, and what the first that ends behind a
-- place decides.
use Prim.Native.Nat.{ℕ, zero, suc, ◌+◌, ◌-◌, ◌≤◌, ◌<◌}
use mathlib.Core.Bool.{true, false, ◌&&◌, true≢false}
use mathlib.Core.List.{List, [], ◌∷◌, map}
use mathlib.Core.Logic.{inl, inr}
use mathlib.Core.Path.{◌≡◌, refl, sym, ap, ◌∙◌}
use native.Mathlib.Decide.{dec_le}
use native.Mathlib.Omega.{arith}
use borrow.Author.Tests.{leb-true, leb-false, ltb-true}
use lib.Dec.{T, leb, ltb}
use lib.ListN.{length, get_or, length-map}
use Rattle.std.specs.List.Sorted.{IsPartitionPoint, IsNonDecreasingBy}
use Rattle.std.proofs.lemmas.List.Sorted.{IsNonDecreasingBy-from_default}
use Rattle.partial.specs.ReadingDemands.{Listing}
use Rattle.partial.specs.Index.{served_of}
use Rattle.partial.specs.Meaning.{supplied, described_length}
use Rattle.partial.specs.Ranges.{Range, had, class_of, ranges_of, had_list, among, apart}
use Rattle.partial.specs.Segments.{Segment}
use Rattle.partial.proofs.Meaning.RangeLaws.{among-ranges}
use Rattle.partial.proofs.Meaning.SequenceLaws.{which, both, passes, inside, past, within_true, some_at, some_by}
use Rattle.partial.proofs.Reading.IndexServedLaws.{served_as_said}
use Rattle.indexrows.specs.Serving.{HadIn, range_row, row_first, row_length, row_end, Ended}

-- a position is supplied exactly if a range had holds it
supplied-among : (ss : List Segment) → Listing ss → (p : ℕ) → supplied ss p ≡ among p (had_list ss)
unfolding had_list ranges_of
supplied-among ss lists p =
    elim (dec_le (described_length ss) p) [
      | no low ↦ sym (lists.in_had p (omega arith))
      | yes over ↦ lists.none_supplied p over ∙ sym (among-ranges (class_of ss) had (described_length ss) 0 p ∙ rw (past 0 (described_length ss) p (omega arith)))
    ]

-- ---- ranges by number

abbrev nowhere : Range
nowhere = record { class = 0; first = 0; length = 0 }

abbrev end_of : Range → ℕ
end_of r = r.first + r.length

-- where a range ends that stands as two numbers
abbrev pub row_by : List ℕ → ℕ
row_by r = get_or r 0 0 + get_or r 1 0

first_at : (rs : List Range) (k : ℕ) → k < length rs → row_first (map range_row rs) k ≡ (get_or rs k nowhere).first
first_at [] k less = absurd (omega arith)
first_at (r ∷ rs) zero less = refl
first_at (r ∷ rs) (suc k) less = first_at rs k (omega arith)

end_at : (rs : List Range) (k : ℕ) → k < length rs → row_end (map range_row rs) k ≡ end_of (get_or rs k nowhere)
end_at [] k less = absurd (omega arith)
end_at (r ∷ rs) zero less = refl
end_at (r ∷ rs) (suc k) less = end_at rs k (omega arith)

-- what it says that ranges lie apart from a bound on
apart_next : (from : ℕ) (r : Range) (rs : List Range) → T (apart from (r ∷ rs))
    → (from ≤ r.first) × (0 < r.length) × T (apart (suc (end_of r)) rs)
unfolding apart
apart_next from r rs h =
    let (front, rest) = both (leb from r.first && ltb 0 r.length) (apart (suc (end_of r)) rs) (passes _ h) in
    let (low, some) = both (leb from r.first) (ltb 0 r.length) front in
    (leb-true _ _ low, ltb-true _ _ some, rw rest tt)

-- each starts at or behind the bound, and has a position
apart_from : (from : ℕ) (rs : List Range) → T (apart from rs) → (k : ℕ) → k < length rs → (from ≤ (get_or rs k nowhere).first) × (0 < (get_or rs k nowhere).length)
apart_from from [] h k less = absurd (omega arith)
apart_from from (r ∷ rs) h zero less = let (low, some, _) = apart_next from r rs h in (low, some)
apart_from from (r ∷ rs) h (suc k) less =
    let (low, some, rest) = apart_next from r rs h in
    let (starts, more) = apart_from (suc (end_of r)) rs rest k (omega arith) in
    (omega arith, more)

-- one ends before the next one starts
apart_at : (from : ℕ) (rs : List Range) → T (apart from rs) → (j k : ℕ) → j < k → k < length rs → end_of (get_or rs j nowhere) < (get_or rs k nowhere).first
apart_at from [] h j k less short = absurd (omega arith)
apart_at from (r ∷ rs) h j zero less short = absurd (omega arith)
apart_at from (r ∷ rs) h zero (suc k) less short = (apart_from (suc (end_of r)) rs (apart_next from r rs h).2 k (omega arith)).0
apart_at from (r ∷ rs) h (suc j) (suc k) less short = apart_at (suc (end_of r)) rs (apart_next from r rs h).2 j k (omega arith) (omega arith)

-- ---- the ranges had

-- a box without a byte has all of them
pub all_of_none : (ss : List Segment) (place size : ℕ) → size ≡ 0 → served_of ss place size ≡ 2
all_of_none ss place size none = (served_as_said ss place size).all.1 (λ i low. absurd (omega arith))

module _ {ss : List Segment} {t : List (List ℕ)} (h : HadIn ss t) where
  abbrev many : ℕ
  many = length t

  long : many ≡ length (had_list ss)
  long = ap length h.rows ∙ length-map (had_list ss) range_row

  had_first : (k : ℕ) → k < many → row_first t k ≡ (get_or (had_list ss) k nowhere).first
  had_first k less = ap (λ (t : List (List ℕ)). row_first t k) h.rows ∙ first_at (had_list ss) k (omega (arith, long))

  had_end : (k : ℕ) → k < many → row_end t k ≡ end_of (get_or (had_list ss) k nowhere)
  had_end k less = ap (λ (t : List (List ℕ)). row_end t k) h.rows ∙ end_at (had_list ss) k (omega (arith, long))

  some_positions : (k : ℕ) → k < many → row_first t k < row_end t k
  some_positions k less =
      omega (arith, had_first k less, had_end k less, (apart_from 0 (had_list ss) h.lists.had_apart k (omega (arith, long))).1)

  ends_before : (j k : ℕ) → j < k → k < many → row_end t j < row_first t k
  ends_before j k less short =
      omega (arith, had_end j (omega arith), had_first k short, apart_at 0 (had_list ss) h.lists.had_apart j k less (omega (arith, long)))

  -- a position is supplied where one of them holds it
  by_range : (p k : ℕ) → k < many → row_first t k ≤ p → p < row_end t k → supplied ss p ≡ true
  unfolding among
  by_range p k less from to =
      supplied-among ss h.lists p
      ∙ some_by _ nowhere (had_list ss) k (omega (arith, long)) (inside _ _ p (omega (arith, had_first k less)) (omega (arith, had_end k less)))

  -- and not where none does
  by_none : (p : ℕ) → ((k : ℕ) → k < many → row_first t k ≤ p → p < row_end t k → ⊥) → supplied ss p ≡ false
  unfolding among
  by_none p none =
      elim (which (supplied ss p)) [
        | inr e ↦ e
        | inl e ↦
            let (k, less, holds) = some_at _ nowhere (had_list ss) (sym (supplied-among ss h.lists p) ∙ e) in
            let (from, to) = within_true _ _ p holds in
            let low : k < many = omega (arith, long) in
            absurd (none k low (omega (arith, had_first k low)) (omega (arith, had_end k low)))
      ]

  -- ---- the first that ends behind a place

  -- ranges that end by a place stand before the others
  pub ends_ascend : IsNonDecreasingBy row_by t
  ends_ascend = IsNonDecreasingBy-from_default row_by t [] (λ i j on short.
      elim (dec_le j i) [
        | yes same ↦ let e : i ≡ j = omega arith in omega (arith, ap (row_end t) e)
        | no early ↦ omega (arith, ends_before i j (omega arith) short, some_positions j short)
      ])

  pub parted : (place n : ℕ) → IsPartitionPoint (λ r. leb (row_by r) place ≡ true) (λ r. leb (row_by r) place ≡ false) t n → Ended t place n
  parted place n at =
      record {
        before = λ k less. leb-true _ _ (at.0 k [] (omega arith) less);
        behind = λ k on less. leb-false _ _ (at.1 k [] on less);
      }

  module _ {place n : ℕ} (e : Ended t place n) where
    -- those before it hold no position from there on
    not_before : (p k : ℕ) → place ≤ p → k < many → p < row_end t k → n ≤ k
    not_before p k from less to =
        elim (dec_le n k) [
          | yes on ↦ on
          | no early ↦ absurd (omega (arith, e.before k (omega arith)))
        ]

    -- between the place and its first position none is supplied
    none_from : (p : ℕ) → place ≤ p → (n < many → p < row_first t n) → supplied ss p ≡ false
    none_from p from low = by_none p (λ k less starts to.
        let on = not_before p k from less to in
        elim (dec_le k n) [
          | yes here ↦
              let same : k ≡ n = omega arith in
              omega (arith, low (omega arith), ap (row_first t) same)
          | no later ↦ omega (arith, low (omega arith), ends_before n k (omega arith) less, some_positions n (omega arith))
        ])

    -- nor is its end
    end_not : n < many → supplied ss (row_end t n) ≡ false
    end_not short = by_none (row_end t n) (λ k less starts to.
        let on = not_before (row_end t n) k (omega (arith, e.behind n (omega arith) short)) less to in
        elim (dec_le k n) [
          | yes here ↦
              let same : k ≡ n = omega arith in
              omega (arith, ap (row_end t) same)
          | no later ↦ omega (arith, ends_before n k (omega arith) less)
        ])

    -- what the tests decide
    module _ (size : ℕ) where
      pub none_behind : 0 < size → n ≡ many → served_of ss place size ≡ 0
      none_behind some last = ((served_as_said ss place size).nothing some).1 (λ i less. none_from (place + i) (omega arith) (λ short. absurd (omega arith)))

      pub none_served : 0 < size → leb (place + size) (row_first t n) ≡ true → served_of ss place size ≡ 0
      none_served some test =
          let low = leb-true (place + size) (row_first t n) test in
          ((served_as_said ss place size).nothing some).1 (λ i less. none_from (place + i) (omega arith) (λ short. omega arith))

      pub all_served : n < many → row_first t n ≤ place → leb (place - row_first t n + size) (row_length t n) ≡ true → served_of ss place size ≡ 2
      all_served short from test =
          let to = leb-true (place - row_first t n + size) (row_length t n) test in
          (served_as_said ss place size).all.1 (λ i less. by_range (place + i) n short (omega arith) (omega arith))

      some_served : (i j : ℕ) → i < size → supplied ss (place + i) ≡ true → j < size → supplied ss (place + j) ≡ false → served_of ss place size ≡ 1
      some_served i j less is other not =
          let said = served_as_said ss place size in
          let not-all : served_of ss place size ≡ 2 → ⊥ = λ all. true≢false (sym (said.all.0 all j other) ∙ not) in
          let not_none : served_of ss place size ≡ 0 → ⊥ = λ none. true≢false (sym is ∙ (said.nothing (omega arith)).0 none i less) in
          omega (arith, said.most)

      pub front-served : n < many → place < row_first t n → leb (place + size) (row_first t n) ≡ false → served_of ss place size ≡ 1
      front-served short before test =
          let inside = leb-false (place + size) (row_first t n) test in
          let there : row_first t n ≡ place + (row_first t n - place) = omega arith in
          some_served (row_first t n - place) 0 (omega arith)
          (ap (supplied ss) (sym there) ∙ by_range (row_first t n) n short (omega arith) (some_positions n short))
          (omega arith)
          (none_from (place + 0) (omega arith) (λ _. omega arith))

      pub back-served : n < many → row_first t n ≤ place → leb (place - row_first t n + size) (row_length t n) ≡ false → served_of ss place size ≡ 1
      back-served short from test =
          let over = leb-false (place - row_first t n + size) (row_length t n) test in
          let behind = e.behind n (omega arith) short in
          let there : row_end t n ≡ place + (row_end t n - place) = omega arith in
          some_served 0 (row_end t n - place) (omega arith)
          (by_range (place + 0) n short (omega arith) (omega arith))
          (omega arith)
          (ap (supplied ss) (sym there) ∙ end_not short)
