-- Laws of the data that is copied chunk by chunk.
use Prim.Native.Nat.{ℕ, ◌+◌, ◌-◌, ◌/◌, ◌≤◌, ◌<◌, min}
use mathlib.Core.Bool.{Bool, true, false, and-true, and-false, true≢false}
use mathlib.Core.List.{List, [], ◌∷◌, ◌++◌}
use mathlib.Core.Path.{◌≡◌, sym, ap, ap₂, ◌∙◌}
use native.Mathlib.Omega.{arith}
use lib.ListN.{length, take, drop}
use Rattle.additions.specs.Addition.{Item, items, data_size, goes_out, goes_in, data_for}
use Rattle.partial.specs.Segments.{present}
use Rattle.outside.proofs.ItemLaws.{item_at, items_from, items-from, items_none, data-part, data-behind, data_chosen, data_passed}
use Rattle.puts.specs.Boxes.{chosen}
use Rattle.puts.specs.Pieces.{PutsPieces}
use Rattle.puts.proofs.PieceLaws.{Partly, partly_start, partly_same, partly_end, partly_more}

-- ---- which are copied

module _ (o : Bool) (i : Item) where
  pub chosen_out : (out : Bool) → goes_out o i ≡ true → out ≡ chosen o out i
  unfolding goes_in
  chosen_out true e = sym e
  chosen_out false e = sym (rw (goes_in, e, and-false))

  module _ (kept : goes_out o i ≡ false) where
    pub chosen_none : (out : Bool) → out ≡ true → false ≡ chosen o out i
    chosen_none true e = sym kept
    chosen_none false e = absurd (true≢false (sym e))

    pub chosen_in : (out : Bool) → out ≡ false → present i.state ≡ chosen o out i
    unfolding goes_in
    chosen_in true e = absurd (true≢false e)
    chosen_in false e = sym (rw (goes_in, kept, and-true))

-- ---- the loop

-- before an item: the data is copied of those before it that pass a test, and the data of all of them ends at a place
pub record Copied (test : Item → Bool) (list bytes buffer₀ : List ℕ) (at : ℕ) (buffer : List ℕ) (next from i : ℕ) : Type 0 where
  pub copied : Partly (data_for test (items list) bytes) buffer₀ at buffer next (data_for test (items_from list i) (drop from bytes))
  pub inside : from ≤ length bytes

module _ (test : Item → Bool) (list bytes buffer₀ : List ℕ) (at : ℕ) where
  pub copied_start : Copied test list bytes buffer₀ at buffer₀ at 0 0
  copied_start = record { copied = partly_start _ buffer₀ at; inside = omega arith }

  module _ {buffer : List ℕ} {next from i : ℕ} (m : Copied test list bytes buffer₀ at buffer next from i) where
    module _ (less : i < length list / 2) {end : ℕ} (ends : end ≡ min (from + data_size (item_at list i ∷ [])) (length bytes)) where
      abbrev chunk : List ℕ
      chunk = take (end - from) (drop from bytes)

      abbrev rest : List ℕ
      rest = data_for test (items_from list (i + 1)) (drop end bytes)

      here : data_for test (items_from list i) (drop from bytes) ≡ data_for test (item_at list i ∷ items_from list (i + 1)) (drop from bytes)
      here = ap (λ (is : List Item). data_for test is (drop from bytes)) (items-from list i less)

      behind : data_for test (items_from list (i + 1)) (drop (data_size (item_at list i ∷ [])) (drop from bytes)) ≡ rest
      behind = ap (data_for test (items_from list (i + 1))) (sym (data-behind bytes from (data_size (item_at list i ∷ [])) ends))

      module _ (passes : test (item_at list i) ≡ true) where
        with_chunk : Partly (data_for test (items list) bytes) buffer₀ at buffer next (chunk ++ rest)
        with_chunk =
            partly_same _ _ _
            (here
            ∙ data_chosen test (item_at list i) (items_from list (i + 1)) (drop from bytes) passes
            ∙ ap₂ (λ (x y : List ℕ). x ++ y) (sym (data-part bytes from (data_size (item_at list i ∷ [])) ends)) behind)
            m.copied

        pub copied_more : {buffer' : List ℕ} {next' : ℕ} → PutsPieces buffer next chunk buffer' next'
            → Copied test list bytes buffer₀ at buffer' next' end (i + 1)
        copied_more puts = record { copied = partly_more _ _ _ chunk rest with_chunk puts; inside = omega arith }

      pub copied_past : test (item_at list i) ≡ false → Copied test list bytes buffer₀ at buffer next end (i + 1)
      copied_past fails =
          record {
            copied = partly_same _ _ _ (here ∙ data_passed test (item_at list i) (items_from list (i + 1)) (drop from bytes) fails ∙ behind) m.copied;
            inside = omega arith;
          }

    pub copied_end : length list / 2 ≤ i → PutsPieces buffer₀ at (data_for test (items list) bytes) buffer next
    unfolding data_for
    copied_end past =
        partly_end _ _ _ (partly_same _ _ _ (ap (λ (is : List Item). data_for test is (drop from bytes)) (items_none list i past)) m.copied)
