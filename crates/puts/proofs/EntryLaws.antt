-- Laws of the entries of a `ploc`, written one behind the other.
use Prim.Native.Nat.{ℕ, ◌+◌, ◌-◌, ◌*◌, ◌/◌, ◌≤◌, ◌<◌}
use mathlib.Core.Bool.{Bool, true, false, true≢false}
use mathlib.Core.List.{List, [], ◌∷◌, ◌++◌, append-nil, append_assoc}
use mathlib.Core.Path.{◌≡◌, refl, sym, ap, subst, ◌∙◌}
use native.Mathlib.Omega.{arith}
use lib.ListN.{length, get_or}
use Rattle.numerals.specs.Numbers.{bytes_of, twos_complement, holds, holds_offset}
use Rattle.numerals.specs.declared.numbers.Offset.{Offset}
use Rattle.numerals.specs.declared.numbers.Offset.TheVariants.{Back}
use Rattle.additions.specs.Addition.{Item, items, size_of, data_size, goes_out, goes_in}
use Rattle.additions.specs.Append.{Placed, back, placed_with, placed, flag_byte, entry_bytes}
use Rattle.partial.specs.Segments.{present}
use Rattle.partial.specs.Sequences.{all_of}
use Rattle.partial.proofs.Meaning.SequenceLaws.{both}
use Rattle.additions.proofs.DataLaws.{outside, inside, nowhere, goes, size_on, size_past, data_one, data_none, sizes_split}
use Rattle.additions.proofs.PlacedLaws.{back_out}
use Rattle.outside.proofs.ItemLaws.{item_at, items_from, items-from, items_none}
use Rattle.puts.specs.Entries.{entry_of, Entry, Entries, Distances}
use Rattle.puts.specs.Pieces.{PutsPieces}
use Rattle.puts.specs.declared.ploc.Backs.{Backs}
use Rattle.puts.proofs.BoxLaws.{one_byte, flags_low}
use Rattle.puts.proofs.PieceLaws.{Partly, partly_start, partly_same, partly_end, partly_more}

-- ---- an entry

module _ (l w size state : ℕ) where
  pub entry_absent : (z : Offset) {flags : ℕ} → flags ≡ flag_byte state → present state ≡ false → bytes_of 1 flags ++ bytes_of l size ≡ entry_of l w size state z
  entry_absent z flags absent = rw (flags, one_byte (flag_byte state) (flags_low state), absent, entry_of) (sym (ap (λ (s : List ℕ). flag_byte state ∷ s) (append-nil (bytes_of l size))))

  pub entry_there : (z : Offset) {flags : ℕ} → flags ≡ flag_byte state → present state ≡ true
      → bytes_of 1 flags ++ (bytes_of l size ++ bytes_of w (twos_complement w z)) ≡ entry_of l w size state z
  entry_there z flags there = rw (flags, one_byte (flag_byte state) (flags_low state), there, entry_of)

  -- an offset counts where the chunk is present
  pub entry_same : {z z' : Offset} → (present state ≡ true → z ≡ z') → entry_of l w size state z ≡ entry_of l w size state z'
  entry_same {z} {z'} far = go (present state) refl
    where
      go : (there : Bool) → present state ≡ there → entry_of l w size state z ≡ entry_of l w size state z'
      go true e = ap (entry_of l w size state) (far e)
      go false e = rw (entry_of, e)

-- ---- the first of some

module _ (l w : ℕ) (p : Placed) (ps : List Placed) where
  pub entry_more : entry_bytes l w (p ∷ ps) ≡ entry_of l w p.size p.state p.offset ++ entry_bytes l w ps
  unfolding entry_bytes
  entry_more =
      let offset : List ℕ = elim (present p.state) [ true ↦ bytes_of w (twos_complement w p.offset) | false ↦ [] ] in
      ap (λ (s : List ℕ). flag_byte p.state ∷ s) (sym (append_assoc (bytes_of l p.size) offset (entry_bytes l w ps)))

  -- what holds every entry holds the first, and those behind it
  module _ (held : Entries l w (p ∷ ps)) where
    pub entry-held : Entry l w p.size p.state p.offset
    unfolding all_of
    entry-held =
        record {
          narrow = held.narrow;
          sized = (both (holds l p.size) _ held.sizes).0;
          offset = λ _. (both (holds_offset w p.offset) _ held.offsets).0;
        }

    pub entries_rest : Entries l w ps
    unfolding all_of
    entries_rest =
        record {
          narrow = held.narrow;
          sizes = (both (holds l p.size) _ held.sizes).1;
          offsets = (both (holds_offset w p.offset) _ held.offsets).1;
        }

-- ---- an item

module _ (o : Bool) (out : ℕ) (i : Item) (is : List Item) (l w : ℕ) where
  entry_first : entry_bytes l w (placed_with o out (i ∷ is))
      ≡ entry_of l w i.size i.state (Back (back o out i is)) ++ entry_bytes l w (placed_with o out is)
  unfolding placed_with
  entry_first =
      entry_more l w _ (placed_with o out is)
      ∙ ap (λ (s : List ℕ). s ++ entry_bytes l w (placed_with o out is)) (entry_same l w i.size i.state (λ e. rw e))

  module _ (held : Entries l w (placed_with o out (i ∷ is))) where
    first_held : Entry l w i.size i.state (Back (back o out i is))
    unfolding placed_with
    first_held =
        let first = entry-held l w _ (placed_with o out is) held in
        record {
          narrow = first.narrow;
          sized = first.sized;
          offset = λ e. ap (holds_offset w) (sym (rw e)) ∙ first.offset e;
        }

    rest_held : Entries l w (placed_with o out is)
    unfolding placed_with
    rest_held = entries_rest l w _ (placed_with o out is) held

-- ---- how far the data lies

module _ (o : Bool) (i : Item) (is : List Item) where
  -- an item that goes outside takes its data from there, and any other from `pdat`
  outer_sizes : goes_out o i ≡ true
      → (size_of (goes_out o) (i ∷ is) ≡ data_size (i ∷ []) + size_of (goes_out o) is) × (size_of (goes_in o) (i ∷ is) ≡ size_of (goes_in o) is)
  outer_sizes e =
      elim (goes o i) [
        | outside out into there ↦ (omega (arith, size_on (goes_out o) i is out, data_one i there), size_past (goes_in o) i is into)
        | inside out into there ↦ absurd (true≢false (sym e ∙ out))
        | nowhere out into there ↦ absurd (true≢false (sym e ∙ out))
      ]

  inner_sizes : goes_out o i ≡ false
      → (size_of (goes_in o) (i ∷ is) ≡ data_size (i ∷ []) + size_of (goes_in o) is) × (size_of (goes_out o) (i ∷ is) ≡ size_of (goes_out o) is)
  inner_sizes e =
      elim (goes o i) [
        | outside out into there ↦ absurd (true≢false (sym out ∙ e))
        | inside out into there ↦ (omega (arith, size_on (goes_in o) i is into, data_one i there), size_past (goes_out o) i is out)
        | nowhere out into there ↦ (omega (arith, size_past (goes_in o) i is into, data_none i there), size_past (goes_out o) i is out)
      ]

  module _ {out : ℕ} {b : Backs} (far : Distances o out (i ∷ is) b) where
    pub outer_back : goes_out o i ≡ true → b.outside ≡ back o out i is
    outer_back e = far.outside ∙ sym (back_out o out i is e)

    pub inner_back : goes_out o i ≡ false → b.inside ≡ back o out i is
    unfolding back
    inner_back e = far.inside ∙ sym (rw (back, e))

    module _ {n : ℕ} (size : n ≡ data_size (i ∷ [])) where
      pub outer_past : goes_out o i ≡ true → (n ≤ b.outside) × Distances o out is (record { inside = b.inside; outside = b.outside - n })
      outer_past e =
          let (outs, ins) = outer_sizes e in
          let far-in = far.inside in
          let far-out = far.outside in
          (omega arith, record { inside = omega arith; outside = omega arith })

      pub inner_past : goes_out o i ≡ false → (n ≤ b.inside) × Distances o out is (record { inside = b.inside - n; outside = b.outside })
      inner_past e =
          let (ins, outs) = inner_sizes e in
          let far-in = far.inside in
          let far-out = far.outside in
          (omega arith, record { inside = omega arith; outside = omega arith })

-- of all items, by how much data there is, and how much of it outside
pub all_distances : (o : Bool) (is : List Item) {n out : ℕ} → n ≡ data_size is → out ≡ size_of (goes_out o) is
    → Distances o (size_of (goes_out o) is) is (record { inside = n; outside = out })
all_distances o is all outs = record { inside = all ∙ sizes_split o is; outside = outs }

-- ---- the loop

-- the entries of items, where so many bytes stand outside
abbrev entries_of : Bool → List ℕ → ℕ → ℕ → List Item → List ℕ
entries_of o list l w is = entry_bytes l w (placed_with o (size_of (goes_out o) (items list)) is)

-- before an item: those before it are written, and how far the data from it on lies is known
pub record Midway (o : Bool) (list : List ℕ) (l w : ℕ) (buffer₀ : List ℕ) (at : ℕ) (buffer : List ℕ) (next : ℕ) (left : Backs) (i : ℕ) : Type 0 where
  pub bytes : Partly (entry_bytes l w (placed o (items list))) buffer₀ at buffer next (entries_of o list l w (items_from list i))
  pub distances : Distances o (size_of (goes_out o) (items list)) (items_from list i) left
  pub held : Entries l w (placed_with o (size_of (goes_out o) (items list)) (items_from list i))

module _ (o : Bool) (list : List ℕ) (l w : ℕ) (buffer₀ : List ℕ) (at : ℕ) where
  pub midway_start : {left : Backs} → Entries l w (placed o (items list)) → Distances o (size_of (goes_out o) (items list)) (items list) left
      → Midway o list l w buffer₀ at buffer₀ at left 0
  unfolding placed
  midway_start held far = record { bytes = partly_start _ buffer₀ at; distances = far; held = held }

  module _ {buffer : List ℕ} {next i : ℕ} {left : Backs} (m : Midway o list l w buffer₀ at buffer next left i) where
    module _ (less : i < length list / 2) where
      from : items_from list i ≡ item_at list i ∷ items_from list (i + 1)
      from = items-from list i less

      pub midway_distances : Distances o (size_of (goes_out o) (items list)) (item_at list i ∷ items_from list (i + 1)) left
      midway_distances = subst (λ is. Distances o (size_of (goes_out o) (items list)) is left) from m.distances

      held_from : Entries l w (placed_with o (size_of (goes_out o) (items list)) (item_at list i ∷ items_from list (i + 1)))
      held_from = subst (λ is. Entries l w (placed_with o (size_of (goes_out o) (items list)) is)) from m.held

      -- the entry of an item whose data lies so far back, and those behind it
      module _ {n : ℕ} (far : n ≡ back o (size_of (goes_out o) (items list)) (item_at list i) (items_from list (i + 1))) where
        abbrev entry : List ℕ
        entry = entry_of l w (get_or list (2 * i) 0) (get_or list (2 * i + 1) 0) (Back n)

        bytes_from : Partly (entry_bytes l w (placed o (items list))) buffer₀ at buffer next (entry ++ entries_of o list l w (items_from list (i + 1)))
        bytes_from =
            partly_same _ _ _
            (ap (entries_of o list l w) from
            ∙ entry_first o _ (item_at list i) (items_from list (i + 1)) l w
            ∙ ap (λ (k : ℕ). entry_of l w (get_or list (2 * i) 0) (get_or list (2 * i + 1) 0) (Back k) ++ entries_of o list l w (items_from list (i + 1))) (sym far))
            m.bytes

        pub midway_entry : Entry l w (get_or list (2 * i) 0) (get_or list (2 * i + 1) 0) (Back n)
        midway_entry = rw far (first_held o _ (item_at list i) (items_from list (i + 1)) l w held_from)

        pub midway_more : {buffer' : List ℕ} {next' : ℕ} {left' : Backs} → PutsPieces buffer next entry buffer' next'
            → Distances o (size_of (goes_out o) (items list)) (items_from list (i + 1)) left'
            → Midway o list l w buffer₀ at buffer' next' left' (i + 1)
        midway_more puts far-rest =
            record {
              bytes = partly_more _ _ _ entry _ bytes_from puts;
              distances = far-rest;
              held = rest_held o _ (item_at list i) (items_from list (i + 1)) l w held_from;
            }

    pub midway_end : length list / 2 ≤ i → PutsPieces buffer₀ at (entry_bytes l w (placed o (items list))) buffer next
    unfolding placed_with entry_bytes
    midway_end past = partly_end _ _ _ (partly_same _ _ _ (ap (entries_of o list l w) (items_none list i past)) m.bytes)
