-- The missing positions by name are what document 02, [6] says: held and lost are the missing list, parted by damage.
use Prim.Native.Nat.{ℕ, ◌+◌, ◌<◌}
use mathlib.Core.Bool.{Bool, true, false, not, ◌&&◌, ◌||◌}
use mathlib.Core.List.{List}
use mathlib.Core.Logic.{inl, inr}
use mathlib.Core.Path.{◌≡◌, refl, sym, ◌∙◌}
use native.Mathlib.Nat.{zero-add}
use native.Mathlib.Omega.{arith}
use borrow.Author.Tests.{eqb-true}
use lib.Dec.{eqb}
use lib.ListN.{length}
use Rattle.partial.specs.Sequences.{some_of, within}
use Rattle.partial.specs.Segments.{Segment, no_chunk, good, damaged, elsewhere, chunks_of}
use Rattle.partial.specs.Meaning.{described_length, covers, covers_as, supplied, chunk_no}
use Rattle.partial.specs.Ranges.{class_of, missing, had, ranges_of, of_class, had_list, missing_list, total, among}
use Rattle.partial.specs.Naming.{held, lost, damaged_at, named_class, named_ranges, held_list, lost_list}
use Rattle.partial.specs.ReadingDemands.{Listing, Naming}
use Rattle.partial.proofs.Meaning.SequenceLaws.{which, both, inside, some_at}
use Rattle.partial.proofs.Meaning.RangeLaws.{among-ranges, ranges_apart, ranges_in_row}
use Rattle.partial.proofs.Meaning.AlikeLaws.{count, count_both, ranges_alike, class_total}
use Rattle.partial.proofs.Meaning.SupplyLaws.{supplied_some}

module _ (ss : List Segment) where
  -- the name of a position, and whether it is one
  module _ (p : ℕ) where
    pub had_name : eqb (named_class ss p) had ≡ eqb (class_of ss p) had
    unfolding named_class class_of
    had_name = go (supplied ss p) (damaged_at ss p)
      where
        go : (good bad : Bool) → eqb (elim good [ true ↦ had | false ↦ elim bad [ true ↦ held | false ↦ lost ] ]) had ≡ eqb (elim good [ true ↦ had | false ↦ missing ]) had
        go true bad = refl
        go false true = refl
        go false false = refl

    held_name : eqb (named_class ss p) held ≡ (not (supplied ss p) && damaged_at ss p)
    unfolding named_class
    held_name = go (supplied ss p) (damaged_at ss p)
      where
        go : (good bad : Bool) → eqb (elim good [ true ↦ had | false ↦ elim bad [ true ↦ held | false ↦ lost ] ]) held ≡ (not good && bad)
        go true bad = refl
        go false true = refl
        go false false = refl

    lost_name : eqb (named_class ss p) lost ≡ (not (supplied ss p) && not (damaged_at ss p))
    unfolding named_class
    lost_name = go (supplied ss p) (damaged_at ss p)
      where
        go : (good bad : Bool) → eqb (elim good [ true ↦ had | false ↦ elim bad [ true ↦ held | false ↦ lost ] ]) lost ≡ (not good && not bad)
        go true bad = refl
        go false true = refl
        go false false = refl

    missing_name : eqb (class_of ss p) missing ≡ (eqb (named_class ss p) held || eqb (named_class ss p) lost)
    unfolding named_class class_of
    missing_name = go (supplied ss p) (damaged_at ss p)
      where
        go : (good bad : Bool)
            → eqb (elim good [ true ↦ had | false ↦ missing ]) missing
            ≡ (eqb (elim good [ true ↦ had | false ↦ elim bad [ true ↦ held | false ↦ lost ] ]) held
            || eqb (elim good [ true ↦ had | false ↦ elim bad [ true ↦ held | false ↦ lost ] ]) lost)
        go true bad = refl
        go false true = refl
        go false false = refl

    one_name : eqb (named_class ss p) held ≡ true → eqb (named_class ss p) lost ≡ false
    one_name e = rw (eqb-true (named_class ss p) held e)

  -- below the described length
  among_name : (c p : ℕ) → among p (of_class c (named_ranges ss)) ≡ (within 0 (described_length ss) p && eqb (named_class ss p) c)
  unfolding named_ranges
  among_name c p = among-ranges (named_class ss) c (described_length ss) 0 p

  among_below : (c p : ℕ) → p < described_length ss → among p (of_class c (named_ranges ss)) ≡ eqb (named_class ss p) c
  among_below c p l = among_name c p ∙ rw (inside 0 (described_length ss) p (omega arith) (omega arith))

  as-missing : (p : ℕ) → (among p (held_list ss) || among p (lost_list ss)) ≡ among p (missing_list ss)
  unfolding held_list lost_list missing_list ranges_of
  as-missing p =
      rw (among_name held p, among_name lost p, among-ranges (class_of ss) missing (described_length ss) 0 p, missing_name p)
      (sym (go (within 0 (described_length ss) p) (eqb (named_class ss p) held) (eqb (named_class ss p) lost)))
    where
      go : (a b c : Bool) → (a && (b || c)) ≡ (a && b || a && c)
      go true b c = refl
      go false b c = refl

  pub as-had : of_class had (named_ranges ss) ≡ had_list ss
  unfolding named_ranges had_list ranges_of
  as-had = ranges_alike (named_class ss) (class_of ss) had had_name (described_length ss) 0

  -- the total of one name
  name_total : (c : ℕ) → total (of_class c (named_ranges ss)) ≡ count (λ i. eqb (named_class ss i) c) (described_length ss) 0
  unfolding named_ranges
  name_total c = class_total (named_class ss) c (described_length ss) 0

  missing-total : total (held_list ss) + total (lost_list ss) ≡ total (missing_list ss)
  unfolding held_list lost_list missing_list ranges_of
  missing-total =
      rw (name_total held, name_total lost, class_total (class_of ss) missing (described_length ss) 0)
      (count_both _ _ _ missing_name one_name (described_length ss) 0)

  -- where all chunks that cover a position are held elsewhere, none of another state does
  none_other : (state p : ℕ) → (state ≡ elsewhere → ⊥)
      → ((k : ℕ) → k < length (chunks_of ss) → covers p (chunk_no ss k) ≡ true → (chunk_no ss k).state ≡ elsewhere)
      → some_of (covers_as state p) (chunks_of ss) ≡ false
  none_other state p other all =
      elim (which (some_of (covers_as state p) (chunks_of ss))) [
        | inr none ↦ none
        | inl some ↦
            let (k, low, there) = some_at (covers_as state p) no_chunk (chunks_of ss) some in
            let (is, over) = both (eqb (chunk_no ss k).state state) (covers p (chunk_no ss k)) there in
            absurd (other (sym (eqb-true (chunk_no ss k).state state is) ∙ all k low over))
      ]

  pub naming : Listing ss → Naming ss
  unfolding held_list lost_list
  naming lists =
      record {
        in_held = λ p l. among_below held p l ∙ held_name p;
        in_lost = λ p l. among_below lost p l ∙ lost_name p;
        as_missing = as-missing;
        as_had = as-had;
        held_apart = unfold named_ranges in ranges_apart (named_class ss) held (described_length ss) 0;
        lost_apart = unfold named_ranges in ranges_apart (named_class ss) lost (described_length ss) 0;
        merged = unfold named_ranges in rw zero-add at (ranges_in_row (named_class ss) (described_length ss) 0);
        missing_total = missing-total;
        together = omega (arith, missing-total, lists.together);
        elsewhere_lost = λ p l all.
            among_below lost p l
            ∙ lost_name p
            ∙ unfold damaged_at in rw (supplied_some ss p, none_other good p (λ e. omega arith) all, none_other damaged p (λ e. omega arith) all);
      }
