-- What serving and asking say of a position, where the sizes agree and the chunks follow each other: the facts of
-- document 01's "Serving".
use Prim.Native.Nat.{ℕ, ◌+◌, ◌-◌, ◌<◌, ◌≤◌}
use mathlib.Core.Bool.{Bool, true, false, not, true≢false}
use mathlib.Core.List.{List}
use mathlib.Core.Logic.{inl, inr, ⊎_elim}
use Rattle.std.specs.Prelude.{Some}
use mathlib.Core.Path.{◌≡◌, refl, sym, ap, ◌∙◌}
use native.Mathlib.Decide.{dec_le}
use native.Mathlib.Nat.{eq-or-lt_of_le, eq-zero-or-pos}
use native.Mathlib.Omega.{arith}
use borrow.Author.Tests.{lt-ltb, le-ltb, eq-eqb, eqb-true, eqb-false, not-true, not-false}
use lib.Dec.{eqb}
use lib.ListN.{length, get_or, length-take, length-drop}
use lib.Seq.{get_or-take, get_or-drop}
use Rattle.partial.specs.Segments.{Segment, chunks_of}
use Rattle.partial.specs.Meaning.{agree, described_length, covers, supplier, supplied, onward, served_run, missing_run, reply}
use Rattle.partial.specs.Meaning.{served_for, not_below, place_of_byte, served, chunk_for}
use Rattle.partial.specs.Tables.{nowhere, part_of}
use Rattle.partial.specs.Heading.{bytes_in}
use Rattle.partial.specs.ReadingDemands.{Missing}
use Rattle.partial.proofs.Meaning.SequenceLaws.{within_true}
use Rattle.partial.proofs.Meaning.StretchLaws.{First, stretch_first}
use Rattle.partial.proofs.Meaning.SupplyLaws.{supplier-covers, uncovered}
use Rattle.partial.proofs.Meaning.DescribedLaws.{InOrder, none-supplied}

-- a run ends at the first position that fails, or at the described length
module _ (ss : List Segment) (test : ℕ → Bool) (p : ℕ) where
  onward_first : First false (λ i. test (p + i)) (described_length ss - p) (onward ss test p)
  unfolding onward
  onward_first = stretch_first test (described_length ss - p) p

  onward_some : p < described_length ss → test p ≡ true → 0 < onward ss test p
  onward_some below e =
      let r = onward_first in
      elim (eq-zero-or-pos (onward ss test p)) [
        | inl z ↦
            let here : p ≡ p + onward ss test p = omega arith in
            absurd (true≢false (sym e ∙ ap test here ∙ r.there (omega arith)))
        | inr h ↦ h
      ]

-- of a position below the described length that is not supplied
module _ (f : List ℕ) (ss : List Segment) (p : ℕ) (below : p < described_length ss) (lacks : supplied ss p ≡ false) where
  pub missing : Missing f ss p
  unfolding bytes_in part_of nowhere reply missing_run
  missing =
      let r = onward_first ss (λ q. not (supplied ss q)) p in
      record {
        uncovered = uncovered ss p lacks;
        part = rw (part_of, lacks);
        told = rw (reply, lt-ltb p (described_length ss) below, lacks);
        not_supplied = λ i h. not-true _ (r.before i h);
        up_to = ⊎_elim (λ e. inl (omega arith)) (λ h. inr (rw (not-false (supplied ss (p + missing_run ss p)) (r.there h)) tt)) (eq-or-lt_of_le r.most);
        not_empty = onward_some ss (λ q. not (supplied ss q)) p below (ap not lacks);
      }

pub beyond : (ss : List Segment) (p : ℕ) → described_length ss ≤ p → reply ss p ≡ not_below
unfolding reply
beyond ss p h = rw (reply, le-ltb p (described_length ss) h)

-- of a supplied position
module _ (ss : List Segment) (p : ℕ) (supply : supplied ss p ≡ true) where
  same_supplied : (q : ℕ) → supplier (chunks_of ss) q ≡ supplier (chunks_of ss) p → supplied ss q ≡ true
  unfolding supplied
  same_supplied q e = rw e supply

  -- the run is supplied by the same chunk
  pub same-chunk : (i : ℕ) → i < served_run ss p → supplier (chunks_of ss) (p + i) ≡ supplier (chunks_of ss) p
  unfolding served_run
  same-chunk i h = eqb-true _ _ ((onward_first ss _ p).before i h)

  -- and so lies inside it
  pub in-chunk : (i : ℕ) → i < served_run ss p → ((chunk_for ss p).start ≤ p + i) × (p + i < (chunk_for ss p).start + (chunk_for ss p).size)
  unfolding covers
  in-chunk i h =
      let e = same-chunk i h in
      within_true _ _ _ (rw e at (supplier-covers ss (p + i) (same_supplied (p + i) e)))

  -- each byte of the part is the one that is served
  place_on : (i : ℕ) → i < served_run ss p → place_of_byte ss (p + i) ≡ place_of_byte ss p + i
  unfolding place_of_byte
  place_on i h =
      let first = in-chunk 0 (omega arith) in
      rw (place_of_byte, same-chunk i h) (omega arith)

  pub served-part : (f : List ℕ) (i : ℕ) → i < served_run ss p → served f ss (p + i) ≡ Some (get_or (bytes_in f (part_of ss p)) i 0)
  unfolding served part_of bytes_in
  served-part f i h =
      rw (served, same_supplied (p + i) (same-chunk i h), part_of, supply) (rw (place_on i h, get_or-take, get_or-drop))

  module _ (agreed : agree ss ≡ true) (order : InOrder ss) where
    pub below : p < described_length ss
    below = elim (dec_le (described_length ss) p) [ yes past ↦ absurd (true≢false (sym supply ∙ none-supplied ss agreed order p past)) | no d ↦ omega arith ]

    pub some_served : 0 < served_run ss p
    unfolding served_run
    some_served = onward_some ss _ p below (eq-eqb (supplier (chunks_of ss) p) _ refl)

    pub no_longer : supplier (chunks_of ss) (p + served_run ss p) ≡ supplier (chunks_of ss) p → ⊥
    unfolding served_run
    no_longer e =
        let r = onward_first ss (λ q. eqb (supplier (chunks_of ss) q) (supplier (chunks_of ss) p)) p in
        let last = below in
        elim (eq-or-lt_of_le r.most) [
          | inl end ↦ true≢false (sym (same_supplied (p + served_run ss p) e) ∙ none-supplied ss agreed order (p + served_run ss p) (omega arith))
          | inr short ↦ eqb-false _ _ (r.there short) e
        ]

    -- the part is as long as the run, where the chunk lies in the file
    pub served_long : (f : List ℕ) → (chunk_for ss p).place + (chunk_for ss p).size ≤ length f → length (bytes_in f (part_of ss p)) ≡ served_run ss p
    unfolding part_of bytes_in place_of_byte
    served_long f h =
        let some = some_served in
        let first = in-chunk 0 some in
        let last = in-chunk (served_run ss p - 1) (omega arith) in
        rw (part_of, supply) (simp (length-take, length-drop) (omega arith))

    pub served-told : reply ss p ≡ served_for (served_run ss p)
    unfolding reply
    served-told = rw (reply, lt-ltb p (described_length ss) below, supply)
