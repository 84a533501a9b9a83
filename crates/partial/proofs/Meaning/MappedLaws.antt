-- Each source byte is served or listed missing as document 01 says, where the sizes agree, the chunks follow each other
-- and lie in data boxes, and the boxes lie in the file.
use Prim.Native.Nat.{ℕ, zero, suc, ◌+◌, ◌-◌, ◌≤◌, ◌<◌}
use mathlib.Core.Bool.{Bool, true, false, not, ◌&&◌, ◌||◌, true≢false}
use mathlib.Core.List.{List, [], ◌∷◌}
use mathlib.Core.Logic.{◌⊎◌, inl, inr}
use mathlib.Core.Path.{◌≡◌, sym}
use Rattle.std.specs.Prelude.{Some}
use native.Mathlib.Nat.{zero-add, suc-add}
use native.Mathlib.Omega.{arith}
use borrow.Author.Tests.{lt-ltb, ltb-true, leb-true, eqb-true}
use lib.Dec.{T, leb, ltb, eqb}
use lib.ListN.{length, get_or}
use Rattle.boxes.specs.Framing.{Box}
use Rattle.boxes.specs.Kinds.{pdat, is, box_at, no_box}
use Rattle.boxes.proofs.KindLaws.{box_at_get_d}
use Rattle.partial.specs.Sequences.{all_of}
use Rattle.partial.specs.Segments.{Chunk, no_chunk, Segment, good, present, chunks_of, has_place}
use Rattle.partial.specs.Heading.{Heading}
use Rattle.partial.specs.Mixed.{allowed, fill_up, whole_boxes}
use Rattle.partial.specs.Entries.{in_data, may_lie}
use Rattle.partial.specs.Meaning.{agree, supplier, supplied, place_of_byte, served, covers, chunk_for, chunk_no}
use Rattle.partial.specs.ReadingDemands.{InData, Whole, Serving, Mapped}
use Rattle.partial.proofs.Meaning.SequenceLaws.{which, both, passes, all_at, some_at, within_true}
use Rattle.partial.proofs.Meaning.AgreementLaws.{agrees_one}
use Rattle.partial.proofs.Meaning.SupplyLaws.{supply, supplier-good, supplier-covers, beside}
use Rattle.partial.proofs.Meaning.DescribedLaws.{InOrder}
use Rattle.partial.proofs.Meaning.ListingLaws.{listing}
use Rattle.partial.proofs.Meaning.NamingLaws.{naming}
use Rattle.partial.proofs.Meaning.ServingLaws.{in-chunk, same-chunk, some_served, no_longer, served-part, served_long, served-told}
use Rattle.partial.proofs.Meaning.ServingLaws.{missing, beyond}

-- a present chunk that is not empty lies where it may
unfoldable pub lies : Heading → Chunk → Bool
lies h c = not (has_place c.state c.size) || may_lie h c.state c.place c.size

-- what lies in a file's data lies in a box of a number
in-data : (h : Heading) (c : Chunk) → in_data h.boxes c.place c.size ≡ true → InData h c
unfolding in_data
in-data h c may =
    let (k, less, there) = some_at _ no_box h.boxes may in
    let b = box_at k h.boxes in
    let (front, ends) = both (is pdat b && leb b.body c.place) (leb (c.place + c.size) b.end) (rw (box_at_get_d k h.boxes) there) in
    let (kind, starts) = both (is pdat b) (leb b.body c.place) front in
    record { number = k; there = less; kind = kind; from = leb-true _ _ starts; to = leb-true _ _ ends }

-- whole boxes up to an end: the number of the first, how many come behind it, and that each is allowed
record Run (bs : List Box) (end : ℕ) : Type 0 where
  first : ℕ
  more : ℕ
  there : first + more < length bs
  ends : (box_at (first + more) bs).end ≡ end
  each : (k : ℕ) → k ≤ more → T (allowed (box_at (first + k) bs))

fill_run : (bs : List Box) (end : ℕ) → fill_up bs end ≡ true → (more : ℕ) × (more < length bs) × ((box_at more bs).end ≡ end) × ((k : ℕ) → k ≤ more → T (allowed (box_at k bs)))
unfolding fill_up box_at
fill_run [] end h = absurd (true≢false (sym h))
fill_run (b ∷ bs) end h =
    let (free, rest) = both (allowed b) (elim (ltb b.end end) [ true ↦ fill_up bs end | false ↦ eqb b.end end ]) h in
    elim (which (ltb b.end end)) [
      | inl e ↦
          let (more, there, ends, each) = fill_run bs end (rw e at rest) in
          (suc more, omega arith, ends, elim [ zero ↦ λ _. rw free tt | suc k ↦ λ l. each k (omega arith) ])
      | inr e ↦ (0, omega arith, eqb-true b.end end (rw e at rest), elim [ zero ↦ λ _. rw free tt | suc k ↦ λ l. absurd (omega arith) ])
    ]

whole_run : (bs : List Box) (place end : ℕ) → whole_boxes bs place end ≡ true → (r : Run bs end) × ((box_at r.first bs).at ≡ place)
unfolding whole_boxes box_at
whole_run [] place end h = absurd (true≢false (sym h))
whole_run (b ∷ bs) place end h =
    elim (which (eqb b.at place)) [
      | inl e ↦
          let (more, there, ends, each) = fill_run (b ∷ bs) end (rw (whole_boxes, e) at h) in
          (record { first = 0; more = more; there = omega arith; ends = rw zero-add ends; each = λ k l. rw zero-add (each k l) }, eqb-true b.at place e)
      | inr e ↦
          let (r, starts) = whole_run bs place end (rw (whole_boxes, e) at h) in (
            record {
              first = suc r.first;
              more = r.more;
              there = omega (arith, r.there);
              ends = rw suc-add r.ends;
              each = λ k l. rw suc-add (r.each k l);
            },
            starts,
          )
    ]

-- what may lie in a file lies in its data, or is whole boxes of a mixed one
pub may_be : (h : Heading) (c : Chunk) → may_lie h c.state c.place c.size ≡ true → InData h c ⊎ Whole h c
unfolding may_lie
may_be h c may =
    elim (which (in_data h.boxes c.place c.size)) [
      | inl e ↦ inl (in-data h c e)
      | inr e ↦
          let (kinds, whole) = both (h.mixed && eqb c.state good) (whole_boxes h.boxes c.place (c.place + c.size)) (rw e at may) in
          let (mixed, is-good) = both h.mixed (eqb c.state good) kinds in
          let (r, starts) = whole_run h.boxes c.place (c.place + c.size) whole in
          inr
          (record {
            mixed = mixed;
            is_good = eqb-true c.state good is-good;
            first = r.first;
            more = r.more;
            there = r.there;
            starts = starts;
            ends = r.ends;
            each = r.each;
          })
    ]

-- the byte that is served stands as far behind the chunk's place as the position behind its start
served_byte : (f : List ℕ) (ss : List Segment) (p : ℕ) → supplied ss p ≡ true
    → served f ss p ≡ Some (get_or f ((chunk_for ss p).place + (p - (chunk_for ss p).start)) 0)
unfolding served place_of_byte
served_byte f ss p e = rw (served, e)

-- what reading has to give of an accepted file: sizes agree, chunks follow each other and lie in data boxes, and boxes
-- lie in the file
pub record Accepted (f : List ℕ) (h : Heading) (ss : List Segment) : Type 0 where
  pub agreed : agree ss ≡ true
  pub order : InOrder ss
  pub lie : all_of (lies h) (chunks_of ss) ≡ true
  pub inside : (k : ℕ) → k < length h.boxes → (box_at k h.boxes).end ≤ length f

module _ (f : List ℕ) (h : Heading) (ss : List Segment) (ok : Accepted f h ss) where
  may-lie : (p : ℕ) → supplied ss p ≡ true → may_lie h (chunk_for ss p).state (chunk_for ss p).place (chunk_for ss p).size ≡ true
  unfolding supplied lies has_place present
  may-lie p e =
      let room = in-chunk ss p e 0 (some_served ss p e ok.agreed ok.order) in
      let is-good = supplier-good ss p e in
      rw is-good
      (rw (is-good, lt-ltb 0 (chunk_for ss p).size (omega arith)) at
      (all_at (lies h) no_chunk (chunks_of ss) ok.lie (supplier (chunks_of ss) p) (ltb-true _ _ e)))

  -- wherever its chunk lies, it ends in the file
  ends_inside : (p : ℕ) → InData h (chunk_for ss p) ⊎ Whole h (chunk_for ss p) → (chunk_for ss p).place + (chunk_for ss p).size ≤ length f
  ends_inside p (inl d) = omega (arith, ok.inside d.number d.there, d.to)
  ends_inside p (inr w) = omega (arith, ok.inside (w.first + w.more) w.there, w.ends)

  serving : (p : ℕ) → supplied ss p ≡ true → Serving f h ss p
  serving p e =
      let held = may_be h (chunk_for ss p) (may-lie p e) in
      let whole = ends_inside p held in
      record {
        there = ltb-true _ _ (unfold supplied in e);
        is_good = supplier-good ss p e;
        covered = within_true _ _ _ (unfold covers in supplier-covers ss p e);
        earliest = λ k h. beside p (chunk_no ss k) ((supply (chunks_of ss) p).before k h);
        lies = held;
        byte = served_byte f ss p e;
        part = served-part ss p e f;
        long = served_long ss p e ok.agreed ok.order f (omega arith);
        same_chunk = same-chunk ss p e;
        no_longer = no_longer ss p e ok.agreed ok.order;
        not_empty = some_served ss p e ok.agreed ok.order;
        told = served-told ss p e ok.agreed ok.order;
      }

  pub mapped : Mapped f h ss
  mapped =
      record {
        agreed = λ s t here there _. agrees_one ss ok.agreed s t here there;
        listing = listing ss ok.agreed ok.order;
        naming = naming ss (listing ss ok.agreed ok.order);
        serving = λ p e. serving p (passes _ e);
        missing = missing f ss;
        beyond = beyond ss;
      }

  -- a served byte stands in the file
  pub place_inside : (p : ℕ) → supplied ss p ≡ true → place_of_byte ss p < length f
  unfolding place_of_byte
  place_inside p e =
      let s = serving p e in
      let whole = ends_inside p s.lies in
      let room = in-chunk ss p e 0 s.not_empty in
      omega arith
