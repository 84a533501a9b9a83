-- How many ranges a file has: no more than one, and one for each edge of a chunk, since the class of a position changes
-- only where a chunk starts or ends.
use Prim.Native.Nat.{ℕ, suc, ◌+◌, ◌-◌, ◌≤◌, ◌<◌}
use mathlib.Core.Bool.{true, false}
use mathlib.Core.List.{List, [], ◌∷◌, ◌++◌}
use mathlib.Core.Logic.{inl, inr}
use mathlib.Core.Path.{◌≡◌, refl, sym, ap, ◌∙◌}
use native.Mathlib.Decide.{dec_le}
use native.Mathlib.Nat.{zero-add}
use native.Mathlib.Omega.{arith}
use borrow.Author.Tests.{le-leb, lt-leb, lt-ltb, le-ltb, ltb-true, eqb-true, eq-eqb}
use lib.Dec.{ltb, eqb}
use lib.ListN.{length, length-append}
use Rattle.partial.specs.Sequences.{some_of, within}
use Rattle.partial.specs.Segments.{Chunk, Segment, good, damaged, chunks_of}
use Rattle.partial.specs.Meaning.{covers, covers_as, supplied, described_length}
use Rattle.partial.specs.Ranges.{Range, ranges, class_of, ranges_of}
use Rattle.partial.specs.Naming.{damaged_at, named_class, named_ranges}
use Rattle.partial.proofs.Meaning.SequenceLaws.{which, neither, some_append}
use Rattle.partial.proofs.Meaning.SupplyLaws.{supplied_some}
use Rattle.partial.proofs.Meaning.RangeLaws.{Cut, done, next, cut, ordered}
use Rattle.partial.proofs.Meaning.DescribedLaws.{Follow, InOrder}

-- how many numbers of a list lie above one
above : ℕ → List ℕ → ℕ
above p [] = 0
above p (n ∷ ns) = elim (ltb p n) [ true ↦ suc (above p ns) | false ↦ above p ns ]

above_most : (p : ℕ) (ns : List ℕ) → above p ns ≤ length ns
unfolding above
above_most p [] = omega arith
above_most p (n ∷ ns) =
    elim (which (ltb p n)) [
      | inl e ↦ rw (above, e) (omega (arith, above_most p ns))
      | inr e ↦ rw (above, e) (omega (arith, above_most p ns))
    ]

-- no more lie above a higher number, and fewer where that is one of the list
module _ (p q : ℕ) (less : p < q) where
  above_less : (ns : List ℕ) → above q ns ≤ above p ns
  unfolding above
  above_less [] = omega arith
  above_less (n ∷ ns) =
      let rest = above_less ns in
      elim (which (ltb q n)) [
        | inl e ↦ rw (above, e, lt-ltb p n (omega (arith, ltb-true q n e))) (omega arith)
        | inr e ↦ elim (which (ltb p n)) [ inl d ↦ rw (above, e, d) (omega arith) | inr d ↦ rw (above, e, d) rest ]
      ]

  above_fewer : (ns : List ℕ) → some_of (eqb q) ns ≡ true → suc (above q ns) ≤ above p ns
  unfolding some_of above
  above_fewer [] there = absurd (let z : ◌≡◌ {A = ℕ} 0 1 = cc in omega arith)
  above_fewer (n ∷ ns) there =
      elim (which (eqb q n)) [
        | inl here ↦
            let same = eqb-true q n here in
            rw (above, le-ltb q n (omega arith), lt-ltb p n (omega arith)) (omega (arith, above_less ns))
        | inr other ↦
            let rest = above_fewer ns (rw other at there) in
            elim (which (ltb q n)) [
              | inl e ↦ rw (above, e, lt-ltb p n (omega (arith, ltb-true q n e))) (omega arith)
              | inr e ↦ elim (which (ltb p n)) [ inl d ↦ rw (above, e, d) (omega arith) | inr d ↦ rw (above, e, d) rest ]
            ]
      ]

-- a class that changes only at numbers of a list has no more than one range and one for each of them
module _ (class : ℕ → ℕ) (edges : List ℕ) (steady : (p : ℕ) → some_of (eqb (suc p)) edges ≡ false → class (suc p) ≡ class p) where
  none_left : {end p : ℕ} {rs : List Range} → Cut class end p rs → end ≤ p → length rs ≡ 0
  none_left (done e) last = refl
  none_left (next some same differs rest) last = absurd (omega (arith, ordered class rest))

  -- where a range begins behind another, there is an edge
  edge : (p q : ℕ) → p < q → ((i : ℕ) → p ≤ i → i < q → class i ≡ class p) → (class q ≡ class p → ⊥) → some_of (eqb q) edges ≡ true
  edge p q some same differs =
      let before : suc (q - 1) ≡ q = omega arith in
      elim (which (some_of (eqb q) edges)) [
        | inl e ↦ e
        | inr e ↦
            let alike : class q ≡ class (q - 1) = rw before at (steady (q - 1) (rw before e)) in
            absurd (differs (alike ∙ same (q - 1) (omega arith) (omega arith)))
      ]

  cut_few : {end p : ℕ} {rs : List Range} → Cut class end p rs → length rs ≤ suc (above p edges)
  cut_few (done e) = omega arith
  cut_few {end} {p} (next {q = q} {rs = rs} some same differs rest) =
      elim (dec_le end q) [
        | yes last ↦ omega (arith, none_left rest last)
        | no on ↦ omega (arith, cut_few rest, above_fewer p q some edges (edge p q some same (differs (omega arith))))
      ]

  ranges_few : (k : ℕ) → length (ranges class k 0) ≤ suc (length edges)
  ranges_few k = omega (arith, cut_few (cut class k 0), above_most 0 edges)

-- the edges of chunks that follow each other from a position, and those of segments
edges_from : ℕ → List Chunk → List ℕ
edges_from start [] = start ∷ []
edges_from start (c ∷ cs) = start ∷ edges_from (start + c.size) cs

edges_of : List Segment → List ℕ
edges_of [] = []
edges_of (s ∷ ss) = edges_from s.source_offset s.chunks ++ edges_of ss

from_many : (start : ℕ) (cs : List Chunk) → length (edges_from start cs) ≡ suc (length cs)
unfolding edges_from
from_many start [] = refl
from_many start (c ∷ cs) = ap suc (from_many (start + c.size) cs)

edges_many : (ss : List Segment) → length (edges_of ss) ≡ length ss + length (chunks_of ss)
unfolding edges_of chunks_of
edges_many [] = sym (zero-add 0)
edges_many (s ∷ ss) =
    rw (length-append, length-append, from_many s.source_offset s.chunks, edges_many ss) (omega arith)

differ : (m n : ℕ) → eqb m n ≡ false → m ≡ n → ⊥
differ m n e same = let z : ◌≡◌ {A = ℕ} 0 1 = cc (e, eq-eqb m n same) in omega arith

module _ (state p : ℕ) where
  -- a chunk covers two neighbours alike where the second is none of its edges
  covers_alike : (c : Chunk) → (suc p ≡ c.start → ⊥) → (suc p ≡ c.start + c.size → ⊥) → covers_as state (suc p) c ≡ covers_as state p c
  unfolding covers within
  covers_alike c start end =
      elim (dec_le c.start p) [
        | yes from ↦
            elim (dec_le (c.start + c.size) p) [
              | yes past ↦ simp (le-leb c.start p from, le-leb c.start (suc p) (omega arith), le-ltb p (c.start + c.size) past, le-ltb (suc p) (c.start + c.size) (omega arith))
              | no to ↦ simp (le-leb c.start p from, le-leb c.start (suc p) (omega arith), lt-ltb p (c.start + c.size) (omega arith), lt-ltb (suc p) (c.start + c.size) (omega arith))
            ]
        | no before ↦ simp (lt-leb c.start p (omega arith), lt-leb c.start (suc p) (omega arith))
      ]

  first_edge : (start : ℕ) (cs : List Chunk) → some_of (eqb (suc p)) (edges_from start cs) ≡ false → suc p ≡ start → ⊥
  unfolding some_of edges_from
  first_edge start [] e = differ (suc p) start (neither (eqb (suc p) start) false e).0
  first_edge start (c ∷ cs) e = differ (suc p) start (neither (eqb (suc p) start) (some_of (eqb (suc p)) (edges_from (start + c.size) cs)) e).0

  follow_alike : (start : ℕ) (cs : List Chunk) → Follow start cs → some_of (eqb (suc p)) (edges_from start cs) ≡ false
      → some_of (covers_as state (suc p)) cs ≡ some_of (covers_as state p) cs
  unfolding some_of edges_from
  follow_alike start [] f e = refl
  follow_alike start (c ∷ cs) (at, f) e =
      let (here, there) = neither (eqb (suc p) start) (some_of (eqb (suc p)) (edges_from (start + c.size) cs)) e in
      let end = first_edge (start + c.size) cs there in
      let alike = covers_alike c (λ same. differ (suc p) start here (same ∙ at)) (λ same. end (same ∙ ap (λ (n : ℕ). n + c.size) at)) in
      rw (alike, follow_alike (start + c.size) cs f there)

  chunks_alike : (ss : List Segment) → InOrder ss → some_of (eqb (suc p)) (edges_of ss) ≡ false
      → some_of (covers_as state (suc p)) (chunks_of ss) ≡ some_of (covers_as state p) (chunks_of ss)
  unfolding some_of edges_of chunks_of
  chunks_alike [] o e = refl
  chunks_alike (s ∷ ss) (f, o) e =
      let edges = edges_from s.source_offset s.chunks in
      let (here, there) = neither (some_of (eqb (suc p)) edges) (some_of (eqb (suc p)) (edges_of ss)) (rw some_append at e) in
      rw (some_append, some_append, follow_alike s.source_offset s.chunks f here, chunks_alike ss o there)

module _ (ss : List Segment) (o : InOrder ss) where
  supplied_steady : (p : ℕ) → some_of (eqb (suc p)) (edges_of ss) ≡ false → supplied ss (suc p) ≡ supplied ss p
  supplied_steady p e = supplied_some ss (suc p) ∙ chunks_alike good p ss o e ∙ sym (supplied_some ss p)

  class_steady : (p : ℕ) → some_of (eqb (suc p)) (edges_of ss) ≡ false → class_of ss (suc p) ≡ class_of ss p
  unfolding class_of
  class_steady p e = rw (class_of, supplied_steady p e)

  name_steady : (p : ℕ) → some_of (eqb (suc p)) (edges_of ss) ≡ false → named_class ss (suc p) ≡ named_class ss p
  unfolding named_class damaged_at
  name_steady p e =
      elim (which (supplied ss p)) [
        | inl h ↦ rw (named_class, supplied_steady p e, h)
        | inr h ↦ rw (named_class, supplied_steady p e, h) (rw (chunks_alike damaged p ss o e))
      ]

  pub listed_few : length (ranges_of ss) ≤ suc (length ss + length (chunks_of ss))
  unfolding ranges_of
  listed_few = rw edges_many at (ranges_few (class_of ss) (edges_of ss) class_steady (described_length ss))

  pub named_few : length (named_ranges ss) ≤ suc (length ss + length (chunks_of ss))
  unfolding named_ranges
  named_few = rw edges_many at (ranges_few (named_class ss) (edges_of ss) name_steady (described_length ss))
