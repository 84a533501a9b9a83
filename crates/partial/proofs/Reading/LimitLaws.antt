-- Laws of the limits: an accepted file has no more segments and chunks than are taken, and the described length of each
-- source is no higher than a source may be.
use Prim.Native.Nat.{ℕ, zero, suc, ◌+◌, ◌≤◌}
use mathlib.Core.Bool.{Bool, true, false}
use mathlib.Core.List.{List, [], ◌∷◌, ◌++◌, map}
use mathlib.Core.Logic.{inl, inr, ⊎_elim}
use Rattle.std.specs.Prelude.{Some, unwrap_or}
use mathlib.Core.Path.{◌≡◌, sym, ap, ◌∙◌}
use native.Mathlib.Nat.{add-zero}
use native.Mathlib.Omega.{arith}
use borrow.Author.Tests.{leb-true}
use lib.Dec.{leb, eqb}
use lib.ListN.{length, length-append}
use Rattle.boxes.specs.Answer.{given}
use Rattle.boxes.specs.Framing.{Box}
use Rattle.boxes.specs.Kinds.{pseg, those}
use Rattle.boxes.proofs.AnswerLaws.{given_same, both_given, held}
use Rattle.partial.specs.Entries.{Ploc, Cursor, entry, place_of, chunk_step, chunks_from}
use Rattle.partial.specs.Heading.{Heading}
use Rattle.partial.specs.Limits.{segment_limit, chunk_limit}
use Rattle.partial.specs.Meaning.{gives_size, known_size, described_length, is_closed}
use Rattle.partial.specs.Sources.{of_source}
use Rattle.partial.specs.Reading.{segment, segments_from, segments}
use Rattle.partial.specs.Segments.{Chunk, Segment, chunks_of, end_of}
use Rattle.partial.specs.Sequences.{largest, sum}
use Rattle.partial.proofs.Meaning.KnownLaws.{largest_both, described_open, described_closed}
use Rattle.partial.proofs.Meaning.SequenceLaws.{which}
use Rattle.partial.proofs.Meaning.SupplyLaws.{chunks_append}
use Rattle.partial.proofs.Reading.KeptLaws.{stepped, segmented}

-- there are as many segments as boxes
module _ (limit : ℕ) (f : List ℕ) (h : Heading) where
  pub segments-many : (bs : List Box) (before : List Segment) {ss : List Segment} → segments_from limit f h before bs ≡ given ss
      → length ss ≡ length before + length bs
  unfolding segments_from
  segments-many [] before e = rw (given_same e) (sym (add-zero _))
  segments-many (b ∷ bs) before e =
      let (s, read, e1) = both_given (segment limit f h before b) _ e in
      let rest = segments-many bs (before ++ (s ∷ [])) e1 in
      omega (arith, length-append before (s ∷ []))

  pub segments_limited : {ss : List Segment} → segments limit f h ≡ given ss → length ss ≤ segment_limit
  segments_limited e =
      let t = segmented limit f h e in
      omega (arith, leb-true (length (those pseg h.boxes)) segment_limit t.few, segments-many (those pseg h.boxes) [] t.read)

-- there are as many chunks as entries
chunks_many : (limit : ℕ) (f : List ℕ) (h : Heading) (from : ℕ) (l : Ploc) (n : ℕ) (c : Cursor) {cs : List Chunk} → chunks_from limit f h from l n c ≡ given cs → length cs ≡ n
unfolding chunks_from
chunks_many limit f h from l zero c e = ap length (sym (given_same (held 17 (eqb c.at l.end) _ e).1))
chunks_many limit f h from l (suc n) c e =
    let (met, _, e) = both_given (chunk_step limit f h from l c) _ e in
    let (rest, others, e) = both_given (chunks_from limit f h from l n met.1) _ e in
    ap length (sym (given_same e)) ∙ omega (arith, chunks_many limit f h from l n met.1 others)

-- a segment beside those before it
segment_few : (limit : ℕ) (f : List ℕ) (h : Heading) (before : List Segment) (b : Box) {s : Segment} → segment limit f h before b ≡ given s
    → length (chunks_of before) + length s.chunks ≤ chunk_limit
segment_few limit f h before b e =
    let (inner, l, cs, t, same) = stepped limit f h before b e in
    let many = chunks_many limit f h b.at l l.count _ t.chunks in
    omega (arith, leb-true (length (chunks_of before) + l.count) chunk_limit t.few, many, ap (λ (s : Segment). length s.chunks) same)

segments_few : (limit : ℕ) (f : List ℕ) (h : Heading) (before : List Segment) (bs : List Box) {ss : List Segment} → length (chunks_of before) ≤ chunk_limit
    → segments_from limit f h before bs ≡ given ss
    → length (chunks_of ss) ≤ chunk_limit
unfolding segments_from chunks_of
segments_few limit f h before [] few e = omega (arith, ap (λ (ss : List Segment). length (chunks_of ss)) (given_same e))
segments_few limit f h before (b ∷ bs) few e =
    let (s, read, e) = both_given (segment limit f h before b) _ e in
    let all = segment_few limit f h before b read in
    let with = ap length (chunks_append before (s ∷ [])) in
    let both = length-append (chunks_of before) (chunks_of (s ∷ [])) in
    let one = length-append s.chunks [] in
    segments_few limit f h (before ++ (s ∷ [])) bs (omega arith) e

pub chunks_few : (limit : ℕ) (f : List ℕ) (h : Heading) {ss : List Segment} → segments limit f h ≡ given ss → length (chunks_of ss) ≤ chunk_limit
unfolding chunks_of
chunks_few limit f h e = segments_few limit f h [] (those pseg h.boxes) (omega arith) (segmented limit f h e).read

-- ---- no end is higher than the limit

-- a chunk ends where the cursor stands behind it
step_low : (limit : ℕ) (f : List ℕ) (h : Heading) (from : ℕ) (l : Ploc) (c : Cursor) {met : Chunk × Cursor} → chunk_step limit f h from l c ≡ given met
    → (met.1.start ≡ c.start + met.0.size) × (met.1.start ≤ limit)
unfolding chunk_step
step_low limit f h from l c e =
    let (x, _, e) = both_given (entry f l c.at) _ e in
    let (low, e) = held 23 (leb (c.start + x.size) limit) _ e in
    let (_, _, e) = both_given (place_of h from x) _ e in
    let same = given_same e in
    let ends = ap (λ (m : Chunk × Cursor). m.1.start) same in
    let size = ap (λ (m : Chunk × Cursor). m.0.size) same in
    (omega arith, omega (arith, leb-true (c.start + x.size) limit low))

chunks_low : (limit : ℕ) (f : List ℕ) (h : Heading) (from : ℕ) (l : Ploc) (n : ℕ) (c : Cursor) {cs : List Chunk} → c.start ≤ limit
    → chunks_from limit f h from l n c ≡ given cs
    → c.start + sum (map (λ c. c.size) cs) ≤ limit
unfolding chunks_from sum
chunks_low limit f h from l zero c low e =
    omega (arith, ap (λ (cs : List Chunk). sum (map (λ c. c.size) cs)) (given_same (held 17 (eqb c.at l.end) _ e).1))
chunks_low limit f h from l (suc n) c low e =
    let (met, read, e) = both_given (chunk_step limit f h from l c) _ e in
    let (rest, others, e) = both_given (chunks_from limit f h from l n met.1) _ e in
    let (ends, below) = step_low limit f h from l c read in
    omega (arith, chunks_low limit f h from l n met.1 below others, ap (λ (cs : List Chunk). sum (map (λ c. c.size) cs)) (given_same e))

pub segment_low : (limit : ℕ) (f : List ℕ) (h : Heading) (before : List Segment) (b : Box) {s : Segment} → segment limit f h before b ≡ given s → end_of s ≤ limit
unfolding end_of
segment_low limit f h before b e =
    let (inner, l, cs, t, same) = stepped limit f h before b e in
    let all = chunks_low limit f h b.at l l.count _ (leb-true _ limit t.low) t.chunks in
    omega (arith, all, ap end_of same)

segments_low : (limit : ℕ) (f : List ℕ) (h : Heading) (before : List Segment) (bs : List Box) {ss : List Segment} → largest (map end_of before) ≤ limit
    → segments_from limit f h before bs ≡ given ss
    → largest (map end_of ss) ≤ limit
unfolding segments_from largest
segments_low limit f h before [] low e = omega (arith, ap (λ (ss : List Segment). largest (map end_of ss)) (given_same e))
segments_low limit f h before (b ∷ bs) low e =
    let (s, read, e) = both_given (segment limit f h before b) _ e in
    let one = segment_low limit f h before b read in
    let with = largest_both end_of before (s ∷ []) in
    segments_low limit f h (before ++ (s ∷ [])) bs (omega arith) e

-- a known size is the end of some segment
known_most : (ss : List Segment) → unwrap_or (known_size ss) 0 ≤ largest (map end_of ss)
unfolding known_size largest
known_most [] = omega arith
known_most (s ∷ ss) = go (gives_size s) (known_most ss)
  where
    go : (gives : Bool) → unwrap_or (known_size ss) 0 ≤ largest (map end_of ss) → unwrap_or {T = ℕ} (elim gives [ true ↦ Some (end_of s) | false ↦ known_size ss ]) 0 ≤ largest (map end_of (s ∷ ss))
    go true low = omega arith
    go false low = omega arith

described_most : (ss : List Segment) → described_length ss ≤ largest (map end_of ss)
described_most ss =
    ⊎_elim (λ closed. omega (arith, described_closed ss closed, known_most ss)) (λ not_known. omega (arith, described_open ss not_known)) (which (is_closed ss))

-- the segments of a source are some of all
ends_of : (n : ℕ) (ss : List Segment) → largest (map end_of (of_source n ss)) ≤ largest (map end_of ss)
unfolding of_source largest
ends_of n [] = omega arith
ends_of n (s ∷ ss) =
    elim (which (eqb s.source n)) [
      | inl e ↦ rw (of_source, e) (omega (arith, ends_of n ss))
      | inr e ↦ rw (of_source, e) (omega (arith, ends_of n ss))
    ]

pub described_low : (limit : ℕ) (f : List ℕ) (h : Heading) {ss : List Segment} → segments limit f h ≡ given ss → (n : ℕ) → described_length (of_source n ss) ≤ limit
unfolding largest
described_low limit f h {ss} e n =
    let low = segments_low limit f h [] (those pseg h.boxes) (omega arith) (segmented limit f h e).read in
    omega (arith, low, described_most (of_source n ss), ends_of n ss)
