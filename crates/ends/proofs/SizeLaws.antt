-- Laws of the ends of segments: when a segment makes the size known, what is gathered with one more, whether they
-- agree, and the described length.
use Prim.Native.Nat.{ℕ, ◌%◌, ◌≤◌, max}
use mathlib.Core.Bool.{true, false, not, ◌&&◌, and-true}
use mathlib.Core.List.{List, [], ◌∷◌, ◌++◌, map}
use mathlib.Core.Logic.{inl, inr}
use Rattle.std.specs.Prelude.{Option, None, Some, option_map, unwrap_or}
use mathlib.Core.Path.{◌≡◌, refl, sym, ap, ◌∙◌}
use native.Mathlib.Omega.{arith}
use borrow.Author.Tests.{eq-eqb, ne_eqb}
use lib.Dec.{eqb, leb}
use lib.ListN.{length}
use Rattle.partial.specs.Sequences.{all_of, largest}
use Rattle.partial.specs.Segments.{Chunk, Segment, end_of, is_last, is_open}
use Rattle.partial.specs.Meaning.{gives_size, known_size, is_closed, agree, described_length}
use Rattle.partial.proofs.Meaning.SequenceLaws.{which, all_append}
use Rattle.partial.proofs.Meaning.KnownLaws.{largest_both, known_open, agree_open, agree_closed, described_open, described_closed}
use Rattle.partial.proofs.Meaning.KnownLaws.{known_stays, known_first, known_new, none_gives}
use Rattle.partial.specs.declared.position.Position.{Position}
use Rattle.ends.specs.declared.sizes.Sizes.{Sizes}
use Rattle.ends.specs.Sizes.{sizes_of}

-- a segment makes the size known if it is the last and has a chunk
module _ (s : Segment) where
  pub gives_not_last : (s.flags % 2 ≡ 1 → ⊥) → false ≡ gives_size s
  unfolding gives_size is_last
  gives_not_last other = rw (ne_eqb (s.flags % 2) 1 other)

  pub gives_last : s.flags % 2 ≡ 1 → not (eqb (length s.chunks) 0) ≡ gives_size s
  unfolding gives_size is_last is_open
  gives_last last = rw (eq-eqb (s.flags % 2) 1 last) (ap not (go s.chunks))
    where
      go : (cs : List Chunk) → eqb (length cs) 0 ≡ elim cs [ [] ↦ true | _ ∷ _ ↦ false ]
      go [] = refl
      go (c ∷ cs) = ne_eqb (length (c ∷ cs)) 0 (λ h. omega arith)

-- the size, or 0 where it is not known
abbrev pub size_or_0 : Sizes → ℕ
size_or_0 x = elim x.size [ Some p ↦ p.0 | None ↦ 0 ]

-- of no segment
pub sizes_none : record { size = None; largest = record { 0 = 0 }; same = true } ≡ sizes_of []
unfolding sizes_of known_size largest all_of
sizes_none = refl

-- what the size says of whether it is known
module _ (ss : List Segment) where
  pub size_open : (sizes_of ss).size ≡ None → is_closed ss ≡ false
  unfolding sizes_of is_closed
  size_open = go (known_size ss)
    where
      go : (known : Option ℕ) → ◌≡◌ {A = Option Position} (option_map (λ n. record { 0 = n }) known) None → (elim known [ Some n ↦ true | None ↦ false ]) ≡ false
      go None e = refl
      go (Some n) e = absurd (let z : ◌≡◌ {A = ℕ} 0 1 = cc in omega arith)

  pub size_closed : {p : Position} → (sizes_of ss).size ≡ Some p → (is_closed ss ≡ true) × (unwrap_or (known_size ss) 0 ≡ p.0)
  unfolding sizes_of is_closed
  size_closed {p} = go (known_size ss)
    where
      go : (known : Option ℕ) → option_map (λ n. record { 0 = n }) known ≡ Some p → ((elim known [ Some n ↦ true | None ↦ false ]) ≡ true) × (unwrap_or known 0 ≡ p.0)
      go None e = absurd (let z : ◌≡◌ {A = ℕ} 0 1 = cc in omega arith)
      go (Some n) e = (refl, let same : ◌≡◌ {A = Position} (record { 0 = n }) p = cc in ap (λ (p : Position). p.0) same)

module _ (ss : List Segment) (s : Segment) where
  last_largest : largest (map end_of (ss ++ (s ∷ []))) ≡ max (largest (map end_of ss)) (end_of s)
  unfolding largest
  last_largest = largest_both end_of ss (s ∷ []) ∙ omega arith

  -- what is gathered is within a limit where it was, and where the segment ends within it
  pub sizes_within : (limit : ℕ) → size_or_0 (sizes_of ss) ≤ limit → (sizes_of ss).largest.0 ≤ limit → end_of s ≤ limit
      → (size_or_0 (sizes_of (ss ++ (s ∷ []))) ≤ limit) × ((sizes_of (ss ++ (s ∷ []))).largest.0 ≤ limit)
  unfolding sizes_of
  sizes_within limit size most ends = (
    elim (which (gives_size s)) [
      | inr lacks ↦ rw (known_stays ss s lacks) size
      | inl gives ↦ elim (which (is_closed ss)) [ inl closed ↦ rw (known_first ss s closed) size | inr unknown ↦ rw (known_new ss s unknown gives) ends ]
    ],
    omega (arith, last_largest),
  )

-- the same of what was gathered before
module _ (x : Sizes) (ss : List Segment) (s : Segment) (e : x ≡ sizes_of ss) (end most : ℕ) (ends : end ≡ end_of s) (larger : most ≡ max x.largest.0 end) where
  most_of : most ≡ max (largest (map end_of ss)) (end_of s)
  unfolding sizes_of
  most_of = rw (← ends) (larger ∙ rw e)

  -- a segment that does not make the size known
  pub with_stay : gives_size s ≡ false → record { size = x.size; largest = record { 0 = most }; same = x.same } ≡ sizes_of (ss ++ (s ∷ []))
  unfolding sizes_of all_of
  with_stay lacks = rw (e, known_stays ss s lacks, last_largest, most_of, all_append, lacks, and-true)

  -- the first that does
  pub with_new : x.size ≡ None → gives_size s ≡ true → record { size = Some (record { 0 = end }); largest = record { 0 = most }; same = true } ≡ sizes_of (ss ++ (s ∷ []))
  unfolding sizes_of all_of
  with_new none gives =
      let lacks = size_open ss (rw e at none) in
      rw (ends, known_new ss s lacks gives, last_largest, most_of, all_append, gives, none_gives (λ t. eqb (end_of t) (end_of s)) ss (known_open ss lacks), eq-eqb (end_of s) (end_of s) refl)

  -- a later one
  module _ {p : Position} (some : x.size ≡ Some p) (gives : gives_size s ≡ true) where
    pub with_later : record { size = x.size; largest = record { 0 = most }; same = x.same && eqb end p.0 } ≡ sizes_of (ss ++ (s ∷ []))
    unfolding sizes_of all_of
    with_later =
        let (closed, size) = size_closed ss (rw e at some) in
        rw (ends, e, ← size, known_first ss s closed, last_largest, most_of, all_append, gives, and-true)

-- what is answered of them
module _ (x : Sizes) (ss : List Segment) (e : x ≡ sizes_of ss) where
  pub agree_unknown : x.size ≡ None → true ≡ agree ss
  agree_unknown none = sym (agree_open ss (size_open ss (rw e at none)))

  pub agree_known : {p : Position} → x.size ≡ Some p → (leb x.largest.0 p.0 && x.same) ≡ agree ss
  unfolding sizes_of
  agree_known some =
      let (closed, size) = size_closed ss (rw e at some) in
      rw (e, ← size) (sym (agree_closed ss closed))

  pub described_known : {p : Position} → x.size ≡ Some p → p.0 ≡ described_length ss
  described_known some =
      let (closed, size) = size_closed ss (rw e at some) in
      sym size ∙ sym (described_closed ss closed)

  pub described_unknown : x.size ≡ None → x.largest.0 ≡ described_length ss
  unfolding sizes_of
  described_unknown none = rw e (sym (described_open ss (size_open ss (rw e at none))))
