-- Laws of the described length, where the sizes agree: no segment ends above it, nothing is supplied there, and it
-- never shrinks.
use Prim.Native.Nat.{ℕ, ◌+◌, ◌≤◌}
use mathlib.Core.Bool.{true, false, not, ◌&&◌, ◌||◌, and-false}
use mathlib.Core.List.{List, [], ◌∷◌, ◌++◌, map}
use mathlib.Core.Logic.{inl, inr}
use Rattle.std.specs.Prelude.{Option, None, Some}
use mathlib.Core.Path.{◌≡◌, refl, ◌∙◌}
use native.Mathlib.Nat.{le_refl, le_trans}
use native.Mathlib.Omega.{arith}
use borrow.Author.Tests.{leb-true}
use lib.Dec.{leb, eqb}
use Rattle.partial.specs.Sequences.{some_of, all_of, sum, largest, or_else}
use Rattle.partial.specs.Segments.{Chunk, Segment, end_of, chunks_of}
use Rattle.partial.specs.Meaning.{supplies, gives_size, known_size, described_length, agree, covers, supplied}
use Rattle.partial.proofs.Meaning.SequenceLaws.{which, both, past, some_append, largest_most, largest-append}
use Rattle.partial.proofs.Meaning.SupplyLaws.{supplied_some}

-- chunks follow each other in the source from a position
abbrev pub Follow : ℕ → List Chunk → Type 0
Follow start [] = Unit {0}
Follow start (c ∷ cs) = (c.start ≡ start) × Follow (start + c.size) cs

-- as those of each segment do from its source offset
abbrev pub InOrder : List Segment → Type 0
InOrder [] = Unit {0}
InOrder (s ∷ ss) = Follow s.source_offset s.chunks × InOrder ss

pub in-order-append : (ss ts : List Segment) → InOrder ss → InOrder ts → InOrder (ss ++ ts)
in-order-append [] ts o q = q
in-order-append (s ∷ ss) ts o q = (o.0, in-order-append ss ts o.1 q)

-- no segment ends above the described length
pub ends_most : (ss : List Segment) → agree ss ≡ true → largest (map end_of ss) ≤ described_length ss
unfolding agree described_length
ends_most ss = go (known_size ss)
  where
    go : (known : Option ℕ)
        → (elim known [ Some n ↦ all_of (λ s. leb (end_of s) n && (not (gives_size s) || eqb (end_of s) n)) ss | None ↦ true ]) ≡ true
        → largest (map end_of ss) ≤ (elim known [ Some n ↦ n | None ↦ largest (map end_of ss) ])
    go None h = le_refl (largest (map end_of ss))
    go (Some n) h = largest_most end_of _ n (λ s e. leb-true _ _ (both _ _ e).0) ss h

-- the known size of segments and then others
pub known_append : (ss ts : List Segment) → known_size (ss ++ ts) ≡ or_else (known_size ss) (known_size ts)
unfolding known_size or_else
known_append [] ts = refl
known_append (s ∷ ss) ts =
    elim (which (gives_size s)) [
      | inl e ↦ rw (known_size, e)
      | inr e ↦ rw (known_size, e) (known_append ss ts)
    ]

-- the described length never shrinks
pub never_shorter : (ss ts : List Segment) → agree (ss ++ ts) ≡ true → described_length ss ≤ described_length (ss ++ ts)
unfolding described_length or_else
never_shorter ss ts h = go (known_size ss) refl
  where
    go : (known : Option ℕ) → known_size ss ≡ known → described_length ss ≤ described_length (ss ++ ts)
    go None e = rw (described_length, e) (le_trans (largest-append end_of ss ts) (ends_most (ss ++ ts) h))
    go (Some n) e = rw (described_length, known_append, e) (le_refl n)

-- nothing is supplied at or above every end
none_follow : (start p : ℕ) (cs : List Chunk) → Follow start cs → start + sum (map (λ c. c.size) cs) ≤ p → some_of (supplies p) cs ≡ false
unfolding some_of sum covers
none_follow start p [] f h = refl
none_follow start p (c ∷ cs) f h =
    simp (past c.start c.size p (omega arith), and-false) (none_follow (start + c.size) p cs f.1 (omega arith))

none_after : (p : ℕ) (ss : List Segment) → InOrder ss → largest (map end_of ss) ≤ p → some_of (supplies p) (chunks_of ss) ≡ false
unfolding some_of chunks_of largest end_of
none_after p [] o h = refl
none_after p (s ∷ ss) o h = rw (some_append, none_follow s.source_offset p s.chunks o.0 (omega arith)) (none_after p ss o.1 (omega arith))

pub none-supplied : (ss : List Segment) → agree ss ≡ true → InOrder ss → (p : ℕ) → described_length ss ≤ p → supplied ss p ≡ false
none-supplied ss h o p past = supplied_some ss p ∙ none_after p ss o (omega (arith, ends_most ss h))
