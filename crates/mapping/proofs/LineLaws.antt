-- Laws of the lines of the map, word by word.
use Prim.Native.Nat.{ℕ, ◌+◌, ◌^◌, ◌≤◌, ◌<◌}
use mathlib.Core.Bool.{Bool, true, false}
use mathlib.Core.List.{List, [], ◌∷◌, ◌++◌, append_assoc, map}
use mathlib.Core.Path.{◌≡◌, ap, ◌∙◌}
use native.Mathlib.Omega.{arith}
use borrow.Author.Tests.{eq-eqb, ne_eqb}
use lib.ListN.{length}
use Rattle.filling.specs.Rows.{Puts}
use Rattle.filling.proofs.PutsLaws.{puts_more}
use Rattle.partial.specs.Map.{ascii, decimal, line, map_word, miss_word, range_line, source_line}
use Rattle.partial.specs.Meaning.{described_length, is_closed}
use Rattle.partial.specs.Naming.{held}
use Rattle.partial.specs.Ranges.{had}
use Rattle.partial.specs.Segments.{Segment}
use Rattle.texts.specs.Pieces.{PutsPiece}
use Rattle.texts.proofs.TextLaws.{piece_puts}
use Rattle.mapping.specs.Outline.{word_of}
use Rattle.mapping.specs.Totals.{told_of}
use Rattle.mapping.specs.declared.totals.Totals.{Totals}

-- ---- words and numbers, piece by piece

pub field_put : (word : List ℕ) (n : ℕ) {s t₁ t : List ℕ} {at one next : ℕ} → at < 2 ^ 62 → length word ≤ 8
    → PutsPiece s at word t₁ one
    → PutsPiece t₁ one (decimal n) t next
    → next ≤ one + 20
    → Puts s at (word ++ decimal n) t next × (next ≤ at + (length word + 20))
field_put word n {at = at} {one = one} {next = next} low short a b few =
    let next_low : next ≤ at + (length word + 20) = omega (arith, a.end) in
    (puts_more (piece_puts (omega arith) a) (piece_puts (omega arith) b), next_low)

-- bytes with a last piece behind them
pub last_put : {a b s t u : List ℕ} {at m next : ℕ} → m < 2 ^ 63 → length b ≤ 8 → Puts s at a t m → PutsPiece t m b u next → Puts s at (a ++ b) u next × (next ≤ m + length b)
last_put {b = b} {m = m} {next = next} low short p q =
    let next_low : next ≤ m + length b = omega (arith, q.end) in
    (puts_more p (piece_puts (omega arith) q), next_low)

-- ---- the word of a class

pub have_word : (named : Bool) (class : ℕ) → class ≡ had → (104 ∷ 97 ∷ 118 ∷ 101 ∷ 9 ∷ []) ≡ word_of named class ++ (9 ∷ [])
unfolding word_of map_word miss_word ascii
have_word true class same = rw (map_word, eq-eqb class had same)
have_word false class same = rw (miss_word, eq-eqb class had same)

module _ {named : Bool} (class : ℕ) (other : class ≡ had → ⊥) where
  pub miss-word : named ≡ false → (109 ∷ 105 ∷ 115 ∷ 115 ∷ 9 ∷ []) ≡ word_of named class ++ (9 ∷ [])
  unfolding word_of miss_word ascii
  miss-word without = rw (without, miss_word, ne_eqb class had other)

  pub held_word : named ≡ true → class ≡ held → (104 ∷ 101 ∷ 108 ∷ 100 ∷ 9 ∷ []) ≡ word_of named class ++ (9 ∷ [])
  unfolding word_of map_word ascii
  held_word by same = rw (by, map_word, ne_eqb class had other, eq-eqb class held same)

  pub lost_word : named ≡ true → (class ≡ held → ⊥) → (108 ∷ 111 ∷ 115 ∷ 116 ∷ 9 ∷ []) ≡ word_of named class ++ (9 ∷ [])
  unfolding word_of map_word ascii
  lost_word by differ = rw (by, map_word, ne_eqb class had other, ne_eqb class held differ)

-- ---- the lines

-- the last number of a line
abbrev last : ℕ → List ℕ
last n = 9 ∷ (decimal n ++ (10 ∷ []))

pub range_words : (named : Bool) (class first long : ℕ) {word : List ℕ} → word ≡ word_of named class ++ (9 ∷ [])
    → (word ++ decimal first) ++ last long ≡ range_line (word_of named) (record { class = class; first = first; length = long })
unfolding range_line line
range_words named class first long {word} e =
    ap (λ (w : List ℕ). (w ++ decimal first) ++ last long) e
    ∙ append_assoc (word_of named class ++ (9 ∷ [])) (decimal first) (last long)
    ∙ append_assoc (word_of named class) (9 ∷ []) (decimal first ++ last long)

-- `total` and the first number
abbrev front : ℕ → List ℕ
front n = 116 ∷ 111 ∷ 116 ∷ 97 ∷ 108 ∷ 9 ∷ decimal n

module _ {named : Bool} (t : Totals) where
  pub two_totals : named ≡ false → front t.received ++ last t.lost ≡ line (ascii "total") (map decimal (told_of named t))
  unfolding line ascii told_of
  two_totals without = rw without

  pub three_totals : named ≡ true → front t.received ++ ((9 ∷ decimal t.held) ++ last t.lost) ≡ line (ascii "total") (map decimal (told_of named t))
  unfolding line ascii told_of
  three_totals by = rw by

-- `source`, the described length and a word
abbrev source : ℕ → List ℕ → List ℕ
source described word = (115 ∷ 111 ∷ 117 ∷ 114 ∷ 99 ∷ 101 ∷ 9 ∷ decimal described) ++ word

pub closed_words : (ss : List Segment) (described : ℕ) → described ≡ described_length ss → true ≡ is_closed ss
    → source described (9 ∷ 99 ∷ 108 ∷ 111 ∷ 115 ∷ 101 ∷ 100 ∷ 10 ∷ []) ≡ source_line ss
unfolding source_line line ascii
closed_words ss described long closed = rw (← closed) (ap (λ (n : ℕ). source n (9 ∷ 99 ∷ 108 ∷ 111 ∷ 115 ∷ 101 ∷ 100 ∷ 10 ∷ [])) long)

pub open_words : (ss : List Segment) (described : ℕ) → described ≡ described_length ss → false ≡ is_closed ss
    → source described (9 ∷ 111 ∷ 112 ∷ 101 ∷ 110 ∷ 10 ∷ []) ≡ source_line ss
unfolding source_line line ascii
open_words ss described long closed = rw (← closed) (ap (λ (n : ℕ). source n (9 ∷ 111 ∷ 112 ∷ 101 ∷ 110 ∷ 10 ∷ [])) long)
