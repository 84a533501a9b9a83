-- Spans in a table: each is a first position and an end, from the front; and what positions they cover.
use Rattle.std.specs.Prelude.{ℕ, zero, suc, ◌+◌, ◌<◌, ◌≤◌, Bool, true, false, ◌&&◌, ◌||◌, List, ◌≡◌, leb, ltb, length, get_or}
use Rattle.partial.specs.Ranges.{missing, had}
use Rattle.spans.specs.declared.span.Span.{Span}

-- the span that holds nothing, for where there is none
abbrev pub no_span : Span
no_span = record { first = record { 0 = 0 }; end = record { 0 = 0 } }

-- the first position of a span, and its end
abbrev pub first_at : List Span → ℕ → ℕ
first_at t k = (get_or t k no_span).first.0

abbrev pub end_at : List Span → ℕ → ℕ
end_at t k = (get_or t k no_span).end.0

-- whether one of the first n spans holds a position
unfoldable pub covered_by : List Span → ℕ → ℕ → Bool
covered_by t zero q = false
covered_by t (suc n) q = covered_by t n q || (leb (first_at t n) q && ltb q (end_at t n))

-- the class of a position by the first n spans: had if one of them holds it, else missing
unfoldable pub class_by : List Span → ℕ → ℕ → ℕ
class_by t n q = elim (covered_by t n q) [ true ↦ had | false ↦ missing ]

-- the first n spans end at or before a position
abbrev pub Within : List Span → ℕ → ℕ → Type 0
Within t n end = (k : ℕ) → k < n → end_at t k ≤ end

-- there is room for n spans, none of them is empty, and all lie below an end
pub record Spans (t : List Span) (n end : ℕ) : Type 0 where
  pub room : n ≤ length t
  pub some : (k : ℕ) → k < n → first_at t k < end_at t k
  pub most : Within t n end

-- the first n spans are in ascending order of their first positions
pub record Ascending (t : List Span) (n : ℕ) : Type 0 where
  pub up : (j k : ℕ) → j ≤ k → k < n → first_at t j ≤ first_at t k

pub record Ordered (t : List Span) (n end : ℕ) : Type 0 where
  pub spans : Spans t n end
  pub order : Ascending t n

-- each of the first n spans of one table is one of those of another
abbrev pub Among : ℕ → List Span → List Span → Type 0
Among n t t' = (k : ℕ) → k < n → (j : ℕ) × (j < n) × (first_at t k ≡ first_at t' j) × (end_at t k ≡ end_at t' j)

-- two tables are as long, and have the same first n spans in some order
pub record Same (n : ℕ) (t t' : List Span) : Type 0 where
  pub long : length t' ≡ length t
  pub kept : Among n t t'
  pub old : Among n t' t

-- a span is stored, and nothing else changes
pub record Stored (t : List Span) (n first end : ℕ) (t' : List Span) : Type 0 where
  pub long : length t' ≡ length t
  pub one : first_at t' n ≡ first
  pub two : end_at t' n ≡ end
  pub before : (i : ℕ) → i < n → get_or t' i no_span ≡ get_or t i no_span
  pub behind : (i : ℕ) → n + 1 ≤ i → get_or t' i no_span ≡ get_or t i no_span

-- a span is stored behind those before it, or holds the last of them too, where that ends at its start
pub record Joined (t : List Span) (n first end : ℕ) (t' : List Span) (n' : ℕ) : Type 0 where
  pub at : ℕ
  pub from : ℕ
  pub many : n' ≡ at + 1
  pub low : at ≤ n
  pub stored : Stored t at from end t'
  pub on : (at < n → first_at t at < end_at t at) → from ≤ first
  pub gap : (q : ℕ) → from ≤ q → q < first → covered_by t n q ≡ true
  pub held : (j : ℕ) → at ≤ j → j < n → (from ≤ first_at t j) × (end_at t j ≤ first)
