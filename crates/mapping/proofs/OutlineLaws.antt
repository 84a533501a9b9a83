-- Laws of what is told of a source by two tables of spans: the ranges and the text are the source's; and of the text of
-- all sources.
use Prim.Native.Nat.{ℕ, zero, suc, ◌+◌, ◌<◌, ◌≤◌}
use mathlib.Core.Bool.{Bool, true, false, ◌&&◌}
use mathlib.Core.List.{List, [], ◌∷◌, ◌++◌, map, append-nil, append_assoc}
use mathlib.Core.Path.{◌≡◌, refl, sym, ap, subst, ◌∙◌}
use native.Mathlib.Omega.{arith}
use lib.ListN.{length, take}
use Rattle.ends.specs.Sizes.{sizes_of}
use Rattle.ends.specs.declared.sizes.Sizes.{Sizes}
use Rattle.numerals.proofs.StoredLaws.{stored_none}
use Rattle.partial.specs.Map.{ascii, decimal, line, source_line, range_lines, total_line}
use Rattle.partial.specs.Map.{source_map, source_missmap, each_source, per_source, map_of, missmap_of, text_for, map_text, missmap_text}
use Rattle.partial.specs.Meaning.{supplied, known_size, is_closed}
use Rattle.partial.specs.Naming.{held, lost, damaged_at, named_class, named_ranges, held_list, lost_list}
use Rattle.partial.specs.Ranges.{Range as Stretch, missing, had, ranges, class_of, ranges_of, had_list, missing_list, total}
use Rattle.partial.specs.Segments.{Segment, damaged, chunks_of}
use Rattle.partial.specs.Sources.{source_count, of_source}
use Rattle.partial.specs.declared.position.Position.{Position}
use Rattle.refusals.specs.declared.Refusal.{Refusal}
use Rattle.refusals.specs.declared.Refusal.TheVariants.{BufferTooShort}
use Rattle.std.specs.Prelude.{Option, None, Some, Result, Err, option_map}
use Rattle.std.specs.Option.{is_some}
use Rattle.partial.proofs.Meaning.DescribedLaws.{InOrder}
use Rattle.partial.proofs.Meaning.EdgeLaws.{listed_few, named_few}
use Rattle.partial.proofs.Meaning.NamingLaws.{as-had}
use Rattle.spans.specs.Chunks.{SpansOf}
use Rattle.spans.specs.Files.{Spanned}
use Rattle.sweeping.specs.Naming.{name_by}
use Rattle.spans.specs.declared.span.Span.{Span}
use Rattle.spans.specs.Spans.{covered_by, class_by}
use Rattle.sweeping.proofs.RangeLaws.{ranges_same}
use Rattle.spans.proofs.SpanLaws.{front_covered}
use Rattle.texts.specs.Pieces.{PutsPiece}
use Rattle.texts.specs.Writes.{Writes}
use Rattle.texts.proofs.WritesLaws.{writes_short}
use Rattle.mapping.specs.Outline.{text_of, source_text, class_in, word_of, lists_of, Damage, name_in, ranges_in, ranges_for, Outlined}
use Rattle.mapping.specs.Totals.{Counts, told_of}
use Rattle.mapping.specs.declared.outline.Outline.{Outline}
use Rattle.mapping.specs.declared.totals.Totals.{Totals}

-- ---- the spans of the damaged chunks

-- no spans
pub none_damaged : (ss : List Segment) (t : List Span) (end : ℕ) {named : Bool} → named ≡ false → Damage ss named (take 0 t) end
unfolding covered_by
none_damaged ss t end without = record { covers = λ q below. rw without }

-- the spans of a file's damaged chunks
pub damaged_by : {end : ℕ} {ss : List Segment} {t : List Span} {n : ℕ} → SpansOf damaged (chunks_of ss) end t n → {named : Bool} → named ≡ true
    → Damage ss named (take n t) end
unfolding damaged_at
damaged_by {t = t} {n = n} spans by = record { covers = λ q below. rw by (front_covered t n spans.spans.room q ∙ spans.covers q below) }

-- ---- a file's outline

-- positions of the same class are covered alike
same_had : (a b : Bool) → ◌≡◌ {A = ℕ} (elim a [ true ↦ had | false ↦ missing ]) (elim b [ true ↦ had | false ↦ missing ]) → a ≡ b
same_had true true e = refl
same_had true false e = absurd (omega arith)
same_had false true e = absurd (omega arith)
same_had false false e = refl

-- the class of a position by what is known of both tables
class-by : (named : Bool) (ss : List Segment) (t : List Span) (n : ℕ) (u : List Span) (m q : ℕ) → class_by t n q ≡ class_of ss q → covered_by u m q ≡ (named && damaged_at ss q)
    → name_by t n u m q ≡ class_in named ss q
unfolding name_by class_by class_of class_in named_class
class-by true ss t n u m q class covers =
    let same = same_had (covered_by t n q) (supplied ss q) class in
    λ i. elim (same i) [ true ↦ had | false ↦ elim (covers i) [ true ↦ held | false ↦ lost ] ]
class-by false ss t n u m q class covers =
    let same = same_had (covered_by t n q) (supplied ss q) class in
    λ i. elim (same i) [ true ↦ had | false ↦ elim (covers i) [ true ↦ held | false ↦ lost ] ]

pub outlined_by : {ss : List Segment} {o : Outline} → Spanned ss o.good.now (length o.good.now) o.end.0 → Damage ss o.named o.damaged.now o.end.0
    → o.closed ≡ is_closed ss
    → Outlined ss o
outlined_by {ss} {o} spanned damage known =
    record {
      long = spanned.long;
      closed = known;
      class = λ q below.
          class-by o.named ss o.good.now (length o.good.now) o.damaged.now (length o.damaged.now) q (spanned.class q below) (damage.covers q below);
    }

-- what is counted of them are the totals of the file's lists
total_for : (named : Bool) (ss : List Segment) {totals : Totals} → Counts (ranges_for named ss) totals → line (ascii "total") (map decimal (told_of named totals)) ≡ total_line (lists_of named ss)
unfolding told_of lists_of total_line class_in named_ranges ranges_of held_list lost_list had_list missing_list
total_for true ss counts =
    let received = counts.received ∙ ap total (as-had ss) in
    λ i. line (ascii "total") (decimal (received i) ∷ decimal (counts.held i) ∷ decimal (counts.lost i) ∷ [])
total_for false ss counts = λ i. line (ascii "total") (decimal (counts.received i) ∷ decimal (counts.lost i) ∷ [])

module _ {ss : List Segment} {o : Outline} (outlined : Outlined ss o) where
  pub outlined_ranges : ranges_in o ≡ ranges_for o.named ss
  outlined_ranges =
      ranges_same (name_in o) (class_in o.named ss) o.end.0 0 (λ q from below. outlined.class q (omega arith))
      ∙ ap (λ (end : ℕ). ranges (class_in o.named ss) end 0) outlined.long

  -- the lines of the ranges
  pub range-lines : range_lines (word_of o.named) (ranges_in o) ≡ range_lines (word_of o.named) (ranges_for o.named ss)
  range-lines = ap (range_lines (word_of o.named)) outlined_ranges

  -- the totals
  pub total-line : {totals : Totals} → Counts (ranges_in o) totals → line (ascii "total") (map decimal (told_of o.named totals)) ≡ total_line (lists_of o.named ss)
  total-line {totals} counts = total_for o.named ss (subst (λ (rs : List Stretch). Counts rs totals) outlined_ranges counts)

-- the ranges of a file are no more than its segments and chunks allow
pub ranges_few : (named : Bool) (ss : List Segment) → InOrder ss → length (ranges_for named ss) ≤ suc (length ss + length (chunks_of ss))
unfolding class_in named_ranges ranges_of
ranges_few true ss order = named_few ss order
ranges_few false ss order = listed_few ss order

-- the text of a source is its lines
pub text-lines : (named : Bool) (ss : List Segment) → source_line ss ++ (range_lines (word_of named) (ranges_for named ss) ++ total_line (lists_of named ss)) ≡ source_text named ss
unfolding source_text word_of class_in lists_of source_map source_missmap named_ranges ranges_of
text-lines true ss = refl
text-lines false ss = refl

-- the text of a file is that of each source, one behind the other
each_last : (of : List Segment → List ℕ) (ss : List Segment) (many n : ℕ) → each_source of ss (many + 1) n ≡ each_source of ss many n ++ of (of_source (n + many) ss)
unfolding each_source
each_last of ss zero n = append-nil (of (of_source n ss)) ∙ ap (λ (k : ℕ). of (of_source k ss)) {x = n} {y = n + zero} (omega arith)
each_last of ss (suc many) n =
    let one : suc many + 1 ≡ suc (many + 1) = omega arith in
    let on : suc n + many ≡ n + suc many = omega arith in
    ap (λ (m : ℕ). each_source of ss m n) one
    ∙ ap (λ (text : List ℕ). of (of_source n ss) ++ text) (each_last of ss many (suc n) ∙ ap (λ (k : ℕ). each_source of ss many (suc n) ++ of (of_source k ss)) on)
    ∙ sym (append_assoc (of (of_source n ss)) (each_source of ss many (suc n)) (of (of_source (n + suc many) ss)))

pub each_next : (of : List Segment → List ℕ) (ss : List Segment) (many : ℕ) → each_source of ss (many + 1) 0 ≡ each_source of ss many 0 ++ of (of_source many ss)
each_next of ss many = each_last of ss many 0 ∙ ap (λ (k : ℕ). each_source of ss many 0 ++ of (of_source k ss)) {x = 0 + many} {y = many} (omega arith)

text_each : (named : Bool) (ss : List Segment) → each_source (source_text named) ss (source_count ss) 0 ≡ text_of named ss
unfolding text_of source_text map_of missmap_of per_source
text_each true ss = refl
text_each false ss = refl

pub text_all : (named : Bool) (ss : List Segment) {many : ℕ} → many ≡ source_count ss → each_source (source_text named) ss many 0 ≡ text_of named ss
text_all named ss e = ap (λ (n : ℕ). each_source (source_text named) ss n 0) e ∙ text_each named ss

-- whether the size is known
closed_told : (known : Option ℕ) → is_some {T = Position} (option_map (λ n. record { 0 = n }) known) ≡ elim known [ Some n ↦ true | None ↦ false ]
closed_told (Some n) = refl
closed_told None = refl

pub known_closed : (ss : List Segment) {x : Sizes} → x ≡ sizes_of ss → {closed : Bool} → closed ≡ is_some x.size → closed ≡ is_closed ss
unfolding sizes_of is_closed
known_closed ss e closed = closed ∙ ap (λ (x : Sizes). is_some x.size) e ∙ closed_told (known_size ss)

-- ---- what is written

-- the text of the map, and that of the other one
pub map-text : (limit most : ℕ) (f : List ℕ) → text_for (text_of true) limit most f ≡ map_text limit most f
unfolding text_of map_text
map-text limit most f = refl

pub missmap-text : (limit most : ℕ) (f : List ℕ) → text_for (text_of false) limit most f ≡ missmap_text limit most f
unfolding text_of missmap_text
missmap-text limit most f = refl

-- the same text
pub writes_same : {a b buffer buffer' : List ℕ} {r : Result ℕ Refusal} → a ≡ b → Writes a buffer buffer' r → Writes b buffer buffer' r
writes_same {buffer = buffer} {buffer' = buffer'} {r = r} e w = subst (λ (text : List ℕ). Writes text buffer buffer' r) e w

-- a text that is one piece, without room for it
pub piece_short : {text buffer buffer' : List ℕ} {next : ℕ} → PutsPiece buffer 0 text buffer' next → length buffer < length text → Writes text buffer buffer' (Err BufferTooShort)
piece_short {text} {buffer} p short =
    let none = p.left ∙ stored_none buffer 0 text (omega arith) in
    subst (λ (after : List ℕ). Writes text buffer after (Err BufferTooShort)) (sym none) (writes_short text buffer short)
