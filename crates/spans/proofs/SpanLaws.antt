-- Laws of spans in a table: which positions they cover, and that tables with the same spans cover the same.
use Prim.Native.Nat.{ℕ, zero, suc, ◌+◌, ◌<◌, ◌≤◌}
use mathlib.Core.Bool.{Bool, true, false, or-true, false≢true}
use mathlib.Core.List.{List}
use mathlib.Core.Logic.{inl, inr}
use mathlib.Core.Path.{◌≡◌, refl, sym, ap, ◌∙◌}
use native.Mathlib.Decide.{dec_le}
use native.Mathlib.Omega.{arith}
use borrow.Author.Tests.{le-leb, lt-ltb, leb-true, ltb-true}
use lib.ListN.{length, get_or, set, take, length-set}
use lib.Seq.{get_or-set_same, get_or-set_other, get_or-take, length-take-le}
use Rattle.partial.specs.Ranges.{missing, had}
use Rattle.partial.proofs.Meaning.SequenceLaws.{which, both}
use Rattle.spans.specs.declared.span.Span.{Span}
use Rattle.spans.specs.Spans.{no_span, first_at, end_at, covered_by, class_by, Spans, Ascending, Ordered, Same, Stored, Joined}

-- two tests that pass together are equal
pub same_truth : (a b : Bool) → (a ≡ true → b ≡ true) → (b ≡ true → a ≡ true) → a ≡ b
same_truth a b to from =
    elim (which a) [
      | inl e ↦ e ∙ sym (to e)
      | inr e ↦
          elim (which b) [
            | inl f ↦ absurd (false≢true (sym e ∙ from f))
            | inr f ↦ e ∙ sym f
          ]
    ]

-- a position that is covered lies in a span
pub covered_at : (t : List Span) (n q : ℕ) → covered_by t n q ≡ true → (k : ℕ) × (k < n) × (first_at t k ≤ q) × (q < end_at t k)
unfolding covered_by
covered_at t zero q e = absurd (false≢true e)
covered_at t (suc n) q e =
    elim (which (covered_by t n q)) [
      | inl before ↦
          let (k, less, from, to) = covered_at t n q before in
          (k, omega arith, from, to)
      | inr none ↦
          let (from, to) = both _ _ (rw none at e) in
          (n, omega arith, leb-true _ _ from, ltb-true _ _ to)
    ]

-- and the other way round
pub covered-by : (t : List Span) (n q k : ℕ) → k < n → first_at t k ≤ q → q < end_at t k → covered_by t n q ≡ true
unfolding covered_by
covered-by t zero q k less from to = absurd (omega arith)
covered-by t (suc n) q k less from to =
    elim (dec_le (suc k) n) [
      | yes before ↦ rw (covered-by t n q k before from to)
      | no last ↦
          let here : k ≡ n = omega arith in
          let first = le-leb (first_at t n) q (omega (arith, ap (λ (m : ℕ). first_at t m) here)) in
          let end = lt-ltb q (end_at t n) (omega (arith, ap (λ (m : ℕ). end_at t m) here)) in
          rw (first, end, or-true)
    ]

-- a position that is in no span is not covered
pub uncovered : (t : List Span) (n q : ℕ) → ((k : ℕ) → k < n → first_at t k ≤ q → q < end_at t k → ⊥) → covered_by t n q ≡ false
uncovered t n q none =
    elim (which (covered_by t n q)) [
      | inl e ↦
          let (k, less, from, to) = covered_at t n q e in
          absurd (none k less from to)
      | inr e ↦ e
    ]

-- a table has no span at all
pub no_spans : (t : List Span) (end : ℕ) → Spans t 0 end
no_spans t end = record { room = omega arith; some = λ k less. absurd (omega arith); most = λ k less. absurd (omega arith) }

-- a table without spans is ordered
pub ordered_none : (t : List Span) (end : ℕ) → Ordered t 0 end
ordered_none t end = record { spans = no_spans t end; order = record { up = λ j k low less. absurd (omega arith) } }

-- a span that is set is stored
pub span_stored : (t : List Span) (n : ℕ) (s : Span) → n + 1 ≤ length t → Stored t n s.first.0 s.end.0 (set t n s)
span_stored t n s room =
    let here = get_or-set_same t n s no_span (omega arith) in
    record {
      long = length-set t n s;
      one = ap (λ (x : Span). x.first.0) here;
      two = ap (λ (x : Span). x.end.0) here;
      before = λ i less. get_or-set_other t n i s no_span (λ e. omega arith);
      behind = λ i more. get_or-set_other t n i s no_span (λ e. omega arith);
    }

-- a span behind n others, and one that makes the last of them longer
module _ {t t' : List Span} (n first end : ℕ) where
  pub joined-behind : Stored t n first end t' → Joined t n first end t' (n + 1)
  joined-behind s =
      record {
        at = n;
        from = first;
        many = refl;
        low = omega arith;
        stored = s;
        on = λ some. omega arith;
        gap = λ q from under. absurd (omega arith);
        held = λ i from under. absurd (omega arith);
      }

  pub joined_longer : (last : ℕ) → n ≡ last + 1 → end_at t last ≡ first → Stored t last (first_at t last) end t' → Joined t n first end t' n
  joined_longer last many touches s =
      record {
        at = last;
        from = first_at t last;
        many = many;
        low = omega arith;
        stored = s;
        on = λ some. omega (arith, some (omega arith));
        gap = λ q from under. covered-by t n q last (omega arith) from (omega arith);
        held = λ i from under.
            let here : i ≡ last = omega arith in
            (omega (arith, ap (λ (i : ℕ). first_at t i) here), omega (arith, ap (λ (i : ℕ). end_at t i) here));
      }

-- ---- the same spans

pub same_self : (n : ℕ) (t : List Span) → Same n t t
same_self n t = record { long = refl; kept = λ k less. (k, less, refl, refl); old = λ k less. (k, less, refl, refl) }

pub same_on : {n : ℕ} {a b c : List Span} → Same n a b → Same n b c → Same n a c
same_on s t =
    record {
      long = t.long ∙ s.long;
      kept = λ k less.
          let (j, low, first, end) = s.kept k less in
          let (i, under, first', end') = t.kept j low in
          (i, under, first ∙ first', end ∙ end');
      old = λ k less.
          let (j, low, first, end) = t.old k less in
          let (i, under, first', end') = s.old j low in
          (i, under, first ∙ first', end ∙ end');
    }

module _ {n : ℕ} {t t' : List Span} (s : Same n t t') where
  pub same_covered : (q : ℕ) → covered_by t' n q ≡ covered_by t n q
  same_covered q =
      same_truth _ _
      (λ e.
      let (k, less, from, to) = covered_at t' n q e in
      let (j, low, first, end) = s.old k less in
      covered-by t n q j low (omega arith) (omega arith))
      (λ e.
      let (k, less, from, to) = covered_at t n q e in
      let (j, low, first, end) = s.kept k less in
      covered-by t' n q j low (omega arith) (omega arith))

  pub same_spans : {end : ℕ} → Spans t n end → Spans t' n end
  same_spans {end} spans =
      record {
        room = omega (arith, s.long, spans.room);
        some = λ k less.
            let (j, low, first, last) = s.old k less in
            omega (arith, spans.some j low);
        most = λ k less.
            let (j, low, first, last) = s.old k less in
            omega (arith, spans.most j low);
      }

  -- spans that were put in order
  pub same_ordered : {end : ℕ} → Spans t n end → Ascending t' n → Ordered t' n end
  same_ordered spans order = record { spans = same_spans spans; order = order }

-- ---- a table that changes behind its first spans

module _ {t t' : List Span} {n : ℕ} (long : length t' ≡ length t) (front : (i : ℕ) → i < n → get_or t' i no_span ≡ get_or t i no_span) where
  pub front_same : Same n t t'
  front_same =
      record {
        long = long;
        kept = λ k less. (k, less, ap (λ (s : Span). s.first.0) (sym (front k less)), ap (λ (s : Span). s.end.0) (sym (front k less)));
        old = λ k less. (k, less, ap (λ (s : Span). s.first.0) (front k less), ap (λ (s : Span). s.end.0) (front k less));
      }

  pub front_ordered : {end : ℕ} → Ordered t n end → Ordered t' n end
  front_ordered ordered =
      same_ordered front_same ordered.spans
      (record { up = λ j k low less. omega (arith, ordered.order.up j k low less, ap (λ (s : Span). s.first.0) (front j (omega arith)), ap (λ (s : Span). s.first.0) (front k (omega arith))) })

-- ---- the first spans of a table, alone

module _ (t : List Span) (n : ℕ) (room : n ≤ length t) where
  pub front_long : length (take n t) ≡ n
  front_long = length-take-le n t room

  front_at : (k : ℕ) → k < n → get_or (take n t) k no_span ≡ get_or t k no_span
  front_at k less = get_or-take n t k no_span less

  pub front_covered : (q : ℕ) → covered_by (take n t) (length (take n t)) q ≡ covered_by t n q
  front_covered q =
      ap (λ (m : ℕ). covered_by (take n t) m q) front_long
      ∙ same_truth _ _
      (λ e.
      let (k, less, from, to) = covered_at (take n t) n q e in
      covered-by t n q k less (omega (arith, from, ap (λ (s : Span). s.first.0) (front_at k less))) (omega (arith, to, ap (λ (s : Span). s.end.0) (front_at k less))))
      (λ e.
      let (k, less, from, to) = covered_at t n q e in
      covered-by (take n t) n q k less (omega (arith, from, ap (λ (s : Span). s.first.0) (front_at k less))) (omega (arith, to, ap (λ (s : Span). s.end.0) (front_at k less))))

  pub front_class : (q : ℕ) → class_by (take n t) (length (take n t)) q ≡ class_by t n q
  unfolding class_by
  front_class q = λ i. elim (front_covered q i) [ true ↦ had | false ↦ missing ]

pub front_alone : {t : List Span} {n end : ℕ} → Ordered t n end → Ordered (take n t) (length (take n t)) end
front_alone {t} {n} o =
    let long = front_long t n o.spans.room in
    let at : (k : ℕ) → k < n → get_or (take n t) k no_span ≡ get_or t k no_span = front_at t n o.spans.room in
    record {
      spans = record {
        room = omega arith;
        some = λ k less. omega (arith, long, o.spans.some k (omega arith), ap (λ (s : Span). s.first.0) (at k (omega arith)), ap (λ (s : Span). s.end.0) (at k (omega arith)));
        most = λ k less. omega (arith, long, o.spans.most k (omega arith), ap (λ (s : Span). s.end.0) (at k (omega arith)));
      };
      order = record {
        up = λ j k low less. omega (arith, o.order.up j k low (omega arith), ap (λ (s : Span). s.first.0) (at j (omega arith)), ap (λ (s : Span). s.first.0) (at k (omega arith)));
      };
    }
