-- Laws of a sweep over ordered spans: what one span more tells, the maximal range that is found, and that ranges found
-- one after another are all of them.
use Prim.Native.Nat.{ℕ, zero, suc, ◌+◌, ◌-◌, ◌<◌, ◌≤◌, ◌^◌, max}
use mathlib.Core.Bool.{true, false, false≢true}
use mathlib.Core.List.{List, ◌∷◌}
use mathlib.Core.Path.{◌≡◌, refl, sym, ap, subst, ◌∙◌}
use native.Mathlib.Decide.{dec_le}
use native.Mathlib.Omega.{arith}
use borrow.Author.Tests.{eq-eqb, ne_eqb, eqb-true, eqb-false}
use lib.Dec.{eqb}
use Rattle.partial.specs.Ranges.{missing, had, ranges, joined}
use Rattle.partial.specs.Sequences.{stretch}
use Rattle.partial.proofs.Meaning.RangeLaws.{first_range}
use Rattle.partial.proofs.Meaning.StretchLaws.{first_one, stretch_first}
use Rattle.spans.specs.Spans.{first_at, end_at, covered_by, class_by, Within, Ordered}
use Rattle.spans.specs.declared.span.Span.{Span}
use Rattle.sweeping.specs.Classes.{class_no, Run, run_of}
use Rattle.sweeping.specs.Ranges.{nothing, range_in, OneClass, Passed, Reaches, GoesOn, Finds}
use Rattle.sweeping.specs.declared.ranges.Found.{Found}
use Rattle.sweeping.specs.declared.ranges.Reach.{Reach}
use Rattle.spans.proofs.SpanLaws.{covered-by, uncovered}

-- ---- how far the positions are had

-- the positions up to a reach are had, and so many spans are passed there where the first k₀ were passed before
pub record Reached (t : List Span) (n k₀ p to k : ℕ) : Type 0 where
  pub on : p ≤ to
  pub most : (end : ℕ) → p ≤ end → Within t n end → to ≤ end
  pub had : (q : ℕ) → p ≤ q → q < to → covered_by t n q ≡ true
  pub passed : Passed t n k₀ p → Passed t n k to

module _ (t : List Span) (n k₀ p : ℕ) where
  pub reached_none : Reached t n k₀ p p k₀
  reached_none = record { on = omega arith; most = λ end low ends. low; had = λ q from to. absurd (omega arith); passed = λ before. before }

  module _ {to k : ℕ} (r : Reached t n k₀ p to k) where
    -- a span that touches
    pub reached_more : k < n → first_at t k ≤ to → {to' : ℕ} → to' ≡ max to (end_at t k) → Reached t n k₀ p to' (k + 1)
    reached_more less touches longer =
        record {
          on = omega (arith, r.on);
          most = λ end low ends. omega (arith, r.most end low ends, ends k less);
          had = λ q from under.
              elim (dec_le to q) [
                | yes behind ↦ covered-by t n q k less (omega arith) (omega arith)
                | no before ↦ r.had q from (omega arith)
              ];
          passed = λ before.
              record {
                most = omega arith;
                ended = λ j low.
                    elim (dec_le k j) [
                      | yes last ↦
                          let here : j ≡ k = omega arith in
                          omega (arith, ap (λ (i : ℕ). end_at t i) here)
                      | no less ↦ omega (arith, (r.passed before).ended j (omega arith))
                    ];
              };
        }

    -- at the end all spans are passed, and more where more were
    pub reached_all : {all : ℕ} → n ≤ k → all ≡ max k₀ n → (k₀ ≤ n → k ≤ n) → Reaches t n k₀ p (record { to = record { 0 = to }; passed = all })
    reached_all {all} full many whole =
        record {
          on = r.on;
          most = r.most;
          had = r.had;
          passed = λ before.
              record { most = omega (arith, before.most); ended = λ j less. (r.passed before).ended j (omega (arith, before.most)) };
          next = λ less. absurd (omega arith);
        }

    pub reached_end : (k < n → to < first_at t k) → Reaches t n k₀ p (record { to = record { 0 = to }; passed = k })
    reached_end next = record { on = r.on; most = r.most; had = r.had; passed = r.passed; next = next }

-- ---- the range that is found

-- no span holds a position behind those that are passed and before the next
free : (t : List Span) (n end k p q : ℕ) → Ordered t n end → Passed t n k p → p ≤ q → (k < n → q < first_at t k) → covered_by t n q ≡ false
free t n end k p q o passed on next =
    uncovered t n q
    (λ j less from to.
    elim (dec_le k j) [
      | yes behind ↦ omega (arith, o.order.up k j behind less, next (omega arith))
      | no before ↦ omega (arith, passed.ended j (omega arith))
    ])

module _ (t : List Span) (n q : ℕ) where
  pub class_had : covered_by t n q ≡ true → class_by t n q ≡ had
  unfolding class_by
  class_had e = rw (class_by, e)

  pub class_missing : covered_by t n q ≡ false → class_by t n q ≡ missing
  unfolding class_by
  class_missing e = rw (class_by, e)

-- the positions of one class from a position on are its range
pub range_of : (of : ℕ → ℕ) (p end class to : ℕ) → p < to → OneClass of p end class to → record { class = class; length = to - p } ≡ range_in of p end
unfolding range_in
range_of of p end class to some one =
    let here = one.same p (omega arith) some in
    let on : p + (to - p) ≡ to = omega arith in
    let long =
    first_one
    (stretch_first (λ q. eqb (of q) (of p)) (end - p) p)
    (record {
      most = omega (arith, one.most);
      before = λ i h. eq-eqb (of (p + i)) (of p) (one.same (p + i) (omega arith) (omega arith) ∙ sym here);
      there = λ h. ne_eqb (of (p + (to - p))) (of p) (λ f. one.other (omega arith) (ap of (sym on) ∙ f ∙ here));
    }) in
    λ i. record { class = sym here i; length = sym long i }

-- where nothing is had, the next range begins behind the position
pub next_high : (t : List Span) (n k p end : ℕ) {r : Reach} → Reaches t n k p r → r.to.0 ≤ p → p < end → {next : ℕ} → (r.passed < n → next ≡ first_at t r.passed)
    → (n ≤ r.passed → next ≡ end)
    → p < next
next_high t n k p end {r} s stays below first last =
    elim (dec_le n r.passed) [
      | yes none ↦ omega (arith, last none)
      | no one ↦ omega (arith, first (omega arith), s.next (omega arith), s.on)
    ]

module _ (t : List Span) (n k p end : ℕ) {r : Reach} (o : Ordered t n end) (before : Passed t n k p) (s : Reaches t n k p r) where
  pub range_had : p ≤ end → p < r.to.0 → record { class = had; length = r.to.0 - p } ≡ range_in (class_by t n) p end
  range_had below some =
      range_of (class_by t n) p end had r.to.0 some
      (record {
        most = s.most end below o.spans.most;
        same = λ q from under. class_had t n q (s.had q from under);
        other = λ short e. omega (arith, e, class_missing t n r.to.0 (free t n end r.passed r.to.0 r.to.0 o (s.passed before) (omega arith) s.next));
      })

  module _ (stays : r.to.0 ≤ p) (below : p < end) {next : ℕ} (first : r.passed < n → next ≡ first_at t r.passed) (last : n ≤ r.passed → next ≡ end) where
    next_low : next ≤ end
    next_low =
        elim (dec_le n r.passed) [
          | yes none ↦ omega (arith, last none)
          | no one ↦ omega (arith, first (omega arith), o.spans.some r.passed (omega arith), o.spans.most r.passed (omega arith))
        ]

    next_had : next < end → covered_by t n next ≡ true
    next_had short =
        elim (dec_le n r.passed) [
          | yes none ↦ absurd (omega (arith, last none))
          | no one ↦
              let here = first (omega arith) in
              covered-by t n next r.passed (omega arith) (omega arith) (omega (arith, o.spans.some r.passed (omega arith)))
        ]

    pub range_missing : record { class = missing; length = next - p } ≡ range_in (class_by t n) p end
    range_missing =
        range_of (class_by t n) p end missing next (next_high t n k p end s stays below first last)
        (record {
          most = next_low;
          same = λ q from under. class_missing t n q (free t n end r.passed r.to.0 q o (s.passed before) (omega arith) (λ one. omega (arith, first one)));
          other = λ short e. omega (arith, e, class_had t n next (next_had short));
        })

  -- the spans that are passed at the reach are passed behind it
  pub passed_on : {to : ℕ} → r.to.0 ≤ to → Passed t n r.passed to
  passed_on on = record { most = (s.passed before).most; ended = λ j less. omega (arith, (s.passed before).ended j less) }

-- ---- so many positions that are missing

module _ {long passed : ℕ} {r : Found} (none : r ≡ nothing passed long) where
  long_nothing : r.range.length ≡ long
  long_nothing = ap (λ (x : Found). x.range.length) none

  pub nothing-goes : {p end : ℕ} → (p < end → 0 < long) → p + long < 2 ^ 64 → GoesOn had p end r.range
  nothing-goes some ends =
      record {
        class = omega (arith, ap (λ (x : Found). class_no x.range.class) none);
        some = λ below. omega (arith, some below, long_nothing);
        ends = omega (arith, long_nothing);
      }

  pub nothing-found : {t : List Span} {n p end : ℕ} → record { class = missing; length = long } ≡ range_in (class_by t n) p end → Passed t n passed (p + long) → Finds t n p end r
  nothing-found {t} {n} {p} found on =
      record {
        range = ap (λ (x : Found). run_of x.range) none ∙ found;
        passed = subst (λ (x : Found). Passed t n x.passed (p + x.range.length)) (sym none) on;
      }

-- ---- ranges one after another

-- a range that was found
module _ (of : ℕ → ℕ) (p end : ℕ) (some : p < end) {r : Run} (found : r ≡ range_in of p end) where
  long : r.length ≡ stretch (λ q. eqb (of q) (of p)) (end - p) p
  unfolding range_in
  long = ap (λ (x : Run). x.length) found

  found_class : r.class ≡ of p
  unfolding range_in
  found_class = ap (λ (x : Run). x.class) found

  pub found_some : 0 < r.length
  found_some =
      let f = stretch_first (λ q. eqb (of q) (of p)) (end - p) p in
      let n = stretch (λ q. eqb (of q) (of p)) (end - p) p in
      elim (dec_le n 0) [
        | yes none ↦
            let here : p + n ≡ p = omega arith in
            absurd (false≢true (sym (f.there (omega arith)) ∙ ap (λ (q : ℕ). eqb (of q) (of p)) here ∙ eq-eqb (of p) (of p) refl))
        | no more ↦ omega (arith, long)
      ]

  pub found_most : p + r.length ≤ end
  found_most = omega (arith, long, (stretch_first (λ q. eqb (of q) (of p)) (end - p) p).most)

  pub found_next : ranges of (end - p) p ≡ record { class = r.class; first = p; length = r.length } ∷ ranges of (end - (p + r.length)) (p + r.length)
  found_next =
      let f = stretch_first (λ q. eqb (of q) (of p)) (end - p) p in
      let left : (end - p) - r.length ≡ end - (p + r.length) = omega arith in
      first_range of (end - p) r.length p found_some (omega (arith, long, f.most))
      (λ i less. eqb-true _ _ (f.before i (omega (arith, long))))
      (λ short same. eqb-false _ _ (f.there (omega (arith, long))) (ap (λ (n : ℕ). of (p + n)) (sym long) ∙ same))
      ∙ (λ i. record { class = sym found_class i; first = p; length = r.length } ∷ ranges of (left i) (p + r.length))

  pub found_one : OneClass of p end (r.class) (p + r.length)
  found_one =
      let f = stretch_first (λ q. eqb (of q) (of p)) (end - p) p in
      record {
        most = found_most;
        same = λ q from under.
            let on : q ≡ p + (q - p) = omega arith in
            ap of on ∙ eqb-true _ _ (f.before (q - p) (omega (arith, long))) ∙ sym found_class;
        other = λ short e. eqb-false _ _ (f.there (omega (arith, long))) (ap (λ (n : ℕ). of (p + n)) (sym long) ∙ e ∙ found_class);
      }

-- ranges are decided by the classes of their positions
pub ranges_same : (of by : ℕ → ℕ) (more p : ℕ) → ((q : ℕ) → p ≤ q → q < p + more → of q ≡ by q) → ranges of more p ≡ ranges by more p
unfolding ranges
ranges_same of by zero p same = refl
ranges_same of by (suc more) p same =
    let here = same p (omega arith) (omega arith) in
    let rest = ranges_same of by more (suc p) (λ q from under. same q (omega arith) (omega arith)) in
    λ i. joined (here i) p (rest i)
