-- Laws of the names of positions: the range of one ends where the first of the two sweeps does that tell its name.
use Prim.Native.Nat.{ℕ, ◌-◌, ◌<◌, ◌≤◌, min}
use mathlib.Core.Bool.{Bool, true, false, not}
use mathlib.Core.List.{List}
use mathlib.Core.Logic.{inl, inr}
use mathlib.Core.Path.{◌≡◌, refl, sym, ap, ◌∙◌}
use native.Mathlib.Decide.{dec_le}
use native.Mathlib.Omega.{arith}
use Rattle.partial.specs.Naming.{held, lost}
use Rattle.partial.specs.Ranges.{missing, had}
use Rattle.partial.proofs.Meaning.SequenceLaws.{which}
use lib.ListN.{length}
use Rattle.spans.specs.declared.span.Span.{Span}
use Rattle.sweeping.specs.Classes.{class_no}
use Rattle.sweeping.specs.declared.ranges.Class.TheVariants.{Had}
use Rattle.sweeping.specs.Naming.{name_by, both_at_start, BothReady, Names}
use Rattle.sweeping.specs.Ranges.{OneClass}
use Rattle.spans.specs.Spans.{covered_by, class_by}
use Rattle.sweeping.specs.Sweeps.{Ready}
use Rattle.sweeping.specs.declared.ranges.Range.{Range}
use Rattle.sweeping.specs.declared.sweep.Sweep.{Sweep}
use Rattle.sweeping.proofs.RangeLaws.{class_had, class_missing, range_of}
use Rattle.sweeping.proofs.SweepLaws.{ready_start, ready_on}

pub both_ready : (good damaged : List Span) (end p : ℕ) → BothReady good damaged end p both_at_start
both_ready good damaged end p = record { of_good = ready_start good end p; of_damaged = ready_start damaged end p }

-- ---- what a class tells of the spans

-- from a position to another a test has one value, and that one is the end or has the other
record Stays (test : ℕ → Bool) (p end : ℕ) (value : Bool) (to : ℕ) : Type 0 where
  most : to ≤ end
  same : (q : ℕ) → p ≤ q → q < to → test q ≡ value
  other : to < end → test to ≡ not value

module _ (t : List Span) (n : ℕ) {p end class to : ℕ} (one : OneClass (class_by t n) p end class to) where
  stays_had : class ≡ had → Stays (covered_by t n) p end true to
  stays_had is =
      record {
        most = one.most;
        same = λ q from under.
            elim (which (covered_by t n q)) [
              | inl e ↦ e
              | inr e ↦ absurd (omega (arith, one.same q from under, class_missing t n q e))
            ];
        other = λ short.
            elim (which (covered_by t n to)) [
              | inl e ↦ absurd (one.other short (class_had t n to e ∙ sym is))
              | inr e ↦ e
            ];
      }

  stays_missing : p < to → (class ≡ had → ⊥) → Stays (covered_by t n) p end false to
  stays_missing some not-had =
      let none : (q : ℕ) → p ≤ q → q < to → covered_by t n q ≡ false =
      λ q from under.
      elim (which (covered_by t n q)) [
        | inl e ↦ absurd (not-had (sym (one.same q from under) ∙ class_had t n q e))
        | inr e ↦ e
      ] in
      let is : class ≡ missing = sym (one.same p (omega arith) some) ∙ class_missing t n p (none p (omega arith) some) in
      record {
        most = one.most;
        same = none;
        other = λ short.
            elim (which (covered_by t n to)) [
              | inl e ↦ e
              | inr e ↦ absurd (one.other short (class_missing t n to e ∙ sym is))
            ];
      }

-- ---- the range by name

-- the name of a missing position by whether a damaged chunk covers it
abbrev missed_by : Bool → ℕ
missed_by value = elim value [ true ↦ held | false ↦ lost ]

missed_had : (value : Bool) → missed_by value ≡ had → ⊥
missed_had true e = omega arith
missed_had false e = omega arith

missed_other : (value : Bool) → missed_by (not value) ≡ missed_by value → ⊥
missed_other true e = omega arith
missed_other false e = omega arith

module _ (good : List Span) (n : ℕ) (damaged : List Span) (m : ℕ) where
  name_had : (q : ℕ) → covered_by good n q ≡ true → name_by good n damaged m q ≡ had
  unfolding name_by
  name_had q e = λ i. elim (e i) [ true ↦ had | false ↦ missed_by (covered_by damaged m q) ]

  name_missed : (q : ℕ) {value : Bool} → covered_by good n q ≡ false → covered_by damaged m q ≡ value → name_by good n damaged m q ≡ missed_by value
  unfolding name_by
  name_missed q e d = λ i. elim (e i) [ true ↦ had | false ↦ missed_by (d i) ]

  module _ {p end to : ℕ} where
    had_named : Stays (covered_by good n) p end true to → OneClass (name_by good n damaged m) p end had to
    had_named s =
        record {
          most = s.most;
          same = λ q from under. name_had q (s.same q from under);
          other = λ short e. missed_had (covered_by damaged m to) (sym (name_missed to (s.other short) refl) ∙ e);
        }

    missed_named : {value : Bool} {until : ℕ} → p ≤ until → Stays (covered_by good n) p end false to → Stays (covered_by damaged m) p end value until
        → OneClass (name_by good n damaged m) p end (missed_by value) (min to until)
    missed_named {value} {until} on s d =
        record {
          most = omega (arith, s.most);
          same = λ q from under. name_missed q (s.same q from (omega arith)) (d.same q from (omega arith));
          other = λ short e.
              elim (dec_le to until) [
                | yes first ↦
                    let here : min to until ≡ to = omega arith in
                    missed_had value (sym e ∙ ap (name_by good n damaged m) here ∙ name_had to (s.other (omega arith)))
                | no last ↦
                    let here : min to until ≡ until = omega arith in
                    missed_other value (sym (name_missed until (s.same until (omega arith) (omega arith)) (d.other (omega arith))) ∙ ap (name_by good n damaged m) (sym here) ∙ e)
              ];
        }

-- ---- what is found

module _ (good damaged : List Span) (p end : ℕ) {g : Sweep} (of_good : Ready good end p g) (some : p < g.to.0) where
  pub names_had : {waiting : Sweep} → g.class ≡ had → Ready damaged end p waiting
      → Names good damaged p end (record { range = record { class = Had; length = g.to.0 - p }; sweeps = record { good = g; damaged = waiting } })
  names_had is waits =
      record {
        range = range_of _ p end had g.to.0 some (had_named good (length good) damaged (length damaged) (stays_had good (length good) (of_good.stands some) is));
        ready = record { of_good = ready_on of_good (omega arith); of_damaged = ready_on waits (omega arith) };
      }

  module _ {d : Sweep} (of_damaged : Ready damaged end p d) (some' : p < d.to.0) (not-had : g.class ≡ had → ⊥) where
    missed : {value : Bool} {r : Range} → Stays (covered_by damaged (length damaged)) p end value d.to.0 → class_no r.class ≡ missed_by value
        → r.length ≡ min g.to.0 d.to.0 - p
        → Names good damaged p end (record { range = r; sweeps = record { good = g; damaged = d } })
    missed {value} stays is long =
        let one =
        missed_named good (length good) damaged (length damaged) (omega arith)
        (stays_missing good (length good) (of_good.stands some) some not-had) stays in
        record {
          range =
              (λ i. record { class = is i; length = long i })
              ∙ range_of _ p end (missed_by value) (min g.to.0 d.to.0) (omega arith) one;
          ready = record { of_good = ready_on of_good (omega arith); of_damaged = ready_on of_damaged (omega arith) };
        }

    pub names_held : {r : Range} → d.class ≡ had → class_no r.class ≡ held → r.length ≡ min g.to.0 d.to.0 - p
        → Names good damaged p end (record { range = r; sweeps = record { good = g; damaged = d } })
    names_held kept = missed (stays_had damaged (length damaged) (of_damaged.stands some') kept)

    pub names_lost : {r : Range} → (d.class ≡ had → ⊥) → class_no r.class ≡ lost → r.length ≡ min g.to.0 d.to.0 - p
        → Names good damaged p end (record { range = r; sweeps = record { good = g; damaged = d } })
    names_lost none = missed (stays_missing damaged (length damaged) (of_damaged.stands some') some' none)
