-- Laws of what is counted of ranges, with one range more.
use Prim.Native.Nat.{ℕ, ◌+◌}
use mathlib.Core.List.{List, [], ◌∷◌, ◌++◌}
use mathlib.Core.Path.{◌≡◌, refl, ap, ◌∙◌}
use native.Mathlib.Omega.{arith}
use Rattle.partial.specs.Naming.{held, lost}
use Rattle.partial.specs.Ranges.{Range as Stretch, had, of_class, total}
use Rattle.partial.specs.Sequences.{sum}
use Rattle.partial.proofs.Meaning.RangeLaws.{last_in, last_out, total_last}
use Rattle.mapping.specs.Totals.{Counts}
use Rattle.mapping.specs.declared.totals.Totals.{Totals}

pub counts_none : Counts [] (record { received = 0; held = 0; lost = 0 })
unfolding of_class total sum
counts_none = record { received = refl; held = refl; lost = refl }

module _ (r : Stretch) (rs : List Stretch) where
  -- the total of its class, and that of another
  total_in : (c : ℕ) → r.class ≡ c → total (of_class c (rs ++ (r ∷ []))) ≡ total (of_class c rs) + r.length
  total_in c same = ap total (last_in c r same rs) ∙ total_last (of_class c rs) r

  total_out : (c : ℕ) → (r.class ≡ c → ⊥) → total (of_class c (rs ++ (r ∷ []))) ≡ total (of_class c rs)
  total_out c other = ap total (last_out c r other rs)

  module _ {t : Totals} (s : Counts rs t) where
    pub count_had : r.class ≡ had → Counts (rs ++ (r ∷ [])) (record { received = t.received + r.length; held = t.held; lost = t.lost })
    count_had kind =
        record {
          received = omega (arith, s.received, total_in had kind);
          held = omega (arith, s.held, total_out held (λ e. omega arith));
          lost = omega (arith, s.lost, total_out lost (λ e. omega arith));
        }

    pub count_held : r.class ≡ held → Counts (rs ++ (r ∷ [])) (record { received = t.received; held = t.held + r.length; lost = t.lost })
    count_held kind =
        record {
          received = omega (arith, s.received, total_out had (λ e. omega arith));
          held = omega (arith, s.held, total_in held kind);
          lost = omega (arith, s.lost, total_out lost (λ e. omega arith));
        }

    pub count_lost : r.class ≡ lost → Counts (rs ++ (r ∷ [])) (record { received = t.received; held = t.held; lost = t.lost + r.length })
    count_lost kind =
        record {
          received = omega (arith, s.received, total_out had (λ e. omega arith));
          held = omega (arith, s.held, total_out held (λ e. omega arith));
          lost = omega (arith, s.lost, total_in lost kind);
        }
