-- Laws of a loop over the ranges by the spans in both tables: those found so far and those that are left, and what is
-- told of the sweeps.
use Prim.Native.Nat.{ℕ, ◌+◌, ◌-◌, ◌*◌, ◌<◌, ◌≤◌}
use mathlib.Core.List.{List, [], ◌∷◌, ◌++◌, append-nil, append_assoc}
use mathlib.Core.Path.{◌≡◌, sym, ap, subst, ◌∙◌}
use native.Mathlib.Omega.{arith}
use lib.ListN.{length, length-append}
use Rattle.filling.specs.Rows.{Puts}
use Rattle.filling.proofs.RowLaws.{put_none}
use Rattle.filling.proofs.PutsLaws.{puts_same, puts_more}
use Rattle.partial.specs.Map.{range_line, range_lines}
use Rattle.partial.specs.Ranges.{Range as Stretch, ranges}
use Rattle.sweeping.specs.Naming.{both_at_start, BothReady}
use Rattle.sweeping.specs.Classes.{class_no, run_of}
use Rattle.sweeping.specs.Ranges.{range_in}
use Rattle.sweeping.specs.declared.naming.Sweeps.{Sweeps}
use Rattle.sweeping.specs.declared.ranges.Range.{Range}
use Rattle.sweeping.proofs.NameLaws.{both_ready}
use Rattle.sweeping.proofs.RangeLaws.{found_next}
use Rattle.mapping.specs.declared.outline.Outline.{Outline}

-- ---- the ranges so far

-- something holds of the ranges so far, and those from a position on are left
pub record Midway (of : ℕ → ℕ) (end : ℕ) (Done : List Stretch → Type 0) (p : ℕ) : Type 0 where
  pub done : List Stretch
  pub holds : Done done
  pub rest : ranges of end 0 ≡ done ++ ranges of (end - p) p

module _ (of : ℕ → ℕ) (end : ℕ) {Done : List Stretch → Type 0} where
  pub midway_none : Done [] → Midway of end Done 0
  midway_none none =
      let all : end ≡ end - 0 = omega arith in
      record { done = []; holds = none; rest = ap (λ (n : ℕ). ranges of n 0) all }

  module _ {p : ℕ} (m : Midway of end Done p) where
    pub midway_more : {More : List Stretch → Type 0} → p < end → (r : Range) → run_of r ≡ range_in of p end
        → ((rs : List Stretch) → Done rs → More (rs ++ (record { class = class_no r.class; first = p; length = r.length } ∷ [])))
        → Midway of end More (p + r.length)
    midway_more some r found step =
        let new : Stretch = record { class = class_no r.class; first = p; length = r.length } in
        record {
          done = m.done ++ (new ∷ []);
          holds = step m.done m.holds;
          rest =
              m.rest
              ∙ ap (λ (rs : List Stretch). m.done ++ rs) (found_next of p end some found)
              ∙ sym (append_assoc m.done (new ∷ []) (ranges of (end - (p + r.length)) (p + r.length)));
        }

    pub midway_end : end ≤ p → Done (ranges of end 0)
    unfolding ranges
    midway_end over =
        let none : end - p ≡ 0 = omega arith in
        let all = m.rest ∙ ap (λ (n : ℕ). m.done ++ ranges of n p) none ∙ append-nil m.done in
        subst Done (sym all) m.holds

-- ---- their lines

-- the lines of ranges are put, none of more than fifty bytes
pub record Lines (word : ℕ → List ℕ) (s : List ℕ) (at : ℕ) (t : List ℕ) (next : ℕ) (rs : List Stretch) : Type 0 where
  pub put : Puts s at (range_lines word rs) t next
  pub few : next ≤ at + 50 * length rs

module _ (word : ℕ → List ℕ) (s : List ℕ) (at : ℕ) where
  pub lines_none : Lines word s at s at []
  unfolding range_lines
  lines_none = record { put = record { put = put_none s at; end = omega arith }; few = omega arith }

  lines_last : (rs : List Stretch) (r : Stretch) → range_lines word (rs ++ (r ∷ [])) ≡ range_lines word rs ++ range_line word r
  unfolding range_lines
  lines_last [] r = append-nil (range_line word r)
  lines_last (x ∷ rs) r = ap (λ (text : List ℕ). range_line word x ++ text) (lines_last rs r) ∙ sym (append_assoc (range_line word x) (range_lines word rs) (range_line word r))

  pub lines_more : {t t' : List ℕ} {next next' : ℕ} (new : Stretch) → Puts t next (range_line word new) t' next' → next' ≤ next + 50
      → (rs : List Stretch) → Lines word s at t next rs → Lines word s at t' next' (rs ++ (new ∷ []))
  lines_more new puts low rs l =
      record {
        put = puts_same (sym (lines_last rs new)) (puts_more l.put puts);
        few = simp length-append (omega (arith, l.few));
      }

-- ---- the sweeps

-- the sweeps are ready for a position
abbrev pub Swept : Outline → ℕ → Sweeps → Type 0
Swept o p s = BothReady o.good.now o.damaged.now o.end.0 p s

module _ (o : Outline) where
  pub swept_start : {s : Sweeps} → s ≡ both_at_start → Swept o 0 s
  swept_start e = subst (Swept o 0) (sym e) (both_ready o.good.now o.damaged.now o.end.0 0)
