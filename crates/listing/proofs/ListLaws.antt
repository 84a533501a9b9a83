-- Laws of the two lists: with one range more, and that ranges found one after another are all of them.
use Prim.Native.Nat.{ℕ, ◌+◌, ◌-◌, ◌*◌, ◌<◌, ◌≤◌}
use mathlib.Core.List.{List, [], ◌∷◌, ◌++◌, append-nil, append_assoc}
use mathlib.Core.Path.{◌≡◌, refl, sym, ap, ◌∙◌}
use native.Mathlib.Omega.{arith}
use lib.ListN.{length, length-append}
use Rattle.partial.specs.Ranges.{Range as Stretch, had, missing, ranges, of_class, total}
use Rattle.partial.specs.Sequences.{sum}
use Rattle.partial.specs.Tables.{range_row_length, range_rows}
use Rattle.partial.proofs.Meaning.RangeLaws.{last_in, last_out, total_last}
use Rattle.filling.specs.Rows.{Put}
use Rattle.filling.proofs.RowLaws.{put_none, put_more, put_same}
use Rattle.sweeping.specs.Classes.{class_no, run_of}
use Rattle.sweeping.specs.Ranges.{range_in}
use Rattle.sweeping.specs.declared.ranges.Range.{Range}
use Rattle.sweeping.proofs.RangeLaws.{found_next}
use Rattle.listing.specs.Lists.{Stands, PutLists, Joins}
use Rattle.partial.specs.declared.answers.Lists.{Lists as Totals}

-- ---- one range more

pub range_rows_long : (rs : List Stretch) → length (range_rows rs) ≡ range_row_length * length rs
unfolding range_rows
range_rows_long [] = refl
range_rows_long (r ∷ rs) = omega (arith, range_rows_long rs)

range_rows_last : (rs : List Stretch) (r : Stretch) → range_rows (rs ++ (r ∷ [])) ≡ range_rows rs ++ (r.first ∷ r.length ∷ [])
unfolding range_rows
range_rows_last [] r = refl
range_rows_last (x ∷ rs) r = ap (λ (xs : List ℕ). x.first ∷ x.length ∷ xs) (range_rows_last rs r)

-- a list of one class, with one range more of that class
module _ {t₀ t t' : List ℕ} (rs : List Stretch) (r : Stretch) (n : ℕ) where
  put_last : n ≡ length rs → Put t₀ 0 (range_rows rs) t → Put t (range_row_length * n) (r.first ∷ r.length ∷ []) t' → Put t₀ 0 (range_rows (rs ++ (r ∷ []))) t'
  put_last many p q =
      let here : range_row_length * n ≡ 0 + length (range_rows rs) = omega (arith, range_rows_long rs) in
      put_same refl (sym (range_rows_last rs r)) (put_more 0 (range_rows rs) (r.first ∷ r.length ∷ []) p (put_same here refl q))

module _ (p : ℕ) (r : Range) (rs : List Stretch) {had₀ had₁ missing₀ missing₁ : List ℕ} {t : Totals} (s : Stands rs had₀ had₁ missing₀ missing₁ t) where
  -- the range, as it is listed
  abbrev listed : Stretch
  listed = record { class = class_no r.class; first = p; length = r.length }

  pub join_had : {had₂ : List ℕ} → class_no r.class ≡ had → Put had₁ (range_row_length * t.had) (p ∷ r.length ∷ []) had₂
      → Stands (rs ++ (listed ∷ [])) had₀ had₂ missing₀ missing₁ (record { had = t.had + 1; missing = t.missing; received_total = t.received_total + r.length; missing_total = t.missing_total })
  join_had kind put =
      let mine = last_in had listed kind rs in
      let others = last_out missing listed (λ e. omega arith) rs in
      record {
        had_many = omega (arith, s.had_many, ap length mine, length-append (of_class had rs) (listed ∷ []));
        missing_many = rw others s.missing_many;
        received = omega (arith, s.received, ap total mine, total_last (of_class had rs) listed);
        missed = rw others s.missed;
        had_rows = rw mine (put_last (of_class had rs) listed t.had s.had_many s.had_rows put);
        missing_rows = rw others s.missing_rows;
      }

  pub join_missing : {missing₂ : List ℕ} → class_no r.class ≡ missing → Put missing₁ (range_row_length * t.missing) (p ∷ r.length ∷ []) missing₂
      → Stands (rs ++ (listed ∷ [])) had₀ had₁ missing₀ missing₂ (record { had = t.had; missing = t.missing + 1; received_total = t.received_total; missing_total = t.missing_total + r.length })
  join_missing kind put =
      let mine = last_in missing listed kind rs in
      let others = last_out had listed (λ e. omega arith) rs in
      record {
        had_many = rw others s.had_many;
        missing_many = omega (arith, s.missing_many, ap length mine, length-append (of_class missing rs) (listed ∷ []));
        received = rw others s.received;
        missed = omega (arith, s.missed, ap total mine, total_last (of_class missing rs) listed);
        had_rows = rw others s.had_rows;
        missing_rows = rw mine (put_last (of_class missing rs) listed t.missing s.missing_many s.missing_rows put);
      }

-- ---- ranges one after another

-- the ranges so far are listed, and those from a position on are left
pub record Midway (of : ℕ → ℕ) (end : ℕ) (had₀ had₁ missing₀ missing₁ : List ℕ) (t : Totals) (p : ℕ) : Type 0 where
  pub done : List Stretch
  pub stands : Stands done had₀ had₁ missing₀ missing₁ t
  pub rest : ranges of end 0 ≡ done ++ ranges of (end - p) p

module _ (of : ℕ → ℕ) (end : ℕ) (had₀ missing₀ : List ℕ) where
  pub midway_none : Midway of end had₀ had₀ missing₀ missing₀ (record { had = 0; missing = 0; received_total = 0; missing_total = 0 }) 0
  unfolding of_class total sum range_rows
  midway_none =
      let all : end ≡ end - 0 = omega arith in
      record {
        done = [];
        stands = record { had_many = refl; missing_many = refl; received = refl; missed = refl; had_rows = put_none had₀ 0; missing_rows = put_none missing₀ 0 };
        rest = ap (λ (n : ℕ). ranges of n 0) all;
      }

  module _ {had₁ missing₁ : List ℕ} {t : Totals} {p : ℕ} (m : Midway of end had₀ had₁ missing₀ missing₁ t p) where
    pub midway_more : p < end → (r : Range) → run_of r ≡ range_in of p end → {had₂ missing₂ : List ℕ} {t' : Totals} → Joins t p r had₁ had₂ missing₁ missing₂ t'
        → Midway of end had₀ had₂ missing₀ missing₂ t' (p + r.length)
    midway_more some r found joins =
        record {
          done = m.done ++ (record { class = class_no r.class; first = p; length = r.length } ∷ []);
          stands = joins m.done had₀ missing₀ m.stands;
          rest =
              m.rest
              ∙ ap (λ (rs : List Stretch). m.done ++ rs) (found_next of p end some found)
              ∙ sym (append_assoc m.done (record { class = class_no r.class; first = p; length = r.length } ∷ []) (ranges of (end - (p + r.length)) (p + r.length)));
        }

    pub midway_end : end ≤ p → PutLists of end had₀ had₁ missing₀ missing₁ t
    unfolding ranges
    midway_end over =
        let none : end - p ≡ 0 = omega arith in
        let all = m.rest ∙ ap (λ (n : ℕ). m.done ++ ranges of n p) none ∙ append-nil m.done in
        rw all m.stands
