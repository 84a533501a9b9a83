-- Laws of the counts by the rows of the table: how a loop over it counts one box more, what is read at a kind's row,
-- and what a tally says.
use Prim.Native.Nat.{ℕ, zero, suc, ◌+◌, ◌≤◌, ◌<◌}
use mathlib.Core.Bool.{Bool, true, false, ◌||◌}
use mathlib.Core.List.{List, [], ◌∷◌, ◌++◌, map}
use mathlib.Core.Path.{◌≡◌, refl, sym, ap, subst, ◌∙◌}
use native.Mathlib.Nat.{add-zero}
use native.Mathlib.Numerals.{add-one}
use native.Mathlib.Decide.{dec_le}
use native.Mathlib.Omega.{arith}
use borrow.Author.Count.{below_more}
use borrow.Author.Tests.{eq-eqb, ne_eqb, eqb-true, eqb-false}
use lib.Dec.{eqb}
use lib.ListN.{length, get_or, drop, set, length-set}
use lib.Seq.{drop-cons, drop-drop, get_or-drop, get_or-set_same, get_or-set_other, ext_get_or}
use Rattle.std.specs.Prelude.{Result, Ok, Err}
use Rattle.refusals.specs.Refusals.{refusal_no}
use Rattle.refusals.specs.declared.Refusal.{Refusal}
use Rattle.boxes.specs.Answer.{Answer, refused, given, told_as}
use Rattle.boxes.proofs.AnswerLaws.{not_both, refused_same, given_same}
use Rattle.boxes.proofs.ToldLaws.{told-ok, told-err}
use Rattle.boxes.specs.Framing.{Box}
use Rattle.boxes.specs.Kinds.{ftyp, rule, rules, those, is_row, rule_in, right_count, right}
use Rattle.boxes.specs.declared.kinds.Container.{Container}
use Rattle.boxes.specs.declared.kinds.Container.TheVariants.{File}
use Rattle.boxes.specs.declared.kinds.Count.TheVariants.{Any}
use Rattle.boxes.specs.declared.kinds.Kind.{Kind}
use Rattle.boxes.specs.declared.kinds.Rule.{Rule}
use Rattle.boxes.proofs.KindLaws.{those_few, one_found, one_passed, right-count}
use Rattle.tallying.specs.Rules.{counts_of, row_after, CountedBy, tally_of, tallied, count_in, tally_for}
use Rattle.tallying.specs.declared.tally.Tally.{Tally}

-- ---- one box more

-- what stands past the end of a table, where no row is looked at
abbrev no_row : Rule
no_row = rule ftyp File Any

row_same : (code : ℕ) (row : Rule) (n : ℕ) → code ≡ row.kind.code → row_after code row n ≡ n + 1
row_same code row n e = simp (row_after, eq-eqb code row.kind.code e)

row_other : (code : ℕ) (row : Rule) (n : ℕ) → (code ≡ row.kind.code → ⊥) → row_after code row n ≡ n
row_other code row n other = simp (row_after, ne_eqb code row.kind.code other)

pub rows_none : (rs : List Rule) (code from : ℕ) (before : List ℕ) → CountedBy rs code from from before before
rows_none rs code from before = record { long = refl; passed = λ k high low d. absurd (omega arith); left = λ k h. refl }

-- within a table it does not matter what stands past its end
pub get_d_any : (rs : List Rule) (i : ℕ) (d e : Rule) → i < length rs → get_or rs i d ≡ get_or rs i e
get_d_any [] i d e h = absurd (omega arith)
get_d_any (r ∷ rs) zero d e h = refl
get_d_any (r ∷ rs) (suc i) d e h = get_d_any rs i d e (omega arith)

-- a row of a table stands before those behind it
drop_row : (rs : List Rule) (i : ℕ) {row : Rule} → ((d : Rule) → row ≡ get_or rs i d) → i < length rs → drop i rs ≡ row ∷ drop (suc i) rs
drop_row rs i {row} here inside = drop-cons rs i row inside ∙ ap (λ r. r ∷ drop (suc i) rs) (sym (here row))

-- the rows from one up to another, and the next one too
module _ {rs : List Rule} {code from i : ℕ} {before counts : List ℕ} (r : CountedBy rs code from i before counts) (low : from ≤ i) {row : Rule} (here : (d : Rule) → row ≡ get_or rs i d) where
  as_before : get_or counts i 0 ≡ get_or before i 0
  as_before = r.left i (λ h. omega arith)

  pub rows_found : i < length counts → code ≡ row.kind.code → CountedBy rs code from (i + 1) before (set counts i (get_or counts i 0 + 1))
  rows_found inside same =
      record {
        long = rw length-set r.long;
        passed =
            below_more _ i (λ k h from_on d. get_or-set_other counts i k (get_or counts i 0 + 1) 0 (λ e. omega arith) ∙ r.passed k h from_on d)
            (λ from_on d. get_or-set_same counts i (get_or counts i 0 + 1) 0 inside ∙ ap (λ n. n + 1) as_before ∙ sym (rw (← here d) (row_same code row (get_or before i 0) same)));
        left = λ k h. get_or-set_other counts i k (get_or counts i 0 + 1) 0 (λ e. omega (arith, h (omega arith))) ∙ r.left k (λ l. omega (arith, h l));
      }

  pub rows_passed : (code ≡ row.kind.code → ⊥) → CountedBy rs code from (i + 1) before counts
  rows_passed other =
      record {
        long = r.long;
        passed = below_more _ i r.passed (λ from_on d. as_before ∙ sym (rw (← here d) (row_other code row (get_or before i 0) other)));
        left = λ k h. r.left k (λ l. omega (arith, h l));
      }

-- the rows up to one, and then those from it on
pub rows_both : {rs : List Rule} {code i j : ℕ} {before counts after : List ℕ} → i ≤ j → CountedBy rs code 0 i before counts → CountedBy rs code i j counts after
    → CountedBy rs code 0 j before after
rows_both {rs} {code} {i} {j} {before} {counts} {after} up one two =
    record {
      long = two.long ∙ one.long;
      passed = λ k h low d.
          elim (dec_le i k) [
            | no before-it ↦ two.left k (λ l. absurd (before-it l)) ∙ one.passed k (omega (arith, before-it)) low d
            | yes from_on ↦ two.passed k h from_on d ∙ ap (row_after code (get_or rs k d)) (one.left k (λ l. from_on))
          ];
      left = λ k h. two.left k (λ l. h (omega arith)) ∙ one.left k (λ l. omega (arith, h l));
    }

-- how many there are of the kind of each of some rows
abbrev counted : List Rule → List Box → List ℕ
counted rs bs = map (λ row. length (those row.kind bs)) rs

counted_at : (rs : List Rule) (bs : List Box) (k : ℕ) → k < length rs → get_or (counted rs bs) k 0 ≡ length (those (get_or rs k no_row).kind bs)
counted_at [] bs k h = absurd (omega arith)
counted_at (r ∷ rs) bs zero h = refl
counted_at (r ∷ rs) bs (suc k) h = counted_at rs bs k (omega arith)

-- where all rows have counted the box, they are the counts with the box
pub rows_all : (bs : List Box) (b : Box) {code : ℕ} {counts : List ℕ} → b.kind ≡ code → CountedBy rules code 0 (length rules) (counts_of bs) counts
    → counts ≡ counts_of (bs ++ (b ∷ []))
unfolding counts_of
rows_all bs b {code} {counts} e r =
    ext_get_or 0 counts (counted rules (bs ++ (b ∷ []))) r.long
    (λ k h.
    let inside : k < length rules = omega (arith, r.long) in
    r.passed k inside (omega arith) no_row ∙ row k inside (eqb code (get_or rules k no_row).kind.code) refl)
  where
    row : (k : ℕ) → k < length rules → (t : Bool) → eqb code (get_or rules k no_row).kind.code ≡ t
        → (elim t as (λ _. ℕ) [ true ↦ get_or (counted rules bs) k 0 + 1 | false ↦ get_or (counted rules bs) k 0 ]) ≡ get_or (counted rules (bs ++ (b ∷ []))) k 0
    row k h true same =
        one_found (get_or rules k no_row).kind bs b (counted_at rules bs k h) (e ∙ eqb-true code (get_or rules k no_row).kind.code same)
        ∙ sym (counted_at rules (bs ++ (b ∷ [])) k h)
    row k h false other =
        one_passed (get_or rules k no_row).kind bs b (counted_at rules bs k h) (λ f. eqb-false code (get_or rules k no_row).kind.code other (sym e ∙ f))
        ∙ sym (counted_at rules (bs ++ (b ∷ [])) k h)

-- no count is above the number of boxes
counted_few : (rs : List Rule) (bs : List Box) (k : ℕ) → get_or (counted rs bs) k 0 ≤ length bs
counted_few [] bs k = omega arith
counted_few (r ∷ rs) bs zero = those_few r.kind bs
counted_few (r ∷ rs) bs (suc k) = counted_few rs bs k

pub counts_few : (bs : List Box) (k : ℕ) → get_or (counts_of bs) k 0 ≤ length bs
unfolding counts_of
counts_few = counted_few rules

-- ---- the count at a kind's first row

-- the first row decides, if it is of the kind
module _ (r : Rule) (rs : List Rule) (k : Kind) (counts : List ℕ) where
  count_first : r.kind.code ≡ k.code → count_in (r ∷ rs) k counts ≡ get_or counts 0 0
  unfolding count_in
  count_first e = simp (count_in, eq-eqb r.kind.code k.code e)

  count_later : (r.kind.code ≡ k.code → ⊥) → count_in (r ∷ rs) k counts ≡ count_in rs k (drop 1 counts)
  unfolding count_in
  count_later other = simp (count_in, ne_eqb r.kind.code k.code other)

-- as a loop over a table looks for it
module _ (rs : List Rule) (k : Kind) (counts : List ℕ) (i : ℕ) {row : Rule} (here : (d : Rule) → row ≡ get_or rs i d) (inside : i < length rs) where
  pub count_found : row.kind.code ≡ k.code → count_in (drop i rs) k (drop i counts) ≡ get_or counts i 0
  count_found e =
      rw (drop_row rs i here inside) (count_first row (drop (suc i) rs) k (drop i counts) e ∙ rw (get_or-drop, add-zero))

  pub count_passed : (row.kind.code ≡ k.code → ⊥) → count_in (drop i rs) k (drop i counts) ≡ count_in (drop (i + 1) rs) k (drop (i + 1) counts)
  count_passed other =
      rw (drop_row rs i here inside) (count_later row (drop (suc i) rs) k (drop i counts) other ∙ rw (drop-drop, add-one))

-- whether a table has a kind
abbrev pub has : List Rule → Kind → Bool
has [] k = false
has (r ∷ rs) k = eqb r.kind.code k.code || has rs k

count_of : (rs : List Rule) (k : Kind) (bs : List Box) → has rs k ≡ true → count_in rs k (counted rs bs) ≡ length (those k bs)
count_of [] k bs h = let z : ◌≡◌ {A = ℕ} 0 1 = cc in absurd (omega arith)
count_of (r ∷ rs) k bs h = go (count_of rs k bs) (eqb r.kind.code k.code) refl
  where
    go : (has rs k ≡ true → count_in rs k (counted rs bs) ≡ length (those k bs)) → (t : Bool) → eqb r.kind.code k.code ≡ t → count_in (r ∷ rs) k (counted (r ∷ rs) bs) ≡ length (those k bs)
    go rest true e =
        let same = eqb-true r.kind.code k.code e in
        count_first r rs k (counted (r ∷ rs) bs) same ∙ ap (λ code. length (those (record { code = code }) bs)) same
    go rest false e = count_later r rs k (counted (r ∷ rs) bs) (eqb-false r.kind.code k.code e) ∙ rest (rw e at h)

-- at a row of a kind of the table stands how many there are of it: `tally-for ftyp refl bs`
pub tally-for : (k : Kind) → has rules k ≡ true → (bs : List Box) → tally_for k (counts_of bs) ≡ length (those k bs)
unfolding tally_for counts_of
tally-for k h bs = count_of rules k bs h

-- ---- the rule at the row of a kind in a container, as a loop over a table looks for it
module _ (rs : List Rule) (c : Container) (k : Kind) (i : ℕ) {row : Rule} (here : (d : Rule) → row ≡ get_or rs i d) (inside : i < length rs) where
  pub rule_found : is_row c k row ≡ true → rule_in (drop i rs) c k ≡ row.count
  rule_found e = rw (drop_row rs i here inside, rule_in, e)

  pub rule_passed : is_row c k row ≡ false → rule_in (drop i rs) c k ≡ rule_in (drop (i + 1) rs) c k
  rule_passed e = rw (drop_row rs i here inside, rule_in, e, add-one)

-- ---- what a tally says

-- of the boxes of a container: how many there are, and how many of each kind
pub record Tallied (t : Tally) (bs : List Box) : Type 0 where
  pub number : t.boxes ≡ length bs
  pub of : (k : Kind) → has rules k ≡ true → tally_for k t.counts ≡ length (those k bs)

pub tally_given : {t : Tally} {bs : List Box} → t ≡ tally_of bs → Tallied t bs
unfolding tally_of
tally_given {bs = bs} answer = subst (λ t. Tallied t bs) (sym answer) (record { number = refl; of = λ k h. tally-for k h bs })

-- what is told of a container: its boxes are counted, or it has a fault of that number
module _ {r : Result Tally Refusal} {x : Answer (List Box)} (answer : told_as (λ t. t) r ≡ tallied x) where
  pub tally_sound : {t : Tally} → r ≡ Ok t → (bs : List Box) × (x ≡ given bs) × (t ≡ tally_of bs)
  tally_sound {t} ok = go x (sym (told-ok (λ t. t) answer ok))
    where
      go : (x : Answer (List Box)) → given t ≡ tallied x → (bs : List Box) × (x ≡ given bs) × (t ≡ tally_of bs)
      go (refused n) e = absurd (not_both (sym e))
      go (given bs) e = (bs, refl, given_same e)

  pub tally_fault : {n : Refusal} → r ≡ Err n → x ≡ refused (refusal_no n)
  tally_fault {n} err = go x (sym (told-err (λ t. t) answer err))
    where
      go : (x : Answer (List Box)) → refused (refusal_no n) ≡ tallied x → x ≡ refused (refusal_no n)
      go (refused m) e = ap refused (sym (refused_same e))
      go (given bs) e = absurd (not_both e)

-- a rule held against a tally is held against the boxes
pub tally_right : (c : Container) (k : Kind) → has rules k ≡ true → {t : Tally} {bs : List Box} → Tallied t bs → right_count c k (tally_for k t.counts) ≡ right c k bs
tally_right c k h {bs = bs} tallied = ap (right_count c k) (tallied.of k h) ∙ sym (right-count c k bs)

-- a count rule that was held against a tally is held against the boxes
pub rule_kept : {t : Tally} (bs : List Box) → t ≡ tally_of bs → (c : Container) (k : Kind) → has rules k ≡ true → {n : ℕ} {r : Bool}
    → n ≡ tally_for k t.counts
    → r ≡ right_count c k n
    → r ≡ right c k bs
rule_kept bs tallied c k known counted kept = kept ∙ ap (right_count c k) counted ∙ tally_right c k known (tally_given tallied)
