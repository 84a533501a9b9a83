-- Laws of the lines of what is dropped: what stands for a fate in a table decides the line.
use Prim.Native.Nat.{ℕ, suc, ◌+◌, ◌<◌}
use mathlib.Core.Bool.{true, false≢true}
use mathlib.Core.List.{List, [], ◌∷◌, ◌++◌, append-nil, append_assoc}
use mathlib.Core.Path.{◌≡◌, refl, sym, ap, ◌∙◌}
use native.Mathlib.Omega.{arith}
use Rattle.std.specs.Prelude.{Option, None, Some}
use Rattle.refusals.specs.Refusals.{refusal_no}
use Rattle.refusals.specs.declared.Refusal.{Refusal}
use lib.ListN.{length, get_or, take}
use lib.Seq.{take-suc, take-length}
use Rattle.filling.specs.Rows.{Puts}
use Rattle.filling.proofs.RowLaws.{put_none}
use Rattle.partial.specs.BoxList.{each, fault_line}
use Rattle.rescue.specs.Kept.{Fate, dropped, whole, of_pfil, of_pseg, Fated}
use Rattle.rescue.specs.Lines.{dropped_line, dropped_lines}
use Rattle.rescue.proofs.CopyLaws.{staying}
use Rattle.salvaging.specs.Fault.{fault_at}
use Rattle.rescue.proofs.TableLaws.{Coded}

module _ (x : Fated) {code : Option ℕ} (coded : Coded x.fate code) where
  pub line_none : code ≡ None → [] ≡ dropped_line x
  unfolding dropped_line
  line_none e = go x.fate (coded.stays e)
    where
      go : (t : Fate) → staying t ≡ true → [] ≡ dropped_line (record { box = x.box; fate = t })
      go (dropped n) stays = absurd (false≢true stays)
      go whole stays = refl
      go (of_pfil inner) stays = refl
      go (of_pseg s) stays = refl

  pub line_one : (place : ℕ) → x.box.at ≡ place → {n : ℕ} → code ≡ Some n → fault_line (record { at = place; number = n }) ≡ dropped_line x
  unfolding dropped_line
  line_one place here e = rw (dropped_line, coded.goes e, here)

-- all of a list
pub take_all : {A : Type 0} (xs : List A) (k : ℕ) → length xs ≡ k → take k xs ≡ xs
take_all xs k e = ap (λ (n : ℕ). take n xs) (sym e) ∙ take-length xs

-- texts of the first so many of a list
module _ {A : Type 0} (text : A → List ℕ) where
  pub each_last : (xs : List A) (x : A) → each text (xs ++ (x ∷ [])) ≡ each text xs ++ text x
  unfolding each
  each_last [] x = append-nil (text x)
  each_last (y ∷ ys) x = ap (text y ++◌) (each_last ys x) ∙ sym (append_assoc (text y) (each text ys) (text x))

  pub each_more : (xs : List A) (d : A) (k : ℕ) → k < length xs → each text (take k xs) ++ text (get_or xs k d) ≡ each text (take (k + 1) xs)
  each_more xs d k less =
      let one : k + 1 ≡ suc k = omega arith in
      sym (ap (λ (n : ℕ). each text (take n xs)) one ∙ ap (each text) (take-suc xs k d less) ∙ each_last (take k xs) (get_or xs k d))

  pub each_none : (xs : List A) (s : List ℕ) → Puts s 0 (each text (take 0 xs)) s 0
  unfolding each
  each_none xs s = record { put = put_none s 0; end = refl }

-- the line of a framing error, if there is one
module _ (xs : List Fated) (place : ℕ) {fault : Option Refusal} where
  pub fault_none : fault ≡ None → each dropped_line xs ≡ dropped_lines xs (fault_at place fault)
  unfolding dropped_lines
  fault_none e = rw (e, dropped_lines) (sym (append-nil (each dropped_line xs)))

  pub fault_one : {e : Refusal} → fault ≡ Some e → each dropped_line xs ++ fault_line (record { at = place; number = refusal_no e }) ≡ dropped_lines xs (fault_at place fault)
  unfolding dropped_lines
  fault_one is = rw (is, dropped_lines)
