-- A table tells the fates of boxes apart: which stay, and the number of each that is dropped.
use Prim.Native.Nat.{ℕ, ◌≤◌}
use mathlib.Core.Bool.{true}
use Rattle.std.specs.Prelude.{Option, None, Some}
use mathlib.Core.List.{List, [], map}
use mathlib.Core.Path.{◌≡◌, refl, sym, ap, ◌∙◌}
use native.Mathlib.Omega.{arith}
use lib.ListN.{length, get_or, drop, get_or-map, length-map}
use lib.Seq.{drop-cons}
use Rattle.boxes.specs.Framing.{Box}
use Rattle.boxes.specs.Kinds.{no_box, box_at}
use Rattle.partial.specs.Heading.{Heading}
use Rattle.partial.specs.Limits.{source_limit}
use Rattle.rescue.specs.Kept.{Fate, dropped, whole, of_pfil, of_pseg, Fated, fates}
use Rattle.rescue.specs.Table.{code_of, code_for, number_of, code_told}
use Rattle.rescue.specs.declared.table.Fate.{Fate as Told}
use Rattle.rescue.specs.declared.table.Fate.TheVariants.{Stays, Dropped}
use Rattle.refusals.specs.Refusals.{refusal_no}
use Rattle.refusals.specs.declared.Refusal.{Refusal}
use Rattle.refusals.proofs.NumberLaws.{refusal_told, refusal_some}
use Rattle.rescue.proofs.CopyLaws.{staying}
use Rattle.rescue.proofs.FateLaws.{fates_boxes}

-- past the last box
abbrev pub no_fated : Fated
no_fated = record { box = no_box; fate = dropped 0 }

-- a code tells whether the box stays, and the number of one that does not
pub record Coded (t : Fate) (code : Option ℕ) : Type 0 where
  pub stays : code ≡ None → staying t ≡ true
  pub goes : {n : ℕ} → code ≡ Some n → t ≡ dropped n

coded : (t : Fate) → Coded t (code_of t)
unfolding code_of
coded (dropped n) = record { stays = λ e. cc; goes = λ e. cc }
coded whole = record { stays = λ _. refl; goes = λ e. cc }
coded (of_pfil inner) = record { stays = λ _. refl; goes = λ e. cc }
coded (of_pseg s) = record { stays = λ _. refl; goes = λ e. cc }

-- what a fate in a table says determines it
number_told : (n m : Option Refusal) → number_of n ≡ number_of m → n ≡ m
number_told None None e = refl
number_told None (Some m) e = absurd (refusal_some m e)
number_told (Some n) None e = absurd (refusal_some n (sym e))
number_told (Some n) (Some m) e = ap Some (refusal_told n m e)

pub fate_told : (x y : Told) → code_told x ≡ code_told y → x ≡ y
fate_told Stays Stays e = refl
fate_told Stays (Dropped m) e = cc
fate_told (Dropped n) Stays e = cc
fate_told (Dropped n) (Dropped m) e =
    let same : number_of n ≡ number_of m = cc in
    ap Dropped (number_told n m same)

module _ (f : List ℕ) (h : Heading) where
  -- each fate is that of a box
  pub boxes_fated : 2 ≤ length h.boxes → map (λ x. x.box) (fates source_limit f h) ≡ h.boxes
  unfolding fates box_at
  boxes_fated two =
      rw (fates_boxes source_limit f h [] (drop 2 h.boxes), ← drop-cons h.boxes 1 no_box (omega arith), ← drop-cons h.boxes 0 no_box (omega arith))

  pub fates_many : 2 ≤ length h.boxes → length (fates source_limit f h) ≡ length h.boxes
  fates_many two = sym (length-map (fates source_limit f h) (λ (x : Fated). x.box)) ∙ ap length (boxes_fated two)

  pub fated_box : 2 ≤ length h.boxes → (k : ℕ) → (get_or (fates source_limit f h) k no_fated).box ≡ box_at k h.boxes
  unfolding box_at
  fated_box two k = sym (get_or-map (λ (x : Fated). x.box) (fates source_limit f h) k no_fated) ∙ ap (λ (bs : List Box). get_or bs k no_box) (boxes_fated two)

pub code_at : (f : List ℕ) (h : Heading) (k : ℕ) → Coded (get_or (fates source_limit f h) k no_fated).fate (code_for f h k)
unfolding code_of
code_at f h k =
    rw (get_or-map (λ (x : Fated). code_of x.fate) (fates source_limit f h) k no_fated)
    (coded (get_or (fates source_limit f h) k no_fated).fate)
