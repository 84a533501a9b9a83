-- The lines of what was dropped: one for each dropped box and for the framing error, in file order, and none for a box
-- that stays.
use Prim.Native.Nat.{ℕ, ◌+◌, ◌<◌, ◌≤◌}
use mathlib.Core.Bool.{true, false≢true}
use mathlib.Core.List.{List, [], ◌∷◌, ◌++◌, map, append-nil, append_assoc}
use mathlib.Core.List.{Memᴰ}
use mathlib.Core.Logic.{⊎_elim}
use Rattle.std.specs.Prelude.{Option, None, Some}
use mathlib.Core.Path.{◌≡◌, refl, sym, ap, ◌∙◌}
use native.Mathlib.Omega.{arith}
use borrow.Author.Tests.{le-leb}
use lib.ListN.{length, drop}
use lib.Seq.{length-take-le, drop-cons}
use Rattle.boxes.specs.Answer.{given}
use Rattle.boxes.specs.Framing.{Box, Fault}
use Rattle.boxes.specs.Kinds.{no_box, box_at}
use Rattle.boxes.specs.declared.kinds.Container.{Container}
use Rattle.boxes.specs.declared.kinds.Container.TheVariants.{File}
use Rattle.boxes.proofs.ContainerLaws.{Filled, next, boxes_filled}
use Rattle.boxes.proofs.FaultLaws.{fault_stands}
use Rattle.boxes.proofs.HeaderLaws.{header_inside}
use Rattle.partial.specs.BoxList.{each, fault_line}
use Rattle.partial.specs.Heading.{Heading}
use Rattle.partial.proofs.Meaning.SequenceLaws.{Each}
use Rattle.rescue.specs.Kept.{Fate, dropped, whole, of_pfil, of_pseg, Fated, walk_of, framed, opening, fates}
use Rattle.rescue.specs.Demands.{dropped_of, fault_of, Ascending}
use Rattle.rescue.specs.Lines.{dropped_line, dropped_lines, salvage_text}
use Rattle.rescue.proofs.CopyLaws.{staying}
use Rattle.rescue.proofs.FateLaws.{fates_boxes}
use Rattle.rescue.proofs.FramedLaws.{framed_boxes}
use Rattle.rescue.proofs.HeadingLaws.{opened}

-- what holds of the dropped ones, by what becomes of the first
by_first : (P : List Fault → Type 0) (x : Fated) (xs : List Fated)
    → ((n : ℕ) → x.fate ≡ dropped n → P (record { at = x.box.at; number = n } ∷ dropped_of xs))
    → (staying x.fate ≡ true → P (dropped_of xs))
    → P (dropped_of (x ∷ xs))
by_first P x xs goes stays = go x.fate refl
  where
    go : (t : Fate) → x.fate ≡ t → P (dropped_of (record { box = x.box; fate = t } ∷ xs))
    go (dropped n) e = goes n e
    go whole e = stays (rw e)
    go (of_pfil inner) e = stays (rw e)
    go (of_pseg s) e = stays (rw e)

-- ---- the lines

-- those of the dropped boxes and of the framing error, in order
pub lines_each : (xs : List Fated) (fault : Option Fault) → dropped_lines xs fault ≡ each fault_line (dropped_of xs ++ fault_of fault)
unfolding dropped_lines dropped_line each
lines_each [] None = refl
lines_each [] (Some x) = sym (append-nil (fault_line x))
lines_each (x ∷ xs) fault = rw (append_assoc, lines_each xs fault) (go x.fate)
  where
    go : (t : Fate) → dropped_line (record { box = x.box; fate = t }) ++ each fault_line (dropped_of xs ++ fault_of fault)
        ≡ each fault_line (dropped_of (record { box = x.box; fate = t } ∷ xs) ++ fault_of fault)
    go (dropped n) = refl
    go whole = refl
    go (of_pfil inner) = refl
    go (of_pseg s) = refl

-- nothing is dropped where all boxes stay
none_dropped : (xs : List Fated) → Each (λ x. staying x.fate ≡ true) xs → dropped_of xs ≡ []
none_dropped [] stay = refl
none_dropped (x ∷ xs) (here, there) =
    by_first (λ l. l ≡ []) x xs (λ n e. absurd (false≢true (rw e at here))) (λ _. none_dropped xs there)

pub lines_none : (xs : List Fated) → Each (λ x. staying x.fate ≡ true) xs → dropped_lines xs None ≡ []
unfolding each
lines_none xs stay = lines_each xs None ∙ rw (none_dropped xs stay)

-- ---- the boxes that they name

-- one of some boxes that is dropped, with its place and number
pub record Dropped (xs : List Fated) (y : Fault) : Type 0 where
  pub one : Fated
  pub there : Memᴰ one xs
  pub place : one.box.at ≡ y.at
  pub fate : one.fate ≡ dropped y.number

-- each named one is dropped
pub named_dropped : (xs : List Fated) (y : Fault) → Memᴰ y (dropped_of xs) → Dropped xs y
named_dropped [] y named = absurd (mathlib.Core.List.Memᴰ.not-nil named)
named_dropped (x ∷ xs) y named =
    let later : Memᴰ y (dropped_of xs) → Dropped (x ∷ xs) y = λ named.
    let d = named_dropped xs y named in
    record { one = d.one; there = mathlib.Core.List.Memᴰ.tail d.there; place = d.place; fate = d.fate } in
    by_first (λ l. Memᴰ y l → Dropped (x ∷ xs) y) x xs
    (λ n e named. ⊎_elim (λ here. record { one = x; there = mathlib.Core.List.Memᴰ.head refl; place = rw here; fate = e ∙ rw here }) later (mathlib.Core.List.Memᴰ.cases_cons named))
    (λ _. later)
    named

-- and each dropped one named
pub dropped_named : (xs : List Fated) (x : Fated) (n : ℕ) → Memᴰ x xs → x.fate ≡ dropped n
    → Memᴰ (record { at = x.box.at; number = n }) (dropped_of xs)
dropped_named [] x n m e = elim m [ ]
dropped_named (z ∷ xs) x n (mathlib.Core.List.Memᴰ.head same) e =
    by_first (Memᴰ (record { at = x.box.at; number = n })) z xs (λ m e'. mathlib.Core.List.Memᴰ.head (cc)) (λ stays. absurd (false≢true (rw (← same, e) at stays)))
dropped_named (z ∷ xs) x n (mathlib.Core.List.Memᴰ.tail there) e =
    let rest = dropped_named xs x n there e in
    by_first (Memᴰ (record { at = x.box.at; number = n })) z xs (λ m _. mathlib.Core.List.Memᴰ.tail rest) (λ _. rest)

-- ---- their places

module _ {A : Type 0} (place : A → ℕ) where
  from_lower : (low low' : ℕ) (xs : List A) → low' ≤ low → Ascending place low xs → Ascending place low' xs
  from_lower low low' [] h up = tt
  from_lower low low' (x ∷ xs) h (here, there) = (omega arith, there)

  none_lower : (low : ℕ) (xs : List A) → Ascending place low xs → (x : A) → Memᴰ x xs → low ≤ place x
  none_lower low [] up x m = elim m [ ]
  none_lower low (y ∷ xs) (here, there) x (mathlib.Core.List.Memᴰ.head same) = rw same here
  none_lower low (y ∷ xs) (here, there) x (mathlib.Core.List.Memᴰ.tail m) = omega (arith, none_lower (place y + 1) xs there x m)

  -- no two have one place
  one_place : (low : ℕ) (xs : List A) → Ascending place low xs → (x y : A) → Memᴰ x xs → Memᴰ y xs → place x ≡ place y → x ≡ y
  one_place low [] up x y m n same = elim m [ ]
  one_place low (z ∷ xs) (here, there) x y (mathlib.Core.List.Memᴰ.head p) (mathlib.Core.List.Memᴰ.head q) same = p ∙ sym q
  one_place low (z ∷ xs) (here, there) x y (mathlib.Core.List.Memᴰ.head p) (mathlib.Core.List.Memᴰ.tail m) same =
      absurd (omega (arith, none_lower (place z + 1) xs there y m, ap place p))
  one_place low (z ∷ xs) (here, there) x y (mathlib.Core.List.Memᴰ.tail m) (mathlib.Core.List.Memᴰ.head q) same =
      absurd (omega (arith, none_lower (place z + 1) xs there x m, ap place q))
  one_place low (z ∷ xs) (here, there) x y (mathlib.Core.List.Memᴰ.tail m) (mathlib.Core.List.Memᴰ.tail n) same = one_place (place z + 1) xs there x y m n same

abbrev place_of : Fated → ℕ
place_of x = x.box.at

-- boxes that fill a container
module _ (c : Container) (s : List ℕ) (end : ℕ) where
  filled_ascending : {at : ℕ} (xs : List Fated) → Filled c s end at (map (λ x. x.box) xs) → Ascending place_of at xs
  filled_ascending [] all = tt
  filled_ascending {at} (x ∷ xs) (next short read rest) =
      let i = header_inside c s at end read in
      (omega arith, from_lower place_of x.box.end (x.box.at + 1) xs (omega arith) (filled_ascending xs rest))

  filled_before : {at : ℕ} (xs : List Fated) → Filled c s end at (map (λ x. x.box) xs) → (x : Fated) → Memᴰ x xs → x.box.at < end
  filled_before [] all x m = elim m [ ]
  filled_before {at} (z ∷ xs) (next short read rest) x (mathlib.Core.List.Memᴰ.head same) =
      let i = header_inside c s at end read in
      omega (arith, ap place_of same)
  filled_before (z ∷ xs) (next short read rest) x (mathlib.Core.List.Memᴰ.tail m) = filled_before xs rest x m

  -- the dropped ones, and what comes behind them
  dropped_ascending : {at : ℕ} (xs : List Fated) (ys : List Fault) → at ≤ end → Filled c s end at (map (λ x. x.box) xs) → Ascending (λ y. y.at) end ys
      → Ascending (λ y. y.at) at (dropped_of xs ++ ys)
  dropped_ascending {at} [] ys low all behind = from_lower (λ y. y.at) end at ys low behind
  dropped_ascending {at} (x ∷ xs) ys low (next short read rest) behind =
      let i = header_inside c s at end read in
      let others = dropped_ascending xs ys i.ends rest behind in
      by_first (λ l. Ascending (λ y. y.at) at (l ++ ys)) x xs
      (λ n _. (omega arith, from_lower (λ y. y.at) x.box.end (x.box.at + 1) (dropped_of xs ++ ys) (omega arith) others))
      (λ _. from_lower (λ y. y.at) x.box.end at (dropped_of xs ++ ys) (omega arith) others)

-- ---- an opened file

module _ (limit : ℕ) (f : List ℕ) (h : Heading) (opens : opening f ≡ given h) where
  -- its boxes, and what becomes of each
  abbrev pub fated : List Fated
  fated = fates limit (framed f) h

  -- what is named: the dropped ones, and the framing error behind them
  abbrev pub named : List Fault
  named = dropped_of fated ++ fault_of (walk_of f).fault

  -- what the program prints
  pub text_named : (most : ℕ) → length f ≤ most → salvage_text limit most f ≡ each fault_line named
  unfolding salvage_text
  text_named most small = rw (salvage_text, le-leb (length f) most small, opens) (lines_each fated (walk_of f).fault)

  -- its boxes are all of it before the framing error
  all_filled : Filled File (framed f) (length (framed f)) 0 (map (λ x. x.box) fated)
  unfolding fates box_at
  all_filled =
      let o = opened f h opens in
      let bs : List Box = h.boxes in
      rw (fates_boxes limit (framed f) h [] (drop 2 bs), ← drop-cons bs 1 no_box (omega arith), ← drop-cons bs 0 no_box (omega arith), o.boxes)
      (boxes_filled File (framed f) 0 (length (framed f)) (framed_boxes f))

  -- the framing error stands where the whole boxes end
  fault_behind : (x : Fault) → (walk_of f).fault ≡ Some x → length (framed f) ≡ x.at
  unfolding walk_of framed
  fault_behind x e =
      let short = (fault_stands File f 0 (length f) x e).short in
      rw (framed, e) (length-take-le x.at f (omega arith))

  fault_ascending : Ascending (λ y. y.at) (length (framed f)) (fault_of (walk_of f).fault)
  fault_ascending = go (walk_of f).fault refl
    where
      go : (x : Option Fault) → (walk_of f).fault ≡ x → Ascending (λ (y : Fault). y.at) (length (framed f)) (fault_of x)
      go None e = tt
      go (Some x) e = (omega (arith, fault_behind x e), tt)

  -- in file order, each once
  pub ascending : Ascending (λ y. y.at) 0 named
  ascending = dropped_ascending File (framed f) (length (framed f)) fated (fault_of (walk_of f).fault) (omega arith) all_filled fault_ascending

  -- boxes of different fates have different places
  pub fates_apart : (x y : Fated) → Memᴰ x fated → Memᴰ y fated → x.box.at ≡ y.box.at → x ≡ y
  fates_apart = one_place place_of 0 fated (filled_ascending File (framed f) (length (framed f)) fated all_filled)

  -- a box whose place is named is dropped with that number
  pub named_only : (x : Fated) → Memᴰ x fated → (y : Fault) → Memᴰ y named → x.box.at ≡ y.at → x.fate ≡ dropped y.number
  named_only x there y told same =
      ⊎_elim
      (λ gone. let d = named_dropped fated y gone in rw (fates_apart x d.one there d.there (same ∙ sym d.place)) d.fate)
      (λ fault.
      let before = filled_before File (framed f) (length (framed f)) fated all_filled x there in
      absurd (omega (arith, none_lower (λ (y : Fault). y.at) (length (framed f)) (fault_of (walk_of f).fault) fault_ascending y fault)))
      (mathlib.Core.List.Memᴰ.append_cases (dropped_of fated) told)
