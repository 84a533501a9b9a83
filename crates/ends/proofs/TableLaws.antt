-- Laws of the table of what the ends of segments say: an entry that is put is read back, the others stay, and zeros are
-- the entries of no segment; what a table holds of each source with one segment more, and 25 by it.
use Prim.Native.Nat.{ℕ, ◌+◌, ◌*◌, ◌/◌, ◌%◌, ◌≤◌, ◌<◌}
use mathlib.Core.Bool.{Bool, true, false, not, false≢true}
use mathlib.Core.List.{List, [], ◌∷◌, ◌++◌, append-nil}
use mathlib.Core.Logic.{inl, inr}
use mathlib.Core.Path.{◌≡◌, refl, sym, ap, subst, ◌∙◌}
use mir.Val.{bool_byte}
use native.Mathlib.Decide.{dec_le, ℕ_discrete}
use native.Mathlib.Nat.{add-zero, mod-eq_of_lt}
use native.Mathlib.Omega.{arith}
use borrow.Author.Tests.{le-ltb, lt-ltb, eq-eqb, ne_eqb}
use lib.Dec.{eqb, ltb}
use lib.ListN.{length, get_or, set, replicate, length-set, length-replicate, get_or-replicate}
use lib.Seq.{get_or-set_same, get_or-set_other}
use Rattle.std.proofs.lemmas.List.{get_or_past}
use Rattle.std.specs.Bool.{then_some}
use Rattle.std.specs.Prelude.{Option, None, Some, option_map}
use Rattle.partial.specs.declared.position.Position.{Position}
use Rattle.partial.specs.Meaning.{agree}
use Rattle.partial.specs.Limits.{source_limit}
use Rattle.partial.specs.Segments.{Segment, end_of}
use Rattle.partial.specs.Sources.{source_count, of_source, agreed}
use Rattle.partial.proofs.Meaning.SequenceLaws.{which, all_members}
use Rattle.partial.proofs.Meaning.SourceLaws.{of-append, agreed-of, source_low}
use Rattle.ends.specs.declared.sizes.Sizes.{Sizes}
use Rattle.ends.specs.Sizes.{sizes_of}
use Rattle.ends.specs.Table.{entry_length, sources, all_sizes, flag, entry_in, kept_sizes, size_number, sizes_in, SizesPut, Cleared, Holds}
use Rattle.ends.proofs.SizeLaws.{size_or_0, sizes_none, sizes_within}

module _ (t : List ℕ) (source : ℕ) where
  pub sizes_past : sources ≤ source → sizes_in t source ≡ sizes_of []
  unfolding sizes_in
  sizes_past past = rw (le-ltb source sources past, sizes_in)

  pub sizes_there : source < sources → sizes_in t source ≡ entry_in t (entry_length * source)
  unfolding sizes_in
  sizes_there there = rw (lt-ltb source sources there, sizes_in)

-- by the two numbers of an entry
entry_by : (t : List ℕ) (at : ℕ) {a b : ℕ} → get_or t at 0 ≡ a → get_or t (at + 1) 0 ≡ b
    → entry_in t at ≡ record { size = then_some (not (eqb (a / flag) 0)) (record { 0 = a % flag }); largest = record { 0 = b % flag }; same = eqb (b / flag) 0 }
entry_by t at first second =
    λ i. record { size = then_some (not (eqb (first i / flag) 0)) (record { 0 = first i % flag }); largest = record { 0 = second i % flag }; same = eqb (second i / flag) 0 }

-- positions of an entry are below the flag
sizes_low : (t : List ℕ) (source : ℕ) → (size_or_0 (sizes_in t source) < flag) × ((sizes_in t source).largest.0 < flag)
sizes_low t source =
    elim (dec_le sources source) [
      | yes past ↦ rw (sizes_past t source past, ← sizes_none) (omega arith, omega arith)
      | no there ↦ rw (sizes_there t source (omega arith)) (size_low (not (eqb (get_or t (entry_length * source) 0 / flag) 0)), omega arith)
    ]
  where
    size_low : (known : Bool) → size_or_0 (record { size = then_some known (record { 0 = get_or t (entry_length * source) 0 % flag }); largest = record { 0 = 0 }; same = true }) < flag
    size_low true = omega arith
    size_low false = omega arith

-- two tables have the same entry of a source where its numbers are the same
entry_same : (t t' : List ℕ) (source : ℕ) → ((j : ℕ) → j < entry_length → get_or t (entry_length * source + j) 0 ≡ get_or t' (entry_length * source + j) 0) → sizes_in t source ≡ sizes_in t' source
unfolding sizes_in
entry_same t t' source same = go (ltb source sources)
  where
    first : get_or t (entry_length * source) 0 ≡ get_or t' (entry_length * source) 0
    first = rw add-zero at (same 0 (omega arith))

    go : (b : Bool) → ◌≡◌ {A = Sizes} (elim b [ true ↦ entry_in t (entry_length * source) | false ↦ sizes_of [] ]) (elim b [ true ↦ entry_in t' (entry_length * source) | false ↦ sizes_of [] ])
    go true = entry_by t (entry_length * source) first (same 1 (omega arith))
    go false = refl

-- each number of a table of zeros
zero_at : (i : ℕ) → ◌≡◌ {A = ℕ} (get_or (replicate all_sizes 0) i 0) 0
zero_at i =
    elim (dec_le all_sizes i) [
      | yes past ↦ get_or_past (replicate all_sizes 0) i 0 (omega (arith, length-replicate {A = ℕ} all_sizes 0))
      | no there ↦ get_or-replicate all_sizes i 0 0 (omega arith)
    ]

-- a table of zeros
pub zeros_cleared : Cleared (replicate all_sizes 0)
zeros_cleared =
    record {
      long = length-replicate {A = ℕ} all_sizes 0;
      none = λ source.
          elim (dec_le sources source) [
            | yes past ↦ sizes_past (replicate all_sizes 0) source past
            | no there ↦
                sizes_there (replicate all_sizes 0) source (omega arith)
                ∙ entry_by (replicate all_sizes 0) (entry_length * source) (zero_at (entry_length * source)) (zero_at (entry_length * source + 1))
                ∙ sizes_none
          ];
      zeros = zero_at;
    }

-- the second number of an entry: a position, and a flag kept as 1 or 0
abbrev flagged : ℕ → Bool → ℕ
flagged position b = position % flag + flag * bool_byte b

-- read back
size_back : (size : Option Position) → then_some {T = Position} (not (eqb (size_number size / flag) 0)) (record { 0 = size_number size % flag }) ≡ option_map (λ p. record { 0 = p.0 % flag }) size
size_back None = refl
size_back (Some p) =
    let over : size_number (Some p) / flag ≡ 1 = omega arith in
    let back : size_number (Some p) % flag ≡ p.0 % flag = omega arith in
    rw (over, back)

position_back : (position : ℕ) (b : Bool) → flagged position b % flag ≡ position % flag
position_back position b = omega arith

flag-back : (position : ℕ) (b : Bool) → flagged position b / flag ≡ bool_byte b
flag-back position b = omega arith

flag_same : (b : Bool) → eqb (bool_byte (not b)) 0 ≡ b
flag_same true = refl
flag_same false = refl

-- positions of a source are kept
kept_same : (x : Sizes) → size_or_0 x < flag → x.largest.0 < flag → kept_sizes x ≡ x
kept_same x size largest =
    let largest-same = mod-eq_of_lt largest in
    λ i. record { size = size_same x.size size i; largest = record { 0 = largest-same i }; same = x.same }
  where
    size_same : (p : Option Position) → size_or_0 (record { size = p; largest = x.largest; same = x.same }) < flag → option_map (λ p. record { 0 = p.0 % flag }) p ≡ p
    size_same None low = refl
    size_same (Some p) low = rw (mod-eq_of_lt low)

-- a table after two numbers were put from one on
module _ (t : List ℕ) (at a b : ℕ) where
  abbrev one : List ℕ
  one = set t at a

  abbrev two : List ℕ
  two = set one (at + 1) b

  module _ (room : at + 2 ≤ length t) where
    at_first : get_or two at 0 ≡ a
    at_first = get_or-set_other one (at + 1) at b 0 (λ e. omega arith) ∙ get_or-set_same t at a 0 (omega arith)

    at_second : get_or two (at + 1) 0 ≡ b
    at_second = get_or-set_same one (at + 1) b 0 (simp length-set (omega arith))

  at_other : (i : ℕ) → (at ≤ i → at + 2 ≤ i) → get_or two i 0 ≡ get_or t i 0
  at_other i outside = get_or-set_other one (at + 1) i b 0 (λ e. omega (arith, outside (omega arith))) ∙ get_or-set_other t at i a 0 (λ e. omega (arith, outside (omega arith)))

-- the two numbers of an entry are put
pub put-entry : (t : List ℕ) (source : ℕ) (x : Sizes) {n : ℕ} → source < sources → n ≡ size_number x.size
    → SizesPut t source x (two t (entry_length * source) n (flagged x.largest.0 (not x.same)))
put-entry t source x {n = size} there number =
    let at = entry_length * source in
    let largest = flagged x.largest.0 (not x.same) in
    let put = two t at size largest in
    let size_same : then_some {T = Position} (not (eqb (size / flag) 0)) (record { 0 = size % flag }) ≡ option_map (λ p. record { 0 = p.0 % flag }) x.size = rw number (size_back x.size) in
    let same : eqb (largest / flag) 0 ≡ x.same = ap (λ (n : ℕ). eqb n 0) (flag-back x.largest.0 (not x.same)) ∙ flag_same x.same in
    record {
      long = simp length-set;
      here = λ _ long.
          let room : at + 2 ≤ length t = omega arith in
          sizes_there put source there
          ∙ entry_by put at (at_first t at size largest room) (at_second t at size largest room)
          ∙ (λ i. record { size = size_same i; largest = record { 0 = position_back x.largest.0 (not x.same) i }; same = same i });
      others = λ k other. entry_same put t k (λ j less. at_other t at size largest (entry_length * k + j) (λ above. omega arith));
      first = λ _ long. at_first t at size largest (omega arith) ∙ number;
      ahead = λ i low. at_other t at size largest i (λ above. omega arith);
      behind = λ i high. at_other t at size largest i (λ above. omega arith);
    }

-- two tables after the same was put have the same entries
pub put_one : {t t' t'' : List ℕ} {source : ℕ} {x : Sizes} → length t ≡ all_sizes → SizesPut t source x t' → SizesPut t source x t'' → (k : ℕ) → sizes_in t' k ≡ sizes_in t'' k
put_one {t} {t'} {t''} {source} long p q k =
    elim (ℕ_discrete k source) [
      | yes same ↦
          elim (dec_le sources k) [
            | yes past ↦ sizes_past t' k past ∙ sym (sizes_past t'' k past)
            | no there ↦ rw same (p.here (omega arith) long ∙ sym (q.here (omega arith) long))
          ]
      | no other ↦ p.others k other ∙ sym (q.others k other)
    ]

-- and the same first numbers of them
pub put_one_first : {t t' t'' : List ℕ} {source : ℕ} {x : Sizes} → length t ≡ all_sizes → SizesPut t source x t' → SizesPut t source x t'' → (k : ℕ)
    → get_or t' (entry_length * k) 0 ≡ get_or t'' (entry_length * k) 0
put_one_first {t} {t'} {t''} {source} long p q k =
    elim (ℕ_discrete k source) [
      | yes same ↦
          elim (dec_le sources k) [
            | yes past ↦ get_or_past t' (entry_length * k) 0 (omega (arith, p.long)) ∙ sym (get_or_past t'' (entry_length * k) 0 (omega (arith, q.long)))
            | no there ↦ rw same (p.first (omega arith) long ∙ sym (q.first (omega arith) long))
          ]
      | no other ↦
          elim (dec_le k source) [
            | yes low ↦ p.ahead _ (omega arith) ∙ sym (q.ahead _ (omega arith))
            | no high ↦ p.behind _ (omega arith) ∙ sym (q.behind _ (omega arith))
          ]
    ]

-- of no segment
pub holds_none : {t : List ℕ} → Cleared t → Holds t []
unfolding of_source
holds_none clear = record { long = clear.long; said = clear.none }

-- the segments of a source with one more
pub of_last : (ss : List Segment) (s : Segment) → of_source s.source (ss ++ (s ∷ [])) ≡ of_source s.source ss ++ (s ∷ [])
unfolding of_source
of_last ss s = of-append s.source ss (s ∷ []) ∙ rw (eq-eqb s.source s.source refl, of_source)

pub of_other : (n : ℕ) (ss : List Segment) (s : Segment) → (s.source ≡ n → ⊥) → of_source n (ss ++ (s ∷ [])) ≡ of_source n ss
unfolding of_source
of_other n ss s other = of-append n ss (s ∷ []) ∙ rw (ne_eqb s.source n other, of_source) (append-nil (of_source n ss))

-- with one segment more, whose source has an entry and that ends within the limit
pub holds_more : {t t' : List ℕ} {ss : List Segment} (s : Segment) {x : Sizes} {source : ℕ} → source ≡ s.source → s.source < sources → end_of s ≤ source_limit → Holds t ss
    → x ≡ sizes_of (of_source s.source ss ++ (s ∷ []))
    → SizesPut t source x t'
    → Holds t' (ss ++ (s ∷ []))
holds_more {t} {t'} {ss} s {x} number there ends holds with put-source =
    let put = subst (λ (n : ℕ). SizesPut t n x t') number put-source in
    let (size, largest) = sizes_low t s.source in
    let before = holds.said s.source in
    let (size-most, largest_most) = sizes_within (of_source s.source ss) s source_limit (omega (arith, ap size_or_0 before)) (omega (arith, ap (λ (x : Sizes). x.largest.0) before)) ends in
    let same = kept_same x (omega (arith, ap size_or_0 with)) (omega (arith, ap (λ (x : Sizes). x.largest.0) with)) in
    record {
      long = put.long ∙ holds.long;
      said = λ n.
          elim (ℕ_discrete n s.source) [
            | yes same_source ↦ rw (same_source, of_last ss s) (put.here there holds.long ∙ same ∙ with)
            | no other ↦ put.others n other ∙ holds.said n ∙ ap sizes_of (sym (of_other n ss s (λ e. other (sym e))))
          ];
    }

-- 25 of all sources, by what is held of each
module _ (ss : List Segment) where
  pub all-agree : ((n : ℕ) → n < source_count ss → agree (of_source n ss) ≡ true) → true ≡ agreed ss
  unfolding agreed
  all-agree each = sym (all_members _ ss (λ s there. each s.source (source_low ss s there)))

  pub one_differs : (n : ℕ) → agree (of_source n ss) ≡ false → false ≡ agreed ss
  one_differs n differs =
      elim (which (agreed ss)) [
        | inl passed ↦ absurd (false≢true (sym differs ∙ agreed-of ss passed n))
        | inr not-passed ↦ sym not-passed
      ]
