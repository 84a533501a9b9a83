-- Laws of items with their offsets: which they are, how far back their data lies, and that their entries tell of them.
use Prim.Native.Nat.{ℕ, suc, ◌+◌, ◌-◌, ◌%◌, ◌^◌, ◌≤◌, ◌<◌}
use mathlib.Core.Bool.{Bool, true, false, not, ◌&&◌, and-false, true≢false}
use mathlib.Core.List.{List, [], ◌∷◌, map}
use mathlib.Core.Logic.{inl, inr}
use Rattle.std.specs.Prelude.{Option, Some, unwrap_or}
use mathlib.Core.Path.{◌≡◌, refl, sym, ap, ap₂, ◌∙◌}
use native.Mathlib.Decide.{dec_le}
use native.Mathlib.Nat.{add-zero}
use native.Mathlib.Omega.{arith}
use borrow.Author.Tests.{le-leb, lt-ltb, eqb-false, not-true}
use lib.Dec.{ltb, eqb}
use lib.ListN.{length}
use Rattle.numerals.specs.Numbers.{holds_offset}
use Rattle.numerals.specs.declared.numbers.Offset.TheVariants.{Ahead, Back}
use Rattle.numerals.proofs.NumberLaws.{power_pos}
use Rattle.numerals.proofs.WidthLaws.{within-back, back-within, below_ahead}
use Rattle.partial.specs.Sequences.{all_of, sum}
use Rattle.additions.specs.Addition.{is_state}
use Rattle.partial.specs.Segments.{present, has_place}
use Rattle.partial.specs.Heading.{Heading}
use Rattle.partial.specs.Entries.{in_data, may_lie, offset_place}
use Rattle.additions.specs.Addition.{Item, items, list_right, size_of, data_size, goes_out, goes_in}
use Rattle.additions.specs.Append.{back, placed_with, placed}
use Rattle.partial.proofs.Meaning.SequenceLaws.{which, both, Each}
use Rattle.additions.proofs.DataLaws.{outside, inside, nowhere, goes, out_present, in-present, size_on, size_past, size_less}
use Rattle.additions.proofs.DataLaws.{sizes_split, none_outside}
use Rattle.additions.proofs.EntriesBackLaws.{Tells}

-- what holds of the items of a list that append takes
abbrev pub formed : Item → Bool
formed i = not (eqb i.size 0) && is_state i.state

pub formed_some : (i : Item) → formed i ≡ true → (0 < i.size) × (is_state i.state ≡ true)
formed_some i h =
    let (some_size, known) = both (not (eqb i.size 0)) (is_state i.state) h in
    let not-zero = eqb-false i.size 0 (not-true (eqb i.size 0) some_size) in
    (omega arith, known)

pub list_formed : (list : List ℕ) → list_right list ≡ true → all_of formed (items list) ≡ true
unfolding list_right
list_formed list right = (both (eqb (length list % 2) 0) (all_of formed (items list)) right).1

-- as many, of the same sizes
module _ (o : Bool) where
  length_with : (out : ℕ) (is : List Item) → length (placed_with o out is) ≡ length is
  unfolding placed_with
  length_with out [] = refl
  length_with out (i ∷ is) = ap suc (length_with out is)

  sizes_with : (out : ℕ) (is : List Item) → map (λ p. p.size) (placed_with o out is) ≡ map (λ i. i.size) is
  unfolding placed_with
  sizes_with out [] = refl
  sizes_with out (i ∷ is) = ap (λ (ns : List ℕ). i.size ∷ ns) (sizes_with out is)

  pub length-placed : (is : List Item) → length (placed o is) ≡ length is
  unfolding placed
  length-placed is = length_with (size_of (goes_out o) is) is

  pub sizes_placed : (is : List Item) → map (λ p. p.size) (placed o is) ≡ map (λ i. i.size) is
  unfolding placed
  sizes_placed is = sizes_with (size_of (goes_out o) is) is

-- ---- how far back the data of an item lies

module _ (o : Bool) (out : ℕ) (i : Item) (is : List Item) where
  pub back_out : goes_out o i ≡ true → back o out i is ≡ size_of (goes_out o) (i ∷ is)
  unfolding back
  back_out e = ap (λ (t : Bool). elim t as (λ _. ℕ) [ true ↦ size_of (goes_out o) (i ∷ is) | false ↦ size_of (goes_in o) (i ∷ is) + out ]) e

  pub back_in : goes_in o i ≡ true → back o out i is ≡ size_of (goes_in o) (i ∷ is) + out
  unfolding back
  back_in e =
      elim (goes o i) [
        | outside outer into there ↦ absurd (true≢false (sym e ∙ into))
        | inside outer into there ↦ rw (back, outer)
        | nowhere outer into there ↦ absurd (true≢false (sym e ∙ into))
      ]

  pub back_most : (n : ℕ) → size_of (goes_in o) (i ∷ is) + out ≤ n → size_of (goes_out o) (i ∷ is) ≤ n → back o out i is ≤ n
  unfolding back
  back_most n ins outs =
      elim (which (goes_out o i)) [
        | inl e ↦ rw (back, e) outs
        | inr e ↦ rw (back, e) ins
      ]

-- with none outside, as far as there are bytes from it on
back_plain : (out : ℕ) (i : Item) (is : List Item) → back false out i is ≡ size_of (goes_in false) (i ∷ is) + out
unfolding back goes_out
back_plain out i is = refl

pub plain_placed : (i : Item) (is : List Item)
    → placed false (i ∷ is)
    ≡ record { size = i.size; state = i.state; offset = elim (present i.state) [ true ↦ Back (data_size (i ∷ is)) | false ↦ Ahead 0 ] } ∷ placed false is
unfolding placed placed_with
plain_placed i is =
    let far = back_plain (size_of (goes_out false) (i ∷ is)) i is ∙ sym (sizes_split false (i ∷ is)) in
    ap₂ (λ (n m : ℕ).
    record { size = i.size; state = i.state; offset = elim (present i.state) [ true ↦ Back n | false ↦ Ahead 0 ] } ∷ placed_with false m is)
    far (none_outside (i ∷ is) ∙ sym (none_outside is))

-- where the data of a present item starts that lies so far back
module _ (at : ℕ) (i : Item) (n : ℕ) (there : present i.state ≡ true) (low : n ≤ at) where
  offset_present : offset_place at (elim (present i.state) [ true ↦ Back n | false ↦ Ahead 0 ]) ≡ Some (at - n)
  unfolding offset_place
  offset_present = rw there (rw (offset_place, le-leb n at low))

  pub place_present : 0 < i.size
      → (elim (has_place i.state i.size) [
        | true ↦ unwrap_or (offset_place at (elim (present i.state) [ true ↦ Back n | false ↦ Ahead 0 ])) 0
        | false ↦ 0
      ]) ≡ at - n
  unfolding has_place
  place_present some_size =
      let stored : has_place i.state i.size ≡ true = rw (has_place, there, lt-ltb 0 i.size some_size) in
      rw stored (ap (λ (to : Option ℕ). unwrap_or to 0) offset_present)

-- ---- which widths hold the offsets

module _ (w : ℕ) (o : Bool) where
  -- one that holds some distance, where none lies farther back
  offsets-within : (n : ℕ) → holds_offset w (Back n) ≡ true → (out : ℕ) (is : List Item) → size_of (goes_in o) is + out ≤ n → size_of (goes_out o) is ≤ n
      → all_of (λ p. holds_offset w p.offset) (placed_with o out is) ≡ true
  unfolding all_of placed_with
  offsets-within n wide out [] ins outs = refl
  offsets-within n wide out (i ∷ is) ins outs =
      let rest = offsets-within n wide out is (omega (arith, size_less (goes_in o) i is)) (omega (arith, size_less (goes_out o) i is)) in
      let most = back_most o out i is n ins outs in
      elim (which (present i.state)) [
        | inl e ↦ rw (placed_with, e, all_of, within-back w (back o out i is) (omega (arith, back-within w n wide))) rest
        | inr e ↦ rw (placed_with, e, all_of, below_ahead w 0 (power_pos w)) rest
      ]

  -- none that does not hold the distance of the first item that passes a test
  module _ (test : Item → Bool) (out behind : ℕ) (only : (i : Item) → test i ≡ true → present i.state ≡ true)
      (lies : (i : Item) (is : List Item) → test i ≡ true → back o out i is ≡ size_of test (i ∷ is) + behind) where
    offsets_over : (is : List Item) → 0 < size_of test is → holds_offset w (Back (size_of test is + behind)) ≡ false
        → all_of (λ p. holds_offset w p.offset) (placed_with o out is) ≡ false
    unfolding all_of placed_with sum
    offsets_over [] some_size over = absurd (omega arith)
    offsets_over (i ∷ is) some_size over =
        elim (which (test i)) [
          | inl e ↦ rw (placed_with, only i e, all_of, lies i is e, over)
          | inr e ↦
              let same = size_past test i is e in
              rw (placed_with, all_of, offsets_over is (omega arith) (rw same at over), and-false)
        ]

  far_some : (n : ℕ) → holds_offset w (Back n) ≡ false → 0 < n
  far_some n over =
      elim (dec_le n 0) [
        | yes None ↦ absurd (true≢false (sym (within-back w n (omega arith)) ∙ over))
        | no more ↦ omega arith
      ]

  -- so w bytes hold every offset where they hold that of all data
  pub offsets-hold : (is : List Item) → all_of (λ p. holds_offset w p.offset) (placed o is) ≡ holds_offset w (Back (data_size is))
  unfolding placed
  offsets-hold is =
      let out : ℕ = size_of (goes_out o) is in
      let all = sizes_split o is in
      elim (which (holds_offset w (Back (data_size is)))) [
        | inl e ↦ rw e (offsets-within (data_size is) e out is (omega arith) (omega arith))
        | inr e ↦
            rw e (elim (dec_le (size_of (goes_in o) is) 0) [
              | yes None ↦
                  let same : data_size is ≡ out + 0 = omega arith in
                  offsets_over (goes_out o) out 0 (out_present o) (λ i is e. back_out o out i is e ∙ sym (add-zero _)) is (omega (arith, far_some (data_size is) e)) (rw same at e)
              | no more ↦ offsets_over (goes_in o) out out (in-present o) (back_in o out) is (omega arith) (rw all at e)
            ])
      ]

-- eight bytes hold every offset of a file's data
pub offsets_eight : (o : Bool) (is : List Item) → data_size is < 2 ^ 63 → all_of (λ p. holds_offset 8 p.offset) (placed o is) ≡ true
offsets_eight o is h = offsets-hold 8 o is ∙ within-back 8 (data_size is) (omega arith)

-- ---- where the data may lie, the entries tell of the items

-- each item that goes outside may lie where it is placed, whole
abbrev pub OutLie : Heading → ℕ → Bool → List Item → Type 0
OutLie h at o [] = Unit {0}
OutLie h at o (i ∷ is) =
    (goes_out o i ≡ true → may_lie h i.state (at - size_of (goes_out o) (i ∷ is)) i.size ≡ true) × OutLie h at o is

module _ (h : Heading) where
  -- what lies in a `pdat` may lie there
  lie_inside : (state place size : ℕ) → in_data h.boxes place size ≡ true → may_lie h state place size ≡ true
  unfolding may_lie
  lie_inside state place size e = rw (may_lie, e)

module _ (h : Heading) (at : ℕ) where
  item_tells : (i : Item) (n : ℕ) → formed i ≡ true → n ≤ at → (present i.state ≡ true → 0 < n)
      → (present i.state ≡ true → may_lie h i.state (at - n) i.size ≡ true)
      → Tells h at (record { size = i.size; state = i.state; offset = elim (present i.state) [ true ↦ Back n | false ↦ Ahead 0 ] })
  unfolding has_place
  item_tells i n right low far lie =
      let (some_size, known) = formed_some i right in
      elim (which (present i.state)) [
        | inl e ↦
            record {
              known = known;
              not_none = rw e (λ None. let zero_left : n ≡ 0 = cc in omega (arith, far e));
              absent = λ f. absurd (true≢false (sym e ∙ f));
              lies = λ _. (at - n, offset_present at i n e low, lie e);
            }
        | inr e ↦
            record {
              known = known;
              not_none = rw e (λ back. let z : ◌≡◌ {A = ℕ} 0 1 = cc in omega arith);
              absent = λ _. rw e;
              lies = λ stored. absurd (true≢false (sym (both (present i.state) (ltb 0 i.size) stored).0 ∙ e));
            }
      ]

  pub placed_tell : (o : Bool) (out : ℕ) (is : List Item) → all_of formed is ≡ true → size_of (goes_in o) is + out ≤ at → size_of (goes_out o) is ≤ at
      → ((state place size : ℕ) → 0 < size → at ≤ place + (size_of (goes_in o) is + out) → place + size + out ≤ at → in_data h.boxes place size ≡ true)
      → OutLie h at o is
      → Each (Tells h at) (placed_with o out is)
  unfolding all_of placed_with
  placed_tell o out [] right ins outs lie outer = tt
  placed_tell o out (i ∷ is) right ins outs lie outer =
      let (first, others) = both (formed i) (all_of formed is) right in
      let (some_size, known) = formed_some i first in
      let n = back o out i is in
      let place_in : ℕ = at - (size_of (goes_in o) (i ∷ is) + out) in
      let less-in = size_less (goes_in o) i is in
      let less-out = size_less (goes_out o) i is in (
        elim (goes o i) [
          | outside e into there ↦
              let far = back_out o out i is e in
              item_tells i n first (omega arith) (λ _. omega (arith, size_on (goes_out o) i is e)) (λ _. rw far (outer.0 e))
          | inside e into there ↦
              let far = back_in o out i is into in
              let more = size_on (goes_in o) i is into in
              item_tells i n first (omega arith) (λ _. omega arith)
              (λ _. rw far (lie_inside h i.state place_in i.size (lie i.state place_in i.size some_size (omega arith) (omega arith))))
          | nowhere e into there ↦
              item_tells i n first (back_most o out i is at ins outs) (λ t. absurd (true≢false (sym t ∙ there))) (λ t. absurd (true≢false (sym t ∙ there)))
        ],
        placed_tell o out is others (omega arith) (omega arith) (λ state place size Some from to. lie state place size Some (omega arith) to) outer.1,
      )
