-- Laws of the lengths of what append adds: the entries and the body of a `ploc`, the body of a `pseg`; and where they
-- are cut.
use Prim.Native.Nat.{ℕ, ◌+◌, ◌*◌, ◌≤◌, min}
use mathlib.Core.Bool.{Bool, true, false}
use mathlib.Core.List.{List, [], ◌∷◌, ◌++◌}
use mathlib.Core.Logic.{inl, inr}
use mathlib.Core.Path.{◌≡◌, refl, ap, ◌∙◌}
use native.Mathlib.Nat.{zero-add}
use native.Mathlib.Omega.{arith}
use borrow.Author.Tests.{leb-true, leb-false}
use lib.Dec.{leb}
use lib.ListN.{length, length-append}
use Rattle.numerals.proofs.NumberLaws.{length-bytes_of}
use Rattle.numerals.specs.Numbers.{bytes_of, twos_complement}
use Rattle.boxes.proofs.BoxedLaws.{front-size, length-boxed}
use Rattle.partial.specs.Sequences.{sum}
use Rattle.partial.specs.Segments.{present}
use Rattle.partial.specs.Limits.{file_limit}
use Rattle.partial.specs.Reading.{offset_width_of}
use Rattle.additions.specs.Addition.{Addition, Item, items, size_of, goes_out, surls}
use Rattle.additions.specs.Append.{Placed, placed_with, placed, flag_byte, entry_bytes, length_size_of, offset_size_of, ploc_body, version_for, surl_boxes, pseg_body}
use Rattle.partial.proofs.Meaning.SequenceLaws.{which}
use Rattle.additions.proofs.FieldsBackLaws.{length-pshd}
use Rattle.additions.proofs.PlacedLaws.{length-placed}
use Rattle.adding.specs.Counts.{present_of, Whole}
use Rattle.adding.specs.declared.counts.Counts.{Counts}
use Rattle.adding.proofs.CountLaws.{present_most, counted_items, counted_present}

-- of no item, and with one more
present_none : present_of [] ≡ 0
unfolding present_of sum
present_none = refl

module _ (i : Item) (is : List Item) where
  present_there : present i.state ≡ true → present_of (i ∷ is) ≡ 1 + present_of is
  unfolding present_of sum
  present_there e = rw e

  present-lost : present i.state ≡ false → present_of (i ∷ is) ≡ present_of is
  unfolding present_of sum
  present-lost e = rw e (zero-add _)

-- one entry of a `ploc`
entry_parts : (flag : ℕ) (s t more : List ℕ) → length (flag ∷ (s ++ (t ++ more))) ≡ 1 + length s + length t + length more
entry_parts flag s t more = simp (length-append) (omega arith)

module _ (l o : ℕ) (p : Placed) (ps : List Placed) where
  abbrev entry_with : Bool → List ℕ
  entry_with there =
      flag_byte p.state
      ∷ (bytes_of l p.size ++ (elim there [ true ↦ bytes_of o (twos_complement o p.offset) | false ↦ [] ] ++ entry_bytes l o ps))

  entry_there : present p.state ≡ true → length (entry_bytes l o (p ∷ ps)) ≡ 1 + l + o + length (entry_bytes l o ps)
  unfolding entry_bytes
  entry_there e =
      ap (λ (there : Bool). length (entry_with there)) e
      ∙ entry_parts (flag_byte p.state) (bytes_of l p.size) (bytes_of o (twos_complement o p.offset)) (entry_bytes l o ps)
      ∙ omega (arith, length-bytes_of l p.size, length-bytes_of o (twos_complement o p.offset))

  entry-lost : present p.state ≡ false → length (entry_bytes l o (p ∷ ps)) ≡ 1 + l + length (entry_bytes l o ps)
  unfolding entry_bytes
  entry-lost e =
      ap (λ (there : Bool). length (entry_with there)) e
      ∙ entry_parts (flag_byte p.state) (bytes_of l p.size) [] (entry_bytes l o ps)
      ∙ omega (arith, length-bytes_of l p.size)

-- the entries: a flag byte and a size for each item, an offset for each that is present
entries_with : (l o : ℕ) (outside : Bool) (out : ℕ) (is : List Item) → length (entry_bytes l o (placed_with outside out is)) ≡ length is * (1 + l) + present_of is * o
unfolding entry_bytes placed_with
entries_with l o outside out [] = rw present_none (omega arith)
entries_with l o outside out (i ∷ is) =
    let rest = entries_with l o outside out is in
    elim (which (present i.state)) [
      | inl e ↦ rw (present_there i is e) (entry_there l o _ (placed_with outside out is) e ∙ omega (arith, rest))
      | inr e ↦ rw (present-lost i is e) (entry-lost l o _ (placed_with outside out is) e ∙ omega (arith, rest))
    ]

pub entries_long : (l o : ℕ) (outside : Bool) (is : List Item) → length (entry_bytes l o (placed outside is)) ≡ length is * (1 + l) + present_of is * o
unfolding placed
entries_long l o outside is = entries_with l o outside (size_of (goes_out outside) is) is

-- the body of a `ploc`
pub ploc_long : (outside : Bool) (is : List Item)
    → length (ploc_body (placed outside is)) ≡ 9 + (length is * (1 + length_size_of (placed outside is)) + present_of is * offset_size_of (placed outside is))
unfolding ploc_body
ploc_long outside is = simp (length-append, length-bytes_of, entries_long, length-placed) (omega arith)

-- where the items are cut, so is the whole: each has a byte
pub ploc-cut : (n p l o : ℕ) → p ≤ n
    → min (9 + min n (file_limit + 1) * (1 + l) + min p (file_limit + 1) * o) (file_limit + 1) ≡ min (9 + (n * (1 + l) + p * o)) (file_limit + 1)
ploc-cut n p l o few =
    elim (which (leb n (file_limit + 1))) [
      | inl e ↦
          let low = leb-true n (file_limit + 1) e in
          let all : min n (file_limit + 1) ≡ n = omega arith in
          let those : min p (file_limit + 1) ≡ p = omega arith in
          rw (all, those) (omega arith)
      | inr e ↦
          let high = leb-false n (file_limit + 1) e in
          let all : min n (file_limit + 1) ≡ file_limit + 1 = omega arith in
          rw all (omega arith)
    ]

-- the body of a `pseg`
pub pseg_long : (a : Addition) → length (pseg_body a)
    ≡ 28 + offset_width_of (version_for a.source_offset) + length (ploc_body (placed a.outside (items a.list))) + length (surl_boxes (surls a))
unfolding pseg_body
pseg_long a = simp (length-append, length-boxed, front-size, length-pshd) (omega arith)

-- the body of a `ploc`, by the counts cut and the widths
pub ploc_counted : (outside : Bool) (is : List Item) (c : Counts) → Whole is c → (n p l o : ℕ) → n ≡ min c.items (file_limit + 1)
    → p ≡ min c.present (file_limit + 1)
    → l ≡ length_size_of (placed outside is)
    → o ≡ offset_size_of (placed outside is)
    → min (9 + n * (1 + l) + p * o) (file_limit + 1) ≡ min (length (ploc_body (placed outside is))) (file_limit + 1)
ploc_counted outside is c whole n p l o n-is p-is l-is o_is =
    rw (n-is, p-is, l-is, o_is, counted_items is whole.counts, counted_present is whole.counts, ploc_long outside is)
    (ploc-cut (length is) (present_of is) (length_size_of (placed outside is)) (offset_size_of (placed outside is)) (present_most is))

-- the `surl` boxes, by their counts cut
pub surls-cut : (n m : ℕ) → min (min n (file_limit + 1) * 14 + min m (file_limit + 1)) (file_limit + 1) ≡ min (14 * n + m) (file_limit + 1)
surls-cut n m = omega arith
