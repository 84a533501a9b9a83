-- Laws of boxes as we write them: their header is one number of eight bytes, and they are read back as they were
-- written.
use Prim.Native.Nat.{ℕ, ◌+◌, ◌-◌, ◌*◌, ◌^◌, ◌≤◌, ◌<◌}
use mathlib.Core.Bool.{true, false}
use mathlib.Core.List.{List, [], ◌∷◌, ◌++◌, append_assoc, append-nil}
use mathlib.Core.Path.{◌≡◌, refl, sym, ◌∙◌}
use native.Mathlib.Nat.{zero-add, add-zero, add_assoc}
use native.Mathlib.Omega.{arith}
use borrow.Author.Tests.{eqb-false}
use lib.Dec.{eqb}
use lib.ListN.{length, get_or, length-append}
use Rattle.boxes.specs.Answer.{given}
use Rattle.numerals.specs.Numbers.{number, bytes_of, holds}
use Rattle.boxes.specs.Framing.{uuid, header, front_size, front, boxed, boxed_at, boxes_in}
use Rattle.boxes.specs.declared.kinds.Container.{Container}
use Rattle.boxes.proofs.ContainerLaws.{Filled, full, next, box-limit, filled_boxes, filled_moved, filled-appended}
use Rattle.boxes.proofs.HeaderLaws.{user_none, sized-fits, header_short, moved}
use Rattle.numerals.proofs.NumberLaws.{length-bytes_of, number-bytes_of, bytes_of-joined}
use Rattle.numerals.proofs.WidthLaws.{below_holds, over_holds}

-- a header as we write it is one number
pub front_bytes : (kind n : ℕ) → kind < 2 ^ 32 → bytes_of 8 ((8 + n) * 0x1_0000_0000 + kind) ≡ front kind n
unfolding front front_size
front_bytes kind n h = bytes_of-joined 4 4 (8 + n) kind h

-- 4 bytes hold the size of a box with a body up to the largest
module _ (n : ℕ) where
  pub size_held : n ≤ 0xffff_ffff - 8 → holds 4 (front_size + n) ≡ true
  unfolding front_size
  size_held h = below_holds 4 (front_size + n) (omega arith)

  pub size_unheld : 0xffff_ffff - 8 < n → holds 4 (front_size + n) ≡ false
  unfolding front_size
  size_unheld h = over_holds 4 (front_size + n) (omega arith)

-- a header as we write it has 8 bytes
pub front-size : front_size ≡ 8
unfolding front_size
front-size = refl

pub length_front : (kind n : ℕ) → length (front kind n) ≡ front_size
unfolding front front_size
length_front kind n = simp (length-append, length-bytes_of)

-- a box as we write it is its header and then its body
pub boxed_parts : (kind : ℕ) (body : List ℕ) → boxed kind body ≡ front kind (length body) ++ body
unfolding boxed
boxed_parts kind body = refl

pub length-boxed : (kind : ℕ) (body : List ℕ) → length (boxed kind body) ≡ front_size + length body
unfolding boxed
length-boxed kind body = rw (length-append, length_front)

-- a box that was written, of another type than `uuid`, is read back
module _ (p q : List ℕ) (kind : ℕ) (body : List ℕ) where
  boxed_in : List ℕ
  boxed_in = p ++ (boxed kind body ++ q)

  size_boxed : front_size + length body < 2 ^ 32 → number boxed_in (length p) 4 ≡ front_size + length body
  unfolding boxed_in boxed front
  size_boxed fits = simp append_assoc (number-bytes_of p (bytes_of 4 kind ++ (body ++ q)) 4 (front_size + length body) fits)

  kind_boxed : kind < 2 ^ 32 → number boxed_in (length p + 4) 4 ≡ kind
  unfolding boxed_in boxed front
  kind_boxed fits =
      let size : List ℕ = bytes_of 4 (front_size + length body) in
      simp append_assoc (simp (append_assoc, length-append, length-bytes_of) at (number-bytes_of (p ++ size) (body ++ q) 4 kind fits))

  pub header-boxed : (c : Container) (end : ℕ) → kind < 2 ^ 32 → eqb kind uuid ≡ false → front_size + length body < 2 ^ 32 → length p + (front_size + length body) ≤ end
      → header c (p ++ (boxed kind body ++ q)) (length p) end ≡ given (boxed_at (length p) kind (length body))
  unfolding boxed_in front_size
  header-boxed c end code known fits inside =
      let size = size_boxed fits in
      let none = user_none kind (eqb-false kind uuid known) in
      header_short c boxed_in (length p) end (omega arith) (sym size) (omega arith) (omega arith)
      ∙ sized-fits boxed_in (length p) end 8 (8 + length body) (sym (kind_boxed code)) (omega (arith, none)) (omega arith) inside

-- such a box so many bytes further on
pub moved_boxed_at : (m at kind n : ℕ) → moved m (boxed_at at kind n) ≡ boxed_at (m + at) kind n
moved_boxed_at m at kind n = simp add_assoc

-- a box that was written is the one box of its own bytes
pub boxed_alone : {c : Container} (kind : ℕ) (body : List ℕ) → kind < 2 ^ 32 → eqb kind uuid ≡ false → front_size + length body < 2 ^ 32
    → Filled c (boxed kind body) (length (boxed kind body)) 0 (boxed_at 0 kind (length body) ∷ [])
unfolding front_size
boxed_alone {c} kind body code known fits =
    let end : ℕ = front_size + length body in
    rw length-boxed (next {at = 0} (omega arith) (simp append-nil at (header-boxed [] [] kind body c end code known fits (omega arith))) (full {at = 0 + end} (omega arith)))

-- two boxes, one after the other, where they stand in a list, at a place
module _ (c : Container) (first second : ℕ) (one two : List ℕ) (code : first < 2 ^ 32) (code' : second < 2 ^ 32) (known : eqb first uuid ≡ false) (known' : eqb second uuid ≡ false) (fits : length (boxed first one ++ boxed second two) < 2 ^ 32) where
  pub boxed_stand : (g : List ℕ) (at : ℕ) → ((i : ℕ) → i < length (boxed first one ++ boxed second two) → get_or g (at + i) 0 ≡ get_or (boxed first one ++ boxed second two) i 0)
      → boxes_in c g at (at + length (boxed first one ++ boxed second two))
      ≡ given (boxed_at at first (length one) ∷ boxed_at (at + (front_size + length one)) second (length two) ∷ [])
  boxed_stand g at stands =
      let size = simp (length-append, length-boxed) at fits in
      let two-filled = filled-appended (boxed_alone first one code known (omega arith)) (boxed_alone second two code' known' (omega arith)) in
      let there = simp add-zero at (filled_moved (boxed first one ++ boxed second two) g at _ stands {c = c} two-filled) in
      filled_boxes c there (rw box-limit (omega arith))
      ∙ simp (length-boxed, zero-add, add_assoc)
