-- Laws of pieces that are put one behind the other: bytes and numbers, and box by box.
use Prim.Native.Nat.{ℕ, ◌+◌, ◌-◌, ◌^◌, ◌≤◌, ◌<◌, min}
use mathlib.Core.Bool.{Bool, true}
use mathlib.Core.List.{List, [], ◌++◌, append-nil, append_assoc}
use mathlib.Core.Path.{◌≡◌, refl, sym, ap, subst, ◌∙◌}
use native.Mathlib.Nat.{add-zero, min-eq_left}
use native.Mathlib.Omega.{arith}
use lib.ListN.{length, drop, length-append}
use lib.Seq.{drop-length}
use Rattle.boxes.specs.Framing.{front_size, front, boxed}
use Rattle.numerals.specs.Numbers.{bytes_of, twos_complement, holds, holds_offset}
use Rattle.numerals.specs.Stored.{stored}
use Rattle.numerals.specs.declared.numbers.Offset.{Offset}
use Rattle.numerals.proofs.NumberLaws.{length-bytes_of, bytes_of-joined}
use Rattle.numerals.proofs.WidthLaws.{below_holds}
use Rattle.boxes.proofs.BoxedLaws.{front-size, size_held, length-boxed, boxed_parts}
use Rattle.filling.proofs.PutsLaws.{puts_stored, puts_same, puts_more}
use Rattle.filling.proofs.RowLaws.{put_stored, put_fills, put_none}
use Rattle.texts.specs.Pieces.{PutsPiece}
use Rattle.puts.specs.Pieces.{PutsField, PutsPieces, large_front}

module _ {s t : List ℕ} {at m : ℕ} where
  stored_put : {bytes : List ℕ} → t ≡ stored s at bytes → m ≡ min (at + length bytes) (2 ^ 64 - 1) → PutsPieces s at bytes t m
  stored_put {bytes} left end =
      record { long = (put_stored s at bytes left).long; puts = λ low. puts_stored bytes left (omega arith) }

  -- one piece
  pub piece_put : {bytes : List ℕ} → PutsPiece s at bytes t m → PutsPieces s at bytes t m
  piece_put p = stored_put p.left p.end

  -- a field that holds its value
  pub field_put : {held : Bool} {bytes : List ℕ} → held ≡ true → PutsField held s at bytes t m → PutsPieces s at bytes t m
  field_put h p = stored_put (p.left ∙ rw h) p.end

  -- the same bytes
  pub pieces_same : {a b : List ℕ} → a ≡ b → PutsPieces s at a t m → PutsPieces s at b t m
  pieces_same e p = subst (λ (bytes : List ℕ). PutsPieces s at bytes t m) e p

  -- a number, and an offset, of a width up to 8 that holds it
  pub number_put : (w n : ℕ) → w ≤ 8 → holds w n ≡ true → PutsField (holds (min w 8) n) s at (bytes_of (min w 8) n) t m
      → PutsPieces s at (bytes_of w n) t m
  number_put w n low held p =
      let same : min w 8 ≡ w = min-eq_left low in
      pieces_same (ap (λ (k : ℕ). bytes_of k n) same) (field_put (ap (λ (k : ℕ). holds k n) same ∙ held) p)

  pub offset_put : (w : ℕ) (z : Offset) → w ≤ 8 → holds_offset w z ≡ true
      → PutsField (holds_offset (min w 8) z) s at (bytes_of (min w 8) (twos_complement (min w 8) z)) t m
      → PutsPieces s at (bytes_of w (twos_complement w z)) t m
  offset_put w z low held p =
      let same : min w 8 ≡ w = min-eq_left low in
      pieces_same (ap (λ (k : ℕ). bytes_of k (twos_complement k z)) same) (field_put (ap (λ (k : ℕ). holds_offset k z) same ∙ held) p)

  -- pieces that are put behind others are put with them
  pub pieces_more : {a b : List ℕ} {u : List ℕ} {n : ℕ} → PutsPieces s at a t m → PutsPieces t m b u n → PutsPieces s at (a ++ b) u n
  pieces_more {a} {b} {u} {n} p q =
      record {
        long = q.long ∙ p.long;
        puts = λ low.
            let long = length-append a b in
            let first = p.puts (omega arith) in
            puts_more first (q.puts (omega (arith, first.end)));
      }

  -- a body that is put behind its header is put as a box, whose size 32 bits hold
  pub pieces_box : (kind : ℕ) {n : ℕ} {body : List ℕ} {u : List ℕ} {k : ℕ} → length (boxed kind body) < 2 ^ 32
      → PutsField (holds 4 (front_size + n)) s at (front kind n) t m → n ≡ length body → PutsPieces t m body u k
      → PutsPieces s at (boxed kind body) u k
  pieces_box kind {n} {body} {u} {k} small p size q =
      let held = size_held n (omega (arith, length-boxed kind body, front-size)) in
      subst (λ (bytes : List ℕ). PutsPieces s at bytes u k)
      (ap (λ (n : ℕ). front kind n ++ body) size ∙ sym (boxed_parts kind body))
      (pieces_more (field_put held p) q)

  -- so is one behind its header in the large form, where 64 bits hold the size
  pub pieces_large : (kind : ℕ) {n : ℕ} {body : List ℕ} {u : List ℕ} {k : ℕ} → 16 + length body < 2 ^ 64
      → PutsField (holds 8 (16 + n)) s at (large_front kind n) t m → n ≡ length body → PutsPieces t m body u k
      → PutsPieces s at (bytes_of 4 1 ++ (bytes_of 4 kind ++ (bytes_of 8 (16 + length body) ++ body))) u k
  pieces_large kind {n} {body} {u} {k} small p size q =
      subst (λ (bytes : List ℕ). PutsPieces s at bytes u k)
      (ap (λ (n : ℕ). large_front kind n ++ body) size
      ∙ append_assoc (bytes_of 4 1) (bytes_of 4 kind ++ bytes_of 8 (16 + length body)) body
      ∙ ap (λ (rest : List ℕ). bytes_of 4 1 ++ rest) (append_assoc (bytes_of 4 kind) (bytes_of 8 (16 + length body)) body))
      (pieces_more (field_put (below_holds 8 (16 + n) (omega arith)) p) q)

-- nothing is put
pub pieces_none : (s : List ℕ) (at : ℕ) → PutsPieces s at [] s at
pieces_none s at = record { long = refl; puts = λ low. record { put = put_none s at; end = sym (add-zero at) } }

-- ---- a header in the large form

module _ (kind n : ℕ) where
  pub length-large : length (large_front kind n) ≡ 16
  length-large = simp (length-append, length-bytes_of)

  -- it is two numbers, which fill its bytes
  pub large_numbers : (s t : List ℕ) {u : List ℕ} → length s ≡ 16 → kind < 2 ^ 32 → t ≡ stored s 0 (bytes_of 8 (0x1_0000_0000 + kind)) → u ≡ stored t 8 (bytes_of 8 (16 + n))
      → u ≡ large_front kind n
  large_numbers s t {u} long code first second =
      let joined = bytes_of-joined 4 4 1 kind code in
      let typed = puts_stored {m = 8} _ first (omega (arith, length-bytes_of 8 (0x1_0000_0000 + kind))) in
      let sized = puts_stored {m = 16} _ second (omega (arith, length-bytes_of 8 (16 + n))) in
      let all = puts_same (ap (λ (a : List ℕ). a ++ bytes_of 8 (16 + n)) joined ∙ append_assoc (bytes_of 4 1) (bytes_of 4 kind) (bytes_of 8 (16 + n))) (puts_more typed sized) in
      put_fills (large_front kind n) all.put (omega (arith, length-large))
      ∙ (λ i. large_front kind n ++ drop ((length-large ∙ sym long) i) s)
      ∙ ap (λ (rest : List ℕ). large_front kind n ++ rest) (drop-length s)
      ∙ append-nil (large_front kind n)

-- ---- part by part

-- of all that is to be put some is, and these bytes are left
pub record Partly (all s : List ℕ) (at : ℕ) (t : List ℕ) (next : ℕ) (left : List ℕ) : Type 0 where
  pub done : List ℕ
  pub puts : PutsPieces s at done t next
  pub whole : done ++ left ≡ all

module _ (all s : List ℕ) (at : ℕ) where
  pub partly_start : Partly all s at s at all
  partly_start = record { done = []; puts = pieces_none s at; whole = refl }

  module _ {t : List ℕ} {next : ℕ} where
    -- the same bytes are left
    pub partly_same : {a b : List ℕ} → a ≡ b → Partly all s at t next a → Partly all s at t next b
    partly_same e p = subst (Partly all s at t next) e p

    -- nothing is left
    pub partly_end : Partly all s at t next [] → PutsPieces s at all t next
    partly_end p = pieces_same (sym (append-nil p.done) ∙ p.whole) p.puts

    pub partly_more : (part rest : List ℕ) → Partly all s at t next (part ++ rest) → {t' : List ℕ} {next' : ℕ} → PutsPieces t next part t' next'
        → Partly all s at t' next' rest
    partly_more part rest p q =
        record { done = p.done ++ part; puts = pieces_more p.puts q; whole = append_assoc p.done part rest ∙ p.whole }
