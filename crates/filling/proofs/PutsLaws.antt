-- Laws of numbers that are put one behind the other.
use Prim.Native.Nat.{ℕ, suc, ◌+◌, ◌≤◌, ◌<◌}
use mathlib.Core.List.{List, [], ◌∷◌, ◌++◌}
use mathlib.Core.Path.{◌≡◌, sym, ap, subst, ◌∙◌}
use native.Mathlib.Omega.{arith}
use lib.ListN.{length, take, drop, set, get_or, length-append}
use lib.Seq.{take-suc, length-take-le, set_split}
use Rattle.numerals.specs.Stored.{stored}
use Rattle.numerals.proofs.StoredLaws.{stored-room, stored-append, length-stored}
use Rattle.filling.specs.Rows.{Put, Puts}
use Rattle.filling.proofs.RowLaws.{put_stored, put_more}

-- a byte that is set is one byte stored
set-stored : (s : List ℕ) (i d : ℕ) → i < length s → set s i d ≡ stored s i (d ∷ [])
set-stored s i d inside =
    let one : i + length (d ∷ []) ≡ suc i = omega arith in
    set_split s i d inside ∙ sym (stored-room s i (d ∷ []) (omega arith) ∙ ap (λ (n : ℕ). take i s ++ (d ∷ drop n s)) one)

-- the step of a loop that copies bytes from the first to the last
pub copied_more : (s : List ℕ) (at : ℕ) (bytes : List ℕ) (i : ℕ) → i < length bytes → at + length bytes ≤ length s
    → set (stored s at (take i bytes)) (at + i) (get_or bytes i 0) ≡ stored s at (take (suc i) bytes)
copied_more s at bytes i less room =
    let long : length (take i bytes) ≡ i = length-take-le i bytes (omega arith) in
    let inside : at + length (take i bytes) ≤ length s = omega arith in
    let same : length (stored s at (take i bytes)) ≡ length s = length-stored s at (take i bytes) inside in
    set-stored (stored s at (take i bytes)) (at + i) (get_or bytes i 0) (omega arith)
    ∙ ap (λ (n : ℕ). stored (stored s at (take i bytes)) (at + n) (get_or bytes i 0 ∷ [])) (sym long)
    ∙ stored-append s at (take i bytes) (get_or bytes i 0 ∷ []) (omega arith)
    ∙ ap (stored s at) (sym (take-suc bytes i 0 less))

module _ {s t : List ℕ} {at m : ℕ} where
  -- bytes that are stored are put
  pub puts_stored : (bytes : List ℕ) → t ≡ stored s at bytes → m ≡ at + length bytes → Puts s at bytes t m
  puts_stored bytes e end = record { put = put_stored s at bytes e; end = end }

  -- the same bytes
  pub puts_same : {a b : List ℕ} → a ≡ b → Puts s at a t m → Puts s at b t m
  puts_same e p = subst (λ (bytes : List ℕ). Puts s at bytes t m) e p

  -- bytes that are put behind others are put with them
  pub puts_more : {a b : List ℕ} {u : List ℕ} {n : ℕ} → Puts s at a t m → Puts t m b u n → Puts s at (a ++ b) u n
  puts_more {a} {b} {u} {n} p q =
      record {
        put = put_more at a b p.put (subst (λ (k : ℕ). Put t k b u) p.end q.put);
        end = q.end ∙ ap (λ (k : ℕ). k + length b) p.end ∙ omega (arith, length-append a b);
      }
