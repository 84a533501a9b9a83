-- Laws of pieces of text: those that are copied, those that are put behind others, and the lines that tell a
-- number.
use Prim.Native.Nat.{ℕ, ◌+◌, ◌-◌, ◌^◌, ◌≤◌, ◌<◌}
use mathlib.Core.List.{List, [], ◌∷◌, ◌++◌}
use mathlib.Core.Path.{◌≡◌, refl, sym, ap, subst, ◌∙◌}
use native.Mathlib.Omega.{arith}
use lib.ListN.{length, take, drop}
use lib.Seq.{drop-drop}
use Rattle.numerals.specs.Stored.{stored}
use Rattle.numerals.proofs.StoredLaws.{stored-room, take-stored}
use Rattle.filling.specs.Rows.{Puts}
use Rattle.filling.proofs.PutsLaws.{puts_stored}
use Rattle.partial.specs.BoxList.{fault_line}
use Rattle.partial.specs.Map.{ascii, decimal, line, refused_line}
use Rattle.texts.specs.Pieces.{PutsPiece}

-- a copy into a part of the buffer that is as long
pub copied : (s : List ℕ) (at : ℕ) (bytes part : List ℕ) {next : ℕ} → next ≡ at + length bytes → at + length bytes ≤ length s → part ≡ bytes
    → take at s ++ (part ++ drop (next - at) (drop at s)) ≡ stored s at bytes
copied s at bytes part {next} end room whole =
    let many : next - at ≡ length bytes = omega (arith, end) in
    (λ i. take at s ++ (whole i ++ drop (many i) (drop at s)))
    ∙ ap (λ (rest : List ℕ). take at s ++ (bytes ++ rest)) (drop-drop (length bytes) at s)
    ∙ sym (stored-room s at bytes room)

-- the same bytes
pub piece_same : {s : List ℕ} {at : ℕ} {a b t : List ℕ} {next : ℕ} → a ≡ b → PutsPiece s at a t next → PutsPiece s at b t next
piece_same {s} {at} {a} {b} {t} {next} e p = subst (λ (bytes : List ℕ). PutsPiece s at bytes t next) e p

-- a piece whose end 64 bits hold is put, and others can be put behind it
pub piece_puts : {s : List ℕ} {at : ℕ} {bytes t : List ℕ} {next : ℕ} → next < 2 ^ 64 - 1 → PutsPiece s at bytes t next → Puts s at bytes t next
piece_puts {s} {at} {bytes} {t} {next} low p = puts_stored bytes p.left (omega (arith, p.end))

-- what is put from the front of a buffer that has room for it is its first part
pub put_front : {s t : List ℕ} {bytes : List ℕ} {next : ℕ} → Puts s 0 bytes t next → next ≤ length s → take next t ≡ bytes
put_front {s} {t} {bytes} {next} p room =
    (λ i. take (p.end i) (p.put.held (omega (arith, p.end)) i)) ∙ take-stored s 0 bytes (omega (arith, p.end))

-- the line of a refusal, word by word
pub refused_words : (n : ℕ) → (114 ∷ 101 ∷ 102 ∷ 117 ∷ 115 ∷ 101 ∷ 100 ∷ 9 ∷ []) ++ (decimal n ++ (10 ∷ [])) ≡ refused_line n
unfolding refused_line line ascii
refused_words n = refl

-- that of a framing error
pub fault_words : (place n : ℕ) → decimal place ++ ((9 ∷ []) ++ (decimal n ++ (10 ∷ []))) ≡ fault_line (record { at = place; number = n })
unfolding fault_line line
fault_words place n = refl
