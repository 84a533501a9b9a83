-- Entries as we write them read back: wherever their bytes stand, the chunks that they tell of are those of the placed
-- items.
use Prim.Native.Nat.{ℕ, zero, suc, ◌+◌, ◌≤◌}
use mathlib.Core.Bool.{Bool, true, false}
use mathlib.Core.List.{List, [], ◌∷◌, ◌++◌, map}
use mathlib.Core.Logic.{inl, inr}
use Rattle.std.specs.Prelude.{Some, unwrap_or}
use mathlib.Core.Path.{◌≡◌, refl, sym, ap, ◌∙◌}
use native.Mathlib.Decide.{dec_le}
use native.Mathlib.Nat.{add-zero, add_assoc}
use native.Mathlib.Omega.{arith}
use borrow.Author.Tests.{le-leb, lt-leb, lt-ltb, eq-eqb, leb-true}
use lib.Dec.{leb}
use lib.ListN.{length, length-append}
use Rattle.boxes.specs.Answer.{given, ◌>>=◌, hold}
use Rattle.numerals.specs.Numbers.{number, bytes_of, signed, twos_complement, holds, holds_offset}
use Rattle.numerals.specs.declared.numbers.Offset.{Offset}
use Rattle.numerals.specs.declared.numbers.Offset.TheVariants.{Ahead, Back}
use Rattle.boxes.proofs.AnswerLaws.{then-then}
use Rattle.numerals.proofs.NumberLaws.{length-bytes_of, number_none}
use Rattle.numerals.proofs.OffsetLaws.{signed-twos_complement, twos_complement_below, signed_none}
use Rattle.numerals.proofs.WidthLaws.{holds_below}
use Rattle.partial.specs.Sequences.{all_of, sum}
use Rattle.additions.specs.Addition.{is_state}
use Rattle.partial.specs.Segments.{present, corrupted, has_place}
use Rattle.partial.specs.Heading.{Heading}
use Rattle.partial.specs.Entries.{Ploc, Entry, state, state_of, entry, may_lie, offset_place, place_of, chunks_from, chunk_step, Cursor}
use Rattle.additions.specs.Append.{flag_byte, entry_bytes, new_chunks, Placed}
use Rattle.partial.proofs.Meaning.SequenceLaws.{which, both, Each}
use Rattle.additions.proofs.StandsLaws.{Stands, stands_head, stands_tail, stands_left, stands_right, stands_number}

-- the flag byte says the state
state-back : (s : ℕ) → is_state s ≡ true → state_of (flag_byte s) ≡ given s
unfolding state_of flag_byte present corrupted state is_state
state-back zero h = refl
state-back (suc zero) h = refl
state-back (suc (suc zero)) h = refl
state-back (suc (suc (suc zero))) h = refl
state-back (suc (suc (suc (suc n)))) h = absurd (omega (arith, leb-true (suc (suc (suc (suc n)))) 3 h))

-- an offset that is written where a bit is set
module _ (o : ℕ) (z : Offset) where
  offset_long : (set : Bool) → length {A = ℕ} (elim set [ true ↦ bytes_of o (twos_complement o z) | false ↦ [] ]) ≡ (elim set [ true ↦ o | false ↦ 0 ])
  offset_long true = length-bytes_of o (twos_complement o z)
  offset_long false = refl

  offset_back : (g : List ℕ) (at : ℕ) (set : Bool) → Stands g at (elim set [ true ↦ bytes_of o (twos_complement o z) | false ↦ [] ])
      → holds_offset o z ≡ true
      → (z ≡ Back 0 → ⊥)
      → (set ≡ false → z ≡ Ahead 0)
      → signed (elim set [ true ↦ o | false ↦ 0 ]) (number g at (elim set [ true ↦ o | false ↦ 0 ])) ≡ z
  offset_back g at true stands fits not_none absent =
      rw (stands_number g at o (twos_complement o z) (twos_complement_below o z fits not_none) stands) (signed-twos_complement o z fits)
  offset_back g at false stands fits not_none absent = ap (signed 0) (number_none g at) ∙ signed_none ∙ sym (absent refl)

-- what a placed item has to be for its entry to tell of it: its state is one of the three, its offset is written as it
-- is read, and its data, if it has any, may lie where the offset says
pub record Tells (h : Heading) (pseg : ℕ) (p : Placed) : Type 0 where
  pub known : is_state p.state ≡ true
  pub not_none : p.offset ≡ Back 0 → ⊥
  pub absent : present p.state ≡ false → p.offset ≡ Ahead 0
  pub lies : has_place p.state p.size ≡ true
      → (place : ℕ) × (offset_place pseg p.offset ≡ Some place) × (may_lie h p.state place p.size ≡ true)

-- one entry, at a place
module _ (g : List ℕ) (l : Ploc) (p : Placed) (ps : List Placed) where
  abbrev wide : ℕ
  wide = elim (present p.state) [ true ↦ l.offset_size | false ↦ 0 ]

  abbrev entry_read : ℕ → Entry
  entry_read at = record { state = p.state; size = p.size; offset = p.offset; next = at + 1 + l.length_size + wide }

  pub entry_long : length (entry_bytes l.length_size l.offset_size (p ∷ ps)) ≡ 1 + l.length_size + wide + length (entry_bytes l.length_size l.offset_size ps)
  unfolding entry_bytes
  entry_long = simp (length-append, length-bytes_of, offset_long l.offset_size p.offset (present p.state)) (omega arith)

  pub entry-back : (h : Heading) (pseg at : ℕ) → Stands g at (entry_bytes l.length_size l.offset_size (p ∷ ps))
      → at + length (entry_bytes l.length_size l.offset_size (p ∷ ps)) ≤ l.end
      → Tells h pseg p
      → holds l.length_size p.size ≡ true
      → holds_offset l.offset_size p.offset ≡ true
      → (entry g l at ≡ given (entry_read at)) × Stands g (at + 1 + l.length_size + wide) (entry_bytes l.length_size l.offset_size ps)
  unfolding entry entry_bytes
  entry-back h pseg at stands ends tells fits-size fits-offset =
      let w = l.length_size in
      let o = l.offset_size in
      let z = p.offset in
      let others : List ℕ = entry_bytes w o ps in
      let bytes : List ℕ = elim (present p.state) [ true ↦ bytes_of o (twos_complement o z) | false ↦ [] ] in
      let long = entry_long in
      let flag = stands_head g at (flag_byte p.state) (bytes_of w p.size ++ (bytes ++ others)) stands in
      let rest = stands_tail g at (flag_byte p.state) (bytes_of w p.size ++ (bytes ++ others)) stands in
      let size = stands_number g (at + 1) w p.size (holds_below w p.size fits-size) (stands_left g (at + 1) (bytes_of w p.size) (bytes ++ others) rest) in
      let behind : Stands g (at + 1 + w) (bytes ++ others) = rw length-bytes_of at (stands_right g (at + 1) (bytes_of w p.size) (bytes ++ others) rest) in
      let offset = offset_back o z g (at + 1 + w) (present p.state) (stands_left g (at + 1 + w) bytes others behind) fits-offset tells.not_none tells.absent in (
        rw (lt-ltb at l.end (omega arith), flag, state-back p.state tells.known, le-leb (at + 1 + w + wide) l.end (omega arith), size, offset),
        rw (offset_long o z (present p.state)) at (stands_right g (at + 1 + w) bytes others behind),
      )

  place_back : (h : Heading) (pseg at : ℕ) → Tells h pseg p
      → place_of h pseg (entry_read at) ≡ given (elim (has_place p.state p.size) [ true ↦ unwrap_or (offset_place pseg p.offset) 0 | false ↦ 0 ])
  unfolding place_of
  place_back h pseg at tells =
      elim (which (has_place p.state p.size)) [
        | inl e ↦ let (place, there, may) = tells.lies e in rw (place_of, e, there, may)
        | inr e ↦ rw (place_of, e)
      ]

-- so many placed items, at a cursor: their chunks, or 23 where they end above the limit
module _ (limit : ℕ) (g : List ℕ) (h : Heading) (pseg : ℕ) (l : Ploc) where
  pub chunks_back : (ps : List Placed) (c : Cursor) → Stands g c.at (entry_bytes l.length_size l.offset_size ps)
      → c.at + length (entry_bytes l.length_size l.offset_size ps) ≡ l.end
      → Each (Tells h pseg) ps
      → all_of (λ p. holds l.length_size p.size) ps ≡ true
      → all_of (λ p. holds_offset l.offset_size p.offset) ps ≡ true
      → c.start ≤ limit
      → chunks_from limit g h pseg l (length ps) c
      ≡ (hold 23 (leb (c.start + sum (map (λ p. p.size) ps)) limit) >>= λ _. given (new_chunks pseg c.start ps))
  unfolding chunks_from chunk_step new_chunks all_of sum entry_bytes
  chunks_back [] c stands ends tell sizes places low =
      rw (eq-eqb c.at l.end (rw add-zero at ends), le-leb (c.start + 0) limit (omega arith))
  chunks_back (p ∷ ps) c stands ends tell sizes places low =
      let (fits-size, sizes-rest) = both (holds l.length_size p.size) (all_of (λ p. holds l.length_size p.size) ps) sizes in
      let (fits-offset, places-rest) = both (holds_offset l.offset_size p.offset) (all_of (λ p. holds_offset l.offset_size p.offset) ps) places in
      let (read, stands-rest) = entry-back g l p ps h pseg c.at stands (omega arith) tell.0 fits-size fits-offset in
      let place = place_back g l p ps h pseg c.at tell.0 in
      let long = entry_long g l p ps in
      let next : Cursor = record { at = c.at + 1 + l.length_size + wide g l p ps; start = c.start + p.size } in
      let rest : ℕ = sum (map (λ p. p.size) ps) in
      elim (dec_le (c.start + p.size) limit) [
        | yes fits ↦
            rw (
              read,
              le-leb (c.start + p.size) limit fits,
              place,
              chunks_back ps next stands-rest (omega arith) tell.1 sizes-rest places-rest fits,
              add_assoc c.start p.size rest,
            ) (then-then (hold 23 (leb (c.start + (p.size + rest)) limit)) (λ _. given (new_chunks pseg (c.start + p.size) ps)) (λ cs. given (_ ∷ cs)))
        | no over ↦ rw (read, lt-leb (c.start + p.size) limit (omega arith), lt-leb (c.start + (p.size + rest)) limit (omega arith))
      ]
