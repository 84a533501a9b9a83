-- Laws of supply: which chunk supplies a position, in a list of chunks and after segments are added.
use Prim.Native.Nat.{ℕ, suc, zero, ◌+◌, ◌-◌, ◌≤◌, ◌<◌}
use mathlib.Core.Bool.{true, false, ◌||◌, false≢true}
use mathlib.Core.List.{List, [], ◌∷◌, ◌++◌, append_assoc}
use mathlib.Core.Logic.{◌⊎◌, inl, inr}
use Rattle.std.specs.Prelude.{Option, None, Some}
use mathlib.Core.Path.{◌≡◌, refl, sym, ap, ◌∙◌}
use native.Mathlib.Decide.{dec_le}
use native.Mathlib.Nat.{add-sub_of_le}
use native.Mathlib.Omega.{arith}
use borrow.Author.Tests.{ltb-true, ltb-false, lt-ltb, eqb-true, eq-eqb}
use lib.Dec.{ltb, eqb, leb-suc-suc}
use lib.ListN.{length, get_or, length-append, get_or-append}
use lib.Seq.{get_or-append-add}
use Rattle.partial.specs.Sequences.{some_of, or_else}
use Rattle.partial.specs.Segments.{Chunk, no_chunk, Segment, good, chunks_of}
use Rattle.partial.specs.Meaning.{covers, supplies, supplier, supplied, place_of_byte, served, chunk_for, chunk_no}
use Rattle.partial.proofs.Meaning.SequenceLaws.{which, both, inside, some_append}
use Rattle.partial.proofs.Meaning.StretchLaws.{First, first_one}

-- the byte of the first chunk that supplies a position
unfoldable pub byte_from : List ℕ → List Chunk → ℕ → Option ℕ
byte_from f [] p = None
byte_from f (c ∷ cs) p = elim (supplies p c) [ true ↦ Some (get_or f (c.place + (p - c.start)) 0) | false ↦ byte_from f cs p ]

module _ (c : Chunk) (cs : List Chunk) (p : ℕ) where
  pub supplier_here : supplies p c ≡ true → supplier (c ∷ cs) p ≡ 0
  unfolding supplier
  supplier_here e = rw (supplier, e)

  pub supplier_on : supplies p c ≡ false → supplier (c ∷ cs) p ≡ suc (supplier cs p)
  unfolding supplier
  supplier_on e = rw (supplier, e)

-- a good chunk that does not supply a position lies before or behind it
pub beside : (p : ℕ) (c : Chunk) → supplies p c ≡ false → c.state ≡ good → (p < c.start) ⊎ (c.start + c.size ≤ p)
unfolding covers
beside p c lacks is-good =
    elim (dec_le c.start p) [
      | no before ↦ inl (omega arith)
      | yes from ↦
          elim (dec_le (c.start + c.size) p) [
            | yes behind ↦ inr behind
            | no to ↦ absurd (false≢true (sym lacks ∙ rw (eq-eqb c.state good is-good, inside c.start c.size p from (omega arith))))
          ]
    ]

-- a number is the supplier's: that of the first chunk that supplies the position, or of all chunks where none does
abbrev pub Supply : List Chunk → ℕ → ℕ → Type 0
Supply cs p = First true (λ k. supplies p (get_or cs k no_chunk)) (length cs)

pub supply : (cs : List Chunk) (p : ℕ) → Supply cs p (supplier cs p)
supply [] p = unfold supplier in record { most = omega arith; before = λ k h. absurd (omega arith); there = λ h. absurd (omega arith) }
supply (c ∷ cs) p =
    let s = supply cs p in
    elim (which (supplies p c)) [
      | inl e ↦ rw supplier_here (record { most = omega arith; before = λ k h. absurd (omega arith); there = λ _. e })
      | inr e ↦
          rw supplier_on
          (record {
            most = omega arith;
            before = elim [ zero ↦ λ _. e | suc k ↦ λ h. s.before k (omega arith) ];
            there = λ h. s.there (omega arith);
          })
    ]

-- Of two lists, one after the other: the first list's supplier if it has one, else the second's, counted on.
-- These two are for document 02, [14], "two additions .. whichever went first", which alone asks for them.
module _ (cs ds : List Chunk) (p : ℕ) where
  pub supplier_first : supplier cs p < length cs → supplier (cs ++ ds) p ≡ supplier cs p
  supplier_first h =
      let s = supply cs p in
      let here : Supply (cs ++ ds) p (supplier cs p) = record {
        most = omega (arith, length-append cs ds);
        before = λ k l. rw (get_or-append cs ds no_chunk k (omega arith)) (s.before k l);
        there = λ _. rw get_or-append (s.there h);
      } in
      first_one (supply (cs ++ ds) p) here

  pub supplier_second : length cs ≤ supplier cs p → supplier (cs ++ ds) p ≡ length cs + supplier ds p
  supplier_second h =
      let s = supply cs p in
      let t = supply ds p in
      let here : Supply (cs ++ ds) p (length cs + supplier ds p) = record {
        most = omega (arith, length-append cs ds);
        before = λ k l.
            elim (dec_le (length cs) k) [
              | yes past ↦ rw (add-sub_of_le past) at (rw (← (get_or-append-add cs ds (k - length cs) no_chunk)) at (t.before (k - length cs) (omega arith)))
              | no short ↦ rw (get_or-append cs ds no_chunk k (omega arith)) (s.before k (omega arith))
            ];
        there = λ l. rw get_or-append-add (t.there (omega (arith, length-append cs ds)));
      } in
      first_one (supply (cs ++ ds) p) here

-- a position is supplied exactly if some chunk supplies it
pub some_supplies : (cs : List Chunk) (p : ℕ) → ltb (supplier cs p) (length cs) ≡ some_of (supplies p) cs
unfolding supplier some_of
some_supplies [] p = refl
some_supplies (c ∷ cs) p =
    elim (supplies p c) as (λ b. ltb (elim b [ true ↦ 0 | false ↦ suc (supplier cs p) ]) (suc (length cs)) ≡ (b || some_of (supplies p) cs)) [
      | true ↦ lt-ltb 0 (suc (length cs)) (omega arith)
      | false ↦ leb-suc-suc (suc (supplier cs p)) (length cs) ∙ some_supplies cs p
    ]

pub chunks_append : (ss ts : List Segment) → chunks_of (ss ++ ts) ≡ chunks_of ss ++ chunks_of ts
unfolding chunks_of
chunks_append [] ts = refl
chunks_append (s ∷ ss) ts = ap (λ cs. s.chunks ++ cs) (chunks_append ss ts) ∙ sym (append_assoc s.chunks (chunks_of ss) (chunks_of ts))

module _ (ss : List Segment) where
  pub supplied_some : (p : ℕ) → supplied ss p ≡ some_of (supplies p) (chunks_of ss)
  unfolding supplied
  supplied_some p = some_supplies (chunks_of ss) p

  -- for document 02, [14], too
  pub supplied-append : (ts : List Segment) (p : ℕ) → supplied (ss ++ ts) p ≡ (supplied ss p || supplied ts p)
  unfolding supplied
  supplied-append ts p = simp (some_supplies, chunks_append, some_append)

-- the byte that is served is that of the first chunk that supplies the position
byte_of : List ℕ → List Chunk → ℕ → ℕ → Option ℕ
byte_of f cs p n =
    let c = get_or cs n no_chunk in
    elim (ltb n (length cs)) [ true ↦ Some (get_or f (c.place + (p - c.start)) 0) | false ↦ None ]

byte-from : (f : List ℕ) (cs : List Chunk) (p : ℕ) → byte_of f cs p (supplier cs p) ≡ byte_from f cs p
unfolding byte_from byte_of
byte-from f [] p = unfold supplier in refl
byte-from f (c ∷ cs) p =
    elim (which (supplies p c)) [
      | inl e ↦ rw (supplier_here c cs p e, byte_from, e) (rw (byte_of, lt-ltb 0 (suc (length cs)) (omega arith)))
      | inr e ↦ rw (supplier_on c cs p e, byte_from, e) (rw (byte_of, leb-suc-suc) (byte-from f cs p))
    ]

byte_append : (f : List ℕ) (cs ds : List Chunk) (p : ℕ) → byte_from f (cs ++ ds) p ≡ or_else (byte_from f cs p) (byte_from f ds p)
unfolding byte_from or_else
byte_append f [] ds p = refl
byte_append f (c ∷ cs) ds p =
    elim (which (supplies p c)) [
      | inl e ↦ rw (byte_from, e)
      | inr e ↦ rw (byte_from, e) (byte_append f cs ds p)
    ]

pub served_from : (f : List ℕ) (ss : List Segment) (p : ℕ) → served f ss p ≡ byte_from f (chunks_of ss) p
unfolding served supplied place_of_byte byte_of
served_from f ss p = byte-from f (chunks_of ss) p

pub served-append : (f : List ℕ) (ss ts : List Segment) (p : ℕ) → served f (ss ++ ts) p ≡ or_else (served f ss p) (served f ts p)
served-append f ss ts p = simp (served_from, chunks_append, byte_append)

-- of a supplied position it is good and covers it
module _ (ss : List Segment) (p : ℕ) (h : supplied ss p ≡ true) where
  by_supplier : supplies p (chunk_for ss p) ≡ true
  unfolding supplied
  by_supplier = (supply (chunks_of ss) p).there (ltb-true _ _ h)

  pub supplier-good : (chunk_for ss p).state ≡ good
  supplier-good = eqb-true _ _ (both _ _ by_supplier).0

  pub supplier-covers : covers p (chunk_for ss p) ≡ true
  supplier-covers = (both (eqb (chunk_for ss p).state good) (covers p (chunk_for ss p)) by_supplier).1

-- a position that is not supplied is covered by no good chunk
pub uncovered : (ss : List Segment) (p : ℕ) → supplied ss p ≡ false → (k : ℕ) → k < length (chunks_of ss) → (chunk_no ss k).state ≡ good
    → (p < (chunk_no ss k).start) ⊎ ((chunk_no ss k).start + (chunk_no ss k).size ≤ p)
unfolding supplied
uncovered ss p lacks k there =
    let s = supply (chunks_of ss) p in
    let past = ltb-false (supplier (chunks_of ss) p) (length (chunks_of ss)) lacks in
    beside p (chunk_no ss k) (s.before k (omega arith))
