-- Laws of a run: one pass over the chunks finds where the positions that the same chunk supplies, or that none does,
-- end.
use Prim.Native.Nat.{ℕ, suc, ◌+◌, ◌≤◌, ◌<◌, min}
use mathlib.Core.Bool.{Bool, true, false, not, ◌&&◌, true≢false}
use mathlib.Core.List.{List, [], ◌∷◌}
use mathlib.Core.Logic.{inl, inr}
use mathlib.Core.Path.{◌≡◌, refl, sym, ap, fun_ext, ◌∙◌}
use native.Mathlib.Decide.{dec_le}
use native.Mathlib.Nat.{eq-or-lt_of_le, le_refl, suc_inj}
use native.Mathlib.Omega.{arith}
use borrow.Author.Tests.{eq-eqb, ne_eqb, eqb-true, ltb-true, ltb-false, lt-ltb, le-ltb}
use lib.Dec.{ltb, eqb}
use lib.ListN.{length}
use Rattle.partial.specs.Segments.{Chunk, Segment, good, chunks_of}
use Rattle.partial.specs.Meaning.{covers, covers_as, supplies, supplier, supplied, onward, served_run, missing_run}
use Rattle.partial.proofs.Meaning.SequenceLaws.{which, both, inside, within_true}
use Rattle.partial.proofs.Meaning.SupplyLaws.{supplier_here, supplier_on, supply}

-- whether a good chunk begins after a position
abbrev pub comes : ℕ → Chunk → Bool
comes p c = eqb c.state good && (ltb p c.start && ltb 0 c.size)

-- where the run of a position ends, at most at an end: with the first chunk that supplies it, or where a good one
-- before that begins
unfoldable pub run_end : List Chunk → ℕ → ℕ → ℕ
run_end [] p end = end
run_end (c ∷ cs) p end =
    elim (supplies p c) [
      | true ↦ min end (c.start + c.size)
      | false ↦ run_end cs p (elim (comes p c) [ true ↦ min end c.start | false ↦ end ])
    ]

-- a run from p to e: up to e the supplier is that of p, and at e it is another
pub record Run (cs : List Chunk) (p end e : ℕ) : Type 0 where
  pub after : p < e
  pub most : e ≤ end
  pub same : (q : ℕ) → p ≤ q → q < e → supplier cs q ≡ supplier cs p
  pub differs : e < end → supplier cs e ≡ supplier cs p → ⊥

module _ (c : Chunk) (p : ℕ) where
  -- of any state
  module _ (state : ℕ) where
    pub covers_true : covers_as state p c ≡ true → (c.state ≡ state) × (c.start ≤ p) × (p < c.start + c.size)
    unfolding covers
    covers_true e =
        let (is, cover) = both (eqb c.state state) (covers p c) e in
        let (from, to) = within_true _ _ _ cover in
        (eqb-true _ _ is, from, to)

    pub does_cover : c.state ≡ state → c.start ≤ p → p < c.start + c.size → covers_as state p c ≡ true
    unfolding covers
    does_cover is from to = simp (eq-eqb c.state state is, inside c.start c.size p from to)

  pub supplies_true : supplies p c ≡ true → (c.state ≡ good) × (c.start ≤ p) × (p < c.start + c.size)
  supplies_true = covers_true good

  pub does_supply : c.state ≡ good → c.start ≤ p → p < c.start + c.size → supplies p c ≡ true
  does_supply = does_cover good

  pub not_supply : (c.state ≡ good → c.start ≤ p → p < c.start + c.size → ⊥) → supplies p c ≡ false
  not_supply none =
      elim (which (supplies p c)) [
        | inl e ↦ let (state, from, to) = supplies_true e in absurd (none state from to)
        | inr e ↦ e
      ]

  pub comes_true : comes p c ≡ true → (c.state ≡ good) × (p < c.start) × (0 < c.size)
  comes_true e =
      let (state, place) = both (eqb c.state good) (ltb p c.start && ltb 0 c.size) e in
      let (from, some) = both (ltb p c.start) (ltb 0 c.size) place in
      (eqb-true _ _ state, ltb-true _ _ from, ltb-true _ _ some)

  pub does_come : c.state ≡ good → p < c.start → 0 < c.size → comes p c ≡ true
  does_come state from some = simp (eq-eqb c.state good state, lt-ltb p c.start from, lt-ltb 0 c.size some)

-- a chunk that neither supplies a position nor begins after it supplies none from there on
pub never : (c : Chunk) (p : ℕ) → supplies p c ≡ false → comes p c ≡ false → (q : ℕ) → p ≤ q → supplies q c ≡ false
never c p miss none q on =
    not_supply c q
    (λ state from to.
    elim (dec_le c.start p) [
      | yes begun ↦ true≢false (sym (does_supply c p state begun (omega arith)) ∙ miss)
      | no before ↦ true≢false (sym (does_come c p state (omega arith) (omega arith)) ∙ none)
    ])

module _ (c : Chunk) (cs : List Chunk) (p end : ℕ) where
  -- the chunk supplies p
  here : p < end → supplies p c ≡ true → Run (c ∷ cs) p end (min end (c.start + c.size))
  here some e =
      let (state, from, to) = supplies_true c p e in
      record {
        after = omega arith;
        most = omega arith;
        same = λ q a b. supplier_here c cs q (does_supply c q state (omega arith) (omega arith)) ∙ sym (supplier_here c cs p e);
        differs = λ short f.
            let last = min end (c.start + c.size) in
            let z = sym (supplier_on c cs last (not_supply c last (λ _ _ to. omega arith))) ∙ f ∙ supplier_here c cs p e in
            omega arith;
      }

  -- the chunk supplies no position from p up to a bound, and that bound unless it is the end
  later : (bound : ℕ) → bound ≤ end → ((q : ℕ) → p ≤ q → q < bound → supplies q c ≡ false) → (bound < end → supplies bound c ≡ true)
      → {e : ℕ} → Run cs p bound e → Run (c ∷ cs) p end e
  later bound low misses meets {e} r =
      let first = r.after in
      let last = r.most in
      let miss = supplier_on c cs p (misses p (le_refl p) (omega arith)) in
      record {
        after = first;
        most = omega arith;
        same = λ q a b. supplier_on c cs q (misses q a (omega arith)) ∙ ap suc (r.same q a b) ∙ sym miss;
        differs = λ short f.
            elim (eq-or-lt_of_le last) [
              | inl at ↦
                  let z = sym (supplier_here c cs e (rw (← at) at (meets (omega arith)))) ∙ f ∙ miss in
                  omega arith
              | inr before ↦ r.differs before (suc_inj (sym (supplier_on c cs e (misses e (omega arith) before)) ∙ f ∙ miss))
            ];
      }

pub run : (cs : List Chunk) (p end : ℕ) → p < end → Run cs p end (run_end cs p end)
unfolding run_end
run [] p end some = record { after = some; most = omega arith; same = λ q a b. unfold supplier in refl; differs = λ short. absurd (omega arith) }
run (c ∷ cs) p end some =
    elim (which (supplies p c)) [
      | inl e ↦ rw (run_end, e) (here c cs p end some e)
      | inr e ↦
          elim (which (comes p c)) [
            | inl next ↦
                let (state, from, size) = comes_true c p next in
                rw (run_end, e, next)
                (later c cs p end (min end c.start) (omega arith)
                (λ q a b. not_supply c q (λ _ start _. omega arith))
                (λ short. does_supply c (min end c.start) state (omega arith) (omega arith))
                (run cs p (min end c.start) (omega arith)))
            | inr none ↦
                rw (run_end, e, none)
                (later c cs p end end (le_refl end) (λ q a b. never c p e none q a) (λ short. absurd (omega arith)) (run cs p end some))
          ]
    ]

-- where nothing supplies a position, its two runs are one
module _ (ss : List Segment) (p : ℕ) where
  pub missing-run : supplied ss p ≡ false → missing_run ss p ≡ served_run ss p
  unfolding missing_run served_run supplied
  missing-run lacks =
      let n = length (chunks_of ss) in
      let none = ltb-false (supplier (chunks_of ss) p) n lacks in
      let last = (supply (chunks_of ss) p).most in
      ap (λ test. onward ss test p)
      (fun_ext λ q.
      let m = supplier (chunks_of ss) q in
      let most = (supply (chunks_of ss) q).most in
      elim (dec_le n m) [
        | yes a ↦ ap not (le-ltb m n a) ∙ sym (eq-eqb m _ (omega arith))
        | no b ↦ ap not (lt-ltb m n (omega arith)) ∙ sym (ne_eqb m _ (λ f. omega arith))
      ])
