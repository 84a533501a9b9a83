-- Laws of the run of a position: what one chunk decides of it, and how long it is.
use Prim.Native.Nat.{ℕ, suc, ◌+◌, ◌-◌, ◌≤◌, ◌<◌, min}
use mathlib.Core.Bool.{Bool, true, false, and-false}
use mathlib.Core.List.{List, [], ◌∷◌}
use mathlib.Core.Logic.{inl, inr}
use mathlib.Core.Path.{◌≡◌, refl, sym, ap, subst, ◌∙◌}
use native.Mathlib.Decide.{dec_le}
use native.Mathlib.Omega.{arith}
use borrow.Author.Tests.{eq-eqb, ne_eqb, le-leb, lt-leb, lt-ltb, le-ltb}
use lib.Dec.{ltb, eqb}
use lib.ListN.{length, get_or}
use Rattle.partial.specs.Meaning.{covers, supplies, supplier}
use Rattle.partial.specs.Segments.{Chunk, no_chunk, good}
use Rattle.partial.specs.Sequences.{within, stretch}
use Rattle.partial.proofs.Meaning.SequenceLaws.{which}
use Rattle.partial.proofs.Meaning.StretchLaws.{first_one, stretch_first}
use Rattle.partial.proofs.Meaning.RunLaws.{comes, supplies_true, run_end, run}
use Rattle.partial.proofs.Meaning.SupplyLaws.{supplier_here, supplier_on}
use Rattle.segment.specs.Chunk.{chunk_of}
use Rattle.supplying.specs.Rows.{chunk_in, row_of, chunks_from, chunks_in}
use Rattle.supplying.specs.Runs.{is_supplied, supplied_by, same_run, run_chunk, RunIn, clip}
use Rattle.std.specs.Prelude.{None, Some, is_some}
use Rattle.segment.specs.declared.chunk.Chunk.{Chunk as CodeChunk}
use Rattle.supplying.specs.declared.runs.Run.{Run}
use Rattle.supplying.proofs.RowsLaws.{rows_next}

module _ (c : Chunk) (p : ℕ) where
  pub supplies_other : eqb c.state good ≡ false → false ≡ supplies p c
  supplies_other other = rw other

  pub supplies_before : p < c.start → false ≡ supplies p c
  unfolding covers within
  supplies_before before = rw (lt-leb c.start p before, and-false)

  pub supplies_by : eqb c.state good ≡ true → c.start ≤ p → ltb (p - c.start) c.size ≡ supplies p c
  unfolding covers within
  supplies_by state from =
      rw (state, le-leb c.start p from)
      (elim (dec_le (c.start + c.size) p) [
        | yes past ↦ le-ltb (p - c.start) c.size (omega arith) ∙ sym (le-ltb p (c.start + c.size) past)
        | no to ↦ lt-ltb (p - c.start) c.size (omega arith) ∙ sym (lt-ltb p (c.start + c.size) (omega arith))
      ])

  module _ (end : ℕ) where
    pub clip_other : eqb c.state good ≡ false → end ≡ clip p end c
    unfolding clip
    clip_other other = rw (clip, other)

    pub clip-begun : c.start ≤ p → end ≡ clip p end c
    unfolding clip
    clip-begun begun = rw (clip, le-ltb p c.start begun, and-false (eqb c.state good))

    pub clip-empty : c.size ≡ 0 → end ≡ clip p end c
    unfolding clip
    clip-empty empty = rw (clip, le-ltb 0 c.size (omega arith), and-false (ltb p c.start), and-false (eqb c.state good))

    pub clip_begins : eqb c.state good ≡ true → p < c.start → (c.size ≡ 0 → ⊥) → min end c.start ≡ clip p end c
    unfolding clip
    clip_begins state after some = rw (clip, state, lt-ltb p c.start after, lt-ltb 0 c.size (omega arith))

    -- the end of a run behind a chunk that does not supply the position
    run_on : (cs : List Chunk) → supplies p c ≡ false → run_end (c ∷ cs) p end ≡ run_end cs p (clip p end c)
    unfolding run_end clip
    run_on cs lacks = rw (run_end, lacks)

  run_here : (cs : List Chunk) (end : ℕ) → supplies p c ≡ true → run_end (c ∷ cs) p end ≡ min end (c.start + c.size)
  unfolding run_end
  run_here cs end e = rw (run_end, e)

run_most : (cs : List Chunk) (p end : ℕ) → run_end cs p end ≤ end
unfolding run_end
run_most [] p end = omega arith
run_most (c ∷ cs) p end =
    elim (which (supplies p c)) [
      | inl e ↦ rw (run_end, e) (omega arith)
      | inr e ↦
          elim (which (comes p c)) [
            | inl begins ↦ rw (run_end, e, begins) (omega (arith, run_most cs p (min end c.start)))
            | inr none ↦ rw (run_end, e, none) (run_most cs p end)
          ]
    ]

-- how long a run is, by where it ends
run_long : (cs : List Chunk) (p end : ℕ) → same_run cs p end ≡ run_end cs p end - p
unfolding same_run stretch
run_long cs p end =
    elim (dec_le end p) [
      | yes none ↦
          let nothing : end - p ≡ 0 = omega arith in
          let most = run_most cs p end in
          ap (λ (n : ℕ). stretch (λ q. eqb (supplier cs q) (supplier cs p)) n p) nothing ∙ omega arith
      | no some ↦
          let e = run_end cs p end in
          let r = run cs p end (omega arith) in
          let on : p + (e - p) ≡ e = omega (arith, r.after) in
          first_one
          (stretch_first _ (end - p) p)
          (record {
            most = omega (arith, r.most);
            before = λ i h. eq-eqb (supplier cs (p + i)) _ (r.same (p + i) (omega arith) (omega (arith, r.after)));
            there = λ h. ne_eqb (supplier cs (p + (e - p))) _ (λ f. r.differs (omega (arith, r.after)) (rw on at f));
          })
    ]

-- ---- the supplier of a position, by the first chunk

module _ (c : Chunk) (cs : List Chunk) (p : ℕ) where
  supplied_here : supplies p c ≡ true → is_supplied (c ∷ cs) p ≡ true
  supplied_here e = rw (supplier_here c cs p e) (lt-ltb 0 (length (c ∷ cs)) (omega arith))

  supplied_on : supplies p c ≡ false → is_supplied (c ∷ cs) p ≡ is_supplied cs p
  supplied_on e =
      rw (supplier_on c cs p e)
      (elim (dec_le (length cs) (supplier cs p)) [
        | yes none ↦ le-ltb (suc (supplier cs p)) (length (c ∷ cs)) (omega arith) ∙ sym (le-ltb (supplier cs p) (length cs) none)
        | no some ↦ lt-ltb (suc (supplier cs p)) (length (c ∷ cs)) (omega arith) ∙ sym (lt-ltb (supplier cs p) (length cs) (omega arith))
      ])

  by_here : supplies p c ≡ true → supplied_by (c ∷ cs) p ≡ c
  by_here e = ap (λ (k : ℕ). get_or (c ∷ cs) k no_chunk) (supplier_here c cs p e)

  by_on : supplies p c ≡ false → supplied_by (c ∷ cs) p ≡ supplied_by cs p
  by_on e = ap (λ (k : ℕ). get_or (c ∷ cs) k no_chunk) (supplier_on c cs p e)

-- ---- a pass over chunks

-- those that were passed do not supply the position; the others decide
pub record Midway (all others : List Chunk) (p end stop : ℕ) : Type 0 where
  pub supplied : is_supplied all p ≡ is_supplied others p
  pub by : supplied_by all p ≡ supplied_by others p
  pub ends : run_end all p end ≡ run_end others p stop

-- the same others
midway_same : {all others next : List Chunk} {p end stop : ℕ} → others ≡ next → Midway all others p end stop → Midway all next p end stop
midway_same {all} {p = p} {end = end} {stop = stop} e m = subst (λ (cs : List Chunk). Midway all cs p end stop) e m

module _ (all : List Chunk) (p end : ℕ) where
  midway_all : Midway all all p end end
  midway_all = record { supplied = refl; by = refl; ends = refl }

  module _ {c : Chunk} {others : List Chunk} {stop : ℕ} (m : Midway all (c ∷ others) p end stop) where
    midway_on : supplies p c ≡ false → Midway all others p end (clip p stop c)
    midway_on lacks =
        record {
          supplied = m.supplied ∙ supplied_on c others p lacks;
          by = m.by ∙ by_on c others p lacks;
          ends = m.ends ∙ run_on c p stop others lacks;
        }

    run_found : supplies p c ≡ true → {r : Run} {x : CodeChunk} → r.chunk ≡ Some x → chunk_of x ≡ c → r.length ≡ min (stop - p) (c.size - (p - c.start)) → RunIn all p end r
    run_found here is by long =
        let (_, from, to) = supplies_true c p here in
        let stops = m.ends ∙ run_here c p others stop here in
        record {
          supplied = ap is_some is ∙ sym (m.supplied ∙ supplied_here c others p here);
          chunk = ap run_chunk is ∙ by ∙ sym (m.by ∙ by_here c others p here);
          long = long ∙ sym (run_long all p end ∙ omega (arith, stops));
        }

  run_none : {stop : ℕ} → Midway all [] p end stop → {r : Run} → r.chunk ≡ None → r.length ≡ stop - p → RunIn all p end r
  unfolding run_end supplier
  run_none m is long =
      record {
        supplied = ap is_some is ∙ sym m.supplied;
        chunk = ap run_chunk is ∙ sym m.by;
        long = long ∙ sym (run_long all p end ∙ ap (λ (n : ℕ). n - p) m.ends);
      }

-- ---- a pass over the rows of a table

module _ (sources : List ℕ) (source : ℕ) (table : List ℕ) (count p end : ℕ) where
  -- the chunks of the source from a row on
  abbrev left : ℕ → List Chunk
  left k = chunks_from sources source table (count - k) k

  abbrev pub PassedTo : ℕ → ℕ → Type 0
  PassedTo k stop = Midway (chunks_in sources source table count) (left k) p end stop

  pub passed_none : PassedTo 0 end
  passed_none = midway_same (ap (λ (m : ℕ). chunks_from sources source table m 0) {x = count} {y = count - 0} (omega arith)) (midway_all _ p end)

  module _ {k stop : ℕ} (m : PassedTo k stop) where
    module _ (short : k < count) where
      next_row : (is : Bool) → row_of sources source table k ≡ is → left k ≡ elim is [ true ↦ chunk_in table k ∷ left (k + 1) | false ↦ left (k + 1) ]
      next_row is e =
          let one : count - k ≡ suc (count - (k + 1)) = omega arith in
          let next : suc k ≡ k + 1 = omega arith in
          ap (λ (m : ℕ). chunks_from sources source table m k) one ∙ rows_next sources source is table (count - (k + 1)) k e
          ∙ ap (λ (n : ℕ). elim is [ true ↦ chunk_in table k ∷ chunks_from sources source table (count - (k + 1)) n | false ↦ chunks_from sources source table (count - (k + 1)) n ]) next

      -- a row of another source
      pub passed_other : (row_of sources source table k ≡ true → ⊥) → PassedTo (k + 1) stop
      passed_other other =
          elim (which (row_of sources source table k)) [
            | inl e ↦ absurd (other e)
            | inr e ↦ midway_same (next_row false e) m
          ]

      module _ {c : Chunk} (row : c ≡ chunk_in table k) (this : row_of sources source table k ≡ true) where
        ahead : left k ≡ c ∷ left (k + 1)
        ahead = next_row true this ∙ ap (λ (x : Chunk). x ∷ left (k + 1)) (sym row)

        pub passed_more : supplies p c ≡ false → PassedTo (k + 1) (clip p stop c)
        passed_more lacks = midway_on _ p end (midway_same ahead m) lacks

        pub passed_here : supplies p c ≡ true → {r : Run} {x : CodeChunk} → r.chunk ≡ Some x → chunk_of x ≡ c → r.length ≡ min (stop - p) (c.size - (p - c.start))
            → RunIn (chunks_in sources source table count) p end r
        passed_here here = run_found _ p end (midway_same ahead m) here

    pub passed_all : count ≤ k → {r : Run} → r.chunk ≡ None → r.length ≡ stop - p → RunIn (chunks_in sources source table count) p end r
    unfolding chunks_from
    passed_all most = run_none _ p end (midway_same (ap (λ (m : ℕ). chunks_from sources source table m k) {x = count - k} {y = 0} (omega arith)) m)
