-- Laws of the fates of a file's boxes: which kept chunk lies in one, the number of a fate, and a table of them.
use Prim.Native.Nat.{ℕ, zero, suc, ◌+◌, ◌-◌, ◌^◌, ◌/◌, ◌%◌, min, ◌≤◌, ◌<◌}
use mathlib.Core.Bool.{Bool, true, false, ◌&&◌}
use mathlib.Core.List.{List, [], ◌∷◌, ◌++◌, map}
use Rattle.std.specs.Prelude.{Option, None, Some}
use mathlib.Core.Path.{◌≡◌, refl, sym, ap, ◌∙◌}
use native.Mathlib.Decide.{dec_le, ℕ_discrete}
use native.Mathlib.Omega.{arith}
use borrow.Author.Tests.{le-leb, lt-leb}
use lib.Dec.{leb, eqb}
use lib.ListN.{length, get_or, take, drop, set, length-take, length-drop, length-map, length-set, get_or-map}
use lib.Seq.{take-suc, get_or-set_same, get_or-set_other}
use Rattle.boxes.specs.Framing.{Box}
use Rattle.boxes.specs.Kinds.{ftyp, pfil, pseg, pdat, is, box_at}
use Rattle.partial.specs.Heading.{Heading}
use Rattle.partial.specs.Limits.{file_limit, source_limit}
use Rattle.partial.specs.Segments.{Chunk, Segment, good, present, chunks_of}
use Rattle.partial.specs.Sequences.{some_of}
use Rattle.partial.proofs.Meaning.SequenceLaws.{some_append, some_by}
use Rattle.partial.proofs.Reading.SmallLaws.{SmallFrom, AllSmall}
use Rattle.gathering.specs.Keeping.{Keeps}
use Rattle.gathering.specs.declared.gathered.Gathered.{Gathered}
use Rattle.gathering.specs.Numbers.{number_of, chunk_by, numbers_of}
use Rattle.gathering.proofs.GatheredLaws.{gathered_chunks}
use Rattle.gathering.proofs.KeptPutLaws.{narrow_small}
use Rattle.gathering.proofs.NumberLaws.{Narrow, number-back}
use Rattle.rescue.specs.Kept.{lies_in, kept_of, stays, fate_of, fates}
use Rattle.rescue.specs.Table.{code_of, code_for, code_told, told_at}
use Rattle.rescue.specs.declared.table.Fate.{Fate}
use Rattle.rescue.specs.declared.table.Fate.TheVariants.{Stays}
use Rattle.rescue.proofs.HeadingLaws.{opened}
use Rattle.rescue.proofs.SmallLaws.{kept_small}
use Rattle.rescue.proofs.TableLaws.{no_fated}
use Rattle.salvaging.specs.Tables.{FatesHeld, Sound}
use Rattle.salvaging.proofs.TableLaws.{fated_from, two_on}

-- ---- whether a chunk lies in a box

module _ (b : Box) (c : Chunk) where
  pub lies_not_good : eqb c.state good ≡ false → lies_in b c ≡ false
  unfolding lies_in
  lies_not_good other = rw other

  module _ (state : eqb c.state good ≡ true) where
    pub lies_behind : b.at < c.place → lies_in b c ≡ false
    unfolding lies_in
    lies_behind behind = rw (state, lt-leb c.place b.at behind)

    pub lies_ends : c.place ≤ b.at → b.end < 2 ^ 64 → {n : ℕ} → n ≡ min (c.place + c.size) (2 ^ 64 - 1) → leb b.end n ≡ lies_in b c
    unfolding lies_in
    lies_ends before low {n} sums =
        rw (state, le-leb c.place b.at before)
        (elim (dec_le b.end n) [
          | yes within ↦ le-leb b.end n within ∙ sym (le-leb b.end (c.place + c.size) (omega arith))
          | no out ↦ lt-leb b.end n (omega arith) ∙ sym (lt-leb b.end (c.place + c.size) (omega arith))
        ])

-- whatever its start is, and so by its number
module _ (b : Box) where
  lies_start : (start n : ℕ) → lies_in b (chunk_by start n) ≡ lies_in b (chunk_by 0 n)
  unfolding lies_in chunk_by
  lies_start start n = go (present (n % 4))
    where
      go : (t : Bool)
          → lies_in b (elim t [
            | true ↦ record { start = start; size = n / 2 ^ 32; state = n % 4; place = n / 4 % file_limit }
            | false ↦ record { start = start; size = n / 4; state = n % 4; place = 0 }
          ])
          ≡ lies_in b (elim t [
            | true ↦ record { start = 0; size = n / 2 ^ 32; state = n % 4; place = n / 4 % file_limit }
            | false ↦ record { start = 0; size = n / 4; state = n % 4; place = 0 }
          ])
      go true = refl
      go false = refl

  lies_back : (c : Chunk) → Narrow c → lies_in b (chunk_by 0 (number_of c)) ≡ lies_in b c
  lies_back c narrow = sym (lies_start c.start (number_of c)) ∙ ap (lies_in b) (number-back c narrow)

  abbrev pub by_number : ℕ → Bool
  by_number n = lies_in b (chunk_by 0 n)

  some_from : (start : ℕ) (cs more : List Chunk) → SmallFrom source_limit start cs → some_of by_number (map number_of more) ≡ some_of (lies_in b) more
      → some_of by_number (map number_of (cs ++ more)) ≡ some_of (lies_in b) (cs ++ more)
  unfolding some_of
  some_from start [] more small rest = rest
  some_from start (c ∷ cs) more (starts, small, others) rest =
      rw (lies_back c (narrow_small c small), some_from (start + c.size) cs more others rest)

  -- some chunk of segments lies in a box, by their numbers
  pub some_lies : (ss : List Segment) → AllSmall source_limit ss → some_of by_number (numbers_of ss) ≡ some_of (lies_in b) (chunks_of ss)
  unfolding some_of numbers_of chunks_of
  some_lies [] small = refl
  some_lies (s ∷ ss) (one, others) = some_from s.source_offset s.chunks (chunks_of ss) one (some_lies ss others)

-- ---- a search among the first numbers of a table

module _ (test : ℕ → Bool) (u : List ℕ) where
  pub none_more : (i : ℕ) → i < length u → some_of test (take i u) ≡ false → test (get_or u i 0) ≡ false → some_of test (take (i + 1) u) ≡ false
  unfolding some_of
  none_more i there before here =
      let on : i + 1 ≡ suc i = omega arith in
      rw (on, take-suc u i 0 there, some_append, before, here)

  pub some_found : (i : ℕ) → i < length u → test (get_or u i 0) ≡ true → some_of test u ≡ true
  some_found i there here = some_by test 0 u i there here

-- ---- the number of a fate

module _ (f : List ℕ) (h : Heading) (kept : List Segment) (b : Box) (other : is pseg b ≡ false) where
  pub code_ftyp : is ftyp b ≡ true → Some 7 ≡ code_of (fate_of source_limit f h kept b)
  unfolding fate_of code_of
  code_ftyp kind = rw (other, fate_of, kind)

  module _ (no_ftyp : is ftyp b ≡ false) where
    pub code_pfil : is pfil b ≡ true → Some 9 ≡ code_of (fate_of source_limit f h kept b)
    unfolding fate_of code_of
    code_pfil kind = rw (other, fate_of, no_ftyp, kind)

    module _ (no_pfil : is pfil b ≡ false) where
      pub code_stays : stays source_limit f h b ≡ true → None ≡ code_of (fate_of source_limit f h kept b)
      unfolding fate_of code_of
      code_stays stay = rw (other, fate_of, no_ftyp, no_pfil, stay)

      pub code_gone : stays source_limit f h b ≡ false → Some 0 ≡ code_of (fate_of source_limit f h kept b)
      unfolding fate_of code_of
      code_gone stay = rw (other, fate_of, no_ftyp, no_pfil, stay)

module _ (f : List ℕ) (h : Heading) (b : Box) where
  pub stays_pdat : is pdat b ≡ true → stays source_limit f h b ≡ true
  unfolding stays
  stays_pdat kind = rw kind

  module _ (other : is pdat b ≡ false) where
    pub stays_plain : h.mixed ≡ false → stays source_limit f h b ≡ false
    unfolding stays
    stays_plain plain = rw (other, plain)

    pub stays_lain : h.mixed ≡ true → stays source_limit f h b ≡ some_of (lies_in b) (chunks_of (kept_of source_limit f h))
    unfolding stays
    stays_lain mixed = rw other (ap (λ (m : Bool). m && some_of (lies_in b) (chunks_of (kept_of source_limit f h))) mixed)

-- ---- a table of them

module _ (f : List ℕ) (h : Heading) where
  pub code_first : (k : ℕ) → k < 2 → code_for f h k ≡ None
  unfolding fates code_of
  code_first zero less = refl
  code_first (suc zero) less = refl
  code_first (suc (suc k)) less = absurd (omega arith)

  pub code_behind : (k : ℕ) → 2 ≤ k → k < length h.boxes → (before : List Segment) × (code_for f h k ≡ code_of (fate_of source_limit f h before (box_at k h.boxes)))
  unfolding fates code_of
  code_behind zero behind there = absurd (omega arith)
  code_behind (suc zero) behind there = absurd (omega arith)
  code_behind (suc (suc j)) behind there =
      let (before, e) = fated_from f h [] (drop 2 h.boxes) j (omega (arith, length-drop 2 h.boxes)) in
      (before, get_or-map (λ x. code_of x.fate) (fates source_limit f h) (suc (suc j)) no_fated ∙ ap code_of (e ∙ ap (fate_of source_limit f h before) (two_on h.boxes j)))

  -- the table is right so far, and at each `pseg`
  pub record Fating (t : List Fate) (k : ℕ) : Type 0 where
    pub long : length t ≡ 512
    pub each : (j : ℕ) → j < k → told_at t j ≡ code_for f h j
    pub psegs : (j : ℕ) → j < length h.boxes → is pseg (box_at j h.boxes) ≡ true → told_at t j ≡ code_for f h j

  pub fating_none : {t : List Fate} {u : List ℕ} {g : Gathered} → Keeps f h t u g → Fating t 0
  fating_none keeps = record { long = keeps.long; each = λ j less. absurd (omega arith); psegs = keeps.psegs }

  pub fating_set : {t : List Fate} {k : ℕ} → Fating t k → k < 512 → (fate : Fate) → code_told fate ≡ code_for f h k → Fating (set t k fate) (k + 1)
  fating_set {t} {k} held room fate right =
      record {
        long = length-set t k fate ∙ held.long;
        each = λ j less. at j (λ other. held.each j (omega arith));
        psegs = λ j there kind. at j (λ other. held.psegs j there kind);
      }
    where
      at : (j : ℕ) → ((j ≡ k → ⊥) → told_at t j ≡ code_for f h j) → told_at (set t k fate) j ≡ code_for f h j
      at j before =
          elim (ℕ_discrete j k) [
            | yes here ↦ rw here (ap code_told (get_or-set_same t k fate Stays (omega (arith, held.long))) ∙ right)
            | no other ↦ ap code_told (get_or-set_other t k j fate Stays other) ∙ before other
          ]

  pub fating_left : {t : List Fate} {k : ℕ} → Fating t k → k < length h.boxes → is pseg (box_at k h.boxes) ≡ true → Fating t (k + 1)
  fating_left {t} {k} held there kind =
      record {
        long = held.long;
        each = λ j less.
            elim (ℕ_discrete j k) [
              | yes here ↦ rw here (held.psegs k there kind)
              | no other ↦ held.each j (omega arith)
            ];
        psegs = held.psegs;
      }

  pub fating_end : {t : List Fate} {k : ℕ} → Fating t k → k ≡ length h.boxes → FatesHeld f h t
  fating_end held last = record { long = held.long; each = λ j less. held.each j (omega arith) }

  -- the numbers of the kept chunks have room in their table
  kept_few : {t : List Fate} {u : List ℕ} {g : Gathered} → Keeps f h t u g → length (chunks_of (kept_of source_limit f h)) ≤ length u
  unfolding numbers_of
  kept_few {u = u} keeps =
      let cs = chunks_of (kept_of source_limit f h) in
      omega (arith, length-take (length cs) u, ap length keeps.numbers, length-map cs number_of)

  -- the fate of a box behind the first two that is no `pseg`, by what is told of it beside any segments
  pub code_behind_two : Sound f h → {t : List Fate} {u : List ℕ} {g : Gathered} → Keeps f h t u g → {k : ℕ} → 2 ≤ k → k < length h.boxes → {b : Box} → b ≡ box_at k h.boxes
      → {many : ℕ} → many ≡ min g.chunks (length u) → {code : Option ℕ}
      → ((before : List Segment) → AllSmall source_limit (kept_of source_limit f h) → take many u ≡ numbers_of (kept_of source_limit f h)
      → code ≡ code_of (fate_of source_limit f h before b))
      → code ≡ code_for f h k
  code_behind_two sound {u = u} {g} keeps {k} behind there here {many} least told =
      let (before, e) = code_behind k behind there in
      let all : many ≡ length (chunks_of (kept_of source_limit f h)) = omega (arith, least, gathered_chunks _ keeps.gathered, kept_few keeps) in
      told before (kept_small source_limit f h (opened f h sound.opens).small sound.boxes) (ap (λ (n : ℕ). take n u) all ∙ keeps.numbers)
      ∙ ap (λ (b : Box). code_of (fate_of source_limit f h before b)) here
      ∙ sym e
