-- Laws of the spans of chunks: where the span of one ends, how many chunks are of a state, and what a chunk more adds.
use Prim.Native.Nat.{ℕ, ◌+◌, ◌-◌, ◌<◌, ◌≤◌, min}
use mathlib.Core.Bool.{Bool, true, false, ◌||◌, or-false, or-true}
use mathlib.Core.List.{List, [], ◌∷◌, ◌++◌, append-nil, append_assoc}
use mathlib.Core.Logic.{◌⊎◌, inl, inr}
use mathlib.Core.Path.{◌≡◌, refl, sym, ap, subst, ◌∙◌}
use native.Mathlib.Decide.{dec_le}
use native.Mathlib.Omega.{arith}
use borrow.Author.Tests.{eq-eqb, ne_eqb, eqb-true}
use lib.Dec.{eqb}
use lib.Seq.{get_or-take, get_or-drop}
use lib.ListN.{length, get_or, take, drop, take-append-drop, length-append}
use Rattle.partial.specs.Meaning.{covers_as}
use Rattle.partial.specs.Segments.{Chunk, Segment, good, damaged, chunks_of}
use Rattle.partial.specs.Sequences.{some_of}
use Rattle.partial.specs.Sources.{of_source}
use Rattle.partial.proofs.Meaning.RunLaws.{covers_true, does_cover}
use Rattle.partial.proofs.Meaning.SequenceLaws.{which, some_append}
use Rattle.partial.proofs.Meaning.SourceLaws.{of-append}
use Rattle.partial.proofs.Meaning.SupplyLaws.{chunks_append}
use Rattle.gathering.specs.Kept.{ChunksKept}
use Rattle.gathering.proofs.KeptLaws.{next_chunk, next_taken, NextSegment}
use Rattle.spans.specs.declared.span.Span.{Span}
use Rattle.spans.specs.Spans.{first_at, end_at, covered_by, Spans, Joined}
use Rattle.spans.specs.Chunks.{many_of, SpanEnd, Taken, SpansOf}
use Rattle.spans.proofs.SpanLaws.{same_truth, covered_at, covered-by, no_spans}

-- ---- where a span ends

module _ (state : ℕ) (c : Chunk) (end : ℕ) where
  -- of a chunk that covers nothing below the end in that state
  pub span_none : (c.state ≡ state → c.start < end → ⊥) → SpanEnd state c end c.start
  span_none none =
      record {
        all = λ q from to. absurd (omega arith);
        only = λ q below e.
            let (is, from, _) = covers_true c q state e in
            absurd (none is (omega arith));
        most = λ some. absurd (omega arith);
      }

  -- of one in that state that starts below it
  pub span_some : c.state ≡ state → c.start < end → {to : ℕ} → to ≤ end → to ≤ c.start + c.size → (to < end → c.start + c.size ≤ to) → SpanEnd state c end to
  span_some is below {to} most low high =
      record {
        all = λ q from under. does_cover c q state is from (omega arith);
        only = λ q less e.
            let (_, _, under) = covers_true c q state e in
            elim (dec_le end to) [
              | yes full ↦ omega arith
              | no short ↦ omega (arith, high (omega arith))
            ];
        most = λ some. most;
      }

  -- of one that ends where it starts, or where all does
  pub span_empty : min (c.start + c.size) end ≤ c.start → SpanEnd state c end c.start
  span_empty none =
      record {
        all = λ q from to. absurd (omega arith);
        only = λ q below e.
            let (_, from, under) = covers_true c q state e in
            absurd (omega arith);
        most = λ some. absurd (omega arith);
      }

  -- only a chunk in that state has a span that is not empty
  pub span_state : {to : ℕ} → SpanEnd state c end to → c.start < to → c.state ≡ state
  span_state span some = (covers_true c c.start state (span.all c.start (omega arith) some)).0

-- ---- how many chunks are of a state

pub many_both : (state : ℕ) (cs ds : List Chunk) → many_of state (cs ++ ds) ≡ many_of state cs + many_of state ds
unfolding many_of
many_both state [] ds = omega arith
many_both state (c ∷ cs) ds = omega (arith, many_both state cs ds)

pub many_one : (state : ℕ) (c : Chunk) → c.state ≡ state → many_of state (c ∷ []) ≡ 1
unfolding many_of
many_one state c is = rw (eq-eqb c.state state is)

-- of the first ones no more than of all
pub many_taken : (state : ℕ) (i : ℕ) (cs : List Chunk) → many_of state (take i cs) ≤ many_of state cs
many_taken state i cs = omega (arith, many_both state (take i cs) (drop i cs), ap (many_of state) (take-append-drop i cs))

pub many_few : (state : ℕ) (cs : List Chunk) → many_of state cs ≤ length cs
unfolding many_of
many_few state [] = omega arith
many_few state (c ∷ cs) = go (eqb c.state state) (many_few state cs)
  where
    go : (is : Bool) → many_of state cs ≤ length cs → (elim is [ true ↦ 1 | false ↦ 0 ]) + many_of state cs ≤ length (c ∷ cs)
    go true few = omega arith
    go false few = omega arith

-- a chunk is good or damaged or neither
pub many-apart : (cs : List Chunk) → many_of good cs + many_of damaged cs ≤ length cs
unfolding many_of
many-apart [] = omega arith
many-apart (c ∷ cs) = go (which (eqb c.state good)) (which (eqb c.state damaged)) (many-apart cs)
  where
    go : (eqb c.state good ≡ true) ⊎ (eqb c.state good ≡ false) → (eqb c.state damaged ≡ true) ⊎ (eqb c.state damaged ≡ false)
        → many_of good cs + many_of damaged cs ≤ length cs
        → many_of good (c ∷ cs) + many_of damaged (c ∷ cs) ≤ length (c ∷ cs)
    go (inl a) (inl b) few = absurd (omega (arith, eqb-true c.state good a, eqb-true c.state damaged b))
    go (inl a) (inr b) few = rw (a, b) (omega arith)
    go (inr a) (inl b) few = rw (a, b) (omega arith)
    go (inr a) (inr b) few = rw (a, b) (omega arith)

-- the segments of a source are no more than all, and so are their chunks
pub of_few : (source : ℕ) (ss : List Segment) → length (of_source source ss) ≤ length ss
unfolding of_source
of_few source [] = omega arith
of_few source (s ∷ ss) =
    elim (which (eqb s.source source)) [
      | inl e ↦ rw (of_source, e) (omega (arith, of_few source ss))
      | inr e ↦ rw (of_source, e) (omega (arith, of_few source ss))
    ]

pub source-few : (source : ℕ) (ss : List Segment) → length (chunks_of (of_source source ss)) ≤ length (chunks_of ss)
unfolding chunks_of of_source
source-few source [] = omega arith
source-few source (s ∷ ss) =
    elim (which (eqb s.source source)) [
      | inl e ↦ rw (of_source, e) (simp length-append (omega (arith, source-few source ss)))
      | inr e ↦ rw (of_source, e) (simp length-append (omega (arith, source-few source ss)))
    ]

-- ---- a chunk more

-- the numbers of a part of a table
pub part_at : (numbers : List ℕ) (at count i : ℕ) {n : ℕ} → i < count → n ≡ at + count - at → get_or (take n (drop at numbers)) i 0 ≡ get_or numbers (at + i) 0
part_at numbers at count i {n} less many = get_or-take n (drop at numbers) i 0 (omega arith) ∙ get_or-drop at numbers i 0

-- one of two tests passes
or_left : (a b : Bool) → a ≡ true → (a || b) ≡ true
or_left a b e = rw e

or_right : (a b : Bool) → b ≡ true → (a || b) ≡ true
or_right a b e = rw (e, or-true)

or_either : (a b : Bool) → (a || b) ≡ true → (a ≡ true) ⊎ (b ≡ true)
or_either a b e =
    elim (which a) [
      | inl left ↦ inl left
      | inr none ↦ inr (rw none at e)
    ]

module _ (state end : ℕ) (c : Chunk) (t : List Span) (n : ℕ) {to : ℕ} (span : SpanEnd state c end to) where
  -- without a span
  pub taken_none : to ≤ c.start → Taken state end c t n t n
  taken_none none =
      record {
        long = refl;
        many = omega arith;
        spans = λ s. s;
        covers = λ room s q below.
            same_truth _ _ (or_left (covered_by t n q) (covers_as state q c))
            (λ e.
            elim (or_either (covered_by t n q) (covers_as state q c) e) [
              | inl before ↦ before
              | inr last ↦
                  let (_, from, _) = covers_true c q state last in
                  absurd (omega (arith, span.only q below last))
            ]);
      }

  -- with one for which there is no room
  pub taken_full : c.start < to → length t < n + 1 → Taken state end c t n t n
  taken_full some full =
      record {
        long = refl;
        many = omega arith;
        spans = λ s. s;
        covers = λ room. absurd (omega (arith, room (span_state state c end span some)));
      }

  -- with one, which is stored or makes the last longer
  module _ {t' : List Span} {n' : ℕ} (some : c.start < to) (room : n + 1 ≤ length t) (j : Joined t n c.start to t' n') where
    kept : (i : ℕ) → i < j.at → (first_at t' i ≡ first_at t i) × (end_at t' i ≡ end_at t i)
    kept i less = (ap (λ (s : Span). s.first.0) (j.stored.before i less), ap (λ (s : Span). s.end.0) (j.stored.before i less))

    last_first : (i : ℕ) → i ≡ j.at → first_at t' i ≡ j.from
    last_first i here = ap (λ (i : ℕ). first_at t' i) here ∙ j.stored.one

    last_end : (i : ℕ) → i ≡ j.at → end_at t' i ≡ to
    last_end i here = ap (λ (i : ℕ). end_at t' i) here ∙ j.stored.two

    module _ (spans : Spans t n end) where
      on : j.from ≤ c.start
      on = j.on (spans.some j.at)

      new_spans : Spans t' n' end
      new_spans =
          record {
            room = omega (arith, room, j.stored.long, j.many, j.low);
            some = λ i less.
                elim (dec_le j.at i) [
                  | yes last ↦
                      let here : i ≡ j.at = omega (arith, j.many) in
                      omega (arith, last_first i here, last_end i here, on)
                  | no before ↦ omega (arith, kept i (omega arith), spans.some i (omega (arith, j.low)))
                ];
            most = λ i less.
                elim (dec_le j.at i) [
                  | yes last ↦
                      let here : i ≡ j.at = omega (arith, j.many) in
                      omega (arith, last_end i here, span.most some)
                  | no before ↦ omega (arith, kept i (omega arith), spans.most i (omega (arith, j.low)))
                ];
          }

      module _ (q : ℕ) (below : q < end) where
        abbrev either : Bool
        either = covered_by t n q || covers_as state q c

        was : covered_by t n q ≡ true → either ≡ true
        was = or_left (covered_by t n q) (covers_as state q c)

        -- the positions of the last span
        last_either : j.from ≤ q → q < to → either ≡ true
        last_either from under =
            elim (dec_le c.start q) [
              | yes new ↦ or_right (covered_by t n q) (covers_as state q c) (span.all q new under)
              | no old ↦ was (j.gap q from (omega arith))
            ]

        to_either : covered_by t' n' q ≡ true → either ≡ true
        to_either e =
            let (i, less, from, under) = covered_at t' n' q e in
            elim (dec_le j.at i) [
              | yes last ↦
                  let here : i ≡ j.at = omega (arith, j.many) in
                  last_either (omega (arith, last_first i here)) (omega (arith, last_end i here))
              | no before ↦
                  let (first, end) = kept i (omega arith) in
                  was (covered-by t n q i (omega (arith, j.low)) (omega arith) (omega arith))
            ]

        -- a position of the last span
        last_by : j.from ≤ q → q < to → covered_by t' n' q ≡ true
        last_by from under = covered-by t' n' q j.at (omega (arith, j.many)) (omega (arith, j.stored.one)) (omega (arith, j.stored.two))

        from_either : either ≡ true → covered_by t' n' q ≡ true
        from_either e =
            elim (or_either (covered_by t n q) (covers_as state q c) e) [
              | inl before ↦
                  let (i, less, from, under) = covered_at t n q before in
                  elim (dec_le j.at i) [
                    | yes last ↦
                        let (first, end) = j.held i last less in
                        last_by (omega arith) (omega arith)
                    | no old ↦
                        let (first, end) = kept i (omega arith) in
                        covered-by t' n' q i (omega (arith, j.many)) (omega arith) (omega arith)
                  ]
              | inr last ↦
                  let (_, from, _) = covers_true c q state last in
                  last_by (omega (arith, on)) (span.only q below last)
            ]

    pub taken_span : Taken state end c t n t' n'
    taken_span =
        record {
          long = j.stored.long;
          many = omega (arith, j.many, j.low, many_one state c (span_state state c end span some));
          spans = new_spans;
          covers = λ room s q below. same_truth _ _ (to_either s q below) (from_either s q below);
        }

-- the same chunk
pub taken_same : {state end : ℕ} {c d : Chunk} {t : List Span} {n : ℕ} {t' : List Span} {n' : ℕ} → c ≡ d → Taken state end c t n t' n' → Taken state end d t n t' n'
taken_same {state} {end} {t = t} {n = n} {t' = t'} {n' = n'} e taken = subst (λ (x : Chunk). Taken state end x t n t' n') e taken

-- ---- the chunks so far

-- the same ones
pub spans_same : {state : ℕ} {cs ds : List Chunk} {end : ℕ} {t : List Span} {n : ℕ} → cs ≡ ds → SpansOf state cs end t n → SpansOf state ds end t n
spans_same {state} {end = end} {t = t} {n = n} e s = subst (λ (l : List Chunk). SpansOf state l end t n) e s

module _ (state end : ℕ) where
  pub spans_none : (t : List Span) → SpansOf state [] end t 0
  unfolding covered_by some_of
  spans_none t = record { spans = no_spans t end; few = omega arith; covers = λ q below. refl }

  pub spans_more : {cs : List Chunk} {t : List Span} {n : ℕ} → SpansOf state cs end t n → (c : Chunk) → many_of state (cs ++ (c ∷ [])) ≤ length t → {t' : List Span} {n' : ℕ}
      → Taken state end c t n t' n'
      → SpansOf state (cs ++ (c ∷ [])) end t' n'
  unfolding some_of
  spans_more {cs} {n = n} s c room taken =
      let all = many_both state cs (c ∷ []) in
      record {
        spans = taken.spans s.spans;
        few = omega (arith, taken.many, s.few, all);
        covers = λ q below.
            let test : Chunk → Bool = covers_as state q in
            taken.covers (λ is. omega (arith, s.few, all, many_one state c is)) s.spans q below
            ∙ (λ i. s.covers q below i || sym (or-false (test c)) i)
            ∙ sym (some_append test cs (c ∷ []));
      }

-- one chunk more of a segment's, behind some
pub spans_next : (state end : ℕ) (done cs : List Chunk) (numbers : List ℕ) (at i start : ℕ) → i < length cs → ChunksKept numbers (at + i) start (drop i cs) → {t : List Span} {n : ℕ}
    → many_of state (done ++ cs) ≤ length t
    → SpansOf state (done ++ take i cs) end t n
    → {t' : List Span} {n' : ℕ}
    → Taken state end (next_chunk numbers at cs i start) t n t' n'
    → SpansOf state (done ++ take (i + 1) cs) end t' n'
spans_next state end done cs numbers at i start some kept {t} room s taken =
    let c = next_chunk numbers at cs i start in
    let more : (done ++ take i cs) ++ (c ∷ []) ≡ done ++ take (i + 1) cs =
    append_assoc done (take i cs) (c ∷ []) ∙ ap (λ (l : List Chunk). done ++ l) (sym (next_taken numbers at cs i start some kept)) in
    let fits : many_of state ((done ++ take i cs) ++ (c ∷ [])) ≤ length t =
    omega (arith, room, ap (many_of state) more, many_both state done (take (i + 1) cs), many_both state done cs, many_taken state (i + 1) cs) in
    spans_same more (spans_more state end s c fits taken)

-- one segment more
module _ (state end source : ℕ) (ss : List Segment) (k : ℕ) {rows sources numbers : List ℕ} {at : ℕ} (next : NextSegment rows sources numbers ss k at) where
  -- the chunks of the source among the segments so far, and with this one
  abbrev so_far : List Chunk
  so_far = chunks_of (of_source source (take k ss))

  with_next : of_source source (take (k + 1) ss) ≡ of_source source (take k ss) ++ of_source source (next.s ∷ [])
  with_next = ap (of_source source) next.taken ∙ of-append source (take k ss) (next.s ∷ [])

  -- of the source
  pub spans_segment : get_or sources k 0 ≡ source → {t : List Span} {n : ℕ} → many_of state (chunks_of (of_source source ss)) ≤ length t → SpansOf state so_far end t n
      → {t' : List Span} {n' : ℕ}
      → (many_of state (so_far ++ next.s.chunks) ≤ length t → SpansOf state so_far end t n → SpansOf state (so_far ++ next.s.chunks) end t' n')
      → SpansOf state (chunks_of (of_source source (take (k + 1) ss))) end t' n'
  unfolding chunks_of of_source
  spans_segment is {t} room s more =
      let this : of_source source (next.s ∷ []) ≡ next.s ∷ [] = rw (of_source, eq-eqb next.s.source source (sym next.source ∙ is)) in
      let all : chunks_of (of_source source (take (k + 1) ss)) ≡ so_far ++ next.s.chunks =
      ap chunks_of (with_next ∙ ap (λ (x : List Segment). of_source source (take k ss) ++ x) this) ∙ chunks_append (of_source source (take k ss)) (next.s ∷ [])
      ∙ ap (λ (cs : List Chunk). so_far ++ cs) (append-nil next.s.chunks) in
      let later = of_source source (drop (k + 1) ss) in
      let parts : chunks_of (of_source source ss) ≡ chunks_of (of_source source (take (k + 1) ss)) ++ chunks_of later =
      ap chunks_of (sym (ap (of_source source) (take-append-drop (k + 1) ss)) ∙ of-append source (take (k + 1) ss) (drop (k + 1) ss))
      ∙ chunks_append (of_source source (take (k + 1) ss)) later in
      let fits : many_of state (so_far ++ next.s.chunks) ≤ length t =
      omega (arith, room, ap (many_of state) all, ap (many_of state) parts, many_both state (chunks_of (of_source source (take (k + 1) ss))) (chunks_of later)) in
      spans_same (sym all) (more fits s)

  -- of another
  pub spans_other : (get_or sources k 0 ≡ source → ⊥) → {t : List Span} {n : ℕ} → SpansOf state so_far end t n → SpansOf state (chunks_of (of_source source (take (k + 1) ss))) end t n
  unfolding of_source
  spans_other other s =
      let this : of_source source (next.s ∷ []) ≡ [] = rw (of_source, ne_eqb next.s.source source (λ is. other (next.source ∙ is))) in
      let all = with_next ∙ ap (λ (x : List Segment). of_source source (take k ss) ++ x) this ∙ append-nil (of_source source (take k ss)) in
      spans_same (ap chunks_of (sym all)) s
