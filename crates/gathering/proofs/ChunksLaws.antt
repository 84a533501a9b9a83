-- Laws of the chunks of a `ploc`, read one after another: what the next entry decides, and that nothing may be left
-- over.
use Prim.Native.Nat.{ℕ, zero, suc, ◌+◌, ◌-◌, ◌*◌, ◌<◌, ◌≤◌}
use mathlib.Core.Bool.{Bool}
use mathlib.Core.List.{List, [], ◌∷◌, ◌++◌, append-nil, append_assoc, map}
use mathlib.Core.Path.{◌≡◌, refl, sym, ap, ◌∙◌}
use native.Mathlib.Nat.{mul-add}
use native.Mathlib.Omega.{arith}
use borrow.Author.Tests.{eq-eqb, ne_eqb}
use lib.ListN.{length, length-append}
use Rattle.boxes.specs.Answer.{Answer, refused, given, ◌>>=◌}
use Rattle.boxes.proofs.AnswerLaws.{then-then, then-given}
use Rattle.partial.specs.Entries.{Ploc, Cursor as At, chunk_step, chunks_from}
use Rattle.partial.specs.Heading.{Heading}
use Rattle.partial.specs.Limits.{chunk_limit, source_limit}
use Rattle.partial.specs.Segments.{Chunk}
use Rattle.partial.specs.Sequences.{sum}
use Rattle.partial.proofs.Reading.ReadingLaws.{step_told}
use Rattle.fields.specs.Location.{ploc_of}
use Rattle.fields.specs.declared.location.Location.{Location}
use Rattle.segment.specs.Chunk.{chunk_of, cursor_of}
use Rattle.segment.specs.Data.{Searched}
use Rattle.segment.specs.declared.chunk.Chunk.{Chunk as CodeChunk}
use Rattle.segment.specs.declared.chunk.Cursor.{Cursor}
use Rattle.filling.specs.Rows.{Put}
use Rattle.filling.proofs.RowLaws.{put_none, put_more, put_same}
use Rattle.gathering.specs.Forms.{form_length, put_of, puts_of}
use Rattle.gathering.specs.Chunks.{chunks_by, Ran, Behind, Chunked}
use Rattle.std.specs.Prelude.{Ok}
use Rattle.gathering.specs.declared.gathered.Gathered.{Gathered}
use Rattle.gathering.proofs.FormLaws.{puts_none, puts_long, puts_behind, puts_last}

module _ (limit : ℕ) (f : List ℕ) (h : Heading) (pseg : ℕ) (l : Ploc) (c : At) where
  chunks_refused : (more : ℕ) {n : ℕ} → chunk_step limit f h pseg l c ≡ refused n → chunks_from limit f h pseg l (suc more) c ≡ refused n
  unfolding chunks_from
  chunks_refused more e = rw e

  chunks_more : (more : ℕ) {met : Chunk × At} → chunk_step limit f h pseg l c ≡ given met
      → chunks_from limit f h pseg l (suc more) c ≡ (chunks_from limit f h pseg l more met.1 >>= λ rest. given (met.0 ∷ rest))
  unfolding chunks_from
  chunks_more more e = rw e

  chunks_left : (c.at ≡ l.end → ⊥) → chunks_from limit f h pseg l zero c ≡ refused 17
  unfolding chunks_from
  chunks_left apart = rw (ne_eqb c.at l.end apart)

  chunks_end : c.at ≡ l.end → chunks_from limit f h pseg l zero c ≡ given []
  unfolding chunks_from
  chunks_end same = rw (eq-eqb c.at l.end same)

sizes_last : (cs : List Chunk) (c : Chunk) → sum (map (λ c. c.size) (cs ++ (c ∷ []))) ≡ sum (map (λ c. c.size) cs) + c.size
unfolding sum
sizes_last [] c = omega arith
sizes_last (x ∷ cs) c = omega (arith, sizes_last cs c)

-- the chunks of so many entries were read, and the entries that are left decide
pub record Midway (f : List ℕ) (h : Heading) (pseg : ℕ) (l : Location) (first : Cursor) (before : Gathered) (numbered : Bool) (t₀ : List ℕ) (i : ℕ) (c : Cursor) (t : List ℕ) : Type 0 where
  pub done : List Chunk
  pub many : length done ≡ i
  pub ran : Ran f h.boxes first before numbered t₀ done c t
  pub rest : chunks_by f h pseg l first ≡ (chunks_from source_limit f h pseg (ploc_of l) (l.count - i) (cursor_of c) >>= λ cs. given (done ++ cs))

module _ (f : List ℕ) (h : Heading) (pseg : ℕ) (l : Location) (first : Cursor) (before : Gathered) (numbered : Bool) (t₀ : List ℕ) where
  -- the chunks of so many entries from a cursor on
  abbrev from : ℕ → Cursor → Answer (List Chunk)
  from more c = chunks_from source_limit f h pseg (ploc_of l) more (cursor_of c)

  pub midway_none : Searched f first.last h.boxes → Midway f h pseg l first before numbered t₀ 0 first t₀
  unfolding sum
  midway_none known =
      let all : l.count ≡ l.count - 0 = omega arith in
      record {
        done = [];
        many = refl;
        ran = record { ends = omega arith; known = known; rows = put_same refl (sym (puts_none numbered before.segments)) (put_none t₀ _) };
        rest = sym (then-given (from l.count first)) ∙ ap (λ (n : ℕ). from n first >>= given) all;
      }

  module _ {i : ℕ} {c : Cursor} {t : List ℕ} (m : Midway f h pseg l first before numbered t₀ i c t) where
    -- what was put leaves the chunks of the segments before
    pub midway_behind : i ≤ l.count → before.chunks + l.count ≤ chunk_limit → Behind numbered before.chunks t₀ t
    midway_behind most few = puts_behind numbered before.segments before.chunks m.done (omega (arith, m.many)) m.ran.rows

    module _ (short : i < l.count) where
      left_one : l.count - i ≡ suc (l.count - (i + 1))
      left_one = omega arith

      pub midway_refused : {n : ℕ} → chunk_step source_limit f h pseg (ploc_of l) (cursor_of c) ≡ refused n → chunks_by f h pseg l first ≡ refused n
      midway_refused fault =
          let now = ap (λ (n : ℕ). from n c) left_one ∙ chunks_refused source_limit f h pseg (ploc_of l) (cursor_of c) (l.count - (i + 1)) fault in
          m.rest ∙ ap (λ (x : Answer (List Chunk)). x >>= λ cs. given (m.done ++ cs)) now

      module _ (chunk : CodeChunk) (next : Cursor) {t' : List ℕ}
          (step : chunk_step source_limit f h pseg (ploc_of l) (cursor_of c) ≡ given (chunk_of chunk, cursor_of next))
          (known : Searched f next.last h.boxes)
          (row : Put t (form_length numbered * (before.chunks + i)) (put_of numbered before.segments i (chunk_of chunk)) t') where
        further : chunks_by f h pseg l first ≡ (from (l.count - (i + 1)) next >>= λ cs. given ((m.done ++ (chunk_of chunk ∷ [])) ++ cs))
        further =
            let now = ap (λ (n : ℕ). from n c) left_one ∙ chunks_more source_limit f h pseg (ploc_of l) (cursor_of c) (l.count - (i + 1)) step in
            let later = from (l.count - (i + 1)) next in
            m.rest
            ∙ ap (λ (x : Answer (List Chunk)). x >>= λ cs. given (m.done ++ cs)) now
            ∙ then-then later (λ cs. given (chunk_of chunk ∷ cs)) (λ cs. given (m.done ++ cs))
            ∙ (λ j. later >>= λ cs. given (sym (append_assoc m.done (chunk_of chunk ∷ []) cs) j))

        behind : Put t₀ (form_length numbered * before.chunks) (puts_of numbered before.segments (m.done ++ (chunk_of chunk ∷ []))) t'
        behind =
            let rows = puts_of numbered before.segments m.done in
            let long : form_length numbered * (before.chunks + i) ≡ form_length numbered * before.chunks + length rows = mul-add (form_length numbered) before.chunks i ∙ ap (λ (n : ℕ). form_length numbered * before.chunks + n) (sym (puts_long numbered before.segments m.done ∙ ap (λ (n : ℕ). form_length numbered * n) m.many)) in
            let last = puts_last numbered before.segments m.done (chunk_of chunk) ∙ ap (λ (n : ℕ). rows ++ put_of numbered before.segments n (chunk_of chunk)) m.many in
            rw last (put_more (form_length numbered * before.chunks) rows _ m.ran.rows (rw long at row))

        pub midway_more : Midway f h pseg l first before numbered t₀ (i + 1) next t'
        midway_more =
            let (_, on, _) = step_told source_limit f h pseg (ploc_of l) (cursor_of c) step in
            record {
              done = m.done ++ (chunk_of chunk ∷ []);
              many = omega (arith, length-append m.done (chunk_of chunk ∷ []), m.many);
              ran =
                  record {
                    ends = omega (arith, on, m.ran.ends, sizes_last m.done (chunk_of chunk));
                    known = known;
                    rows = behind;
                  };
              rest = further;
            }

    module _ (all : l.count ≤ i) where
      none_left : l.count - i ≡ 0
      none_left = omega arith

      pub midway_left : (c.at.0 ≡ l.end.0 → ⊥) → chunks_by f h pseg l first ≡ refused 17
      midway_left apart =
          let now = ap (λ (n : ℕ). from n c) none_left ∙ chunks_left source_limit f h pseg (ploc_of l) (cursor_of c) apart in
          m.rest ∙ ap (λ (x : Answer (List Chunk)). x >>= λ cs. given (m.done ++ cs)) now

      pub midway_end : i ≤ l.count → c.at.0 ≡ l.end.0 → Chunked f h pseg l first before numbered t₀ t (Ok c)
      unfolding Chunked
      midway_end most same =
          let now = ap (λ (n : ℕ). from n c) none_left ∙ chunks_end source_limit f h pseg (ploc_of l) (cursor_of c) same in
          let whole = m.rest ∙ ap (λ (x : Answer (List Chunk)). x >>= λ cs. given (m.done ++ cs)) now ∙ ap given (append-nil m.done) in
          (m.done, whole, omega (arith, m.many), m.ran)
