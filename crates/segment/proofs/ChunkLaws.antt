-- Laws of a cursor's step: what its entry and its chunk's place decide, and what each answer says.
use Prim.Native.Nat.{ℕ, ◌+◌}
use mathlib.Core.Bool.{Bool, true, false}
use mathlib.Core.List.{List}
use mathlib.Core.Path.{◌≡◌, refl, sym, ap, ap₂, subst, ◌∙◌}
use lib.Dec.{leb}
use Rattle.boxes.specs.Answer.{refused, given}
use Rattle.boxes.specs.Framing.{Box}
use Rattle.boxes.proofs.AnswerLaws.{not_both, given_same, refused_same}
use Rattle.partial.specs.Entries.{Ploc, Entry, entry, place_of, Cursor, chunk_step}
use Rattle.partial.specs.Heading.{Heading}
use Rattle.partial.specs.Limits.{source_limit}
use Rattle.partial.specs.Segments.{Chunk, has_place}
use Rattle.std.specs.Prelude.{Result, Ok, Err}
use Rattle.refusals.specs.declared.Refusal.{Refusal}
use Rattle.refusals.proofs.NumberLaws.{refusal_told}
use Rattle.fields.specs.State.{state_no}
use Rattle.fields.proofs.StateLaws.{state_told}
use Rattle.segment.specs.Chunk.{chunk_of, cursor_of, chunk_answer, Steps}
use Rattle.segment.specs.Data.{Onward}
use Rattle.segment.specs.Placed.{Ready}
use Rattle.segment.specs.declared.chunk.Chunk.{Chunk as CodeChunk}
use Rattle.segment.specs.declared.chunk.Cursor.{Cursor as CodeCursor}
use Rattle.segment.proofs.DataLaws.{one_onward}

module _ (limit : ℕ) (f : List ℕ) (h : Heading) (pseg : ℕ) (l : Ploc) (c : Cursor) where
  pub step_refused : {n : ℕ} → entry f l c.at ≡ refused n → chunk_step limit f h pseg l c ≡ refused n
  unfolding chunk_step
  step_refused fault = simp (chunk_step, fault)

  module _ {e : Entry} (read : entry f l c.at ≡ given e) where
    pub step_far : leb (c.start + e.size) limit ≡ false → chunk_step limit f h pseg l c ≡ refused 23
    unfolding chunk_step
    step_far far = simp (chunk_step, read, far)

    module _ (near : leb (c.start + e.size) limit ≡ true) where
      pub step_unplaced : {n : ℕ} → place_of h pseg e ≡ refused n → chunk_step limit f h pseg l c ≡ refused n
      unfolding chunk_step
      step_unplaced fault = simp (chunk_step, read, near, fault)

      pub step_placed : {place : ℕ} → place_of h pseg e ≡ given place
          → chunk_step limit f h pseg l c
          ≡ given (record { start = c.start; size = e.size; state = e.state; place = place }, record { at = e.next; start = c.start + e.size })
      unfolding chunk_step
      step_placed at = simp (chunk_step, read, near, at)

-- what a chunk says determines it
pub chunk_told : (c d : CodeChunk) → chunk_of c ≡ chunk_of d → c ≡ d
chunk_told c d e = λ i. record { start = record { 0 = (e i).start }; size = (e i).size; state = state_told c.state d.state (λ j. (e j).state) i; place = record { 0 = (e i).place } }

-- the box to be looked at first after a chunk
abbrev After : List ℕ → CodeCursor → List Box → CodeChunk → CodeCursor → Type 0
After f c bs chunk next = Onward f c.last bs (has_place (state_no chunk.state) chunk.size) chunk.place.0 chunk.size next.last

-- what a step tells
module _ {f tops : List ℕ} {mixed : Bool} {pseg : ℕ} {l : Ploc} {c : CodeCursor} where
  pub steps_refused : {r : Result (CodeChunk × CodeCursor) Refusal} {n : ℕ} → chunk_answer r ≡ refused n
      → ((h : Heading) → Ready f tops mixed c.last h → chunk_step source_limit f h pseg l (cursor_of c) ≡ refused n)
      → Steps f tops mixed pseg l c r
  steps_refused told fault =
      record {
        answer = λ h ready. told ∙ sym (fault h ready);
        onward = λ h ready e. absurd (not_both (sym told ∙ ap chunk_answer e));
      }

  pub steps_given : {chunk : CodeChunk} {next : CodeCursor}
      → ((h : Heading) → Ready f tops mixed c.last h → chunk_step source_limit f h pseg l (cursor_of c) ≡ given (chunk_of chunk, cursor_of next))
      → ((h : Heading) → Ready f tops mixed c.last h → After f c h.boxes chunk next)
      → Steps f tops mixed pseg l c (Ok (chunk, next))
  steps_given {chunk} {next} steps onward =
      record {
        answer = λ h ready. sym (steps h ready);
        onward = λ h ready {chunk = chunk'} {next = next'} e.
            let both : ◌≡◌ {A = CodeChunk × CodeCursor} (chunk, next) (chunk', next') = cc in
            let there : chunk ≡ chunk' = ap (λ p. p.0) both in
            let same : next ≡ next' = ap (λ p. p.1) both in
            subst (λ (k : CodeChunk). After f c h.boxes k next') there (subst (After f c h.boxes chunk) same (onward h ready));
      }

  -- two answers about a step are the same
  pub one_step : (h : Heading) → Ready f tops mixed c.last h → (x y : Result (CodeChunk × CodeCursor) Refusal) → Steps f tops mixed pseg l c x → Steps f tops mixed pseg l c y → x ≡ y
  one_step h ready (Err n) (Err m) u v = ap Err (refusal_told n m (refused_same (u.answer h ready ∙ sym (v.answer h ready))))
  one_step h ready (Err n) (Ok (k, b)) u v = absurd (not_both (u.answer h ready ∙ sym (v.answer h ready)))
  one_step h ready (Ok (j, a)) (Err m) u v = absurd (not_both (v.answer h ready ∙ sym (u.answer h ready)))
  one_step h ready (Ok (j, a)) (Ok (k, b)) u v =
      let same : ◌≡◌ {A = Chunk × Cursor} (chunk_of j, cursor_of a) (chunk_of k, cursor_of b) = given_same (u.answer h ready ∙ sym (v.answer h ready)) in
      let chunk : j ≡ k = chunk_told j k (ap (λ (x : Chunk × Cursor). x.0) same) in
      let last : a.last ≡ b.last = one_onward a.last b.last (u.onward h ready refl) (subst (λ (k : CodeChunk). After f c h.boxes k b) (sym chunk) (v.onward h ready refl)) in
      ap₂ (λ j a. Ok (j, a)) chunk (λ i. record { at = record { 0 = (same i).1.at }; start = record { 0 = (same i).1.start }; last = last i })
