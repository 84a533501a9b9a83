-- Laws of a `pseg` beside the segments kept before it: what is kept so far where it is refused, and with it.
use Prim.Native.Nat.{ℕ, ◌+◌, ◌*◌, ◌≤◌, ◌<◌}
use mathlib.Core.Bool.{true}
use mathlib.Core.List.{List, [], ◌∷◌, ◌++◌}
use mathlib.Core.Path.{◌≡◌, refl, sym, ap, subst, ◌∙◌}
use native.Mathlib.Omega.{arith}
use borrow.Author.Tests.{leb-true}
use lib.Dec.{ltb}
use lib.ListN.{length, take}
use Rattle.std.specs.Prelude.{Option, Result, Ok, Err}
use Rattle.refusals.specs.Refusals.{refusal_no}
use Rattle.refusals.specs.declared.Refusal.{Refusal}
use Rattle.boxes.specs.Answer.{refused, given, told_as}
use Rattle.boxes.specs.Framing.{box_of}
use Rattle.boxes.specs.declared.framing.Framed.{Framed}
use Rattle.boxes.proofs.AnswerLaws.{given_same}
use Rattle.numerals.proofs.StoredLaws.{take-stored}
use Rattle.partial.specs.Heading.{Heading}
use Rattle.partial.specs.Limits.{segment_limit, chunk_limit, layer_limit, source_limit}
use Rattle.partial.specs.Reading.{segment}
use Rattle.partial.specs.Segments.{Segment, chunks_of, end_of}
use Rattle.partial.specs.Sources.{source_count, source_beside, agreed}
use Rattle.partial.specs.Sequences.{all_of, largest}
use Rattle.partial.specs.Texts.{list_boxes}
use Rattle.partial.proofs.Meaning.SourceLaws.{numbered_none, numbered_more}
use Rattle.partial.proofs.Reading.NumberedLaws.{segment_beside}
use Rattle.sources.specs.Held.{SourceOf}
use Rattle.filling.specs.Rows.{Put}
use Rattle.segment.specs.declared.chunk.Cursor.{Cursor}
use Rattle.gathering.specs.Chunks.{Behind}
use Rattle.gathering.specs.Forms.{form_length, puts_of, all_puts}
use Rattle.gathering.specs.Gathered.{gathered_of}
use Rattle.gathering.specs.Keeping.{late_held, LateTold, SoFar, Tried}
use Rattle.gathering.specs.Numbers.{numbers_of}
use Rattle.gathering.specs.Basis.{Based}
use Rattle.gathering.specs.Noted.{Noted}
use Rattle.gathering.specs.declared.basis.Basis.{Basis}
use Rattle.gathering.specs.declared.tables.SourceTables.{SourceTables}
use Rattle.gathering.specs.Parts.{parts_of}
use Rattle.gathering.specs.Step.{chosen_list, Beside, Entered, PsegOf, Segmented}
use Rattle.gathering.specs.declared.gathered.Gathered.{Gathered}
use Rattle.gathering.specs.declared.parts.Parts.{Parts}
use Rattle.gathering.proofs.FormLaws.{puts_behind, puts_long, all_puts_last}
use Rattle.gathering.proofs.GatheredLaws.{gathered-segments, gathered_chunks, chunks_last}
use Rattle.gathering.proofs.LateLaws.{late_passed, beside_late, beside_kept}
use Rattle.gathering.proofs.StepLaws.{built, any_told, inside, next_list, segment_read, segment-told}

-- by their numbers chunks take one number each
one_each : (n : ℕ) → form_length true * n ≡ n
unfolding form_length
one_each n = omega arith

-- the numbers of the chunks of segments, with one segment more
module _ (kept : List Segment) (s : Segment) {u₀ u : List ℕ} (held : take (length (chunks_of kept)) u₀ ≡ numbers_of kept) where
  pub numbers_more : length u₀ ≡ chunk_limit → length (chunks_of kept) + length s.chunks ≤ chunk_limit
      → Put u₀ (form_length true * length (chunks_of kept)) (puts_of true (length kept) s.chunks) u
      → take (length (chunks_of (kept ++ (s ∷ [])))) u ≡ numbers_of (kept ++ (s ∷ []))
  unfolding all_puts
  numbers_more long few put =
      let rows = puts_of true (length kept) s.chunks in
      let many : length rows ≡ length s.chunks = puts_long true (length kept) s.chunks ∙ one_each (length s.chunks) in
      let at = form_length true * length (chunks_of kept) in
      let here = one_each (length (chunks_of kept)) in
      let room : at + length rows ≤ length u₀ = omega arith in
      let all : length (chunks_of (kept ++ (s ∷ []))) ≡ at + length rows = omega (arith, chunks_last kept s) in
      ap (λ (n : ℕ). take n u) all
      ∙ ap (take (at + length rows)) (put.held room)
      ∙ take-stored u₀ at rows room
      ∙ ap (λ (n : ℕ). take n u₀ ++ rows) here
      ∙ ap (λ (ns : List ℕ). ns ++ rows) held
      ∙ sym (all_puts_last true kept s)

-- no segment is kept yet
pub so_far_none : (f : List ℕ) (h : Heading) {g : Gathered} {u : List ℕ} {n : SourceTables} → g ≡ gathered_of [] → Noted f h n [] → SoFar f h g u n []
unfolding chunks_of numbers_of agreed all_of source_count largest
so_far_none f h none clear =
    record { gathered = none; numbers = refl; numbered = numbered_none; noted = clear; agrees = refl; few = omega arith }

module _ (f : List ℕ) (h : Heading) (kept : List Segment) {before : Gathered} {u₀ : List ℕ} {n : SourceTables} (so : SoFar f h before u₀ n kept) where
  -- where it is refused they stay as they are
  pub so_far_same : {u : List ℕ} → length u₀ ≡ chunk_limit → Behind true before.chunks u₀ u → SoFar f h before u n kept
  unfolding form_length
  so_far_same {u} long behind =
      let chunks : form_length true * before.chunks ≡ length (chunks_of kept) = one_each before.chunks ∙ gathered_chunks kept so.gathered in
      record {
        gathered = so.gathered;
        numbers = subst (λ (n : ℕ). take n u ≡ take n u₀) chunks (behind (omega arith)) ∙ so.numbers;
        numbered = so.numbered;
        noted = so.noted;
        agrees = so.agrees;
        few = so.few;
      }

  module _ (short : before.segments < segment_limit) where
    pub few : length kept < segment_limit
    few = omega (arith, gathered-segments kept so.gathered)

    besides : Beside f h before n kept
    besides = record { gathered = so.gathered; few = few; numbered = so.numbered; noted = so.noted }

    module _ {basis : Basis} (based : Based f h basis) where
      pub listed : basis.listed ≡ ltb 0 (length h.urls)
      listed = any_told f h based

      module _ (b : Framed) {u : List ℕ} {last : Framed} {p : Parts} {c : Cursor} (r : PsegOf f h b basis.listed before last true u₀ u p c) (fits : before.chunks + p.location.count ≤ chunk_limit) (ends : b.end.0 ≤ length f) where
        -- the segment that was read
        abbrev pub its : Segment
        its = built f h kept b.at.0 (inside f h kept b listed p r.parts).0 (parts_of p) r.chunks

        low : length (chunks_of kept) + p.location.count ≤ chunk_limit
        low = omega (arith, gathered_chunks kept so.gathered)

        read : segment source_limit f h kept (box_of b) ≡ given its
        read = segment_read f h kept b listed p r.parts low r.near last r.read

        -- 25 and 40, by its source
        pub its_late : {source : ℕ} (late : Result (Unit {0}) Refusal) → SourceOf f n.lists before.sources (chosen_list b p.listed basis.list) source
            → LateTold n.sizes source p.fields.flags p.location.count c.start.0 late
            → told_as (λ x. x) late ≡ late_held (kept ++ (its ∷ []))
        unfolding end_of
        its_late late found told =
            let next = next_list f h kept b listed p r.parts ends based.in_pfil besides r.chunks in
            let number = found h kept (list_boxes h its) next.sources next.numbered so.noted.sourced.lists next.stands ∙ ap (source_beside kept) next.urls ∙ sym next.number in
            told kept its number so.noted.sizes refl (sym r.many) r.ran.ends so.agrees so.few

        pub tried_late : (m : Refusal) → length u₀ ≡ chunk_limit → late_held (kept ++ (its ∷ [])) ≡ refused (refusal_no m) → Tried f h kept (box_of b) before u n (Err m)
        unfolding Tried
        tried_late m long late =
            (beside_late f h kept (box_of b) few read late, so_far_same long (puts_behind true before.segments before.chunks r.chunks (omega (arith, r.many)) r.ran.rows))

        pub tried_kept : {g : Gathered} {t₀ t : List ℕ} {n' : SourceTables} → length u₀ ≡ chunk_limit → late_held (kept ++ (its ∷ [])) ≡ given tt
            → Entered f (chosen_list b p.listed basis.list) before b.at.0 p c.start.0 t₀ t n n' g
            → Tried f h kept (box_of b) before u n' (Ok (g, c.last))
        unfolding Tried Segmented
        tried_kept {g} {n' = n'} long none entered =
            let (s, again, gathered, known, _, put, noted) = segment-told f h kept b listed p r.parts low r.near last ends based.in_pfil besides r.read r.many r.ran entered in
            let same : its ≡ s = given_same (sym read ∙ again) in
            let none-late = ap (λ (s : Segment). late_held (kept ++ (s ∷ []))) (sym same) ∙ none in
            let (agrees, sources) = late_passed (kept ++ (s ∷ [])) none-late in
            let many : length s.chunks ≡ p.location.count = sym (ap (λ (s : Segment). length s.chunks) same) ∙ r.many in (
              s,
              beside_kept f h kept (box_of b) few again none-late,
              record {
                gathered = gathered;
                numbers = numbers_more kept s so.numbers long (omega (arith, low)) put;
                numbered = numbered_more kept so.numbered s (segment_beside source_limit f h kept (box_of b) again);
                noted = noted;
                agrees = agrees;
                few = leb-true (source_count (kept ++ (s ∷ []))) layer_limit sources;
              },
              known,
            )
