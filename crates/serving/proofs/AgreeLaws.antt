-- Serving and asking agree: a part is handed back exactly where asking answers served, and it is as long as that answer
-- says.
use Prim.Native.Nat.{ℕ}
use mathlib.Core.Bool.{false}
use mathlib.Core.List.{List}
use mathlib.Core.Logic.{inl, inr}
use mathlib.Core.Path.{◌≡◌, refl, sym, ap, ◌∙◌}
use native.Mathlib.Decide.{dec_le}
use native.Mathlib.Omega.{arith}
use lib.ListN.{length}
use Rattle.std.specs.Prelude.{Result}
use Rattle.refusals.specs.declared.Refusal.{Refusal}
use Rattle.boxes.specs.Answer.{Answer, refused, given}
use Rattle.partial.specs.Answers.{asked_answer}
use Rattle.partial.specs.Limits.{source_limit}
use Rattle.partial.specs.Meaning.{supplied, described_length, Reply, reply}
use Rattle.partial.specs.Segments.{Segment}
use Rattle.partial.specs.Sources.{of_source}
use Rattle.partial.specs.Tables.{tabled, part_of, served_part, asked, nowhere}
use Rattle.partial.specs.Heading.{bytes_in}
use Rattle.partial.specs.declared.answers.Asked.{Asked}
use Rattle.partial.proofs.Meaning.SequenceLaws.{which}
use Rattle.partial.proofs.Reading.PartLaws.{headed_read, tabled_read}
use Rattle.partial.proofs.Reading.ReadingLaws.{mapped_of}
use Rattle.serving.specs.Calls.{served_count, Serves, Asks}

-- of the definitions: after a refusal, and by what is replied of an accepted file
agrees_refused : (f : List ℕ) (source p n : ℕ) → length (bytes_in f (served_part (refused n) source p)) ≡ served_count (asked (refused n) source p)
unfolding served_part bytes_in nowhere asked served_count
agrees_refused f source p n = refl

agrees_by : (f : List ℕ) (source p : ℕ) (ss : List Segment) {x : Reply} {n : ℕ} → reply (of_source source ss) p ≡ x → length (bytes_in f (part_of (of_source source ss) p)) ≡ n → served_count (given x) ≡ n
    → length (bytes_in f (served_part (given ss) source p)) ≡ served_count (asked (given ss) source p)
unfolding served_part asked
agrees_by f source p ss told long count = long ∙ sym count ∙ sym (ap (λ (x : Reply). served_count (given x)) told)

-- a part that is not served is empty
empty : (f : List ℕ) (p : ℕ) (ss : List Segment) → supplied ss p ≡ false → length (bytes_in f (part_of ss p)) ≡ 0
unfolding part_of bytes_in nowhere
empty f p ss lacks = rw (part_of, lacks)

agrees : (f : List ℕ) (source : ℕ) (a b : List ℕ) (p : ℕ) → length (bytes_in f (served_part (tabled source_limit f a b) source p)) ≡ served_count (asked (tabled source_limit f a b) source p)
unfolding served_count
agrees f source a b p = go (tabled source_limit f a b) refl
  where
    go : (x : Answer (List Segment)) → tabled source_limit f a b ≡ x → length (bytes_in f (served_part x source p)) ≡ served_count (asked x source p)
    go (refused n) e = agrees_refused f source p n
    go (given ss) e =
        let read = tabled_read source_limit f a b e in
        let (h, head) = headed_read source_limit f read in
        let mapped = mapped_of source_limit f head read source in
        let mine = of_source source ss in
        elim (which (supplied mine p)) [
          | inl there ↦
              let s = mapped.serving p (rw there tt) in
              agrees_by f source p ss s.told s.long refl
          | inr lacks ↦
              elim (dec_le (described_length mine) p) [
                | yes past ↦ agrees_by f source p ss (mapped.beyond p past) (empty f p mine lacks) refl
                | no below ↦ agrees_by f source p ss (mapped.missing p (omega arith) lacks).told (empty f p mine lacks) refl
              ]
        ]

-- of the calls: what serving hands back is as long as asking says
pub serve_ask : {f segments segments₁ segments₂ chunks chunks₁ chunks₂ bytes : List ℕ} {file there : ℕ × ℕ} {source p : ℕ} {r : Result Asked Refusal}
    → Serves f file source segments segments₁ chunks chunks₁ p there bytes → Asks f source segments segments₂ chunks chunks₂ p r
    → length bytes ≡ served_count (asked_answer r)
serve_ask {f} {segments = segments} {chunks = chunks} {source = source} {p = p} s a = ap length s.part.holds ∙ agrees f source segments chunks p ∙ sym (ap served_count a.answer)
