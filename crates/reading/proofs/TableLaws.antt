-- Laws of reading into the tables: what each test decides, and what both passes leave.
use Prim.Native.Nat.{ℕ, ◌*◌, ◌≤◌, ◌<◌}
use mathlib.Core.Bool.{Bool, true, false, and-false}
use mathlib.Core.List.{List}
use mathlib.Core.Path.{◌≡◌, refl, ap, ◌∙◌}
use native.Mathlib.Omega.{arith}
use borrow.Author.Tests.{le-leb, lt-leb}
use lib.ListN.{length, take}
use lib.Seq.{take_at}
use Rattle.boxes.specs.Answer.{refused, given}
use Rattle.partial.specs.Answers.{summary_of, read_answer}
use Rattle.partial.specs.Limits.{segment_limit, chunk_limit, source_limit}
use Rattle.partial.specs.Meaning.{known_size, described_length, is_closed}
use Rattle.partial.specs.Memory.{fits, filled, after}
use Rattle.partial.specs.Reading.{reading}
use Rattle.partial.specs.Segments.{Segment, chunks_of}
use Rattle.partial.specs.Sources.{of_source}
use Rattle.partial.specs.Tables.{segment_row_length, chunk_row_length, tabled, segment_rows, chunk_rows, summary}
use Rattle.partial.specs.declared.answers.Tables.{Tables}
use Rattle.std.specs.Prelude.{Option, None, Some, Result, Err, option_map}
use Rattle.std.specs.Option.{is_some}
use Rattle.refusals.specs.Refusals.{refusal_no}
use Rattle.refusals.specs.declared.Refusal.{Refusal}
use Rattle.partial.specs.declared.position.Position.{Position}
use Rattle.filling.specs.Rows.{Put}
use Rattle.filling.proofs.RowLaws.{put_fills}
use Rattle.ends.specs.Sizes.{sizes_of}
use Rattle.ends.specs.declared.sizes.Sizes.{Sizes}
use Rattle.gathering.specs.Kept.{Kept}
use Rattle.gathering.specs.Gathered.{gathered_of}
use Rattle.gathering.specs.declared.gathered.Gathered.{Gathered}
use Rattle.partial.proofs.Reading.LimitLaws.{segments_limited, chunks_few}
use Rattle.partial.proofs.Reading.SmallLaws.{all_small}
use Rattle.partial.proofs.Reading.RowLaws.{segment_rows_long, all_rows_long}
use Rattle.gathering.proofs.GatheredLaws.{gathered-segments}
use Rattle.gathering.proofs.KeptPutLaws.{kept_put}
use Rattle.gathering.proofs.RowLaws.{put_filled}
use Rattle.reading.specs.Judged.{Judged, KeptIn, SourcedIn}
use Rattle.reading.specs.Tables.{Reads}
use Rattle.reading.proofs.JudgedLaws.{Accepted, read_given}

chunk_rows_all : (ss : List Segment) → length (chunk_rows ss) ≡ chunk_row_length * length (chunks_of ss)
unfolding chunk_rows
chunk_rows_all ss = all_rows_long 0 ss

module _ (f a b : List ℕ) where
  pub tabled_refused : {n : ℕ} → reading source_limit f ≡ refused n → tabled source_limit f a b ≡ refused n
  unfolding tabled
  tabled_refused e = rw e

  module _ (ss : List Segment) (read : reading source_limit f ≡ given ss) where
    pub segments_short : length a < segment_row_length * length ss → tabled source_limit f a b ≡ refused 26
    unfolding tabled fits
    segments_short short = rw (read, lt-leb (length (segment_rows ss)) (length a) (omega (arith, segment_rows_long ss)))

    pub chunks_short : length b < chunk_row_length * length (chunks_of ss) → tabled source_limit f a b ≡ refused 26
    unfolding tabled fits
    chunks_short short = rw (read, lt-leb (length (chunk_rows ss)) (length b) (omega (arith, chunk_rows_all ss)), and-false)

    pub tabled_given : segment_row_length * length ss ≤ length a → chunk_row_length * length (chunks_of ss) ≤ length b → tabled source_limit f a b ≡ given ss
    unfolding tabled fits
    tabled_given one two =
        rw (
          read,
          le-leb (length (segment_rows ss)) (length a) (omega (arith, segment_rows_long ss)),
          le-leb (length (chunk_rows ss)) (length b) (omega (arith, chunk_rows_all ss)),
        )

  -- after a refusal both tables are as they were
  pub reads_refused : (source : ℕ) {n : Refusal} → tabled source_limit f a b ≡ refused (refusal_no n) → Reads f source a a b b (Err n)
  unfolding after
  reads_refused source e = record { answer = rw e; tables = rw e (record { segment_table = refl; chunk_table = refl }) }

  -- of an accepted file they are filled
  pub reads_given : {a' b' : List ℕ} {r : Result Tables Refusal} (source : ℕ) (ss : List Segment) → tabled source_limit f a b ≡ given ss → read_answer r ≡ given (summary source ss)
      → a' ≡ filled (segment_rows ss) a → b' ≡ filled (chunk_rows ss) b → Reads f source a a' b b' r
  unfolding after
  reads_given source ss e answer one two = record { answer = rw e answer; tables = rw e (record { segment_table = one; chunk_table = two }) }

-- whether the size is known
closed_told : (known : Option ℕ) → is_some {T = Position} (option_map (λ n. record { 0 = n }) known) ≡ elim known [ Some n ↦ true | None ↦ false ]
closed_told (Some n) = refl
closed_told None = refl

-- what is gathered of segments and what their ends say is what is answered of them
pub answered : {g : Gathered} {x : Sizes} (source : ℕ) (ss : List Segment) → g ≡ gathered_of ss → x ≡ sizes_of (of_source source ss)
    → (described : Position) → described.0 ≡ described_length (of_source source ss)
    → {closed : Bool} → closed ≡ is_some x.size
    → given (summary_of (record { segments = g.segments; chunks = g.chunks; sources = g.sources; described = described; closed = closed })) ≡ given (summary source ss)
unfolding summary gathered_of sizes_of is_closed
answered source ss e said described long closed =
    let known = closed ∙ ap (λ x. is_some x.size) said ∙ closed_told (known_size (of_source source ss)) in
    λ i. given (record { segments = (e i).segments; chunks = (e i).chunks; sources = (e i).sources; described = long i; closed = known i })

-- rows that fit fill a table
pub segments-filled : (ss : List Segment) {a a' : List ℕ} → Put a 0 (segment_rows ss) a' → segment_row_length * length ss ≤ length a → a' ≡ filled (segment_rows ss) a
segments-filled ss put room = put_filled (segment_rows ss) put (omega (arith, segment_rows_long ss))

pub chunks_filled : (ss : List Segment) {b b' : List ℕ} → Put b 0 (chunk_rows ss) b' → chunk_row_length * length (chunks_of ss) ≤ length b → b' ≡ filled (chunk_rows ss) b
chunks_filled ss put room = put_filled (chunk_rows ss) put (omega (arith, chunk_rows_all ss))

-- own tables with room for as much as a file may have keep an accepted one
module _ {f : List ℕ} {j : Judged} (a : Accepted f j) {t₀ t u₀ u : List ℕ} (kept : KeptIn (reading source_limit f) t₀ t u₀ u) (room : segment_row_length * segment_limit ≤ length t₀) where
  pub accepted_few : j.gathered.segments ≤ segment_limit
  accepted_few = omega (arith, gathered-segments a.ss a.gathered, segments_limited source_limit f a.h a.all)

  pub accepted_rows : take (segment_row_length * j.gathered.segments) t ≡ segment_rows a.ss
  accepted_rows =
      let many = gathered-segments a.ss a.gathered in
      let full = put_fills (segment_rows a.ss) (kept a.ss (read_given f a)).0 (omega (arith, segment_rows_long a.ss, accepted_few)) in
      ap (take (segment_row_length * j.gathered.segments)) full ∙ take_at (segment_rows a.ss) _ (segment_row_length * j.gathered.segments) (omega (arith, segment_rows_long a.ss))

  pub accepted_kept : {n l : List ℕ} → SourcedIn f (reading source_limit f) n l → chunk_limit ≤ length u₀ → Kept t j.gathered.segments n u a.ss
  accepted_kept sourced space =
      let (rows, numbers) = kept a.ss (read_given f a) in
      kept_put a.ss (all_small source_limit f a.h a.head a.all) (segments_limited source_limit f a.h a.all) (chunks_few source_limit f a.h a.all)
      (gathered-segments a.ss a.gathered) room space rows (sourced a.ss (read_given f a) a.h a.head).sources numbers
