-- Laws of serving and asking: what reading tells them, and what the run of a position answers.
use Prim.Native.Nat.{ℕ, ◌+◌, ◌-◌, ◌^◌, ◌<◌, ◌≤◌, min}
use mathlib.Core.Bool.{true, false}
use mathlib.Core.List.{List}
use mathlib.Core.Logic.{inl, inr}
use mathlib.Core.Path.{◌≡◌, refl, sym, ap, ◌∙◌}
use native.Mathlib.Omega.{arith}
use borrow.Author.Tests.{lt-ltb}
use lib.ListN.{length, take, drop, length-take, length-drop}
use Rattle.boxes.specs.Answer.{Answer, refused, given, ◌>>=◌}
use Rattle.boxes.proofs.AnswerLaws.{given_same, both_given}
use Rattle.std.specs.Prelude.{None, Some, Result, Ok, Err, is_some}
use Rattle.refusals.specs.Refusals.{refusal_no}
use Rattle.refusals.specs.declared.Refusal.{Refusal}
use Rattle.boxes.proofs.ToldLaws.{told-ok, told-err}
use Rattle.partial.specs.Answers.{summary_of}
use Rattle.partial.specs.Limits.{source_limit}
use Rattle.partial.specs.Meaning.{supplied, described_length, chunk_for, place_of_byte, served_run, onward, reply, served_for, missing_for, not_below}
use Rattle.partial.specs.Memory.{after}
use Rattle.partial.specs.Segments.{Chunk, Segment, chunks_of}
use Rattle.partial.specs.Sources.{of_source}
use Rattle.partial.specs.Tables.{tabled, chunk_rows, summary, Summary, part_of, served_part, asked, nowhere}
use Rattle.partial.specs.Heading.{bytes_in}
use Rattle.partial.specs.declared.answers.Tables.{Tables}
use Rattle.partial.proofs.Meaning.RunLaws.{missing-run}
use Rattle.partial.proofs.Meaning.SequenceLaws.{which}
use Rattle.partial.proofs.Meaning.ServingLaws.{beyond}
use Rattle.partial.proofs.Reading.PartLaws.{headed_read, tabled_read}
use Rattle.partial.proofs.Reading.ReadingLaws.{mapped_of}
use Rattle.reading.specs.Parts.{handed}
use Rattle.reading.specs.Tables.{Reads}
use Rattle.reading.proofs.JudgedLaws.{first_refused}
use Rattle.reading.proofs.PartLaws.{handed_whole}
use Rattle.segment.specs.Chunk.{chunk_of}
use Rattle.segment.specs.declared.chunk.Chunk.{Chunk as CodeChunk}
use Rattle.sources.specs.Held.{SourcesHeld}
use Rattle.supplying.specs.Rows.{chunks_in}
use Rattle.supplying.specs.Runs.{is_supplied, supplied_by, same_run, run_chunk, RunIn}
use Rattle.supplying.specs.declared.runs.Run.{Run}
use Rattle.supplying.proofs.RowsLaws.{filled_chunks}

-- what reading tells of a source of a file that it read into the tables: the file's segments, and that so many rows
-- hold the chunks of the source
pub record Told (f : List ℕ) (source : ℕ) (a b sources b' : List ℕ) (count described : ℕ) : Type 0 where
  pub ss : List Segment
  pub read : tabled source_limit f a b ≡ given ss
  pub rows : chunks_in sources source b' count ≡ chunks_of (of_source source ss)
  pub long : described ≡ described_length (of_source source ss)

module _ {f : List ℕ} {source : ℕ} {a a' b b' : List ℕ} {r : Result Tables Refusal} (t : Reads f source a a' b b' r) where
  pub told_refused : {n : Refusal} → r ≡ Err n → tabled source_limit f a b ≡ refused (refusal_no n)
  told_refused e = first_refused (tabled source_limit f a b) (summary source) (told-err summary_of t.answer e)

  pub told_given : {sources : List ℕ} → ((ss : List Segment) → tabled source_limit f a b ≡ given ss → SourcesHeld sources ss)
      → {read : Tables} → r ≡ Ok read
      → Told f source a b sources b' read.chunks read.described.0
  unfolding summary after
  told_given {sources} held e =
      let (ss, read, same) = both_given (tabled source_limit f a b) _ (told-ok summary_of t.answer e) in
      let says = given_same same in
      let many = sym (ap (λ (s : Summary). s.chunks) says) in
      let table = t.tables.chunk_table ∙ ap (λ x. after chunk_rows x b) read in
      record {
        ss = ss;
        read = read;
        rows = (λ i. chunks_in sources source (table i) (many i)) ∙ filled_chunks sources source ss b (held ss read);
        long = sym (ap (λ (s : Summary). s.described) says);
      }

-- a part that is served lies in the file
module _ (f : List ℕ) (source : ℕ) (a b : List ℕ) where
  served-fits : {ss : List Segment} → tabled source_limit f a b ≡ given ss → (p : ℕ) → supplied (of_source source ss) p ≡ true
      → place_of_byte (of_source source ss) p + served_run (of_source source ss) p ≤ length f
  unfolding part_of bytes_in
  served-fits {ss} known p there =
      let read = tabled_read source_limit f a b known in
      let (h, head) = headed_read source_limit f read in
      let s = (mapped_of source_limit f head read source).serving p (rw there tt) in
      let mine = of_source source ss in
      let long : length (take (served_run mine p) (drop (place_of_byte mine p) f)) ≡ served_run mine p = rw (part_of, there) at s.long in
      omega (arith, s.not_empty, simp (length-take, length-drop) at long)

  -- so it is handed back whole, and an empty one where none is
  pub served-handed : (p : ℕ) → handed f (tabled source_limit f a b >>= λ ss. given (served_part (given ss) source p)) ≡ served_part (tabled source_limit f a b) source p
  unfolding handed served_part part_of nowhere
  served-handed p = go (tabled source_limit f a b) refl
    where
      go : (x : Answer (List Segment)) → tabled source_limit f a b ≡ x → handed f (x >>= λ ss. given (served_part (given ss) source p)) ≡ served_part x source p
      go (refused n) e = refl
      go (given ss) e =
          handed_whole f (part_of (of_source source ss) p)
          (elim (which (supplied (of_source source ss) p)) [
            | inl there ↦ rw (part_of, there) (served-fits e p there)
            | inr lacks ↦ rw (part_of, lacks) (omega arith)
          ])

-- the run of a position in the rows is that of the source
module _ {f : List ℕ} {source : ℕ} {a b sources b' : List ℕ} {count described : ℕ} (t : Told f source a b sources b' count described) (p : ℕ) {r : Run}
    (e : RunIn (chunks_in sources source b' count) p described r) where
  abbrev mine : List Segment
  mine = of_source source t.ss

  run_length : r.length ≡ served_run mine p
  unfolding same_run served_run onward
  run_length = e.long ∙ (λ i. same_run (t.rows i) p (t.long i))

  is-supplied : is_some r.chunk ≡ supplied mine p
  unfolding supplied
  is-supplied = e.supplied ∙ ap (λ (cs : List Chunk). is_supplied cs p) t.rows

  by-chunk : run_chunk r.chunk ≡ chunk_for mine p
  by-chunk = e.chunk ∙ ap (λ (cs : List Chunk). supplied_by cs p) t.rows

  -- what asking answers
  asked_by : {x : _} → reply mine p ≡ x → asked (tabled source_limit f a b) source p ≡ given x
  unfolding asked
  asked_by same = rw (t.read, same)

  pub asked-served : p < described → true ≡ is_some r.chunk → given (served_for r.length) ≡ asked (tabled source_limit f a b) source p
  unfolding reply
  asked-served below there =
      let here = sym is-supplied ∙ sym there in
      sym (asked_by (rw (reply, lt-ltb p (described_length mine) (omega (arith, t.long)), here, run_length)))

  pub asked-missing : p < described → false ≡ is_some r.chunk → given (missing_for r.length) ≡ asked (tabled source_limit f a b) source p
  unfolding reply
  asked-missing below none =
      let lacks = sym is-supplied ∙ sym none in
      sym (asked_by (rw (reply, lt-ltb p (described_length mine) (omega (arith, t.long)), lacks, missing-run mine p lacks, run_length)))

  pub part_none : r.chunk ≡ None → (tabled source_limit f a b >>= λ ss. given (served_part (given ss) source p)) ≡ given nowhere
  unfolding served_part part_of
  part_none none =
      let lacks = sym is-supplied ∙ ap is_some none in
      rw (t.read, part_of, lacks)

  -- a part that is served
  pub part_there : {c : CodeChunk} → r.chunk ≡ Some c → length f < 2 ^ 64 → {place : ℕ} → place ≡ min (c.place.0 + (p - c.start.0)) (2 ^ 64 - 1)
      → (tabled source_limit f a b >>= λ ss. given (served_part (given ss) source p)) ≡ given (record { place = place; size = r.length })
  unfolding served_part part_of place_of_byte
  part_there {c} there short {place} at =
      let has = sym is-supplied ∙ ap is_some there in
      let by : chunk_for mine p ≡ chunk_of c = sym by-chunk ∙ ap run_chunk there in
      let here : place_of_byte mine p ≡ c.place.0 + (p - c.start.0) = λ i. (by i).place + (p - (by i).start) in
      let same : place_of_byte mine p ≡ place = omega (arith, served-fits f source a b t.read p has) in
      rw (t.read, part_of, has) (λ i. given (record { place = same i; size = sym run_length i }))

pub asked_beyond : {f : List ℕ} {source : ℕ} {a b sources b' : List ℕ} {count described : ℕ} (t : Told f source a b sources b' count described) (p : ℕ) → described ≤ p
    → given not_below ≡ asked (tabled source_limit f a b) source p
unfolding asked
asked_beyond {source = source} t p past = sym (rw (t.read, beyond (of_source source t.ss) p (omega (arith, t.long))))

module _ (f : List ℕ) (source : ℕ) (a b : List ℕ) (p : ℕ) {n : ℕ} (e : tabled source_limit f a b ≡ refused n) where
  pub asked_refused : refused n ≡ asked (tabled source_limit f a b) source p
  unfolding asked
  asked_refused = rw e

  pub part_refused : refused n ≡ (tabled source_limit f a b >>= λ ss. given (served_part (given ss) source p))
  part_refused = rw e
