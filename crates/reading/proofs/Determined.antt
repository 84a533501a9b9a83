-- Each public call's contract determines its answer, and what it leaves in the lent tables: two that it allows of the
-- same arguments are equal. A part of the lent file is determined by where it lies and by its bytes. What `judge_into`
-- leaves in a table is determined where the file is accepted and all of that fits, what the ends of segments say, their
-- sources and the boxes where the lists of these stand where it is accepted, and the stages of an index where the file's heading and segments are known and whether they have one.
use Prim.Native.Nat.{ℕ, ◌<◌, ◌≤◌}
use denote.RattleType.{RattleType}
use denote.Param.Laws.{Laws}
use mir.Syntax.{Dict}
use mathlib.Core.List.{List}
use mathlib.Core.Path.{◌≡◌, sym, ap, ◌∙◌}
use lib.ListN.{length, take}
use Rattle.numerals.proofs.Determined.{OneResult, OneKnown, OneLeft, OneLeftKnown}
use Rattle.boxes.specs.Answer.{Answer, given}
use Rattle.boxes.proofs.ToldLaws.{Tells, result-told}
use Rattle.surls.proofs.Determined.{part_told}
use Rattle.sources.specs.Held.{Sourced}
use Rattle.sources.specs.Lists.{list_in}
use Rattle.ends.specs.Table.{sizes_in, Holds}
use Rattle.fileindex.specs.File.{NumberedBy}
use Rattle.gathering.specs.Numbers.{numbers_of}
use Rattle.gathering.proofs.Determined.{OneRead, one_put, boxes_at, one_list}
use Rattle.heading.proofs.Determined.{head_told}
use Rattle.partial.specs.Answers.{summary_of, read_answer, number_answer}
use Rattle.partial.specs.Heading.{Part, Heading, heading}
use Rattle.partial.specs.Limits.{source_limit}
use Rattle.partial.specs.Reading.{segments, reading, earlier_segments}
use Rattle.partial.specs.Segments.{Segment}
use Rattle.partial.specs.Sources.{source_count}
use Rattle.partial.specs.Tables.{tabled, segment_rows}
use Rattle.reading.specs.Judged.{Judged, judged_by}
use Rattle.reading.specs.Parts.{HandedBack, located_answer}
use Rattle.reading.specs.Staged.{HasIndexes}
use Rattle.reading.proofs.indexed.index_stages.Reads as index-stages
use Rattle.reading.proofs.judging.earlier_of.Reads as earlier-of
use Rattle.reading.proofs.judging.judge.Reads as judge
use Rattle.reading.proofs.judging.judge_into.Reads as judge-into
use Rattle.reading.proofs.parts.part_of.Reads as part_of
use Rattle.reading.proofs.tables.read.Reads as read
use Rattle.reading.proofs.tables.read_source.Reads as read-source
use Rattle.reading.proofs.texts.mime.Reads as mime
use Rattle.reading.proofs.texts.source_mime.Reads as source-mime
use Rattle.reading.proofs.texts.source_text_at.Reads as source-text-at
use Rattle.reading.proofs.texts.source_url.Reads as source-url
use Rattle.reading.proofs.texts.text_at.Reads as text_at
use Rattle.reading.proofs.texts.url.Reads as url

-- a contract allows one value of something of the result
module _ {L : Type 0} {A R E : L → Type 0} (post : (κs : L) → A κs → R κs → E κs → Type 0) where
  abbrev pub OneOf : {X : Type 0} → ((κs : L) → R κs → X) → Type 0
  OneOf of =
      (κs : L) (args : A κs) (x y : R κs) (after after' : E κs) → post κs args x after → post κs args y after' → of κs x ≡ of κs y

-- the heading of a file, and its segments as they are read
abbrev Headed : (List ℕ → Answer (List Segment)) → List ℕ → Heading × List Segment → Type 0
Headed read f (h, ss) = (heading f ≡ given h) × (read f ≡ given ss)

same_sizes : {z z' : List ℕ} {ss : List Segment} → Holds z ss → Holds z' ss → sizes_in z ≡ sizes_in z'
same_sizes p q = λ i n. (p.said n ∙ sym (q.said n)) i

same_sources : {f : List ℕ} {h : Heading} {n n' l l' : List ℕ} {ss : List Segment} → Sourced f h n l ss → Sourced f h n' l' ss → take (length ss) n ≡ take (length ss) n'
same_sources p q = p.sources.numbers ∙ sym q.sources.numbers

-- two judgements that say the same are the same
judged-told : Tells judged_by
judged-told j k same =
    let head = head_told j.head k.head (ap (λ (x : Judged). x.facts) same) in
    λ i. record { head = head i; gathered = (same i).gathered; index = (same i).index }

summary_told : Tells summary_of
summary_told t u e = λ i. record { segments = (e i).segments; chunks = (e i).chunks; sources = (e i).sources; described = record { 0 = (e i).described }; closed = (e i).closed }

pub read_told : Tells read_answer
read_told = result-told summary_told

pub counted_told : Tells number_answer
counted_told = result-told (λ n m e. e)

pub located_told : Tells located_answer
located_told = result-told part_told

pub one_part : {f : List ℕ} {file : ℕ × ℕ} {part : Part} {there there' : ℕ × ℕ} {bytes bytes' : List ℕ} → HandedBack f file part there bytes
    → HandedBack f file part there' bytes'
    → ◌≡◌ {A = (ℕ × ℕ) × List ℕ} (there, bytes) (there', bytes')
one_part p q =
    let memory = p.memory ∙ sym q.memory in
    let place = p.place ∙ sym q.place in
    let holds = p.holds ∙ sym q.holds in
    λ i. ((memory i, place i), holds i)

index_stages_result : OneKnown index-stages.Post
    (λ κs args ((h, ss, number) : Heading × List Segment × (List (List ℕ) → ℕ)).
    (heading args.0.now ≡ given h) × (segments source_limit args.0.now h ≡ given ss) × NumberedBy number h ss args.1.1.1.1.0.now args.1.1.1.1.1.0 × HasIndexes h ss args.1.0 args.1.1.0)
index_stages_result κs args (h, ss, number) (head, known, by, has) x y after after' p q = counted_told x y (p h ss number head known by has ∙ sym (q h ss number head known by has))

earlier_of-result : OneResult earlier-of.Post
earlier_of-result κs args x y after after' p q = result-told judged-told x y (p.0 ∙ sym q.0)

earlier_of_sizes : OneLeftKnown earlier-of.Post (λ κs args (ss : List Segment). earlier_segments source_limit args.0.now ≡ given ss) (λ κs after. sizes_in after.1.0.now.sizes)
earlier_of_sizes κs args ss read x y after after' p q = same_sizes (p.1 ss read) (q.1 ss read)

earlier_of-sources : OneRead earlier-of.Post (λ κs args (known : Heading × List Segment). Headed (earlier_segments source_limit) args.0.now known) (λ κs args after known. take (length known.1) after.1.0.now.sources)
earlier_of-sources κs args (h, ss) (head, read) x y after after' p q = same_sources (p.2 ss read h head) (q.2 ss read h head)

earlier_of_lists : OneRead earlier-of.Post (λ κs args (known : (Heading × List Segment) × ℕ). Headed (earlier_segments source_limit) args.0.now known.0 × (known.1 < source_count known.0.1))
    (λ κs args after known. boxes_at args.0.now (list_in after.1.0.now.lists known.1))
earlier_of_lists κs args ((h, ss), n) ((head, read), low) x y after after' p q = one_list ((p.2 ss read h head).lists.each n low) ((q.2 ss read h head).lists.each n low)

judge_into_result : OneResult judge-into.Post
judge_into_result κs args x y after after' p q = result-told judged-told x y (p.0 ∙ sym q.0)

judge_into_rows : OneLeftKnown judge-into.Post
    (λ κs args (ss : List Segment). (reading source_limit args.0.now ≡ given ss) × (length (segment_rows ss) ≤ length args.1.0.now))
    (λ κs after. after.1.0.now)
judge_into_rows κs args ss (read, room) x y after after' p q = one_put room (p.1 ss read).0 (q.1 ss read).0

judge_into_numbers : OneLeftKnown judge-into.Post
    (λ κs args (ss : List Segment). (reading source_limit args.0.now ≡ given ss) × (length (numbers_of ss) ≤ length args.1.1.0.now))
    (λ κs after. after.1.1.0.now)
judge_into_numbers κs args ss (read, room) x y after after' p q = one_put room (p.1 ss read).1 (q.1 ss read).1

judge_into_sizes : OneLeftKnown judge-into.Post (λ κs args (ss : List Segment). reading source_limit args.0.now ≡ given ss) (λ κs after. sizes_in after.1.1.1.0.now.sizes)
judge_into_sizes κs args ss read x y after after' p q = same_sizes (p.2 ss read) (q.2 ss read)

judge_into_sources : OneRead judge-into.Post (λ κs args (known : Heading × List Segment). Headed (reading source_limit) args.0.now known) (λ κs args after known. take (length known.1) after.1.1.1.0.now.sources)
judge_into_sources κs args (h, ss) (head, read) x y after after' p q = same_sources (p.3 ss read h head) (q.3 ss read h head)

judge_into_lists : OneRead judge-into.Post (λ κs args (known : (Heading × List Segment) × ℕ). Headed (reading source_limit) args.0.now known.0 × (known.1 < source_count known.0.1))
    (λ κs args after known. boxes_at args.0.now (list_in after.1.1.1.0.now.lists known.1))
judge_into_lists κs args ((h, ss), n) ((head, read), low) x y after after' p q = one_list ((p.3 ss read h head).lists.each n low) ((q.3 ss read h head).lists.each n low)

judge_result : OneResult judge.Post
judge_result κs args x y after after' p q = result-told judged-told x y (p.0 ∙ sym q.0)

judge_sizes : OneLeftKnown judge.Post (λ κs args (ss : List Segment). reading source_limit args.0.now ≡ given ss) (λ κs after. sizes_in after.1.0.now.sizes)
judge_sizes κs args ss read x y after after' p q = same_sizes (p.1 ss read) (q.1 ss read)

judge_sources : OneRead judge.Post (λ κs args (known : Heading × List Segment). Headed (reading source_limit) args.0.now known) (λ κs args after known. take (length known.1) after.1.0.now.sources)
judge_sources κs args (h, ss) (head, read) x y after after' p q = same_sources (p.2 ss read h head) (q.2 ss read h head)

judge_lists : OneRead judge.Post (λ κs args (known : (Heading × List Segment) × ℕ). Headed (reading source_limit) args.0.now known.0 × (known.1 < source_count known.0.1))
    (λ κs args after known. boxes_at args.0.now (list_in after.1.0.now.lists known.1))
judge_lists κs args ((h, ss), n) ((head, read), low) x y after after' p q = one_list ((p.2 ss read h head).lists.each n low) ((q.2 ss read h head).lists.each n low)

read_source_result : OneResult read-source.Post
read_source_result κs args x y after after' p q = read_told x y (p.0.answer ∙ sym q.0.answer)

read_source_segments : OneLeft read-source.Post (λ κs after. after.1.1.0.now)
read_source_segments κs args x y after after' p q = p.0.tables.segment_table ∙ sym q.0.tables.segment_table

read_source_chunks : OneLeft read-source.Post (λ κs after. after.1.1.1.0.now)
read_source_chunks κs args x y after after' p q = p.0.tables.chunk_table ∙ sym q.0.tables.chunk_table

read_source_sources : OneRead read-source.Post (λ κs args (ss : List Segment). tabled source_limit args.0.now args.1.1.0.now args.1.1.1.0.now ≡ given ss)
    (λ κs args after ss. take (length ss) after.1.1.1.1.0.now.sources)
read_source_sources κs args ss read x y after after' p q = (p.1 ss read).numbers ∙ sym (q.1 ss read).numbers

read_result : OneResult read.Post
read_result κs args x y after after' p q = read_told x y (p.answer ∙ sym q.answer)

read_segments : OneLeft read.Post (λ κs after. after.1.1.0.now)
read_segments κs args x y after after' p q = p.tables.segment_table ∙ sym q.tables.segment_table

read_chunks : OneLeft read.Post (λ κs after. after.1.1.1.0.now)
read_chunks κs args x y after after' p q = p.tables.chunk_table ∙ sym q.tables.chunk_table

-- whatever tells a refusal
part_of_part : (E : RattleType) (laws : Laws E) (bound : Dict) → OneOf (part_of.Post E laws bound) {X = (ℕ × ℕ) × List ℕ} (λ κs r. (r.ref_ptr, r.now))
part_of_part E laws bound κs args x y after after' p q = one_part p q

text_at_result : OneResult text_at.Post
text_at_result κs args x y after after' p q = located_told x y (p ∙ sym q)

source_text_at_result : OneResult source-text-at.Post
source_text_at_result κs args x y after after' p q = located_told x y (p ∙ sym q)

source_url_part : OneOf source-url.Post {X = (ℕ × ℕ) × List ℕ} (λ κs r. (r.ref_ptr, r.now))
source_url_part κs args x y after after' p q = one_part p q

source_mime_part : OneOf source-mime.Post {X = (ℕ × ℕ) × List ℕ} (λ κs r. (r.ref_ptr, r.now))
source_mime_part κs args x y after after' p q = one_part p q

url_part : OneOf url.Post {X = (ℕ × ℕ) × List ℕ} (λ κs r. (r.ref_ptr, r.now))
url_part κs args x y after after' p q = one_part p q

mime_part : OneOf mime.Post {X = (ℕ × ℕ) × List ℕ} (λ κs r. (r.ref_ptr, r.now))
mime_part κs args x y after after' p q = one_part p q
