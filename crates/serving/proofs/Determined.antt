-- Each public call's contract determines its answer, and what it leaves in the lent tables: two that it allows of the
-- same arguments are equal. A part of the lent file is determined by where it lies and by its bytes.
use Prim.Native.Nat.{ℕ}
use mathlib.Core.List.{List}
use mathlib.Core.Path.{refl, sym, ◌∙◌}
use Rattle.numerals.proofs.Determined.{OneResult, OneLeft}
use Rattle.boxes.proofs.ToldLaws.{Tells, result-told}
use Rattle.partial.specs.Answers.{reply_of}
use Rattle.partial.specs.declared.answers.Asked.TheVariants as Asked
use Rattle.reading.proofs.Determined.{OneOf, located_told, one_part}
use Rattle.serving.proofs.calls.ask.Reads as ask
use Rattle.serving.proofs.calls.part_at.Reads as part_at
use Rattle.serving.proofs.calls.serve.Reads as serve

reply-told : Tells reply_of
reply-told (Asked.Served n) (Asked.Served m) e = cc
reply-told (Asked.Served n) (Asked.Missing m) e = cc
reply-told (Asked.Served n) Asked.NotBelow e = cc
reply-told (Asked.Missing n) (Asked.Served m) e = cc
reply-told (Asked.Missing n) (Asked.Missing m) e = cc
reply-told (Asked.Missing n) Asked.NotBelow e = cc
reply-told Asked.NotBelow (Asked.Served m) e = cc
reply-told Asked.NotBelow (Asked.Missing m) e = cc
reply-told Asked.NotBelow Asked.NotBelow e = refl

part_at_result : OneResult part_at.Post
part_at_result κs args x y after after' p q = located_told x y (p.answer ∙ sym q.answer)

part_at_segments : OneLeft part_at.Post (λ κs after. after.1.1.0.now)
part_at_segments κs args x y after after' p q = p.tables.segment_table ∙ sym q.tables.segment_table

part_at_chunks : OneLeft part_at.Post (λ κs after. after.1.1.1.0.now)
part_at_chunks κs args x y after after' p q = p.tables.chunk_table ∙ sym q.tables.chunk_table

serve_part : OneOf serve.Post {X = (ℕ × ℕ) × List ℕ} (λ κs r. (r.ref_ptr, r.now))
serve_part κs args x y after after' p q = one_part p.part q.part

serve_segments : OneLeft serve.Post (λ κs after. after.1.1.0.now)
serve_segments κs args x y after after' p q = p.tables.segment_table ∙ sym q.tables.segment_table

serve_chunks : OneLeft serve.Post (λ κs after. after.1.1.1.0.now)
serve_chunks κs args x y after after' p q = p.tables.chunk_table ∙ sym q.tables.chunk_table

ask_result : OneResult ask.Post
ask_result κs args x y after after' p q = result-told reply-told x y (p.answer ∙ sym q.answer)

ask_segments : OneLeft ask.Post (λ κs after. after.1.1.0.now)
ask_segments κs args x y after after' p q = p.tables.segment_table ∙ sym q.tables.segment_table

ask_chunks : OneLeft ask.Post (λ κs after. after.1.1.1.0.now)
ask_chunks κs args x y after after' p q = p.tables.chunk_table ∙ sym q.tables.chunk_table
