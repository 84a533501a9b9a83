-- Each public call's contract determines its answer: two that it allows of the same arguments are equal.
use Rattle.std.specs.Prelude.{Option, None, Some, SomeIff, is_some}
use mathlib.Core.Bool.{false≢true}
use mathlib.Core.Path.{◌≡◌, refl, sym, ap, ◌∙◌}
use Rattle.boxes.proofs.ToldLaws.{Tells, option-told}
use Rattle.numerals.proofs.Determined.{OneResult}
use Rattle.segment.proofs.ChunkLaws.{chunk_told}
use Rattle.segment.specs.declared.chunk.Chunk.{Chunk}
use Rattle.supplying.specs.Rows.{told_of}
use Rattle.supplying.specs.Runs.{run_chunk}
use Rattle.supplying.proofs.rows.Told.place_of.Reads as place_of
use Rattle.supplying.proofs.rows.chunk_at.Reads as chunk-at
use Rattle.supplying.proofs.rows.of_source.Reads as of-source
use Rattle.supplying.proofs.runs.run_at.Reads as run_at

told-same : Tells told_of
told-same c d e = λ i. record { start = record { 0 = (e i).start }; size = (e i).size; state = (e i).state; place = record { 0 = (e i).place } }

-- where something is told exactly if a fact holds, it is told once
one_told : {A : Type 0} (P : Type 0) (v : A) (x y : Option A) → SomeIff x P v → SomeIff y P v → x ≡ y
one_told P v None None p q = refl
one_told P v None (Some y) p (holds, _) = absurd (p holds)
one_told P v (Some x) None (holds, _) q = absurd (q holds)
one_told P v (Some x) (Some y) (_, p) (_, q) = ap Some (p ∙ sym q)

one_chunk : (x y : Option Chunk) → is_some x ≡ is_some y → run_chunk x ≡ run_chunk y → x ≡ y
one_chunk None None any same = refl
one_chunk None (Some d) any same = absurd (false≢true any)
one_chunk (Some c) None any same = absurd (false≢true (sym any))
one_chunk (Some c) (Some d) any same = ap Some (chunk_told c d same)

place_of_result : OneResult place_of.Post
place_of_result κs args x y after after' p q =
    let same = p ∙ sym q in
    λ i. record { 0 = same i }

chunk_at_result : OneResult chunk-at.Post
chunk_at_result κs args x y after after' p q = option-told told-same x y (one_told _ _ _ _ p q)

of_source-result : OneResult of-source.Post
of_source-result κs args x y after after' p q = option-told told-same x y (one_told _ _ _ _ p q)

run_at_result : OneResult run_at.Post
run_at_result κs args x y after after' p q =
    let chunk = one_chunk x.chunk y.chunk (p.supplied ∙ sym q.supplied) (p.chunk ∙ sym q.chunk) in
    let long = p.long ∙ sym q.long in
    λ i. record { chunk = chunk i; length = long i }
