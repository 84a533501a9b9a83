-- `gathering::kept::put_rows` meets its contract. The loop's invariant: the chunks so far have their rows, and the
-- others are kept ahead.
use Prim.Native.Nat.{◌+◌, ◌-◌, ◌^◌, ◌<◌, min}
use mathlib.Core.Bool.{false}
use mathlib.Core.Path.{refl, ap, ◌∙◌}
use native.Mathlib.Nat.{add-zero}
use native.Mathlib.Omega.{arith}
use lib.ListN.{length}
use lib.Seq.{take_all}
use Rattle.partial.specs.Segments.{Chunk}
use Rattle.partial.specs.Tables.{chunk_rows_of}
use Rattle.filling.proofs.RowLaws.{put_none, put_same}
use Rattle.gathering.specs.Forms.{put_of}
use Rattle.gathering.proofs.KeptLaws.{next_kept, row_more}
use Rattle.gathering.proofs.kept.put_rows.Goals as goal

pub loop-i-init : goal.loop-i-init
unfolding chunk_rows_of
loop-i-init c = (omega arith, refl, λ cs many kept. (rw add-zero kept, put_none _ _))

pub loop-i-preserved : goal.loop-i-preserved
loop-i-preserved c =
    let inv = c.loop-i.invariant in
    let same = c.chunk_by-c.ensures in
    let put = c.put_chunk.ensures in (
      omega arith,
      put.long ∙ inv.1,
      λ cs many kept.
          let (ahead, rows) = inv.2 cs many kept in
          let less : c.loop-i.i < length cs = omega arith in (
            next_kept _ _ cs _ _ less ahead _ (c.saturating_add.ensures ∙ ap (λ (x : Chunk). min (c.loop-i.start.0 + x.size) (2 ^ 64 - 1)) same),
            row_more _ _ cs _ _ less ahead _ rows (put_same refl (ap (put_of false _ _) same) put),
          ),
    )

pub returns : goal.returns
returns c =
    λ cs many kept.
    let inv = c.loop-i.invariant in
    put_same refl (ap (chunk_rows_of _ 0) (take_all c.loop-i.i cs (omega arith))) (inv.2 cs many kept).1
