-- `mapping::outline::outline_of` meets its contract.
use Prim.Native.Nat.{◌≤◌}
use mathlib.Core.Path.{refl, ◌∙◌}
use native.Mathlib.Omega.{arith}
use lib.ListN.{length}
use Rattle.partial.specs.Limits.{source_limit}
use Rattle.partial.specs.Segments.{good, damaged, chunks_of}
use Rattle.partial.specs.Sources.{of_source}
use Rattle.spans.specs.Chunks.{many_of}
use Rattle.spans.proofs.ChunkLaws.{many_few, many-apart, source-few}
use Rattle.spans.proofs.FileLaws.{spanned_by, spanned_front}
use Rattle.spans.proofs.SpanLaws.{front_alone}
use Rattle.mapping.proofs.OutlineLaws.{known_closed, outlined_by}
use Rattle.mapping.proofs.outline.outline_of.Goals as goal

pub returns : goal.returns
returns c =
    let (ordered, all) = rw c.number.ensures at c.file_spans-good.ensures in
    let (others, damage) = c.file_damage-damaged.ensures in
    let source = c.args.source in
    let said = c.sizes_at-said.ensures in
    let described = c.described-end.ensures in
    let (ss₀, told₀) = c.requires in
    let split = c.split_at_mut-front.ensures in
    let low : c.described-end.result.0 ≤ source_limit =
    omega (arith, described (of_source source ss₀) (said ∙ told₀.said source), told₀.low source) in (
      record { low = low; of_good = rw split.front (front_alone ordered); of_damaged = front_alone others },
      refl,
      λ ss room told.
          let is = said ∙ told.said source in
          let few = source-few source ss in
          let spans = all ss told.kept (omega (arith, room, many_few good (chunks_of (of_source source ss)), told.kept.chunks)) in
          let most : many_of damaged (chunks_of (of_source source ss)) ≤ length c.split_at_mut-front.result.1.now =
          omega (arith, room, many-apart (chunks_of (of_source source ss)), spans.few, told.kept.chunks, split.back_len, c.file_spans-good.auto.table) in
          outlined_by (rw split.front (spanned_front ordered.spans.room (spanned_by (described (of_source source ss) is) spans)))
          (damage ss told.kept most)
          (known_closed (of_source source ss) is c.is_some.ensures),
    )
