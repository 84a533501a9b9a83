-- `indexrows::marking::mark_by` meets its contract: the list had that is made of the spans is the source's.
use mathlib.Core.Path.{sym, ◌∙◌}
use native.Mathlib.Omega.{arith}
use Rattle.std.proofs.lemmas.List.{length-take-le}
use Rattle.partial.specs.Sources.{of_source}
use Rattle.spans.proofs.SpanLaws.{front_alone}
use Rattle.indexrows.proofs.HadLaws.{good_few, had-many, had-room}
use Rattle.indexrows.proofs.marking.mark_by.Goals as goal

pub slice_bounds-mark-end : goal.slice_bounds-mark-end
slice_bounds-mark-end c =
    let source = c.args.source in
    let (ss, a) = c.requires.2 in
    let (ordered, spans) = rw c.number.ensures at c.file_spans-n.ensures in
    let end = c.described-end.ensures (of_source source ss) (c.sizes_at.ensures ∙ a.ends.said source) in
    let few = had-room a source end (spans ss a.kept (omega (arith, good_few a source))) (c.put_lists-lists.ensures (front_alone ordered)) in
    sym (length-take-le _ _ (omega (arith, few, c.as_chunks.ensures.front_len)))

pub returns : goal.returns
returns c ss is say a long starts =
    let source = c.args.source in
    let (ordered, spans) = rw c.number.ensures at c.file_spans-n.ensures in
    let end = c.described-end.ensures (of_source source ss) (c.sizes_at.ensures ∙ a.ends.said source) in
    let listed = c.put_lists-lists.ensures (front_alone ordered) in
    let known = had-many a source end (spans ss a.kept (omega (arith, good_few a source))) listed (omega arith) c.as_chunks.ensures.front (omega arith) in
    c.mark.ensures (of_source source ss) is say known long starts
