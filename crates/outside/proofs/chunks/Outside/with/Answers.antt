-- `outside::chunks::Outside::with` meets its contract: by what the bytes are.
use mathlib.Core.Path.{sym, ◌∙◌}
use native.Mathlib.Omega.{arith}
use Rattle.outside.proofs.ChunkLaws.{with-boxes, with_other}
use Rattle.outside.proofs.WholeLaws.{boxes_told, many_most}
use Rattle.outside.proofs.chunks.Outside.with.Goals as goal

pub overflow_add-result : goal.overflow_add-result
overflow_add-result c =
    let bytes = c.args.bytes.now in
    let (right, many) = boxes_told bytes (sym c.in-Some.is ∙ c.whole_of.ensures) in
    omega (arith, many, many_most bytes right, c.requires)

pub returns-in-Some : goal.returns-in-Some
returns-in-Some c =
    let a = c.args in
    with-boxes a.self a.bytes.now (sym c.in-Some.is ∙ c.whole_of.ensures)

pub returns-in-None : goal.returns-in-None
returns-in-None c =
    let a = c.args in
    with_other a.self a.bytes.now (sym c.in-None.is ∙ c.whole_of.ensures)
