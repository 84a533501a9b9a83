-- `mapping::call::write_all` meets its contract: the maps surely fit, or are counted in a buffer without room; then
-- they are put.
use Prim.Native.Nat.{◌≤◌}
use native.Mathlib.Omega.{arith}
use lib.ListN.{length}
use Rattle.filling.proofs.PutsLaws.{puts_same}
use Rattle.texts.proofs.WritesLaws.{writes_short, writes_given}
use Rattle.mapping.specs.Outline.{text_of}
use Rattle.mapping.proofs.OutlineLaws.{text_all}
use Rattle.mapping.proofs.call.write_all.Goals as goal
use Rattle.mapping.proofs.call.write_all.Goals.{then-not-surely_fits+else-buffer-size, else-not-surely_fits}

pub returns-then-buffer-size : goal.returns-then-buffer-size
returns-then-buffer-size c =
    λ ss told.
    let puts = puts_same (text_all _ ss told.source_many) (c.put_all-size.ensures.0 ss told) in
    writes_short _ _ (omega (arith, puts.end))

pub returns : goal.returns
returns c =
    λ ss told.
    let (put, few) = c.put_all.ensures in
    let puts = puts_same (text_all _ ss told.source_many) (put ss told) in
    let room : length (text_of c.args.named ss) ≤ length c.args.buffer.now =
    elim c.if-not-surely_fits.branch [
      | then-not-surely_fits+else-buffer-size w ↦ omega (arith, w.if-buffer-size.false, (puts_same (text_all _ ss told.source_many) (w.put_all-size.ensures.0 ss told)).end)
      | else-not-surely_fits w ↦ omega (arith, puts.end, few, c.surely_fits.ensures w.if-not-surely_fits.false)
    ] in
    writes_given _ _ (omega (arith, puts.end)) room puts
