-- `mapping::each::put_outline` meets its contract: the line of the source, those of the ranges, that of the totals.
-- None of the ranges' is longer than fifty bytes.
use native.Mathlib.Omega.{arith}
use Rattle.filling.proofs.PutsLaws.{puts_same, puts_more}
use Rattle.mapping.proofs.OutlineLaws.{range-lines, total-line, text-lines}
use Rattle.mapping.proofs.each.put_outline.Goals as goal

pub returns : goal.returns
returns c =
    let (source, _) = c.put_source-first.ensures in
    let (ranges, _, few, counts) = c.put_ranges-last.ensures in
    let (total, low) = c.put_total.ensures in (
      λ ss outlined.
          puts_same (text-lines _ ss)
          (puts_more (source ss outlined.long outlined.closed) (puts_more (puts_same (range-lines outlined) ranges) (puts_same (total-line outlined counts) total))),
      omega arith,
    )
