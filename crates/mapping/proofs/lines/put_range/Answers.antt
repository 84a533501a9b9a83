-- `mapping::lines::put_range` meets its contract.
use native.Mathlib.Omega.{arith}
use Rattle.filling.proofs.PutsLaws.{puts_same, puts_more}
use Rattle.mapping.proofs.LineLaws.{range_words}
use Rattle.mapping.proofs.lines.put_range.Goals as goal

pub put_last-requires : goal.put_last-requires
put_last-requires c = omega (arith, c.put_field-tab.ensures.1)

pub returns : goal.returns
returns c =
    let (field, low) = c.put_field-tab.ensures in
    let (last, most) = c.put_last.ensures in
    (puts_same (range_words _ _ _ _ c.word_of-word.ensures.value) (puts_more field last), omega arith)
