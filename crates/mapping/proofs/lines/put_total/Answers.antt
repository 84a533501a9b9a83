-- `mapping::lines::put_total` meets its contract: two totals or three.
use native.Mathlib.Omega.{arith}
use borrow.Author.Rules.{rules}
use Rattle.filling.proofs.PutsLaws.{puts_same, puts_more}
use Rattle.mapping.proofs.LineLaws.{two_totals, three_totals}
use Rattle.mapping.proofs.lines.put_total.Goals as goal

pub put_last-requires : goal.put_last-requires
put_last-requires c = omega (arith, c.put_field-tab.ensures.1)

pub returns-then-not-named : goal.returns-then-not-named
returns-then-not-named c =
    let (received, low) = c.put_field-tab.ensures in
    let (lost, most) = c.put_last.ensures in
    (puts_same (two_totals _ (search rules)) (puts_more received lost), omega arith)

pub put_field-last-requires : goal.put_field-last-requires
put_field-last-requires c = (omega (arith, c.put_field-tab.ensures.1), omega arith)

pub put_last-requires-2 : goal.put_last-requires-2
put_last-requires-2 c = omega (arith, c.put_field-last.ensures.1, c.put_field-tab.ensures.1)

pub returns : goal.returns
returns c =
    let (received, low) = c.put_field-tab.ensures in
    let (held, next) = c.put_field-last.ensures in
    let (lost, most) = c.put_last-2.ensures in
    (puts_same (three_totals _ (search rules)) (puts_more received (puts_more held lost)), omega arith)
