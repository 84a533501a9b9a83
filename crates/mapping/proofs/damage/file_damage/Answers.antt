-- `mapping::damage::file_damage` meets its contract.
use borrow.Author.Rules.{rules}
use Rattle.spans.proofs.SpanLaws.{ordered_none}
use Rattle.mapping.proofs.OutlineLaws.{none_damaged, damaged_by}
use Rattle.mapping.proofs.damage.file_damage.Goals as goal

pub returns-then-not-named : goal.returns-then-not-named
returns-then-not-named c =
    (ordered_none _ _, λ ss kept room. none_damaged _ c.args.table.now _ (search rules))

pub returns : goal.returns
returns c =
    let (ordered, all) = rw c.number.ensures at c.file_spans.ensures in
    (ordered, λ ss kept room. damaged_by (all ss kept room) (search rules))
