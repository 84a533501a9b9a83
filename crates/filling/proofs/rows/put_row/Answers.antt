-- `filling::rows::put_row` meets its contract. The loop's invariant: the numbers so far are stored.
use Prim.Native.Nat.{ℕ, suc, ◌+◌}
use mathlib.Core.List.{List}
use mathlib.Core.Path.{◌≡◌, refl, sym, ap, ◌∙◌}
use native.Mathlib.Omega.{arith}
use borrow.Author.Rules.{rules}
use lib.ListN.{take, set, get_or}
use lib.Seq.{take_all}
use Rattle.numerals.specs.Stored.{stored}
use Rattle.numerals.proofs.StoredLaws.{stored_none}
use Rattle.filling.proofs.PutsLaws.{copied_more}
use Rattle.filling.proofs.RowLaws.{row_none}
use Rattle.filling.proofs.rows.put_row.Goals as goal

pub returns-then-table-row : goal.returns-then-table-row
returns-then-table-row c = sym (stored_none _ _ _ (omega arith))

pub loop-i-init : goal.loop-i-init
loop-i-init c = (omega arith, refl, sym (row_none _ _ (omega arith)))

pub loop-i-preserved : goal.loop-i-preserved
loop-i-preserved c =
    let args = c.args in
    let inv = c.loop-i.invariant in
    let next : suc c.loop-i.i ≡ c.loop-i.i + 1 = omega arith in (
      omega arith,
      search rules,
      ap (λ (t : List ℕ). set t (args.at + c.loop-i.i) (get_or args.row.now c.loop-i.i 0)) inv.2 ∙ copied_more args.table.now args.at args.row.now c.loop-i.i (omega arith) (omega arith)
          ∙ ap (λ (n : ℕ). stored args.table.now args.at (take n args.row.now)) next,
    )

pub returns : goal.returns
returns c = c.loop-i.invariant.2 ∙ ap (stored c.args.table.now c.args.at) (take_all _ _ (omega arith))
