-- `mapping::lines::put_source` meets its contract.
use mathlib.Core.Path.{sym, ◌∙◌}
use native.Mathlib.Omega.{arith}
use Rattle.filling.proofs.PutsLaws.{puts_same}
use Rattle.mapping.proofs.LineLaws.{last_put, closed_words, open_words}
use Rattle.mapping.proofs.lines.put_source.Goals as goal

pub returns-then-closed : goal.returns-then-closed
returns-then-closed c =
    let (puts, low) = c.put_field-word.ensures in
    let (all, next_low) = last_put (omega arith) (omega arith) puts c.put_text.ensures in
    (λ ss described closed. puts_same (closed_words ss _ described (sym c.if-closed.true ∙ closed)) all, omega arith)

pub returns : goal.returns
returns c =
    let (puts, low) = c.put_field-word.ensures in
    let (all, next_low) = last_put (omega arith) (omega arith) puts c.put_text-2.ensures in
    (λ ss described closed. puts_same (open_words ss _ described (sym c.if-closed.false ∙ closed)) all, omega arith)
