-- `texts::puts::put_text` meets its contract: a text without room is counted, another copied.
use mathlib.Core.Path.{sym}
use native.Mathlib.Omega.{arith}
use Rattle.numerals.proofs.StoredLaws.{stored_none}
use Rattle.texts.proofs.TextLaws.{copied}
use Rattle.texts.proofs.puts.put_text.Goals as goal

pub returns-then-buffer-next : goal.returns-then-buffer-next
returns-then-buffer-next c = record { left = sym (stored_none _ _ _ (omega arith)); end = omega arith }

pub returns : goal.returns
returns c = record { left = copied _ _ _ _ (omega arith) (omega arith) c.copy_from_slice.ensures.after; end = omega arith }
