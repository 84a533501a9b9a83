-- `surls::texts::text_at` meets its contract: the bytes before the first zero byte.
use Rattle.surls.proofs.TextLaws.{text-found}
use Rattle.surls.proofs.texts.text_at.Goals as goal

pub returns : goal.returns
returns c = text-found _ _ _ _ (rw (← c.saturating_sub.ensures, ← c.bytes-there.ensures) c.before_zero.ensures)
