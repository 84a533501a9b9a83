-- `segment::whole::whole_at` meets its contract: one starts at the place as the table says, and they are those from
-- there on.
use mathlib.Core.Path.{sym}
use Rattle.segment.proofs.WholeLaws.{whole_missing, whole_listed}
use Rattle.segment.proofs.whole.whole_at.Goals as goal

pub returns-then-not-starts : goal.returns-then-not-starts
returns-then-not-starts c =
    λ bs known t. sym (whole_missing _ known t c.starts.ensures _ c.if-not-starts.true)

pub returns : goal.returns
returns c =
    λ bs known t. whole_listed _ known t c.starts.ensures _ c.if-not-starts.false c.fill_up.ensures
