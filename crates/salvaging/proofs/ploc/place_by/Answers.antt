-- `salvaging::ploc::place_by` meets its contract, by the way that the offset goes.
use Rattle.salvaging.proofs.PlocLaws.{ahead_for, back_for}
use Rattle.salvaging.proofs.ploc.place_by.Goals as goal

pub returns-in-Ahead : goal.returns-in-Ahead
returns-in-Ahead c = ahead_for _ c.in-Ahead.is c.saturating_add.ensures

pub returns-in-Back : goal.returns-in-Back
returns-in-Back c = back_for _ c.in-Back.is c.saturating_sub.ensures
