-- `salvaging::places::Moves::new_place` meets its contract: the place is as far behind the start of its box's copy as it is
-- behind that of the box.
use Rattle.salvaging.proofs.TableLaws.{new_found}
use Rattle.salvaging.proofs.places.Moves.new_place.Goals as goal

pub returns : goal.returns
returns c f h moving inside =
    new_found f h moving inside c.saturating_add.ensures c.top_before-number.ensures c.from-at.ensures c.saturating_sub.ensures c.saturating_add-2.ensures
