-- `boxes::walk::Walk::new` meets its contract: the limit is the definition's number.
use mathlib.Core.Path.{refl}
use Rattle.boxes.specs.Framing.{box_limit}
use Rattle.boxes.proofs.walk.Walk.new.Goals as goal

pub returns : goal.returns
unfolding box_limit
returns c = refl
