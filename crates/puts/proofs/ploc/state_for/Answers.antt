-- `puts::ploc::state_for` meets its contract: by whether the number is that of a state.
use Rattle.puts.proofs.BoxLaws.{no_state_flags}
use Rattle.puts.proofs.ploc.state_for.Goals as goal

pub returns-in-Err : goal.returns-in-Err
returns-in-Err c = no_state_flags c.in-Err.is c.try_from.ensures.1.1
