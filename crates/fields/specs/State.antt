-- Document 01, "State 2 is good, 1 damaged but kept, 0 lost": the number of each state.
use Rattle.std.specs.Prelude.{ℕ}
use Rattle.fields.specs.declared.state.State.{State}
use Rattle.fields.specs.declared.state.State.TheVariants.{Lost, Damaged, Good, Elsewhere}

-- which number it has
abbrev pub state_no : State → ℕ
state_no Lost = 0
state_no Damaged = 1
state_no Good = 2
state_no Elsewhere = 3
