-- `ends::table::all_agree` meets its contract. The loop's invariant: the sources so far agree.
use Prim.Native.Nat.{ℕ, ◌<◌}
use mathlib.Core.Bool.{true}
use mathlib.Core.List.{List}
use mathlib.Core.Path.{◌≡◌}
use Rattle.partial.specs.Meaning.{agree}
use Rattle.partial.specs.Segments.{Segment}
use Rattle.partial.specs.Sources.{of_source}
use Rattle.ends.specs.Table.{Holds}
use Rattle.ends.proofs.table.all_agree.Given as goal

abbrev pub invariant-loop-n : goal.invariant-loop-n
invariant-loop-n l = (ss : List Segment) → Holds l.table ss → (k : ℕ) → k < l.n → agree (of_source k ss) ≡ true
