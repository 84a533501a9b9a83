-- `tallying::tally::Tally::of` meets its contract. The loop's invariant: the rows passed are of other kinds, so those
-- left decide.
use mathlib.Core.Path.{◌≡◌}
use lib.ListN.{drop}
use Rattle.boxes.specs.Kinds.{rules}
use Rattle.tallying.specs.Rules.{count_in, tally_for}
use Rattle.tallying.proofs.tally.Tally.of.Given as goal

abbrev pub invariant-loop-i : goal.invariant-loop-i
invariant-loop-i l = tally_for l.kind l.counts ≡ count_in (drop l.i rules) l.kind (drop l.i l.counts)
