-- `filling::rows::put_row` meets its contract. The loop's invariant: the numbers so far are stored.
use Prim.Native.Nat.{◌≤◌}
use mathlib.Core.Path.{◌≡◌}
use lib.ListN.{length, take}
use Rattle.numerals.specs.Stored.{stored}
use Rattle.filling.proofs.rows.put_row.Given as goal

abbrev pub invariant-loop-i : goal.invariant-loop-i
invariant-loop-i l = (l.i ≤ length l.row) × (length l.table ≡ length l.initial.table) × (l.table ≡ stored l.initial.table l.at (take l.i l.row))
