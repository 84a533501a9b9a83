-- `numerals::numbers::by_bytes` meets its contract. The loop's invariant: the number of the bytes passed, which is
-- below that power of 256.
use Prim.Native.Nat.{◌^◌, ◌<◌}
use mathlib.Core.Path.{◌≡◌}
use Rattle.numerals.specs.Numbers.{number}
use Rattle.numerals.proofs.numbers.by_bytes.Given as goal

abbrev pub invariant-loop-i : goal.invariant-loop-i
invariant-loop-i l = (l.n ≡ number l.s l.from l.i) × (l.n < 256 ^ l.i)
