-- Each public call's contract determines the range of a position: two that it allows of the same arguments are equal.
-- It leaves open how many spans a call says are passed.
use Prim.Native.Nat.{◌<◌}
use mathlib.Core.Path.{sym, ◌∙◌}
use Rattle.numerals.proofs.Determined.{OneResult}
use Rattle.spans.specs.Spans.{Ordered}
use Rattle.spans.proofs.Determined.{OneMade}
use lib.ListN.{length}
use Rattle.sweeping.specs.Naming.{BothReady}
use Rattle.sweeping.specs.Ranges.{Passed}
use Rattle.sweeping.proofs.ClassLaws.{range_told}
use Rattle.sweeping.proofs.naming.Sweeps.start.Reads as sweeps-start
use Rattle.sweeping.proofs.naming.named_at.Reads as named-at
use Rattle.sweeping.proofs.ranges.Class.number.Reads as class-number
use Rattle.sweeping.proofs.ranges.range_at.Reads as range_at

class_number_result : OneResult class-number.Post
class_number_result κs args x y after after' a b = a ∙ sym b

range_at_range :
    OneMade range_at.Post
    (λ κs args (_ : Unit {0}). Ordered args.0.now (length args.0.now) args.1.1.1.0.0 × Passed args.0.now (length args.0.now) args.1.0 args.1.1.0.0 × (args.1.1.0.0 < args.1.1.1.0.0))
    (λ κs args r after _. r.range)
range_at_range κs args _ (o, before, below) x y after after' a b = range_told x.range y.range ((a.1 o before below).range ∙ sym (b.1 o before below).range)

sweeps_start_result : OneResult sweeps-start.Post
sweeps_start_result κs args x y after after' a b = a ∙ sym b

named_at_range :
    OneMade named-at.Post
    (λ κs args (_ : Unit {0}).
    Ordered args.0.now (length args.0.now) args.1.1.1.1.0.0
    × Ordered args.1.0.now (length args.1.0.now) args.1.1.1.1.0.0
    × BothReady args.0.now args.1.0.now args.1.1.1.1.0.0 args.1.1.1.0.0 args.1.1.0
    × (args.1.1.1.0.0 < args.1.1.1.1.0.0))
    (λ κs args r after _. r.range)
named_at_range κs args _ (o, u, ready, below) x y after after' a b = range_told x.range y.range ((a.1 o u ready below).range ∙ sym (b.1 o u ready below).range)
