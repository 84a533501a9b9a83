-- `salvaging::inner::put_inner` meets its contract. The loop's invariant: the boxes passed are put.
use Prim.Native.Nat.{◌≤◌}
use mathlib.Core.List.{List}
use mathlib.Core.Path.{◌≡◌}
use lib.ListN.{length}
use Rattle.std.specs.Prelude.{is_some}
use Rattle.boxes.specs.Answer.{given}
use Rattle.boxes.specs.Framing.{Box}
use Rattle.boxes.proofs.WalkLaws.{ahead}
use Rattle.partial.specs.Heading.{Heading}
use Rattle.partial.specs.Segments.{Segment}
use Rattle.salvaging.specs.Inner.{inner_text, Anew}
use Rattle.salvaging.specs.Tables.{Moving, new_in}
use Rattle.salvaging.proofs.InnerLaws.{Midway}
use Rattle.salvaging.proofs.inner.put_inner.Given as goal

abbrev pub invariant-loop-b : goal.invariant-loop-b
invariant-loop-b l = (length l.buffer ≡ length l.initial.buffer)
    × (l.walk.end.0 ≤ length l.file)
    × ((h copy : Heading) (s : Segment) (bs : List Box) → Moving l.file h l.moves → ahead l.file l.initial.walk ≡ given bs → Anew l.file h copy s bs l.pseg
    → Midway l.file (inner_text l.file (new_in l.file h) s (is_some l.pseg)) bs l.initial.buffer l.initial.end.0 l.walk l.buffer l.end.0)

abbrev pub decreases-loop-b : goal.decreases-loop-b
decreases-loop-b l = l.walk.left
