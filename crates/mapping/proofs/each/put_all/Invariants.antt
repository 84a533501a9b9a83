-- `mapping::each::put_all` meets its contract. The loop's invariant: the sources so far have their maps, none longer
-- than its ranges allow.
use Prim.Native.Nat.{◌+◌, ◌*◌, ◌≤◌}
use mathlib.Core.List.{List}
use Rattle.filling.specs.Rows.{Puts}
use Rattle.partial.specs.Map.{each_source}
use Rattle.partial.specs.Segments.{Segment}
use Rattle.mapping.specs.Outline.{source_text, most_ranges, Told}
use Rattle.mapping.proofs.each.put_all.Given as goal

abbrev pub invariant-loop-source : goal.invariant-loop-source
invariant-loop-source l = (l.at ≤ l.source * (150 + 50 * most_ranges l.film))
    × ((ss : List Segment) → Told l.film ss → Puts l.initial.buffer 0 (each_source (source_text l.named) ss l.source 0) l.buffer l.at)
