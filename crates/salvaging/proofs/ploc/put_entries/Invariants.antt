-- `salvaging::ploc::put_entries` meets its contract. The loop's invariant: the entries passed are put with their new
-- offsets, and those that are left were read.
use mathlib.Core.List.{map}
use mathlib.Core.Path.{◌≡◌}
use lib.ListN.{length}
use Rattle.partial.specs.Heading.{Heading}
use Rattle.partial.specs.Segments.{Segment}
use Rattle.puts.specs.Entries.{Entries}
use Rattle.rescue.specs.Copy.{placed_anew}
use Rattle.salvaging.specs.Ploc.{PlocRead}
use Rattle.salvaging.specs.Tables.{Moving, new_in}
use Rattle.salvaging.proofs.PlocLaws.{Midway}
use Rattle.salvaging.proofs.ploc.put_entries.Given as goal

abbrev pub invariant-loop-i : goal.invariant-loop-i
invariant-loop-i l = (length l.buffer ≡ length l.initial.buffer)
    × ((h : Heading) (s : Segment) → Moving l.file h l.moves → PlocRead l.file h l.l l.pseg.from.0 s → l.pseg.to.0 ≡ new_in l.file h l.pseg.from.0
    → Entries l.l.length_size l.l.offset_size (map (placed_anew (new_in l.file h) l.pseg.from.0) s.chunks)
    → Midway l.file h l.pseg.from.0 l.l (new_in l.file h) s.chunks l.initial.buffer l.initial.next.0 l.buffer l.next.0 l.entry.0 l.i)
