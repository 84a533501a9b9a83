-- `puts::ploc::put_entries` meets its contract. The loop's invariant: where the widths hold all and it is known how far
-- the data lies, the entries passed are written, and how far the data that is left lies is known.
use Rattle.additions.specs.Addition.{items, size_of, goes_out}
use Rattle.additions.specs.Append.{placed}
use Rattle.puts.specs.Entries.{Entries, Distances}
use Rattle.puts.proofs.EntryLaws.{Midway}
use Rattle.puts.proofs.ploc.put_entries.Given as goal

abbrev pub invariant-loop-i : goal.invariant-loop-i
invariant-loop-i l = Entries l.widths.size l.widths.offset (placed l.outside (items l.list))
    → Distances l.outside (size_of (goes_out l.outside) (items l.list)) (items l.list) l.initial.left
    → Midway l.outside l.list l.widths.size l.widths.offset l.initial.buffer l.initial.next.0 l.buffer l.next.0 l.left l.i
