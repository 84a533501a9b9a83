-- `puts::surl::put_surls` meets its contract. The loop's invariant: where 32 bits hold the size of all boxes, those of
-- the pairs passed are put, and the texts of those that are left begin at a byte.
use Prim.Native.Nat.{◌^◌, ◌≤◌, ◌<◌}
use lib.ListN.{length}
use Rattle.additions.specs.Addition.{surls_of}
use Rattle.additions.specs.Append.{surl_boxes}
use Rattle.puts.proofs.SurlLaws.{Midway}
use Rattle.puts.proofs.surl.put_surls.Given as goal

abbrev pub invariant-loop-i : goal.invariant-loop-i
invariant-loop-i l = (l.from ≤ length l.texts)
    × (length (surl_boxes (surls_of l.texts l.lengths)) < 2 ^ 32 → Midway l.texts l.lengths l.initial.buffer l.initial.next.0 l.buffer l.next.0 l.from l.i)
