-- `boxlisting::bytes::put_each` meets its contract. The loop's invariant: the first so many bytes have their texts.
use Prim.Native.Nat.{◌+◌, ◌*◌, ◌≤◌}
use lib.ListN.{take}
use Rattle.boxlisting.specs.Bytes.{byte_text}
use Rattle.filling.specs.Rows.{Puts}
use Rattle.partial.specs.BoxList.{each}
use Rattle.boxlisting.proofs.bytes.put_each.Given as goal

abbrev pub invariant-loop-b : goal.invariant-loop-b
invariant-loop-b l = (l.next ≤ l.at + 4 * l.b-index)
    × Puts l.initial.buffer l.at (each (byte_text l.in_hex) (take l.b-index l.bytes)) l.buffer l.next
