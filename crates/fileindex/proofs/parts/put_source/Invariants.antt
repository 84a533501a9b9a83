-- `fileindex::parts::put_source` meets its contract. The loop's invariant: the rows so far have the number.
use Prim.Native.Nat.{ℕ, ◌+◌, ◌*◌, ◌-◌, ◌≤◌}
use mathlib.Core.List.{List}
use mathlib.Core.Path.{◌≡◌}
use lib.ListN.{length, take, drop}
use Rattle.filling.specs.Rows.{Put}
use Rattle.partial.specs.Index.{Indexed, index_row_length}
use Rattle.partial.specs.Limits.{segment_limit}
use Rattle.indexing.specs.Marks.{plain_rows}
use Rattle.fileindex.proofs.SourceRowLaws.{Partway}
use Rattle.fileindex.proofs.parts.put_source.Given as goal

abbrev pub invariant-loop-i : goal.invariant-loop-i
invariant-loop-i l = (length l.table ≡ length l.initial.table)
    × (index_row_length * l.end ≤ length l.initial.table)
    × (l.end ≤ l.to)
    × (index_row_length * l.to ≤ length l.initial.table → l.end ≡ l.to)
    × (l.source ≤ segment_limit → l.mark ≡ l.source + 3)
    × ((t₀ : List ℕ) (is : List Indexed) → l.to ≡ l.from + length is → index_row_length * l.from + index_row_length * length is ≤ length t₀
    → Put t₀ (index_row_length * l.from) (plain_rows is) l.initial.table
    → l.source ≤ segment_limit
    → Partway l.source (take (index_row_length * l.from) t₀) (drop (index_row_length * l.from + length (plain_rows is)) t₀) is l.table (l.i - l.from))
