-- Each public call's contract determines its answer, and what it leaves in the lent tables and lists: two that it
-- allows of the same arguments are equal. The totals are determined where the spans are ordered, and what is put into a
-- list where all its ranges fit besides.
use Prim.Native.Nat.{ℕ, ◌≤◌}
use mathlib.Core.List.{List}
use mathlib.Core.Path.{◌≡◌, sym, ◌∙◌}
use lib.ListN.{length}
use Rattle.numerals.proofs.Determined.{OneResult, OneLeft, OneKnown, OneLeftKnown}
use Rattle.boxes.proofs.ToldLaws.{Tells, result-told}
use Rattle.partial.specs.Answers.{totals_of}
use Rattle.partial.specs.Ranges.{had, missing, ranges, of_class}
use Rattle.partial.specs.Tables.{range_rows}
use Rattle.filling.specs.Rows.{Put}
use Rattle.gathering.proofs.RowLaws.{put_filled}
use Rattle.spans.specs.declared.span.Span.{Span}
use Rattle.spans.specs.Spans.{class_by, Ordered}
use Rattle.listing.proofs.calls.list.Reads as list
use Rattle.listing.proofs.lists.put_lists.Reads as put-lists

-- a list has room for the ranges of a class, of the positions below an end, by some spans
abbrev Fits : ℕ → List Span → ℕ → List ℕ → Type 0
Fits class spans end list = length (range_rows (of_class class (ranges (class_by spans (length spans)) end 0))) ≤ length list

one_list : {before rows t t' : List ℕ} → length rows ≤ length before → Put before 0 rows t → Put before 0 rows t' → t ≡ t'
one_list {rows = rows} room p q = put_filled rows p room ∙ sym (put_filled rows q room)

totals-told : Tells totals_of
totals-told t u e =
    λ i. record { had = (e i).had_ranges; missing = (e i).missing_ranges; received_total = (e i).received_total; missing_total = (e i).missing_total }

put_lists_result : OneKnown put-lists.Post (λ κs args (_ : Unit {0}). Ordered args.0.now (length args.0.now) args.1.0.0)
put_lists_result κs args _ o x y after after' p q =
    let had = (p o).had_many ∙ sym (q o).had_many in
    let missing = (p o).missing_many ∙ sym (q o).missing_many in
    let received = (p o).received ∙ sym (q o).received in
    let missed = (p o).missed ∙ sym (q o).missed in
    λ i. record { had = had i; missing = missing i; received_total = received i; missing_total = missed i }

put_lists_had : OneLeftKnown put-lists.Post
    (λ κs args (_ : Unit {0}). Ordered args.0.now (length args.0.now) args.1.0.0 × Fits had args.0.now args.1.0.0 args.1.1.0.now)
    (λ κs after. after.1.1.0.now)
put_lists_had κs args _ (o, room) x y after after' p q = one_list room (p o).had_rows (q o).had_rows

put_lists_missing : OneLeftKnown put-lists.Post
    (λ κs args (_ : Unit {0}). Ordered args.0.now (length args.0.now) args.1.0.0 × Fits missing args.0.now args.1.0.0 args.1.1.1.0.now)
    (λ κs after. after.1.1.1.0.now)
put_lists_missing κs args _ (o, room) x y after after' p q = one_list room (p o).missing_rows (q o).missing_rows

list_result : OneResult list.Post
list_result κs args x y after after' p q = result-told totals-told x y (p.answer ∙ sym q.answer)

list_segments : OneLeft list.Post (λ κs after. after.1.1.0.now)
list_segments κs args x y after after' p q = p.tables.segment_table ∙ sym q.tables.segment_table

list_chunks : OneLeft list.Post (λ κs after. after.1.1.1.0.now)
list_chunks κs args x y after after' p q = p.tables.chunk_table ∙ sym q.tables.chunk_table

list_had : OneLeft list.Post (λ κs after. after.1.1.1.1.0.now)
list_had κs args x y after after' p q = p.had_table ∙ sym q.had_table

list_missing : OneLeft list.Post (λ κs after. after.1.1.1.1.1.0.now)
list_missing κs args x y after after' p q = p.missing_table ∙ sym q.missing_table
