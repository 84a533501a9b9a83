-- `indexing::head::head_of` meets its contract: the fields, whether a size of 0 is last, and the end.
use mathlib.Core.Bool.{not}
use mathlib.Core.Path.{◌≡◌, sym, ap, ◌∙◌}
use Rattle.std.specs.Prelude.{true}
use Rattle.boxes.proofs.ToldLaws.{told-ok, told-err, handed_on}
use Rattle.partial.specs.Index.{last_or_sized}
use Rattle.indexing.specs.Ends.{end_of}
use Rattle.indexing.specs.Fields.{fields_of}
use Rattle.indexing.specs.Head.{head_told}
use Rattle.indexing.proofs.HeadLaws.{head_cut, head_not_last, head_end_wrong, head_whole, not_last, a_last, a_sized}
use Rattle.indexing.proofs.head.head_of.Goals as goal
use Rattle.indexing.proofs.head.head_of.Goals.{else-not-last-via-then-not-last+else-is_none, else-not-last-via-else-not-last}

pub returns-in_err-x : goal.returns-in_err-x
returns-in_err-x c =
    handed_on head_told _ _ c.from_residual.ensures.1 ∙ sym (head_cut _ _ _ _ _ (told-err fields_of c.index_fields.ensures c.in_err-x.was))

pub returns-then-is_none : goal.returns-then-is_none
returns-then-is_none c =
    let read = told-ok fields_of c.index_fields.ensures c.in_ok-x.was in
    sym (head_not_last _ _ _ _ _ read (not_last _ _ c.if-not-last.true (c.is_none.ensures ∙ ap not c.if-is_none.true)))

pub returns-in_err-end : goal.returns-in_err-end
returns-in_err-end c =
    let read = told-ok fields_of c.index_fields.ensures c.in_ok-x.was in
    let sized : last_or_sized c.args.last (fields_of c.in_ok-x.x) ≡ true =
    elim c.else-not-last.branch [
      | else-not-last-via-then-not-last+else-is_none w ↦ a_sized _ _ (w.is_none.ensures ∙ ap not w.if-is_none.false)
      | else-not-last-via-else-not-last w ↦ a_last _ _ w.if-not-last.false
    ] in
    handed_on head_told _ _ c.from_residual-in_err-end.ensures.1 ∙ sym (head_end_wrong _ _ _ _ _ read sized (told-err end_of c.judged_end.ensures c.in_err-end.was))

pub returns : goal.returns
returns c =
    let read = told-ok fields_of c.index_fields.ensures c.in_ok-x.was in
    let sized : last_or_sized c.args.last (fields_of c.in_ok-x.x) ≡ true =
    elim c.else-not-last.branch [
      | else-not-last-via-then-not-last+else-is_none w ↦ a_sized _ _ (w.is_none.ensures ∙ ap not w.if-is_none.false)
      | else-not-last-via-else-not-last w ↦ a_last _ _ w.if-not-last.false
    ] in
    sym (head_whole _ _ _ _ _ read sized (told-ok end_of c.judged_end.ensures c.in_ok-end.was))
