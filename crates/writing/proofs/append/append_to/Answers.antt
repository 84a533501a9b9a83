-- `writing::append::append_to` meets its contract: 31 and 32 in their order, then what is right by its counts.
use mathlib.Core.Path.{sym, ap, ◌∙◌}
use native.Mathlib.Omega.{arith}
use borrow.Author.Tests.{not-true, not-false}
use Rattle.boxes.specs.Answer.{refused}
use Rattle.boxes.proofs.ToldLaws.{told-ok, told-err}
use Rattle.additions.specs.Addition.{asks}
use Rattle.writing.proofs.AppendLaws.{appends_refused, appends_handed, list_odd, list_unright, list_given, list_right_lem, data_differs, counted_of}
use Rattle.writing.proofs.AppendLaws.{list_first, lengths_second, lists_both, data_first, texts_second, even_told, whole_told}
use Rattle.writing.proofs.AppendLaws.{earlier, wrong_lists, wrong_bytes}
use Rattle.writing.proofs.append.append_to.Goals as goal

pub returns-then-list-ne0 : goal.returns-then-list-ne0
unfolding asks
returns-then-list-ne0 c =
    let a = c.args.addition in
    let ready = c.requires in
    appends_refused _ _ _ (wrong_lists _ _ _ ready.enough _ (earlier _ _ ready.told) (list_first _ (list_odd _ c.if-list-ne0.true)))

pub returns-in_err-counts : goal.returns-in_err-counts
unfolding asks
returns-in_err-counts c =
    let ready = c.requires in
    let wrong = list_unright _ (told-err (λ k. k) c.counted.ensures c.in_err-counts.was) in
    appends_handed _ _ _ _ _ c.from_residual.ensures.1
    (wrong_lists _ _ _ ready.enough _ (earlier _ _ ready.told) (list_first _ wrong.0) ∙ ap refused (sym wrong.1))

pub returns-then-not-said : goal.returns-then-not-said
unfolding asks
returns-then-not-said c =
    let a = c.args.addition in
    let ready = c.requires in
    let uneven = sym (even_told _ _ c.texts_of-said.ensures) ∙ not-true _ c.if-not-said.true in
    appends_refused _ _ _ (wrong_lists _ _ _ ready.enough _ (earlier _ _ ready.told) (lengths_second _ uneven))

pub returns-then-bytes-counts : goal.returns-then-bytes-counts
unfolding asks
returns-then-bytes-counts c =
    let a = c.args.addition in
    let ready = c.requires in
    let differ = data_differs a.header a.outside a.list.now a.bytes.now a.texts.now a.lengths.now (list_given _ (told-ok (λ k. k) c.counted.ensures c.in_ok-counts.was)).1 (omega (arith, c.well_formed)) c.if-bytes-counts.true in
    appends_refused _ _ _ (wrong_bytes _ _ _ ready.enough _ (earlier _ _ ready.told) (lists_both _ (list_right_lem _ c.if-list-ne0.false (told-ok (λ k. k) c.counted.ensures c.in_ok-counts.was)) (sym (even_told _ _ c.texts_of-said.ensures) ∙ not-false _ c.if-not-said.false)) (data_first _ differ))

pub returns-then-not-said-2 : goal.returns-then-not-said-2
unfolding asks
returns-then-not-said-2 c =
    let a = c.args.addition in
    let ready = c.requires in
    let differ = sym (whole_told _ _ c.texts_of-said.ensures a.header a.outside a.list.now a.bytes.now) ∙ not-true _ c.if-not-said-2.true in
    appends_refused _ _ _ (wrong_bytes _ _ _ ready.enough _ (earlier _ _ ready.told) (lists_both _ (list_right_lem _ c.if-list-ne0.false (told-ok (λ k. k) c.counted.ensures c.in_ok-counts.was)) (sym (even_told _ _ c.texts_of-said.ensures) ∙ not-false _ c.if-not-said.false)) (texts_second _ differ))

pub append_counted-requires : goal.append_counted-requires
unfolding asks
append_counted-requires c =
    let a = c.args.addition in
    let ready = c.requires in
    let texts = c.texts_of-said.ensures in (
      ready,
      list_right_lem _ c.if-list-ne0.false (told-ok (λ k. k) c.counted.ensures c.in_ok-counts.was),
      counted_of a.header a.outside a.list.now a.bytes.now a.texts.now a.lengths.now (list_given _ (told-ok (λ k. k) c.counted.ensures c.in_ok-counts.was)).1 (omega (arith, c.well_formed)) c.if-bytes-counts.false,
      record {
        counts = texts;
        lengths = sym (even_told _ _ texts) ∙ not-false _ c.if-not-said.false;
        bytes = sym (whole_told _ _ texts a.header a.outside a.list.now a.bytes.now) ∙ not-false _ c.if-not-said-2.false;
      },
    )
