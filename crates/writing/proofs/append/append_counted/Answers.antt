-- `writing::append::append_counted` meets its contract: 35 and 34 in their order, then what is right in itself.
use mathlib.Core.Path.{◌≡◌, refl, sym, ◌∙◌}
use borrow.Author.Tests.{not-true, not-false}
use Rattle.boxes.specs.Answer.{given}
use Rattle.additions.specs.Addition.{asks}
use Rattle.partial.specs.Heading.{Heading}
use Rattle.adding.proofs.OutsideLaws.{data_counted, right_whole}
use Rattle.writing.proofs.AppendLaws.{appends_refused, lists_both, bytes_both, plain_told}
use Rattle.writing.proofs.AppendLaws.{earlier, headed_mixed, wrong_outside, wrong_texts}
use Rattle.writing.proofs.append.append_counted.Goals as goal

pub returns-then-not-outside_right : goal.returns-then-not-outside_right
unfolding asks
returns-then-not-outside_right c =
    let (ready, list, counted, texted) = c.requires in
    let file = earlier _ _ ready.told in
    appends_refused _ _ _
    (wrong_outside _ _ _ ready.enough _ file (lists_both _ list texted.lengths) (bytes_both _ (data_counted counted) texted.bytes) (sym (c.outside_right.ensures file.h _ (headed_mixed file file.head) c.outside_of-stored.ensures) ∙ c.if-not-outside_right.true))

pub returns-then-not-said : goal.returns-then-not-said
unfolding asks
returns-then-not-said c =
    let (ready, list, counted, texted) = c.requires in
    let file = earlier _ _ ready.told in
    let right = sym (c.outside_right.ensures file.h _ (headed_mixed file file.head) c.outside_of-stored.ensures) ∙ c.if-not-outside_right.false in
    appends_refused _ _ _
    (wrong_texts _ _ _ ready.enough _ file (lists_both _ list texted.lengths) (bytes_both _ (data_counted counted) texted.bytes) right (sym (plain_told _ _ texted.counts) ∙ not-true _ c.if-not-said.true))

pub append_right-requires : goal.append_right-requires
unfolding asks
append_right-requires c =
    let (ready, list, counted, texted) = c.requires in
    let file = earlier _ _ ready.told in
    let right : (h : Heading) → _ ≡ given h → _ ≡ _ = λ h head. sym (c.outside_right.ensures h _ (headed_mixed file head) c.outside_of-stored.ensures) ∙ c.if-not-outside_right.false in
    let stored = c.outside_of-stored.ensures in (
      ready,
      list,
      record {
        offset = refl;
        last = refl;
        sorted = record { counted = counted; outside = stored };
        whole = right_whole file.h _ stored (right file.h file.head);
        texted = texted;
        laid = c.layout_of-layout.ensures c.args.counts.right _ (record { counted = counted; outside = stored }) texted refl;
      },
      sym (plain_told _ _ texted.counts) ∙ not-false _ c.if-not-said.false,
      right,
    )
