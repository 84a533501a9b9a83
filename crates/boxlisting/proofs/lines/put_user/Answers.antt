-- `boxlisting::lines::put_user` meets its contract: only a `uuid` box has a user type that is not empty.
use mathlib.Core.Path.{sym, ◌∙◌}
use borrow.Author.Tests.{eqb-true, eqb-false}
use native.Mathlib.Omega.{arith}
use Rattle.filling.proofs.PutsLaws.{puts_same, puts_more}
use Rattle.filling.proofs.RowLaws.{put_none}
use Rattle.texts.proofs.TextLaws.{piece_puts}
use Rattle.boxlisting.proofs.LineLaws.{lies, user_body, body_file, user_few, no_user, some_user, no_bytes, some_bytes}
use Rattle.boxlisting.proofs.lines.put_user.Goals as goal

pub returns-then-is_empty : goal.returns-then-is_empty
returns-then-is_empty c =
    let l = lies _ _ c.requires.1 in
    (puts_same (no_user _ _ l (no_bytes _ _ l (eqb-true _ _ (sym c.is_empty.ensures ∙ c.if-is_empty.true)))) (record { put = put_none _ _; end = omega arith }), omega arith)

pub slice_bounds-user-count : goal.slice_bounds-user-count
slice_bounds-user-count c = user_body _ _ (lies _ _ c.requires.1)

pub slice_bounds-user-start : goal.slice_bounds-user-start
slice_bounds-user-start c = user_body _ _ (lies _ _ c.requires.1)

pub slice_bounds-user-end : goal.slice_bounds-user-end
slice_bounds-user-end c = body_file _ _ (lies _ _ c.requires.1)

pub put_each-requires : goal.put_each-requires
put_each-requires c = (omega (arith, c.put_text-digits.ensures.end), user_few _ _ (lies _ _ c.requires.1))

pub returns : goal.returns
returns c =
    let l = lies _ _ c.requires.1 in
    let tab = c.put_text-digits.ensures in
    let (puts, few) = c.put_each.ensures in
    (puts_same (some_user _ _ l (some_bytes _ _ l (eqb-false _ _ (sym c.is_empty.ensures ∙ c.if-is_empty.false)))) (puts_more (piece_puts (omega (arith, tab.end)) tab) puts), omega (arith, tab.end))
