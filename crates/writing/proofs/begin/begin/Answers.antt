-- `writing::begin::begin` meets its contract: 34, 1 and 33 in their order, then the two boxes one behind the other.
use Prim.Native.Nat.{◌≤◌}
use mathlib.Core.List.{[]}
use mathlib.Core.Path.{sym, ap, ◌∙◌}
use native.Mathlib.Nat.{zero-add}
use native.Mathlib.Omega.{arith}
use lib.ListN.{length}
use Rattle.boxes.specs.Answer.{given}
use Rattle.additions.specs.Begin.{beginning}
use Rattle.partial.specs.Limits.{file_limit}
use Rattle.gathering.proofs.RowLaws.{put_filled}
use Rattle.puts.proofs.BoxLaws.{pfil_long}
use Rattle.puts.proofs.PieceLaws.{pieces_same, pieces_more}
use Rattle.writing.proofs.BeginLaws.{beginning_boxes, beginning_long}
use Rattle.writing.proofs.BeginLaws.{url_zero, mime_zero, too_long, too_short, begun_given, begins_refused, begins_given}
use Rattle.writing.proofs.begin.begin.Goals as goal

pub returns-then-not-is_text : goal.returns-then-not-is_text
returns-then-not-is_text c =
    begins_refused _ _ _ _ (url_zero _ _ _ _ (sym c.is_text.ensures ∙ c.if-not-is_text.true))

pub returns-then-not-is_text-2 : goal.returns-then-not-is_text-2
returns-then-not-is_text-2 c =
    begins_refused _ _ _ _ (mime_zero _ _ _ _ (sym c.is_text-2.ensures ∙ c.if-not-is_text-2.true))

pub returns-then-size-gt-FILE_LIMIT : goal.returns-then-size-gt-FILE_LIMIT
returns-then-size-gt-FILE_LIMIT c =
    let args = c.args in
    let long = beginning_long args.url.now args.mime.now args.brand in
    let empty = beginning_long [] [] args.brand in
    let size = c.size_with-size.ensures args.brand in
    begins_refused _ _ _ _ (too_long _ _ _ _ (sym c.is_text.ensures ∙ c.if-not-is_text.false) (sym c.is_text-2.ensures ∙ c.if-not-is_text-2.false) (omega arith))

pub returns-then-buffer-size : goal.returns-then-buffer-size
returns-then-buffer-size c =
    let args = c.args in
    let long = beginning_long args.url.now args.mime.now args.brand in
    let empty = beginning_long [] [] args.brand in
    let size = c.size_with-size.ensures args.brand in
    begins_refused _ _ _ _ (too_short _ _ _ _ (sym c.is_text.ensures ∙ c.if-not-is_text.false) (sym c.is_text-2.ensures ∙ c.if-not-is_text-2.false) (omega arith) (omega arith))

pub returns : goal.returns
returns c =
    let args = c.args in
    let long = beginning_long args.url.now args.mime.now args.brand in
    let empty = beginning_long [] [] args.brand in
    let size = c.size_with-size.ensures args.brand in
    let small : length (beginning args.brand args.url.now args.mime.now) ≤ file_limit = omega arith in
    let room : length (beginning args.brand args.url.now args.mime.now) ≤ length args.buffer.now = omega arith in
    let pfil = c.put_pfil-end.ensures (omega (arith, pfil_long args.url.now args.mime.now)) in
    let boxes = pieces_more c.put_ftyp-pfil.ensures pfil in
    let all = (pieces_same (sym (beginning_boxes args.url.now args.mime.now args.brand)) boxes).puts (omega arith) in
    let answer = begun_given _ _ _ _ (sym c.is_text.ensures ∙ c.if-not-is_text.false) (sym c.is_text-2.ensures ∙ c.if-not-is_text-2.false) small room in
    begins_given _ _ _ _ (answer ∙ ap given (sym (all.end ∙ zero-add _))) (put_filled _ all.put room)
