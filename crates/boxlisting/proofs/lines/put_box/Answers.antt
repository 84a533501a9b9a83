-- `boxlisting::lines::put_box` meets its contract: its fields, one behind the other.
use native.Mathlib.Omega.{arith}
use Rattle.filling.proofs.PutsLaws.{puts_same}
use Rattle.boxlisting.proofs.LineLaws.{lies, start_end, type_file, type_text, line_fields, fields_put}
use Rattle.boxlisting.proofs.lines.put_box.Goals as goal

pub overflow_sub-b : goal.overflow_sub-b
overflow_sub-b c = start_end _ _ (lies _ _ c.requires.1)

pub overflow_add-start : goal.overflow_add-start
overflow_add-start c = omega (arith, type_file _ _ (lies _ _ c.requires.1))

pub overflow_add-start-2 : goal.overflow_add-start-2
overflow_add-start-2 c = omega (arith, type_file _ _ (lies _ _ c.requires.1))

pub slice_bounds-put_each-end : goal.slice_bounds-put_each-end
slice_bounds-put_each-end c = type_file _ _ (lies _ _ c.requires.1)

pub returns : goal.returns
returns c =
    let (place, place-few) = c.put_decimal-first.ensures in
    let (size, size_few) = c.put_decimal-second.ensures in
    let (kind, kind-few) = c.put_each-third.ensures in
    let (user, user_few) = c.put_user-last.ensures in
    let (puts, few) = fields_put c.args.file.now c.args.b _ _ c.requires.0 place place-few c.put_text-size.ensures size size_few c.put_text-kind.ensures (puts_same (type_text _ _) kind) kind-few user user_few c.put_text.ensures in
    (puts_same (line_fields _ _) puts, few)

pub shape_of-buffer : goal.shape_of-buffer
shape_of-buffer c = (returns c).0.put.long
