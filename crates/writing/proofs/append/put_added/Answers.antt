-- `writing::append::put_added` meets its contract: the data, in `pdat` and outside, then the `pseg`.
use native.Mathlib.Omega.{arith}
use Rattle.puts.proofs.PieceLaws.{pieces_same, pieces_more}
use Rattle.writing.proofs.AddedLaws.{added_parts, added_long, whole_of, in_size, out_size, pseg_laid}
use Rattle.writing.proofs.append.put_added.Goals as goal

pub overflow_sub-size : goal.overflow_sub-size
overflow_sub-size c = omega (arith, in_size _ _ _ _ _ _ c.requires.0)

pub returns : goal.returns
returns c =
    let (sorted, laid, fits, small) = c.requires in
    let long = added_long _ _ _ _ _ _ sorted in
    let pdat = c.put_pdat-outer.ensures (omega (arith, in_size _ _ _ _ _ _ sorted)) (omega arith) in
    let pseg = c.put_pseg.ensures (whole_of _ _ _ _ _ _ sorted) (pseg_laid _ _ _ _ _ _ laid) fits (out_size _ _ _ _ _ _ sorted) (omega arith) in
    pieces_same (added_parts _ _ _ _ _ _ sorted) (pieces_more pdat (pieces_more c.put_chosen-pseg.ensures pseg))
