-- `adding::layout::layout_of` meets its contract: each field by what was worked out before it.
use Prim.Native.Nat.{◌+◌, min}
use mathlib.Core.Path.{◌≡◌, ap, ◌∙◌}
use native.Mathlib.Omega.{arith}
use lib.ListN.{length}
use Rattle.boxes.proofs.BoxedLaws.{front-size}
use Rattle.additions.specs.Append.{version_for, pseg_body}
use Rattle.partial.specs.Limits.{file_limit}
use Rattle.partial.specs.Reading.{offset_width_of}
use Rattle.additions.proofs.AddedBoxesLaws.{length-added}
use Rattle.adding.proofs.LengthLaws.{pseg_long}
use Rattle.adding.proofs.layout.layout_of.Goals as goal

pub returns : goal.returns
returns c =
    λ right a sorted texted at.
    let counted = sorted.counted in
    let offsets = c.offset_size-offsets.ensures.1 right a.outside _ counted.items in
    let sizes = c.length_size-sizes.ensures.1 right a.outside _ counted.items in
    let at_width = ap (λ n. offset_width_of (version_for n)) at in
    let located = c.ploc_size-ploc.ensures.1 right a.outside _ counted.items sizes offsets in
    let held : c.within-pseg.result ≡ min (length (pseg_body a)) (file_limit + 1) = omega (arith, located, c.surls_size.ensures.1 a texted, c.offset_width-width.ensures.1, at_width, pseg_long a) in
    record {
      pseg = record {
        pshd = record { width = c.offset_width-width.ensures.1 ∙ at_width; body = omega (arith, c.offset_width-width.ensures.1, at_width) };
        ploc = record { sizes = sizes; offsets = offsets; body = located };
        body = held;
      };
      all = omega (arith, c.data_size.ensures.1 right a sorted, held, length-added a, front-size);
    }
