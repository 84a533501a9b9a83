-- `salvaging::copy::put_container` meets its contract: the boxes inside have as many bytes as the header says.
use mathlib.Core.Path.{sym, ◌∙◌}
use Rattle.boxes.specs.Framing.{box_of}
use Rattle.salvaging.proofs.CopyingLaws.{reheaded_put, container_low}
use Rattle.salvaging.proofs.copy.put_container.Goals as goal

pub returns : goal.returns
returns c h copy s bs moving whole known long anew =
    let (low, short, small) = container_low _ h moving.sound _ _ _ c.requires whole known in
    let size = (rw c.as_container-body.ensures at c.inner_size-size.ensures) bs known short in
    reheaded_put (box_of c.args.b) _ (size ∙ sym long) (c.put_head-start.ensures low (rw size small))
    ((rw c.as_container-body.ensures at c.put_inner.ensures) h copy s bs moving known anew)
