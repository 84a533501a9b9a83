-- `adding::layout::surls_size` meets its contract: each box has fourteen bytes and its two texts.
use mathlib.Core.Path.{◌≡◌, ap}
use native.Mathlib.Omega.{arith}
use lib.ListN.{length}
use Rattle.additions.specs.Addition.{surls_of, surls}
use Rattle.adding.specs.Texts.{texts_of}
use Rattle.adding.specs.declared.texts.Texts.{Texts}
use Rattle.adding.proofs.TextLaws.{surls_long}
use Rattle.adding.proofs.layout.surls_size.Goals as goal

pub returns : goal.returns
unfolding texts_of surls
returns c =
    let all = c.within-3.ensures in
    let boxes = c.within.ensures in
    let bytes = c.within-2.ensures in (
      omega arith,
      λ a texted.
          let many : c.args.texts.surls ≡ length (surls_of a.texts a.lengths) = ap (λ (t : Texts). t.surls) texted.counts in
          let long : c.args.texts.bytes ≡ length a.texts = ap (λ (t : Texts). t.bytes) texted.counts in
          omega (arith, all, boxes, bytes, many, long, surls_long a texted.lengths texted.bytes),
    )
