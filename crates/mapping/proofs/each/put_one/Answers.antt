-- `mapping::each::put_one` meets its contract: the outline of the source, then its lines.
use mathlib.Core.Bool.{Bool}
use mathlib.Core.Path.{ap}
use native.Mathlib.Omega.{arith}
use lib.ListN.{length}
use Rattle.filling.proofs.PutsLaws.{puts_same}
use Rattle.partial.specs.Sources.{of_source}
use Rattle.mapping.specs.Outline.{source_text}
use Rattle.mapping.proofs.OutlineLaws.{outlined_ranges}
use Rattle.mapping.proofs.each.put_one.Goals as goal

pub returns : goal.returns
returns c =
    let source = c.args.source in
    let (drawn, named, outlined) = c.outline_of-o.ensures in
    let (puts, low) = c.put_outline.ensures in
    let (ss₀, told₀) = c.requires.1 in (
      λ ss told. puts_same (ap (λ (b : Bool). source_text b (of_source source ss)) named) (puts (of_source source ss) (outlined ss (omega arith) told)),
      omega (arith, low, ap length (outlined_ranges (outlined ss₀ (omega arith) told₀)), told₀.few source c.outline_of-o.result.named),
    )
