-- `sources::find::source_of` meets its contract. The loop's invariant: the source of the list is none of those so far.
use native.Mathlib.Omega.{arith}
use Rattle.partial.specs.Heading.{urls_in}
use Rattle.partial.proofs.Meaning.SourceLaws.{beside_most}
use Rattle.sources.proofs.HeldLaws.{list_same, list_other, further}
use Rattle.sources.proofs.find.source_of.Goals as goal

pub returns-then-same_list : goal.returns-then-same_list
returns-then-same_list c =
    λ h ss bs count numbered held stands.
    let here = held.each c.loop-n.n (omega arith) in
    list_same _ h ss numbered bs here c.list_at.ensures stands c.same_list.ensures c.if-same_list.true

pub loop-n-preserved : goal.loop-n-preserved
loop-n-preserved c =
    λ h ss bs count numbered held stands.
    let here = held.each c.loop-n.n (omega arith) in
    let other = list_other _ h ss numbered bs here c.list_at.ensures stands c.same_list.ensures c.if-same_list.false in
    further (c.loop-n.invariant h ss bs count numbered held stands) other

pub returns : goal.returns
returns c =
    λ h ss bs count numbered held stands.
    omega (arith, c.loop-n.invariant h ss bs count numbered held stands, beside_most ss (urls_in c.args.file.now bs))
