-- `going::source::source_with` meets its contract. The loop's invariant: the source of the texts is none of those so
-- far.
use native.Mathlib.Omega.{arith}
use Rattle.partial.proofs.Meaning.SourceLaws.{beside_most}
use Rattle.sources.proofs.HeldLaws.{further}
use Rattle.going.specs.Texts.{urls_of}
use Rattle.going.proofs.SourceLaws.{text_same, text_other}
use Rattle.going.proofs.source.source_with.Goals as goal

pub loop-n-init : goal.loop-n-init
loop-n-init c = λ h ss count numbered held. omega arith

pub returns-then-same_texts : goal.returns-then-same_texts
returns-then-same_texts c =
    λ h ss count numbered held.
    let here = held.each c.loop-n.n (omega arith) in
    text_same _ h ss numbered _ here c.list_at.ensures c.same_texts.ensures c.if-same_texts.true

pub loop-n-preserved : goal.loop-n-preserved
loop-n-preserved c =
    λ h ss count numbered held.
    let here = held.each c.loop-n.n (omega arith) in
    let other = text_other _ h ss numbered _ here c.list_at.ensures c.same_texts.ensures c.if-same_texts.false in
    further (c.loop-n.invariant h ss count numbered held) other

pub returns : goal.returns
returns c =
    λ h ss count numbered held.
    omega (arith, c.loop-n.invariant h ss count numbered held, beside_most ss (urls_of c.args.texts.now c.args.lengths.now))
