-- `adding::texts::texts_of` meets its contract: a sum that was cut is longer than any text.
use Prim.Native.Nat.{◌%◌}
use mathlib.Core.Path.{sym, ap, ◌∙◌}
use native.Mathlib.Omega.{arith}
use lib.Dec.{eqb}
use lib.ListN.{length}
use Rattle.partial.specs.Sequences.{sum}
use Rattle.additions.specs.Addition.{lengths_right}
use Rattle.adding.specs.Texts.{texts_of}
use Rattle.adding.proofs.TextLaws.{whole_cut, surls_half}
use Rattle.adding.proofs.texts.texts_of.Goals as goal

pub returns : goal.returns
unfolding texts_of lengths_right
returns c =
    let texts = c.args.texts.now in
    let lengths = c.args.lengths.now in
    let whole = ap (eqb (length texts)) c.sum_in.ensures ∙ whole_cut (length texts) (sum lengths) (omega arith) in
    let plain = c.is_text.ensures in
    let many = sym (surls_half texts lengths) in
    λ k. record { even = eqb (length lengths % 2) 0; whole = whole k; plain = plain k; surls = many k; bytes = length texts }
