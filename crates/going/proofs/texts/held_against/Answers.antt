-- `going::texts::held_against` meets its contract: a box that is no `surl` is passed, and the URL of one is held
-- against the next of the texts.
use Prim.Native.Nat.{◌+◌, ◌*◌, min}
use mathlib.Core.Path.{◌≡◌, refl, sym, ◌∙◌}
use native.Mathlib.Omega.{arith}
use borrow.Author.Tests.{not-true, not-false}
use lib.ListN.{length, get_or}
use Rattle.boxes.specs.Kinds.{surl}
use Rattle.tallying.proofs.FoundLaws.{is_kind, is_other}
use Rattle.going.specs.declared.texts.Cut.{Cut}
use Rattle.going.proofs.TextLaws.{urls_more, past_other, past_none, past_differs, past_same, url_compared}
use Rattle.going.proofs.texts.held_against.Goals as goal

pub returns-then-ne : goal.returns-then-ne
returns-then-ne c = (c.requires.0, past_other _ _ _ c.args.cut _ (is_other surl _ refl (not-true _ (sym c.ne.ensures ∙ c.if-ne.true))))

pub returns-then-lengths-pair : goal.returns-then-lengths-pair
returns-then-lengths-pair c =
    λ rest.
    past_none _ _ _ c.args.cut _ (is_kind surl _ refl (not-false _ (sym c.ne.ensures ∙ c.if-ne.false))) rest (omega arith)

pub returns-then-ne-2 : goal.returns-then-ne-2
returns-then-ne-2 c =
    λ rest.
    let b = c.args.b in
    let one = is_kind surl b refl (not-false _ (sym c.ne.ensures ∙ c.if-ne.false)) in
    let f = c.args.file.now in
    let texts = c.args.texts.now in
    let lengths = c.args.lengths.now in
    let cut = c.args.cut in
    let first : c.min-middle.result ≡ min (cut.from + get_or lengths (2 * cut.pair) 0) (length texts) =
    omega (arith, c.min-middle.ensures, c.saturating_add.ensures, c.well_formed) in
    let second : c.min-end.result ≡ min (c.min-middle.result + get_or lengths (2 * cut.pair + 1) 0) (length texts) =
    omega (arith, c.min-end.ensures, c.saturating_add-2.ensures, c.well_formed) in
    let left : Cut = record { from = c.min-end.result; pair = cut.pair + 1 } in
    let more = urls_more f texts lengths cut (omega (arith, c.if-lengths-pair.false)) first second in
    let told = url_compared f b _ _ c.requires.1 c.url_of.ensures c.bytes.ensures in
    past_differs f texts lengths cut b one rest left more (sym told ∙ not-true _ (sym c.ne-2.ensures ∙ c.if-ne-2.true))

pub returns : goal.returns
returns c =
    let b = c.args.b in
    let one = is_kind surl b refl (not-false _ (sym c.ne.ensures ∙ c.if-ne.false)) in
    let f = c.args.file.now in
    let texts = c.args.texts.now in
    let lengths = c.args.lengths.now in
    let cut = c.args.cut in
    let first : c.min-middle.result ≡ min (cut.from + get_or lengths (2 * cut.pair) 0) (length texts) =
    omega (arith, c.min-middle.ensures, c.saturating_add.ensures, c.well_formed) in
    let second : c.min-end.result ≡ min (c.min-middle.result + get_or lengths (2 * cut.pair + 1) 0) (length texts) =
    omega (arith, c.min-end.ensures, c.saturating_add-2.ensures, c.well_formed) in
    let left : Cut = record { from = c.min-end.result; pair = cut.pair + 1 } in
    let more = urls_more f texts lengths cut (omega (arith, c.if-lengths-pair.false)) first second in
    let told = url_compared f b _ _ c.requires.1 c.url_of.ensures c.bytes.ensures in
    (omega (arith, second), λ rest. past_same f texts lengths cut b one rest left more (sym told ∙ not-false _ (sym c.ne-2.ensures ∙ c.if-ne-2.false)))
