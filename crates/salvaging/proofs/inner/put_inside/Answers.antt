-- `salvaging::inner::put_inside` meets its contract: a `ploc` of a `pseg` is put anew, every other box as it is.
use Rattle.std.specs.Prelude.{is_some}
use mathlib.Core.Bool.{false≢true}
use mathlib.Core.Path.{sym, ap, subst, ◌∙◌}
use Rattle.boxes.specs.Framing.{box_of}
use Rattle.boxes.specs.Kinds.{ploc}
use Rattle.puts.proofs.PieceLaws.{pieces_same}
use Rattle.tallying.proofs.FoundLaws.{is_kind, is_other}
use Rattle.salvaging.specs.Inner.{Anew}
use Rattle.salvaging.proofs.InnerLaws.{text-ploc, text_plain}
use Rattle.salvaging.proofs.inner.put_inside.Goals as goal

pub put_ploc-requires : goal.put_ploc-requires
put_ploc-requires c = (c.requires.0, c.requires.2)

pub returns-in_default : goal.returns-in_default
returns-in_default c h copy s bs moving anew among =
    pieces_same (text_plain _ _ s _ (box_of c.args.b) (λ inside kind. false≢true (sym (ap is_some c.in_default.is) ∙ inside))) c.put_same.ensures

pub returns-then-eq : goal.returns-then-eq
returns-then-eq c h copy s bs moving anew among =
    let b = c.args.b in
    let kind = is_kind ploc b c.eq.ensures c.if-eq.true in
    let (read, lie, same) = subst (Anew _ h copy s bs) c.in-Some.is anew in
    let (l, head, entries) = read (box_of b) among kind in
    pieces_same (text-ploc _ _ s _ (box_of b) (ap is_some c.in-Some.is) kind) (c.put_ploc.ensures h copy s l moving head entries lie same)

pub returns : goal.returns
returns c h copy s bs moving anew among =
    let b = c.args.b in
    pieces_same (text_plain _ _ s _ (box_of b) (λ inside kind. false≢true (sym (is_other ploc b c.eq.ensures c.if-eq.false) ∙ kind))) c.put_same-2.ensures
