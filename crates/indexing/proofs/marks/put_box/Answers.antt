-- `indexing::marks::put_box` meets its contract: the row is put behind those before it.
use Prim.Native.Nat.{ℕ}
use mathlib.Core.Bool.{Bool, not, ◌||◌, not-not}
use mathlib.Core.List.{[], ◌∷◌}
use mathlib.Core.Path.{refl, sym, ap, ◌∙◌}
use Rattle.filling.proofs.RowLaws.{put_stored, put_same}
use Rattle.partial.specs.Index.{is_known}
use Rattle.indexing.specs.Ends.{end_of}
use Rattle.indexing.specs.Marks.{plain_row}
use Rattle.indexing.proofs.KnownLaws.{end_known}
use Rattle.indexing.proofs.MarksLaws.{marked_one}
use Rattle.indexing.proofs.marks.put_box.Goals as goal

pub returns-then-before : goal.returns-then-before
unfolding plain_row
returns-then-before c =
    (refl, marked_one c.args.before _ c.requires.1 (c.if-before.true ∙ sym (ap (λ (u : Bool). u || not (is_known (end_of c.args.end))) c.if-before.true)) (put_same refl (ap (λ (size : ℕ). c.args.level ∷ c.args.place.0 ∷ size ∷ c.args.kind.code ∷ 0 ∷ []) (c.size_from-size.ensures c.args.level c.args.kind.code)) (put_stored _ _ _ c.put_row.ensures)))

pub returns-else-before : goal.returns-else-before
unfolding plain_row
returns-else-before c =
    let unknown = sym (not-not c.is_none.result) ∙ ap not (sym c.is_none.ensures ∙ sym (end_known c.args.end)) in
    (refl, marked_one c.args.before _ c.requires.1 (unknown ∙ sym (ap (λ (u : Bool). u || not (is_known (end_of c.args.end))) c.if-before.false)) (put_same refl (ap (λ (size : ℕ). c.args.level ∷ c.args.place.0 ∷ size ∷ c.args.kind.code ∷ 0 ∷ []) (c.size_from-size.ensures c.args.level c.args.kind.code)) (put_stored _ _ _ c.put_row.ensures)))
