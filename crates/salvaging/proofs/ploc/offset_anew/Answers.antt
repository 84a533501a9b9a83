-- `salvaging::ploc::offset_anew` meets its contract: 0 where the chunk has no place, or else what lies between the new
-- places.
use mathlib.Core.Path.{sym, ◌∙◌}
use Rattle.fields.specs.Entry.{entry_of}
use Rattle.segment.proofs.PlacedLaws.{absent, empty, has-place}
use Rattle.salvaging.proofs.PlocLaws.{anew_none, anew_given}
use Rattle.salvaging.proofs.ploc.offset_anew.Goals as goal

pub returns-then-not-is_present : goal.returns-then-not-is_present
returns-then-not-is_present c f h start place moving same there =
    anew_none _ _ _ (absent _ _ (sym c.is_present.ensures ∙ c.if-not-is_present.true))

pub returns-then-e-eq0 : goal.returns-then-e-eq0
returns-then-e-eq0 c f h start place moving same there =
    anew_none _ _ _ (empty _ _ (sym c.is_present.ensures ∙ c.if-not-is_present.false) c.if-e-eq0.true)

pub returns : goal.returns
returns c f h start place moving same there =
    let here = sym c.is_present.ensures ∙ c.if-not-is_present.false in
    let args = c.args in
    anew_given f h moving.sound _ (entry_of args.e) there (has-place _ _ here c.if-e-eq0.false) start same c.place_by.ensures
    (λ low. c.new_place.ensures f h moving low) c.offset_to.ensures
