-- `segment::placed::placed_at` meets its contract: a chunk that is present and not empty is searched for where its
-- offset reaches.
use mathlib.Core.Path.{refl, sym, ◌∙◌}
use native.Mathlib.Omega.{arith}
use Rattle.segment.proofs.PlacedLaws.{absent, empty, has-place, places_none, places_past, places-in, places_whole, places-nowhere}
use Rattle.segment.proofs.placed.placed_at.Goals as goal

pub returns-then-not-is_present : goal.returns-then-not-is_present
returns-then-not-is_present c =
    places_none (absent _ _ (sym c.is_present.ensures ∙ c.if-not-is_present.true))

pub returns-then-size-eq0 : goal.returns-then-size-eq0
returns-then-size-eq0 c =
    places_none (empty _ _ (sym c.is_present.ensures ∙ c.if-not-is_present.false) c.if-size-eq0.true)

pub returns-in_default : goal.returns-in_default
returns-in_default c = places_past (has-place _ _ (sym c.is_present.ensures ∙ c.if-not-is_present.false) c.if-size-eq0.false) c.offset_place.ensures c.in_default.is (omega arith)

pub returns-in-Some-held_at : goal.returns-in-Some-held_at
returns-in-Some-held_at c = places-in (has-place _ _ (sym c.is_present.ensures ∙ c.if-not-is_present.false) c.if-size-eq0.false) (c.offset_place.ensures.at c.in-Some.is) c.held_at.ensures refl c.in-Some-held_at.is

pub returns-then-lies_whole : goal.returns-then-lies_whole
returns-then-lies_whole c =
    places_whole (has-place _ _ (sym c.is_present.ensures ∙ c.if-not-is_present.false) c.if-size-eq0.false) (c.offset_place.ensures.at c.in-Some.is) c.held_at.ensures c.in_default-held_at.is
    c.lies_whole.ensures refl c.if-lies_whole.true

pub returns-else-lies_whole : goal.returns-else-lies_whole
returns-else-lies_whole c =
    places-nowhere (has-place _ _ (sym c.is_present.ensures ∙ c.if-not-is_present.false) c.if-size-eq0.false) (c.offset_place.ensures.at c.in-Some.is) c.held_at.ensures c.in_default-held_at.is
    c.lies_whole.ensures c.if-lies_whole.false
