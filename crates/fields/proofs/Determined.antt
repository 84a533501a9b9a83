-- Each public call's contract determines its answer: two that it allows of the same arguments are equal.
use mathlib.Core.Path.{sym, ◌∙◌}
use Rattle.numerals.proofs.Determined.{OneResult}
use Rattle.boxes.proofs.ToldLaws.{result-told}
use Rattle.fields.proofs.StateLaws.{state_told}
use Rattle.fields.proofs.ToldLaws.{head-told, entry-told}
use Rattle.fields.proofs.allowed.may_stand.Reads as may-stand
use Rattle.fields.proofs.entry.entry_at.Reads as entry_at
use Rattle.fields.proofs.fields.fields_of.Reads as fields-of
use Rattle.fields.proofs.location.location_of.Reads as location-of
use Rattle.fields.proofs.state.State.is_present.Reads as is-present
use Rattle.fields.proofs.state.State.is_good.Reads as is-good
use Rattle.fields.proofs.state.State.number.Reads as number
use Rattle.fields.proofs.state.present.Reads as present
use Rattle.fields.proofs.state.state_of.Reads as state-of

fields_of-result : OneResult fields-of.Post
fields_of-result κs args x y after after' p q = result-told (λ p q e. e) x y (p ∙ sym q)

location_of-result : OneResult location-of.Post
location_of-result κs args x y after after' p q = result-told head-told x y (p ∙ sym q)

state-of-result : OneResult state-of.Post
state-of-result κs args x y after after' p q = result-told state_told x y (p ∙ sym q)

number-result : OneResult number.Post
number-result κs args x y after after' p q = p ∙ sym q

present-result : OneResult present.Post
present-result κs args x y after after' p q = p ∙ sym q

is_good_result : OneResult is-good.Post
is_good_result κs args x y after after' p q = p ∙ sym q

is_present-result : OneResult is-present.Post
is_present-result κs args x y after after' p q = p ∙ sym q

entry_at_result : OneResult entry_at.Post
entry_at_result κs args x y after after' p q = result-told entry-told x y (p ∙ sym q)

may_stand_result : OneResult may-stand.Post
may_stand_result κs args x y after after' p q = p ∙ sym q
