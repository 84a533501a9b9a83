-- `fields::state::State::is_present` meets its contract.
use Rattle.std.proofs.Common.{inl, inr}
use Rattle.partial.specs.Segments.{present}
use Rattle.fields.proofs.state.State.is_present.Goals as goal

pub returns-in-Good : goal.returns-in-Good
unfolding present
returns-in-Good c = elim c.in-Good.is [ inl e ↦ rw e | inr e ↦ rw e ]

pub returns-in-Lost : goal.returns-in-Lost
unfolding present
returns-in-Lost c = elim c.in-Lost.is [ inl e ↦ rw e | inr e ↦ rw e ]
