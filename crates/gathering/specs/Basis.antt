-- What a heading says that the segments of its file are judged by.
use Rattle.std.specs.Prelude.{ℕ, List, ◌≡◌}
use Rattle.partial.specs.Heading.{Heading}
use Rattle.sources.specs.Held.{PfilList}
use Rattle.gathering.specs.Parts.{has_surl}
use Rattle.gathering.specs.declared.basis.Basis.{Basis}

-- the file is mixed as it says, the list in its `pfil` stands in that container, and there is one or none
pub record Based (f : List ℕ) (h : Heading) (basis : Basis) : Type 0 where
  pub mix : basis.mixed ≡ h.mixed
  pub in_pfil : PfilList f h basis.list
  pub any : basis.listed ≡ has_surl h.inner
