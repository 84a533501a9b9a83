-- `mapping::totals::Totals::with` meets its contract: by the class of the range.
use mathlib.Core.Path.{ap}
use native.Mathlib.Omega.{arith}
use Rattle.sweeping.specs.Classes.{class_no}
use Rattle.mapping.proofs.CountLaws.{count_had, count_held, count_lost}
use Rattle.mapping.proofs.totals.Totals.with.Goals as goal

pub returns-in-Had : goal.returns-in-Had
returns-in-Had c = (
  record { received = omega arith; held = omega arith; lost = omega arith },
  λ rs counts. count_had _ rs counts (ap class_no c.in-Had.is),
)

pub returns-in-Held : goal.returns-in-Held
returns-in-Held c = (
  record { received = omega arith; held = omega arith; lost = omega arith },
  λ rs counts. count_held _ rs counts (ap class_no c.in-Held.is),
)

pub returns-in-Missing : goal.returns-in-Missing
returns-in-Missing c = (
  record { received = omega arith; held = omega arith; lost = omega arith },
  λ rs counts. count_lost _ rs counts (ap class_no c.in-Missing.is),
)
