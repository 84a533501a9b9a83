-- `writing::begin::size_with` meets its contract.
use mathlib.Core.List.{[]}
use native.Mathlib.Omega.{arith}
use Rattle.writing.proofs.BeginLaws.{beginning_long}
use Rattle.writing.proofs.begin.size_with.Goals as goal

pub returns : goal.returns
returns c brand = omega (arith, beginning_long [] [] brand)
