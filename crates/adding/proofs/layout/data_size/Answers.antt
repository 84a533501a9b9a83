-- `adding::layout::data_size` meets its contract: by whether any data goes into a `pdat`.
use native.Mathlib.Omega.{arith}
use Rattle.adding.proofs.OutsideLaws.{data_counted, stored_none, stored_some, inside_none, inside_some}
use Rattle.adding.proofs.layout.data_size.Goals as goal

pub returns-then-counts-outside : goal.returns-then-counts-outside
returns-then-counts-outside c = (
  omega arith,
  λ right a sorted. omega (arith, sorted.counted.bytes, stored_none a (data_counted sorted.counted) (inside_none sorted c.if-counts-outside.true)),
)

pub returns : goal.returns
returns c = (
  omega arith,
  λ right a sorted. omega (arith, sorted.counted.bytes, stored_some a (data_counted sorted.counted) (inside_some sorted c.if-counts-outside.false)),
)
