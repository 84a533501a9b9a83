-- `numerals::numbers::store` meets its contract: the last bytes that std writes are those of that width.
use Prim.Native.Nat.{◌-◌}
use mathlib.Core.Path.{◌≡◌, ◌∙◌}
use native.Mathlib.Omega.{arith}
use Rattle.std.proofs.lemmas.Slice.{between_to_end}
use Rattle.numerals.specs.Numbers.{bytes_of}
use Rattle.numerals.proofs.NumberLaws.{length-bytes_of, bytes_of-last}
use Rattle.numerals.proofs.StoredLaws.{part_stored}
use Rattle.numerals.proofs.numbers.store.Goals as goal

pub returns : goal.returns
returns c =
    let a = c.args in
    let written : c.copy_from_slice.new.self ≡ bytes_of a.w a.n =
    c.copy_from_slice.ensures.after
    ∙ between_to_end _ (8 - a.w) _ (omega arith)
    ∙ rw c.to_be_bytes-bytes.ensures (bytes_of-last a.w a.n (omega arith)) in
    rw written
    (part_stored _ _ _ _ (rw length-bytes_of (omega arith)) (rw length-bytes_of (omega arith)))
