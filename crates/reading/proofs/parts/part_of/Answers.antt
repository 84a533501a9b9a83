-- `reading::parts::part_of` meets its contract: by whether it was refused, and whether the part lies in the file.
use Prim.Native.Nat.{ℕ, ◌+◌, ◌-◌}
use mathlib.Core.Path.{◌≡◌, refl, sym, ap, ◌∙◌}
use native.Mathlib.Omega.{arith}
use lib.ListN.{take, drop}
use borrow.Author.Tests.{leb-true}
use Rattle.partial.specs.Tables.{nowhere}
use Rattle.partial.specs.Heading.{bytes_in}
use Rattle.reading.proofs.PartLaws.{handed_refused, handed_past, handed_at, handed_same}
use Rattle.reading.proofs.parts.part_of.Goals as goal

pub returns-in_default : goal.returns-in_default
unfolding bytes_in nowhere
returns-in_default g c =
    handed_same (sym (handed_refused _ c.in_default.is)) (record { memory = refl; place = omega arith; holds = refl })

pub returns-then-not-ends_by : goal.returns-then-not-ends_by
unfolding bytes_in nowhere
returns-then-not-ends_by g c =
    let past = sym c.ends_by.ensures ∙ c.if-not-ends_by.true in
    handed_same (sym (handed_past _ c.in-Ok.is past)) (record { memory = refl; place = omega arith; holds = refl })

pub overflow_add-end : goal.overflow_add-end
overflow_add-end g c = omega (arith, leb-true _ _ (sym c.ends_by.ensures ∙ c.if-not-ends_by.false))

pub returns : goal.returns
unfolding bytes_in
returns g c =
    let part = c.in-Ok.part in
    let lies = sym c.ends_by.ensures ∙ c.if-not-ends_by.false in
    let long : (part.place.0 + part.size) - part.place.0 ≡ part.size = omega arith in
    handed_same (sym (handed_at _ c.in-Ok.is lies))
    (record {
      memory = refl;
      place = omega arith;
      holds = ap (λ (n : ℕ). take n (drop part.place.0 c.args.file.now)) long;
    })
