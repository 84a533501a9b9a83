-- `mapping::each::put_all` meets its contract. The loop's invariant: the sources so far have their maps, none longer
-- than its ranges allow.
use Prim.Native.Nat.{ℕ, ◌+◌, ◌*◌, ◌≤◌}
use mathlib.Core.Path.{◌≡◌, refl, sym, ap}
use native.Mathlib.Nat.{mul-le-mul_right}
use native.Mathlib.Omega.{arith}
use Rattle.filling.proofs.RowLaws.{put_none}
use Rattle.filling.proofs.PutsLaws.{puts_same, puts_more}
use Rattle.partial.specs.Map.{each_source}
use Rattle.mapping.specs.Outline.{source_text, most_ranges}
use Rattle.mapping.proofs.OutlineLaws.{each_next}
use Rattle.mapping.proofs.each.put_all.Goals as goal

pub loop-source-init : goal.loop-source-init
unfolding each_source
loop-source-init c = (omega arith, λ ss told. record { put = put_none _ 0; end = refl })

pub put_one-at-requires : goal.put_one-at-requires
put_one-at-requires c =
    let (ss, told) = c.requires in
    let inv = c.loop-source.invariant in
    let low : c.loop-source.source ≤ c.args.film.sources = omega arith in
    let most = mul-le-mul_right (150 + 50 * most_ranges c.args.film) told.source_few in
    let so_far = mul-le-mul_right (150 + 50 * most_ranges c.args.film) low in
    (omega (arith, inv.0, so_far, most, told.kept.count, told.kept.few, told.chunks, told.kept.chunks), c.requires)

pub loop-source-preserved : goal.loop-source-preserved
loop-source-preserved c =
    let inv = c.loop-source.invariant in
    let (puts, low) = c.put_one-at.ensures in (
      omega (arith, inv.0, low),
      λ ss told. puts_same (sym (each_next _ ss _)) (puts_more (inv.1 ss told) (puts ss told)),
    )

pub returns : goal.returns
returns c =
    let inv = c.loop-source.invariant in
    let all : c.loop-source.source ≡ c.args.film.sources = omega arith in
    let low : c.loop-source.source ≤ c.args.film.sources = omega arith in
    let most = mul-le-mul_right (150 + 50 * most_ranges c.args.film) low in
    (λ ss told. puts_same (ap (λ (n : ℕ). each_source (source_text c.args.named) ss n 0) all) (inv.1 ss told), omega (arith, inv.0, most))
