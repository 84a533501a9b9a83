-- `fileindex::parts::put_source` meets its contract. The loop's invariant: the rows so far have the number.
use Prim.Native.Nat.{◌+◌, ◌*◌, ◌≤◌}
use mathlib.Core.Path.{refl, ◌∙◌}
use native.Mathlib.Omega.{arith}
use borrow.Author.Rules.{rules}
use lib.ListN.{length}
use Rattle.partial.specs.Index.{index_row_length}
use Rattle.fileindex.proofs.SourceRowLaws.{source_long, partway_none, partway_more, partway_end}
use Rattle.fileindex.proofs.parts.put_source.Goals as goal

pub loop-i-init : goal.loop-i-init
loop-i-init c = (
  refl,
  omega (arith, c.min-end.ensures),
  omega (arith, c.min-end.ensures),
  λ room. omega (arith, c.min-end.ensures),
  λ small. omega (arith, c.saturating_add-mark.ensures),
  λ t₀ is many room put small. partway_none _ _ t₀ is room _ (omega arith) put,
)

pub loop-i-preserved : goal.loop-i-preserved
loop-i-preserved c =
    let inv = c.loop-i.invariant in (
      search rules,
      inv.1,
      inv.2,
      inv.3,
      inv.4,
      λ t₀ is many room put small.
          partway_more _ _ t₀ is room (inv.5 t₀ is many room put small) (omega arith) (inv.4 small) _ _ (omega arith) (omega arith),
    )

pub returns : goal.returns
returns c =
    let inv = c.loop-i.invariant in
    record {
      long = inv.0;
      rows = λ t₀ is small many put.
          record {
            long = inv.0 ∙ put.long;
            held = λ room.
                let long = source_long c.args.source is in
                let fits : index_row_length * c.args.from + index_row_length * length is ≤ length t₀ = omega (arith, long) in
                let end = inv.3 (omega (arith, put.long, many)) in
                partway_end _ _ t₀ is fits (inv.5 t₀ is many fits put small) (omega (arith, many, end));
          };
    }
