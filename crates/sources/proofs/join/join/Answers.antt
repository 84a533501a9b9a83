-- `sources::join::join` meets its contract: by whether the source is new.
use mathlib.Core.Path.{sym, subst}
use Rattle.sources.specs.Lists.{ListPut}
use Rattle.sources.proofs.join.join.Goals as goal
use Rattle.sources.proofs.join.join.Goals.{then-source-many, else-source-many}

pub returns : goal.returns
returns c =
    let came = c.if-source-many.branch in
    record {
      found = c.source_of-source.ensures;
      numbers = c.put_source.ensures;
      new = λ new. elim came [
        | then-source-many w ↦ subst (ListPut _ _ _) (sym w.lists-is) w.put_list.ensures
        | else-source-many w ↦ absurd (w.if-source-many.false new)
      ];
      old = λ old. elim came [
        | then-source-many w ↦ absurd (old w.if-source-many.true)
        | else-source-many w ↦ w.lists-is
      ];
    }
