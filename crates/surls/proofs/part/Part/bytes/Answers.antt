-- `surls::part::Part::bytes` meets its contract: both ends are cut to the file's.
use Rattle.surls.specs.Parts.{part_of}
use Rattle.surls.proofs.PartLaws.{part_read}
use Rattle.surls.proofs.part.Part.bytes.Goals as goal

pub returns : goal.returns
returns c = part_read _ (part_of c.args.self) c.min-from.ensures c.min-size.ensures
