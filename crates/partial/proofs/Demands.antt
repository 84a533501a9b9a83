-- What the demands say of reading holds of the definitions, at any source limit; and no map program answers 33.
use Prim.Native.Nat.{ℕ}
use Rattle.partial.specs.Limits.{source_limit, program_buffer}
use Rattle.partial.specs.Map.{map_of, missmap_of}
use Rattle.partial.specs.ReadingDemands.{NeverShort, Demand2OfReading}
use Rattle.partial.proofs.Meaning.AskedLaws.{answered, absent}
use Rattle.partial.proofs.Reading.AgreementReadLaws.{agrees, disagrees, ninth-source, index-refused}
use Rattle.partial.proofs.Reading.RefusalLaws.{no_41}
use Rattle.partial.proofs.Reading.IndexingLaws.{indexing}
use Rattle.partial.proofs.Reading.PartLaws.{part-empty}
use Rattle.partial.proofs.Reading.PrintedLaws.{printed}
use Rattle.partial.proofs.Reading.NumberedLaws.{reading_numbered}
use Rattle.partial.proofs.Reading.OneSourceLaws.{listed, one-source}
use Rattle.partial.proofs.Reading.ReadingLaws.{mapped_of}
use Rattle.partial.proofs.Reading.TextLengthLaws.{never_short, map-fits, missmap_fits}

pub demand2_of-reading : (limit : ℕ) → Demand2OfReading limit
demand2_of-reading limit =
    record {
      numbered = λ f ss read. reading_numbered limit f read;
      mapped = λ f h ss head read. mapped_of limit f head read;
      listed = λ f h ss head read. listed limit f head read;
      one_source = λ f ss read. one-source limit f read;
      no41 = λ f h head. no_41 limit f head;
      absent = absent;
      answered = answered;
      agrees = agrees limit;
      disagrees = disagrees limit;
      ninth_source = ninth-source limit;
      index_refused = index-refused limit;
      indexing = λ f h ss is _ _ e. indexing limit f h ss is e;
      part_empty = part-empty limit;
      printed = λ of. printed of limit;
    }

pub map_never_short : NeverShort map_of source_limit program_buffer
map_never_short = never_short map_of map-fits

pub missmap_never_short : NeverShort missmap_of source_limit program_buffer
missmap_never_short = never_short missmap_of missmap_fits
