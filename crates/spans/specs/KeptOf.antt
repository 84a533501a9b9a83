-- The segments of a file that is kept, as the calls are given it.
use Rattle.std.specs.Prelude.{List}
use Rattle.gathering.specs.Kept.{Kept as AllKept}
use Rattle.partial.specs.Segments.{Segment}
use Rattle.spans.specs.declared.kept.Kept.{Kept}

abbrev pub KeptOf : Kept → List Segment → Type 0
KeptOf k ss = AllKept k.segments.now k.many k.sources.now k.numbers.now ss
