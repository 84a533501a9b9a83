-- Document 01, the `ploc` paragraph: what is told of the head of a `ploc`.
use Rattle.std.specs.Prelude.{min}
use Rattle.partial.specs.Entries.{Ploc}
use Rattle.fields.specs.declared.location.Location.{Location}

-- what a head that was read says
abbrev pub head_of : Location → Ploc
head_of l = record { length_size = l.length_size; offset_size = l.offset_size; count = l.count; first = l.first.0; end = l.end.0 }

-- the head by which entries are read, for any widths: a width over 8 counts as 8, and a head that was read has none
abbrev pub ploc_of : Location → Ploc
ploc_of l =
    record {
      length_size = min l.length_size 8;
      offset_size = min l.offset_size 8;
      count = l.count;
      first = l.first.0;
      end = l.end.0;
    }
