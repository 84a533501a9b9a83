-- Document 01, "Writing again": what was read of a file, as it is handed to begin and append once more.
use Rattle.std.specs.Prelude.{ℕ, Bool, true, false, not, ◌&&◌, List, [], ◌∷◌, ◌++◌, map, eqb}
use Rattle.boxes.specs.Framing.{Box}
use Rattle.partial.specs.Sequences.{some_of}
use Rattle.partial.specs.Segments.{Chunk, Segment, good, present, is_last}
use Rattle.partial.specs.Heading.{Heading, url, mime, bytes_in}
use Rattle.partial.specs.Entries.{in_data}
use Rattle.partial.specs.Tables.{text_of}
use Rattle.partial.specs.Texts.{surls_in, texts_for, lengths_for}
use Rattle.additions.specs.Begin.{brand_for}
use Rattle.additions.specs.Addition.{Addition, items, goes_out}
use Rattle.additions.specs.Runs.{Lent, begin, append_all}

-- the bytes of the present chunks of a list, in their order
unfoldable pub data_of : List ℕ → List Chunk → List ℕ
data_of f [] = []
data_of f (c ∷ cs) =
    elim (present c.state) [ true ↦ bytes_in f (record { place = c.place; size = c.size }) | false ↦ [] ] ++ data_of f cs

-- the sizes and states of chunks, by turns
unfoldable pub list_for : List Chunk → List ℕ
list_for [] = []
list_for (c ∷ cs) = c.size ∷ c.state ∷ list_for cs

-- whether some good chunk lies outside `pdat`, among these boxes
unfoldable pub some_outside : List Box → List Chunk → Bool
some_outside bs cs = some_of (λ c. eqb c.state good && not (in_data bs c.place c.size)) cs

-- a segment's fields, where its good chunks lie, its chunks and bytes, and the texts of its own `surl` boxes, to be
-- written again
unfoldable pub again : List ℕ → Heading → Segment → Addition
again f h s =
    record {
      source_offset = s.source_offset;
      repair_time = s.repair_time;
      last = is_last s.flags;
      outside = some_outside h.boxes s.chunks;
      list = list_for s.chunks;
      bytes = data_of f s.chunks;
      texts = texts_for (surls_in f s.inner);
      lengths = lengths_for (surls_in f s.inner);
    }

-- what of an addition can be told from the file: with no good chunk, whether the good ones go outside says nothing
abbrev pub settled : Addition → Addition
settled a =
    record {
      source_offset = a.source_offset;
      repair_time = a.repair_time;
      last = a.last;
      outside = some_of (goes_out a.outside) (items a.list);
      list = a.list;
      bytes = a.bytes;
      texts = a.texts;
      lengths = a.lengths;
    }

-- writing again, into a buffer, a file with a heading and segments: begin with the brand, the URL and the MIME text
-- read, then append each segment with its fields, chunks and bytes, and its own texts
unfoldable pub write_again : ℕ → List ℕ → List ℕ → Heading → List Segment → Lent
write_again limit buffer f h ss =
    append_all limit (begin buffer (brand_for h.mixed) (bytes_in f (text_of url limit f)) (bytes_in f (text_of mime limit f))) (map (again f h) ss)
