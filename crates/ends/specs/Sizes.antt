-- What the ends of segments say of the size of the source, as the code gathers it.
use Rattle.std.specs.Prelude.{not, ◌||◌, List, map, eqb}
use Rattle.std.specs.Prelude.{option_map, unwrap_or}
use Rattle.partial.specs.Sequences.{all_of, largest}
use Rattle.partial.specs.Segments.{Segment, end_of}
use Rattle.partial.specs.Meaning.{gives_size, known_size}
use Rattle.ends.specs.declared.sizes.Sizes.{Sizes}

-- the size, where it is known; the largest end; whether every segment that makes the size known ends there
unfoldable pub sizes_of : List Segment → Sizes
sizes_of ss =
    record {
      size = option_map (λ n. record { 0 = n }) (known_size ss);
      largest = record { 0 = largest (map end_of ss) };
      same = all_of (λ s. not (gives_size s) || eqb (end_of s) (unwrap_or (known_size ss) 0)) ss;
    }
