-- The two maps of a file, by whether the missing positions are named, what is known of a file, and what is told of a
-- source by two tables of spans.
use Rattle.std.specs.Prelude.{ℕ, ◌+◌, ◌<◌, ◌≤◌, Bool, true, false, ◌&&◌, List, [], ◌∷◌, ◌≡◌, length}
use Rattle.partial.specs.Limits.{segment_limit, source_limit}
use Rattle.partial.specs.Map.{map_word, source_map, map_of, miss_word, source_missmap, missmap_of}
use Rattle.partial.specs.Meaning.{described_length, is_closed}
use Rattle.partial.specs.Naming.{damaged_at, named_class, held_list, lost_list}
use Rattle.partial.specs.Ranges.{Range as Stretch, ranges, class_of, had_list, missing_list}
use Rattle.partial.specs.Segments.{Segment, chunks_of}
use Rattle.partial.specs.Sources.{source_count, of_source}
use Rattle.ends.specs.Sizes.{sizes_of}
use Rattle.ends.specs.Table.{sizes_in}
use Rattle.spans.specs.KeptOf.{KeptOf}
use Rattle.spans.specs.declared.span.Span.{Span}
use Rattle.sweeping.specs.Naming.{name_by}
use Rattle.spans.specs.Spans.{covered_by, Ordered}
use Rattle.mapping.specs.declared.film.Film.{Film}
use Rattle.mapping.specs.declared.outline.Outline.{Outline}

-- the text, and that of the segments of one source
unfoldable pub text_of : Bool → List Segment → List ℕ
text_of named ss = elim named [ true ↦ map_of ss | false ↦ missmap_of ss ]

unfoldable pub source_text : Bool → List Segment → List ℕ
source_text named ss = elim named [ true ↦ source_map ss | false ↦ source_missmap ss ]

-- the class of a position, its word, and the lists whose totals are told
unfoldable pub class_in : Bool → List Segment → ℕ → ℕ
class_in named ss = elim named [ true ↦ named_class ss | false ↦ class_of ss ]

unfoldable pub word_of : Bool → ℕ → List ℕ
word_of named = elim named [ true ↦ map_word | false ↦ miss_word ]

unfoldable pub lists_of : Bool → List Segment → List (List Stretch)
lists_of named ss = elim named [ true ↦ had_list ss ∷ held_list ss ∷ lost_list ss ∷ [] | false ↦ had_list ss ∷ missing_list ss ∷ [] ]

-- below an end, spans cover what the damaged chunks of a file do; nothing where the missing positions are not named
pub record Damage (ss : List Segment) (named : Bool) (t : List Span) (end : ℕ) : Type 0 where
  pub covers : (q : ℕ) → q < end → covered_by t (length t) q ≡ (named && damaged_at ss q)

-- the spans of both kinds are ordered below an end that the limit allows
pub record Drawn (o : Outline) : Type 0 where
  pub low : o.end.0 ≤ source_limit
  pub of_good : Ordered o.good.now (length o.good.now) o.end.0
  pub of_damaged : Ordered o.damaged.now (length o.damaged.now) o.end.0

-- the name of a position by the spans of both kinds
abbrev pub name_in : Outline → ℕ → ℕ
name_in o = name_by o.good.now (length o.good.now) o.damaged.now (length o.damaged.now)

-- the ranges by them
abbrev pub ranges_in : Outline → List Stretch
ranges_in o = ranges (name_in o) o.end.0 0

-- those of a file, named or not
abbrev pub ranges_for : Bool → List Segment → List Stretch
ranges_for named ss = ranges (class_in named ss) (described_length ss) 0

-- an outline is that of a source, by its segments
pub record Outlined (ss : List Segment) (o : Outline) : Type 0 where
  pub long : o.end.0 ≡ described_length ss
  pub closed : o.closed ≡ is_closed ss
  pub class : (q : ℕ) → q < o.end.0 → name_in o q ≡ class_in o.named ss q

-- a number that the ranges of any source of a file are no more than: they part only where a segment starts or a chunk
-- ends
abbrev pub most_ranges : Film → ℕ
most_ranges film = film.kept.many + film.chunks + 1

-- the segments of a file are those that were kept and counted and whose ends were put to their sources, of which there
-- are no more than segments
pub record Told (film : Film) (ss : List Segment) : Type 0 where
  pub kept : KeptOf film.kept ss
  pub chunks : film.chunks ≡ length (chunks_of ss)
  pub source_many : film.sources ≡ source_count ss
  pub source_few : film.sources ≤ segment_limit
  pub said : (n : ℕ) → sizes_in film.sizes.now n ≡ sizes_of (of_source n ss)
  pub low : (n : ℕ) → described_length (of_source n ss) ≤ source_limit
  pub few : (n : ℕ) (named : Bool) → length (ranges_for named (of_source n ss)) ≤ most_ranges film
