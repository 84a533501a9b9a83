-- Where the lists of URLs of sources stand, in a table with an entry for each source that a file may have.
use Rattle.std.specs.Prelude.{ℕ, ◌+◌, ◌/◌, ◌%◌, ◌<◌, min, true, false, List, ◌≡◌, eqb, ltb, length, get_or}
use Rattle.boxes.specs.declared.kinds.Container.{Container}
use Rattle.boxes.specs.declared.kinds.Container.TheVariants.{File, Pfil, Pseg, Fidx, Bidx}
use Rattle.partial.specs.Limits.{file_limit, segment_limit}
use Rattle.boxes.specs.declared.body.Body.{Body}

-- the numbers of the table, one for each source
abbrev pub all_lists : ℕ
all_lists = segment_limit

-- a container as a number, and the container of a number
unfoldable pub container_number : Container → ℕ
container_number File = 0
container_number Pfil = 1
container_number Pseg = 2
container_number Fidx = 3
container_number Bidx = 4

unfoldable pub container_of : ℕ → Container
container_of n =
    elim (eqb n 0) [
      | true ↦ File
      | false ↦ elim (eqb n 1) [ true ↦ Pfil | false ↦ elim (eqb n 2) [ true ↦ Pseg | false ↦ elim (eqb n 3) [ true ↦ Fidx | false ↦ Bidx ] ] ]
    ]

-- as many containers as an entry tells apart, and as many places as a file may have
abbrev pub containers : ℕ
containers = 8

abbrev pub places : ℕ
places = file_limit + 1

-- an entry: the container, above it where its body starts, and above that where it ends; so 0 is the entry of no list
abbrev pub body_by : ℕ → Body
body_by n = record { container = container_of (n % containers); start = record { 0 = n / containers % places }; end = record { 0 = n / containers / places } }

-- what an entry has room for: a place past the last one that a file may have is kept as that
abbrev pub kept_list : Body → Body
kept_list x = record { container = x.container; start = record { 0 = min x.start.0 file_limit }; end = record { 0 = min x.end.0 file_limit } }

abbrev pub no_list : Body
no_list = record { container = File; start = record { 0 = 0 }; end = record { 0 = 0 } }

-- the entry of a source; past the table that of no list
unfoldable pub list_in : List ℕ → ℕ → Body
list_in t source = elim (ltb source segment_limit) [ true ↦ body_by (get_or t source 0) | false ↦ no_list ]

-- a table after the entry of a source was put, where it has one: every other stays
pub record ListPut (before : List ℕ) (source : ℕ) (list : Body) (table : List ℕ) : Type 0 where
  pub long : length table ≡ length before
  pub here : source < segment_limit → length before ≡ all_lists → list_in table source ≡ kept_list list
  pub others : (k : ℕ) → (k ≡ source → ⊥) → list_in table k ≡ list_in before k

-- a table of no list
pub record Unlisted (table : List ℕ) : Type 0 where
  pub long : length table ≡ all_lists
  pub none : (source : ℕ) → list_in table source ≡ no_list
