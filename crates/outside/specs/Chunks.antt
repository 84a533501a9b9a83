-- Document 02, [2]: what is judged and counted of the chunks that are stored outside `pdat`.
use Rattle.std.specs.Prelude.{ℕ, ◌+◌, Bool, true, false, ◌&&◌, List, [], ◌∷◌, map, length, take, drop}
use Rattle.additions.specs.Addition.{Item, data_size, goes_out}
use Rattle.partial.specs.Mixed.{are_boxes, boxes_many}
use Rattle.partial.specs.Sequences.{sum}
use Rattle.outside.specs.declared.chunks.Outside.{Outside}

-- how many items pass a test
unfoldable pub many : (Item → Bool) → List Item → ℕ
many test is = sum (map (λ i. elim (test i) [ true ↦ 1 | false ↦ 0 ]) is)

-- of no chunk
abbrev pub no_chunk : Outside
no_chunk = record { right = true; chunks = 0; bytes = 0; boxes = 0 }

-- of the chunk of these bytes
unfoldable pub chunk_of : List ℕ → Outside
chunk_of bytes =
    record {
      right = are_boxes bytes;
      chunks = 1;
      bytes = length bytes;
      boxes = elim (are_boxes bytes) [ true ↦ boxes_many bytes | false ↦ 0 ];
    }

-- of some chunks and of others behind them
unfoldable pub together : Outside → Outside → Outside
together x y =
    record { right = x.right && y.right; chunks = x.chunks + y.chunks; bytes = x.bytes + y.bytes; boxes = x.boxes + y.boxes }

-- of the items of a list that go outside, out of the data of all in chunk order
unfoldable pub outside_of : Bool → List Item → List ℕ → Outside
outside_of outside [] bytes = no_chunk
outside_of outside (i ∷ is) bytes =
    let n = data_size (i ∷ []) in
    let rest = outside_of outside is (drop n bytes) in
    elim (goes_out outside i) [ true ↦ together (chunk_of (take n bytes)) rest | false ↦ rest ]
