-- Document 01, "Serving": the run of a position in a list of chunks.
use Rattle.std.specs.Prelude.{ℕ, ◌-◌, min, Bool, true, false, ◌&&◌, List, Option, None, Some, is_some, ◌≡◌, ltb, eqb, length, get_or}
use Rattle.partial.specs.Meaning.{supplier}
use Rattle.partial.specs.Segments.{Chunk, no_chunk, good}
use Rattle.partial.specs.Sequences.{stretch}
use Rattle.segment.specs.Chunk.{chunk_of}
use Rattle.segment.specs.declared.chunk.Chunk.{Chunk as CodeChunk}
use Rattle.supplying.specs.declared.runs.Run.{Run}

-- whether a chunk supplies a position, and which: no chunk where none does
abbrev pub is_supplied : List Chunk → ℕ → Bool
is_supplied cs p = ltb (supplier cs p) (length cs)

abbrev pub supplied_by : List Chunk → ℕ → Chunk
supplied_by cs p = get_or cs (supplier cs p) no_chunk

-- how many positions from p on, below an end, the same chunk supplies, or none does
unfoldable pub same_run : List Chunk → ℕ → ℕ → ℕ
same_run cs p end = stretch (λ q. eqb (supplier cs q) (supplier cs p)) (end - p) p

-- what is told of the chunk of a run; no chunk where it has none
abbrev pub run_chunk : Option CodeChunk → Chunk
run_chunk None = no_chunk
run_chunk (Some c) = chunk_of c

-- a run tells whether a position is supplied, by which chunk, and for how many positions that is so
pub record RunIn (cs : List Chunk) (p end : ℕ) (r : Run) : Type 0 where
  pub supplied : is_some r.chunk ≡ is_supplied cs p
  pub chunk : run_chunk r.chunk ≡ supplied_by cs p
  pub long : r.length ≡ same_run cs p end

-- an end, or where a chunk begins that comes before it and after p; an empty chunk or one that is not good does not
-- count
unfoldable pub clip : ℕ → ℕ → Chunk → ℕ
clip p end c = elim (eqb c.state good && (ltb p c.start && ltb 0 c.size)) [ true ↦ min end c.start | false ↦ end ]
