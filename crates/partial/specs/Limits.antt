-- Document 01, "Sizes we hold to". (Boxes in one container are limited in the box layer.)
use Rattle.std.specs.Prelude.{ℕ}

-- bytes of a file
abbrev pub file_limit : ℕ
file_limit = 1_073_741_824

-- segments of a file
abbrev pub segment_limit : ℕ
segment_limit = 64

-- chunks of a file
abbrev pub chunk_limit : ℕ
chunk_limit = 1_024

-- document 02, [5]: the highest source position or end; the definitions take it as a parameter, and the product is at
-- this one
abbrev pub source_limit : ℕ
source_limit = 1_099_511_627_775

-- document 02, [8], refusal 40: sources of a file
abbrev pub layer_limit : ℕ
layer_limit = 8

-- bytes that the map program takes
abbrev pub program_limit : ℕ
program_limit = 65_536

-- bytes of the buffer that a program lends for its text, `io::large_buffer`
abbrev pub program_buffer : ℕ
program_buffer = 65_536
