-- Document 01, the `ploc` paragraph: what is told of an entry, and what follows its flags.
use Rattle.std.specs.Prelude.{ℕ, ◌+◌, true, false, List, leb}
use Rattle.boxes.specs.Answer.{Answer, given, ◌>>=◌, hold}
use Rattle.numerals.specs.Numbers.{number, signed}
use Rattle.partial.specs.Segments.{present}
use Rattle.partial.specs.Entries.{Ploc, Entry}
use Rattle.fields.specs.declared.entry.Entry.{Entry as CodeEntry}
use Rattle.fields.specs.State.{state_no}

-- the bytes of an offset in an entry of that state
unfoldable pub offset_bytes : Ploc → ℕ → ℕ
offset_bytes l state = elim (present state) [ true ↦ l.offset_size | false ↦ 0 ]

-- what follows the flags of an entry of that state
unfoldable pub entry_rest : List ℕ → Ploc → ℕ → ℕ → Answer Entry
entry_rest f l at state = do
  let width = offset_bytes l state
  let rest = at + 1 + l.length_size
  _ ← hold 17 (leb (rest + width) l.end)
  given (record { state = state; size = number f (at + 1) l.length_size; offset = signed width (number f rest width); next = rest + width })

-- what an entry that was read says
abbrev pub entry_of : CodeEntry → Entry
entry_of e = record { state = state_no e.state; size = e.size; offset = e.offset; next = e.next.0 }
