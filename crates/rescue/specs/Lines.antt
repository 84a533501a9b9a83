-- Document 02, [9]: the lines that a program prints of what was dropped.
use Rattle.std.specs.Prelude.{ℕ, List, [], ◌++◌, length, leb}
use Rattle.std.specs.Prelude.{Option, None, Some}
use Rattle.boxes.specs.Answer.{refused, given, ◌>>=◌, hold}
use Rattle.boxes.specs.Framing.{Fault}
use Rattle.partial.specs.BoxList.{each, fault_line}
use Rattle.partial.specs.Map.{refused_line}
use Rattle.rescue.specs.Kept.{dropped, whole, of_pfil, of_pseg, Fated, walk_of, framed, opening, fates}

-- the line of a dropped box: its place, a tab and its number; none of one that stays
unfoldable pub dropped_line : Fated → List ℕ
dropped_line x =
    elim x.fate [
      | dropped n ↦ fault_line (record { at = x.box.at; number = n })
      | whole ↦ []
      | of_pfil inner ↦ []
      | of_pseg s ↦ []
    ]

-- a line for every dropped box, and for the first framing error
unfoldable pub dropped_lines : List Fated → Option Fault → List ℕ
dropped_lines xs fault = each dropped_line xs ++ elim fault [ None ↦ [] | Some x ↦ fault_line x ]

-- what a program prints that takes an input of at most so many bytes: the single line of a refusal, or these lines
unfoldable pub salvage_text : ℕ → ℕ → List ℕ → List ℕ
salvage_text limit most input =
    elim (hold 27 (leb (length input) most) >>= λ _. opening input) [
      | refused n ↦ refused_line n
      | given h ↦ dropped_lines (fates limit (framed input) h) (walk_of input).fault
    ]
