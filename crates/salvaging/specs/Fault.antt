-- Document 02, [9]: the first framing error of a file.
use Rattle.std.specs.Prelude.{ℕ, Option, option_map}
use Rattle.boxes.specs.Framing.{Fault}
use Rattle.refusals.specs.Refusals.{refusal_no}
use Rattle.refusals.specs.declared.Refusal.{Refusal}

-- an error at a place, if there is one
abbrev pub fault_at : ℕ → Option Refusal → Option Fault
fault_at at fault = option_map (λ e. record { at = at; number = refusal_no e }) fault
