-- Document 02, [9]: what is told of a file before its lines are printed.
use Rattle.std.specs.Prelude.{ℕ, List, ◌≡◌, length, leb, Result, Ok, Err}
use Rattle.boxes.specs.Answer.{refused, given, ◌>>=◌, hold}
use Rattle.partial.specs.Heading.{Heading}
use Rattle.rescue.specs.Kept.{framed, opening}
use Rattle.salvaging.specs.Opens.{Told}
use Rattle.salvaging.specs.Tables.{FatesHeld}
use Rattle.refusals.specs.Refusals.{refusal_no}
use Rattle.refusals.specs.declared.Refusal.{Refusal}
use Rattle.rescue.specs.declared.table.Fate.{Fate}
use Rattle.salvaging.specs.declared.opening.OpenFile.{OpenFile}

-- 27 or the file's refusal, or what is told of it, with the fates of its boxes in a table
unfoldable pub Tells : List ℕ → ℕ → List Fate → Result OpenFile Refusal → Type 0
Tells f most t (Err e) = (hold 27 (leb (length f) most) >>= λ _. opening f) ≡ refused (refusal_no e)
Tells f most t (Ok o) =
    (h : Heading) × ((hold 27 (leb (length f) most) >>= λ _. opening f) ≡ given h) × Told f h o × FatesHeld (framed f) h t
