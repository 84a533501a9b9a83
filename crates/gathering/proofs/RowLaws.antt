-- A law of rows that fill a table.
use Prim.Native.Nat.{ℕ, ◌≤◌}
use mathlib.Core.List.{List}
use mathlib.Core.Path.{◌≡◌}
use lib.ListN.{length}
use Rattle.filling.specs.Rows.{Put}
use Rattle.filling.proofs.RowLaws.{put_fills}
use Rattle.partial.specs.Memory.{filled}

-- from the front of a table that they fit they fill it
pub put_filled : {t₀ t : List ℕ} (rows : List ℕ) → Put t₀ 0 rows t → length rows ≤ length t₀ → t ≡ filled rows t₀
unfolding filled
put_filled rows p fits = put_fills rows p fits
