-- Laws of a size or an end that may not be known.
use mathlib.Core.Path.{◌≡◌, refl}
use Rattle.std.specs.Prelude.{ℕ, Option, None, Some, is_some}
use Rattle.std.specs.Option.{unwrap_or}
use Rattle.partial.specs.Index.{is_known}
use Rattle.partial.specs.declared.position.Position.{Position}
use Rattle.indexing.specs.Ends.{end_of}
use Rattle.indexing.specs.Lists.{place_after}

pub known_some : (size : Option ℕ) → is_known size ≡ is_some size
unfolding is_known
known_some None = refl
known_some (Some n) = refl

pub end_known : (end : Option Position) → is_known (end_of end) ≡ is_some end
unfolding is_known
end_known None = refl
end_known (Some at) = refl

-- where the next box of a list starts
pub next_place : (place : Position) (end : Option Position) → (unwrap_or end place).0 ≡ place_after place.0 (end_of end)
next_place place None = refl
next_place place (Some at) = refl
