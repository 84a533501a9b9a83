-- Laws of the tables of a pass: zeros say nothing, and tables that say nothing are those of no segment.
use Prim.Native.Nat.{ℕ}
use mathlib.Core.List.{List, []}
use mathlib.Core.Path.{◌≡◌, refl}
use lib.ListN.{replicate}
use Rattle.partial.specs.Heading.{Heading}
use Rattle.partial.specs.Limits.{segment_limit}
use Rattle.ends.specs.Table.{all_sizes, Cleared}
use Rattle.ends.proofs.TableLaws.{zeros_cleared, holds_none}
use Rattle.sources.specs.Lists.{all_lists, Unlisted}
use Rattle.sources.specs.Numbers.{no_sources}
use Rattle.sources.proofs.ListLaws.{zeros_unlisted}
use Rattle.sources.proofs.HeldLaws.{sourced_none}
use Rattle.gathering.specs.Noted.{Blank, Noted}
use Rattle.gathering.specs.declared.tables.SourceTables.{SourceTables}

pub cleared_blank : {sizes sources lists : List ℕ} → Cleared sizes → sources ≡ no_sources → Unlisted lists → Blank (record { sizes = sizes; sources = sources; lists = lists })
cleared_blank sizes sources lists = record { sizes = sizes; sources = sources; lists = lists }

pub zeros_blank : Blank (record { sizes = replicate all_sizes 0; sources = replicate segment_limit 0; lists = replicate all_lists 0 })
zeros_blank = cleared_blank zeros_cleared refl zeros_unlisted

pub blank_noted : (f : List ℕ) (h : Heading) {t : SourceTables} → Blank t → Noted f h t []
blank_noted f h blank = record { sizes = holds_none blank.sizes; sourced = sourced_none f h blank.sources blank.lists }
