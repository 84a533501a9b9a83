-- Document 01, "Lists", and document 02, [6]: which class of the definitions each class of a position is.
use Rattle.std.specs.Prelude.{ℕ}
use Rattle.partial.specs.Naming.{held}
use Rattle.partial.specs.Ranges.{missing, had}
use Rattle.sweeping.specs.declared.ranges.Class.{Class}
use Rattle.sweeping.specs.declared.ranges.Class.TheVariants.{Missing, Had, Held}
use Rattle.sweeping.specs.declared.ranges.Range.{Range}

abbrev pub class_no : Class → ℕ
class_no Missing = missing
class_no Had = had
class_no Held = held

-- the class of some positions, and how many they are
pub record Run : Type 0 where
  pub class : ℕ
  pub length : ℕ

abbrev pub run_of : Range → Run
run_of r = record { class = class_no r.class; length = r.length }
