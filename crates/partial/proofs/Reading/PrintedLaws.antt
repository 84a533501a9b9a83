-- What a map program prints, and what the call leaves that writes it into a lent buffer.
use Prim.Native.Nat.{ℕ}
use mathlib.Core.List.{List}
use borrow.Author.Tests.{le-leb, lt-leb}
use lib.ListN.{length}
use Rattle.partial.specs.Segments.{Segment}
use Rattle.partial.specs.Map.{text_for}
use Rattle.partial.specs.Memory.{fits, text_written}
use Rattle.partial.specs.ReadingDemands.{Printed}

pub printed : (of : List Segment → List ℕ) (limit most : ℕ) (input : List ℕ) → Printed of limit most input
unfolding text_for fits text_written
printed of limit most input =
    record {
      over_long = λ over. rw (text_for, lt-leb (length input) most over);
      refusal = λ n small e. rw (text_for, le-leb (length input) most small, e);
      lines = λ ss small e. rw (text_for, le-leb (length input) most small, e);
      room = λ buffer h. rw (le-leb (length (text_for of limit most input)) (length buffer) h);
      no_room = λ buffer h. rw (lt-leb (length (text_for of limit most input)) (length buffer) h);
    }
