-- Document 01, "Append": what one pass over the chunk list counts, and what it tells of an addition.
use Rattle.std.specs.Prelude.{ℕ, ◌-◌, ◌^◌, min, Bool, true, false, not, ◌&&◌, List, map, ◌≡◌, eqb, length}
use Rattle.boxes.specs.Answer.{Answer, refused, given}
use Rattle.additions.specs.Addition.{Addition, Item, items, data_size, is_state}
use Rattle.partial.specs.Segments.{present}
use Rattle.partial.specs.Sequences.{all_of, largest, sum}
use Rattle.outside.specs.Chunks.{outside_of}
use Rattle.outside.specs.declared.chunks.Outside.{Outside}
use Rattle.adding.specs.declared.counts.Counts.{Counts}

-- a sum, or the largest number of 64 bits where it is larger
abbrev pub capped : ℕ → ℕ
capped n = min n (2 ^ 64 - 1)

-- how many items are present
unfoldable pub present_of : List Item → ℕ
present_of is = sum (map (λ i. elim (present i.state) [ true ↦ 1 | false ↦ 0 ]) is)

-- whether the size is not 0, and the state is one
abbrev pub right_item : Item → Bool
right_item i = not (eqb i.size 0) && is_state i.state

-- whether no size is 0 and every state is one, how many items there are and how many are present, the largest size, the
-- bytes of those that are present and of all
unfoldable pub counts_of : List Item → Counts
counts_of is =
    record {
      right = all_of right_item is;
      items = length is;
      present = present_of is;
      largest = largest (map (λ i. i.size) is);
      bytes = capped (data_size is);
      sum = capped (sum (map (λ i. i.size) is));
    }

-- the counts of items that are right, else 31
unfoldable pub counted : List Item → Answer Counts
counted is = elim (all_of right_item is) [ true ↦ given (counts_of is) | false ↦ refused 31 ]

-- the same counts, saying this of whether the items are right
abbrev pub saying : Bool → Counts → Counts
saying right c = record { right = right; items = c.items; present = c.present; largest = c.largest; bytes = c.bytes; sum = c.sum }

-- counts of items whose data is no more than 64 bits hold
pub record Whole (is : List Item) (c : Counts) : Type 0 where
  pub counts : c ≡ counts_of is
  pub bytes : c.bytes ≡ data_size is

-- counts of an addition whose data is right
pub record Counted (a : Addition) (c : Counts) : Type 0 where
  pub items : Whole (items a.list) c
  pub bytes : c.bytes ≡ length a.bytes

-- and what goes outside of it
pub record Sorted (a : Addition) (c : Counts) (o : Outside) : Type 0 where
  pub counted : Counted a c
  pub outside : o ≡ outside_of a.outside (items a.list) a.bytes
