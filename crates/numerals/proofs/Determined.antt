-- Each public call's contract determines its answer: two that it allows of the same arguments are equal.
use mathlib.Core.Path.{◌≡◌, sym, ◌∙◌}
use Rattle.core.proofs.int.u64.max.Reads as std_max
use Rattle.core.proofs.int.u64.min.Reads as std_min
use Rattle.core.proofs.int.u64.saturating_add.Reads as std_sum
use Rattle.core.proofs.int.u64.saturating_sub.Reads as std_between
use Rattle.core.proofs.int.usize.max.Reads as std_max_usize
use Rattle.core.proofs.int.usize.min.Reads as std_min_usize
use Rattle.core.proofs.int.usize.saturating_add.Reads as std_sum_usize
use Rattle.core.proofs.int.usize.saturating_sub.Reads as std_between_usize
use Rattle.numerals.proofs.numbers.put_number.Reads as put-number
use Rattle.numerals.proofs.numbers.put_offset.Reads as put-offset
use Rattle.numerals.proofs.numbers.signed.Reads as signed
use Rattle.numerals.proofs.numbers.unsigned.Reads as unsigned
use Rattle.numerals.proofs.numbers.width_of.Reads as width_of_lem
use Rattle.numerals.proofs.numbers.width_of_offset.Reads as width-of-offset
use Rattle.numerals.proofs.numbers.within.Reads as within
use Rattle.numerals.proofs.order.between.Reads as between
use Rattle.numerals.proofs.order.ends_by.Reads as ends_by
use Rattle.numerals.proofs.order.larger.Reads as larger
use Rattle.numerals.proofs.order.smaller.Reads as smaller
use Rattle.numerals.proofs.order.sum_of.Reads as sum_of

module _ {L : Type 0} {A R E : L → Type 0} (post : (κs : L) → A κs → R κs → E κs → Type 0) where
  -- a contract allows one result
  abbrev pub OneResult : Type 0
  OneResult =
      (κs : L) (args : A κs) (x y : R κs) (after after' : E κs) → post κs args x after → post κs args y after' → x ≡ y

  -- a contract allows one value of something that the call leaves behind
  abbrev pub OneLeft : {X : Type 0} → ((κs : L) → E κs → X) → Type 0
  OneLeft of =
      (κs : L) (args : A κs) (x y : R κs) (after after' : E κs) → post κs args x after → post κs args y after'
      → of κs after ≡ of κs after'

  -- where something is known of the arguments, a contract allows one result
  abbrev pub OneKnown : {X : Type 0} → ((κs : L) → A κs → X → Type 0) → Type 0
  OneKnown {X} known =
      (κs : L) (args : A κs) (what : X) → known κs args what → (x y : R κs) (after after' : E κs)
      → post κs args x after
      → post κs args y after'
      → x ≡ y

  -- where something is known of the arguments, a contract allows one value of something that the call leaves behind
  abbrev pub OneLeftKnown : {X Y : Type 0} → ((κs : L) → A κs → X → Type 0) → ((κs : L) → E κs → Y) → Type 0
  OneLeftKnown {X} known of =
      (κs : L) (args : A κs) (what : X) → known κs args what → (x y : R κs) (after after' : E κs)
      → post κs args x after
      → post κs args y after'
      → of κs after ≡ of κs after'

within-result : OneResult within.Post
within-result κs args x y after after' p q = p ∙ sym q

unsigned_result : OneResult unsigned.Post
unsigned_result κs args x y after after' p q = p ∙ sym q

signed-result : OneResult signed.Post
signed-result κs args x y after after' p q = p ∙ sym q

put_number-result : OneResult put-number.Post
put_number-result κs args x y after after' p q = p.room ∙ sym q.room

put_number_bytes : OneLeft put-number.Post (λ κs after. after.0.now)
put_number_bytes κs args x y after after' p q = p.left ∙ sym q.left

put_offset_result : OneResult put-offset.Post
put_offset_result κs args x y after after' p q = p.room ∙ sym q.room

put_offset_bytes : OneLeft put-offset.Post (λ κs after. after.0.now)
put_offset_bytes κs args x y after after' p q = p.left ∙ sym q.left

width_of-result : OneResult width_of_lem.Post
width_of-result κs args x y after after' p q = p ∙ sym q

width_of_offset_result : OneResult width-of-offset.Post
width_of_offset_result κs args x y after after' p q = p ∙ sym q

smaller_result : OneResult smaller.Post
smaller_result κs args x y after after' p q = p ∙ sym q

larger_result : OneResult larger.Post
larger_result κs args x y after after' p q = p ∙ sym q

sum-of-result : OneResult sum_of.Post
sum-of-result κs args x y after after' p q = p ∙ sym q

between_result : OneResult between.Post
between_result κs args x y after after' p q = p ∙ sym q

-- of std's own functions, which the code calls straight
std_min_result : OneResult std_min.Post
std_min_result κs args x y after after' p q = p ∙ sym q

std_min_usize_result : OneResult std_min_usize.Post
std_min_usize_result κs args x y after after' p q = p ∙ sym q

std_max_result : OneResult std_max.Post
std_max_result κs args x y after after' p q = p ∙ sym q

std_max_usize_result : OneResult std_max_usize.Post
std_max_usize_result κs args x y after after' p q = p ∙ sym q

std_sum_result : OneResult std_sum.Post
std_sum_result κs args x y after after' p q = p ∙ sym q

std_sum_usize_result : OneResult std_sum_usize.Post
std_sum_usize_result κs args x y after after' p q = p ∙ sym q

std_between_result : OneResult std_between.Post
std_between_result κs args x y after after' p q = p ∙ sym q

std_between_usize_result : OneResult std_between_usize.Post
std_between_usize_result κs args x y after after' p q = p ∙ sym q

ends_by_result : OneResult ends_by.Post
ends_by_result κs args x y after after' p q = p ∙ sym q
