-- Laws of `number` and `bytes_of`, each over the width: how a loop reads a number, what it depends on, what it is read
-- back as.
use mathlib.Core.Path.{◌≡◌, refl, sym, ap, ap₂, ◌∙◌}
use Prim.Native.Nat.{ℕ, zero, suc, ◌+◌, ◌-◌, ◌*◌, ◌/◌, ◌%◌, ◌^◌, ◌≤◌, ◌<◌}
use native.Mathlib.Nat.{pow-suc, pow-le-pow_right, one-le-pow, lt_of_lt_of_le, zero-lt-suc, mod-lt, mod-eq_of_lt, mul-suc, add-zero}
use native.Mathlib.Nat.{add-suc, add_assoc}
use native.Mathlib.Decide.{dec_le}
use native.Mathlib.Numerals.{add-one}
use native.Mathlib.Omega.{arith}
use mathlib.Core.List.{List, [], ◌∷◌, ◌++◌, append_assoc, append-nil}
use lib.Arith.{digits_lt, digits_div, digits_mod, mod-mul}
use lib.ListN.{length, get_or, take, drop, length-append, get_or-append, get_or-eq_default}
use Rattle.std.specs.Int.{w64, byte_at, bytes_high_first, from_be_bytes, to_be_bytes}
use Rattle.std.proofs.lemmas.List.{get_or-take, get_or-drop}
use Rattle.std.proofs.Math.Nat.{div-div-eq-div-mul, mul_comm, zero-add, suc-add}
use lib.Pow.{pow-add, ones_split, ones_lt, suc_ones, high}
use lib.Seq.{get_or_at, get_or-append-add}
use Rattle.numerals.specs.Numbers.{number, bytes_of}

-- ---- reading

-- past the end stands 0
pub past_end : (s : List ℕ) (n : ℕ) → length s ≤ n → 0 ≡ get_or s n 0
past_end s n h = sym (get_or-eq_default s 0 h)

-- no bytes are 0, and one byte is itself
pub number_none : (s : List ℕ) (at : ℕ) → number s at 0 ≡ 0
unfolding number
number_none s at = refl

pub number_byte : (s : List ℕ) (at : ℕ) → number s at 1 ≡ get_or s at 0
unfolding number
number_byte s at = rw add-zero (omega arith)

-- one byte more: the step of a loop that reads a number
pub number_more : (s : List ℕ) (at w : ℕ) → number s at (w + 1) ≡ number s at w * 256 + get_or s (at + w) 0
unfolding number
number_more s at w = rw add-one

-- a number is that of any other place where the same bytes stand
pub number_same : (s t : List ℕ) (a b w : ℕ) → ((k : ℕ) → k < w → get_or s (a + k) 0 ≡ get_or t (b + k) 0)
    → number s a w ≡ number t b w
unfolding number
number_same s t a b zero same = refl
number_same s t a b (suc w) same =
    ap₂ (λ (n d : ℕ). n * 256 + d) (number_same s t a b w (λ k h. same k (omega arith))) (same w (omega arith))

-- what follows a list changes no number inside it
pub number_append : (s t : List ℕ) (at w : ℕ) → at + w ≤ length s → number (s ++ t) at w ≡ number s at w
number_append s t at w h = number_same (s ++ t) s at at w (λ k l. get_or-append s t 0 (at + k) (omega arith))

-- eight bytes that stand together are the number that std reads of them
pub number_eight : (s t : List ℕ) (at : ℕ) → t ≡ take 8 (drop at s) → from_be_bytes w64 t ≡ number s at 8
unfolding number
number_eight s t at part =
    number-read t
    ∙ number_same t s 0 at 8
    (λ k h. rw (zero-add, part) (get_or-take 8 (drop at s) k 0 h ∙ get_or-drop at s k 0))
  where
    number-read : (t : List ℕ) → from_be_bytes w64 t ≡ number t 0 8
    number-read t = omega arith

-- ---- what w bytes can hold

-- a byte more is below a power of 256 more
pub more_below : (n d w : ℕ) → n < 256 ^ w → d < 256 → n * 256 + d < 256 ^ (w + 1)
more_below n d w hn hd = rw (add-one, pow-suc) (digits_lt hn hd)

-- up to 8 bytes are 64 bits
pub room : (n d w : ℕ) → n < 256 ^ w → d < 256 → w + 1 ≤ 8 → n * 256 + d < 2 ^ 64
room n d w hn hd h = lt_of_lt_of_le (more_below n d w hn hd) (pow-le-pow_right (zero-lt-suc 255) h)

-- w bytes, each below 256, are a number below 256 to the w
pub number_below : (s : List ℕ) (at w : ℕ) → ((k : ℕ) → get_or s k 0 < 256) → number s at w < 256 ^ w
unfolding number
number_below s at zero bytes = omega arith
number_below s at (suc w) bytes =
    rw add-one at (more_below (number s at w) (get_or s (at + w) 0) w (number_below s at w bytes) (bytes (at + w)))

-- a power of 256 is not 0
pub power_pos : (w : ℕ) → 0 < 256 ^ w
power_pos w = one-le-pow w 256 (zero-lt-suc 255)

-- 8 bits are a byte
power_two : (w : ℕ) → 2 ^ (8 * w) ≡ 256 ^ w
power_two zero = refl
power_two (suc w) = rw (mul-suc, pow-add, power_two w, pow-suc 256 w)

-- the ones of 64 bits, shifted until w bytes are left, are the largest number of w bytes
pub ones_shifted : (w : ℕ) → w ≤ 8 → (2 ^ 64 - 1) / 2 ^ (64 - 8 * w) + 1 ≡ 256 ^ w
ones_shifted w h =
    let k : ℕ = 64 - 8 * w in
    let all : 8 * w + k ≡ 64 = omega arith in
    ap (λ (n : ℕ). n / 2 ^ k + 1) (ap (λ (j : ℕ). 2 ^ j - 1) (sym all) ∙ ones_split (8 * w) k)
    ∙ ap (λ (n : ℕ). n + 1) (high (2 ^ (8 * w) - 1) k (ones_lt k))
    ∙ add-one (2 ^ (8 * w) - 1)
    ∙ suc_ones (8 * w)
    ∙ power_two w

-- two numbers that stand one behind the other are one number of both widths
pub number-joined : (s : List ℕ) (at w v : ℕ) → number s at (w + v) ≡ number s at w * 256 ^ v + number s (at + w) v
unfolding number
number-joined s at w zero = rw (add-zero w) (omega arith)
number-joined s at w (suc v) = rw (add-suc, number-joined s at w v, pow-suc 256 v, add_assoc) (omega arith)

-- what is left of a number when its last v bytes are shifted out is the number of the bytes before them
pub number_shifted : (s : List ℕ) (at w v : ℕ) → ((k : ℕ) → get_or s k 0 < 256) → number s at (w + v) / 2 ^ (8 * v) ≡ number s at w
number_shifted s at w v bytes =
    rw (power_two v, number-joined s at w v) (digits_div (number s at w) (number_below s (at + w) v bytes))

-- so a number of w bytes is what is left of eight
pub number-front : (s : List ℕ) (at w : ℕ) → ((k : ℕ) → get_or s k 0 < 256) → w ≤ 8 → number s at 8 / 2 ^ (64 - 8 * w) ≡ number s at w
number-front s at w bytes h =
    let all : w + (8 - w) ≡ 8 = omega arith in
    let bits : 8 * (8 - w) ≡ 64 - 8 * w = omega arith in
    rw (all, bits) at (number_shifted s at w (8 - w) bytes)

-- ---- writing

-- w bytes are w bytes
pub length-bytes_of : (w n : ℕ) → length (bytes_of w n) ≡ w
unfolding bytes_of
length-bytes_of zero n = refl
length-bytes_of (suc w) n = rw (length-append, length-bytes_of w (n / 256), add-one)

-- std writes the same bytes, of which the last w are those of that width
byte_at-shifted : (w n : ℕ) → byte_at (suc w) n ≡ byte_at w (n / 256)
byte_at-shifted zero n = omega arith
byte_at-shifted (suc w) n =
    ap (λ (m : ℕ). m % 256) (ap (λ (m : ℕ). n / m) (rw (pow-suc 256 (suc w), mul_comm (256 ^ suc w) 256)) ∙ sym (div-div-eq-div-mul n 256 (256 ^ suc w)))

bytes_high-split : (w n : ℕ) → bytes_high_first (suc w) n ≡ bytes_high_first w (n / 256) ++ (n % 256 ∷ [])
bytes_high-split zero n = refl
bytes_high-split (suc w) n = rw (byte_at-shifted w n, bytes_high-split w n)

bytes_high-is : (w n : ℕ) → bytes_high_first w n ≡ bytes_of w n
unfolding bytes_of
bytes_high-is zero n = refl
bytes_high-is (suc w) n = bytes_high-split w n ∙ ap (λ (b : List ℕ). b ++ (n % 256 ∷ [])) (bytes_high-is w (n / 256))

bytes_high-last : (v w n : ℕ) → drop v (bytes_high_first (v + w) n) ≡ bytes_high_first w n
bytes_high-last zero w n = rw zero-add
bytes_high-last (suc v) w n = rw suc-add (bytes_high-last v w n)

pub bytes_of-last : (w n : ℕ) → w ≤ 8 → drop (8 - w) (to_be_bytes w64 n) ≡ bytes_of w n
bytes_of-last w n h =
    let all : (8 - w) + w ≡ 8 = omega arith in
    ap (λ (k : ℕ). drop (8 - w) (bytes_high_first k n)) (sym all) ∙ bytes_high-last (8 - w) w n ∙ bytes_high-is w n

-- the bytes of 0 are zeros
pub bytes_of_zero : (w k : ℕ) → get_or (bytes_of w 0) k 0 ≡ 0
unfolding bytes_of
bytes_of_zero zero k = refl
bytes_of_zero (suc w) k =
    elim (dec_le w k) [
      | no short ↦ get_or-append (bytes_of w 0) (0 ∷ []) 0 k (rw length-bytes_of (omega arith)) ∙ bytes_of_zero w k
      | yes past ↦
          let here : k ≡ length (bytes_of w 0) + (k - w) = rw length-bytes_of (omega arith) in
          rw (here, get_or-append-add (bytes_of w 0)) (last (k - w))
    ]
  where
    last : (i : ℕ) → get_or {A = ℕ} (0 ∷ []) i 0 ≡ 0
    last zero = refl
    last (suc i) = refl

-- reading back: w bytes of n are n, less what does not fit them
pub number-bytes_of-mod : (p t : List ℕ) (w n : ℕ) → number (p ++ (bytes_of w n ++ t)) (length p) w ≡ n % 256 ^ w
unfolding number bytes_of
number-bytes_of-mod p t zero n = omega arith
number-bytes_of-mod p t (suc w) n =
    let rest : List ℕ = n % 256 ∷ t in
    ap (λ (s : List ℕ). number (p ++ s) (length p) (suc w)) (append_assoc (bytes_of w (n / 256)) (n % 256 ∷ []) t)
    ∙ rw (pow-suc 256 w, mod-mul n (power_pos w) (zero-lt-suc 255))
    (ap₂ (λ (m d : ℕ). m * 256 + d) (number-bytes_of-mod p rest w (n / 256))
    (get_or-append-add p (bytes_of w (n / 256) ++ rest) w 0 ∙ get_or_at (bytes_of w (n / 256)) (n % 256) t 0 w (length-bytes_of w (n / 256))))

-- reading back a number that fits, at the place where its bytes stand, 0 where nothing precedes them
pub number-bytes_of : (p t : List ℕ) (w n : ℕ) → n < 256 ^ w → number (p ++ (bytes_of w n ++ t)) (length p) w ≡ n
number-bytes_of p t w n h = number-bytes_of-mod p t w n ∙ mod-eq_of_lt h

-- what does not fit w bytes changes none of them
pub bytes_of_mod : (w n : ℕ) → bytes_of w (n % 256 ^ w) ≡ bytes_of w n
unfolding bytes_of
bytes_of_mod zero n = refl
bytes_of_mod (suc w) n =
    let byte : n % 256 < 256 = mod-lt n (zero-lt-suc 255) in
    rw (
      pow-suc 256 w,
      mod-mul n (power_pos w) (zero-lt-suc 255),
      digits_div (n / 256 % 256 ^ w) byte,
      digits_mod (n / 256 % 256 ^ w) byte,
      bytes_of_mod w (n / 256),
    )

-- two numbers, one after the other, are one number of both widths
pub bytes_of-joined : (w v q r : ℕ) → r < 256 ^ v → bytes_of (w + v) (q * 256 ^ v + r) ≡ bytes_of w q ++ bytes_of v r
unfolding bytes_of
bytes_of-joined w zero q r h =
    let none : q * 256 ^ 0 + r ≡ q = omega arith in
    rw (none, add-zero) (sym (append-nil (bytes_of w q)))
bytes_of-joined w (suc v) q r h =
    let high : (q * (256 ^ v * 256) + r) / 256 ≡ q * 256 ^ v + r / 256 = omega arith in
    let low : (q * (256 ^ v * 256) + r) % 256 ≡ r % 256 = omega arith in
    let below : r / 256 < 256 ^ v = omega (arith, rw pow-suc at h) in
    rw (add-suc, pow-suc, high, low, bytes_of-joined w v q (r / 256) below) (append_assoc (bytes_of w q) (bytes_of v (r / 256)) (r % 256 ∷ []))
