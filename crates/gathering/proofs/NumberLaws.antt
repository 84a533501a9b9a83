-- The law of the number of a chunk: read back, it is the chunk.
use Prim.Native.Nat.{ℕ, ◌+◌, ◌*◌, ◌/◌, ◌%◌, ◌^◌, ◌<◌}
use mathlib.Core.Bool.{true, false}
use mathlib.Core.Logic.{⊎_elim}
use mathlib.Core.Path.{◌≡◌, sym, ap, ◌∙◌}
use native.Mathlib.Nat.{mod-eq_of_lt, add-mul-mod_self_left}
use native.Mathlib.Omega.{arith}
use Rattle.partial.specs.Limits.{file_limit}
use Rattle.partial.specs.Segments.{Chunk, present}
use Rattle.partial.proofs.Meaning.SequenceLaws.{which}
use Rattle.gathering.specs.Numbers.{number_of, chunk_by}

-- what is told of a chunk has room in its number
pub record Narrow (c : Chunk) : Type 0 where
  pub state : c.state < 4
  pub kept : present c.state ≡ true → (c.place < file_limit) × (c.size < 2 ^ 32)
  pub away : present c.state ≡ false → (c.place ≡ 0) × (c.size < 2 ^ 62)

-- by whether the chunk is present
module _ (c : Chunk) where
  pub number_kept : present c.state ≡ true → number_of c ≡ c.state % 4 + 4 * (c.place % file_limit) + 2 ^ 32 * (c.size % 2 ^ 32)
  unfolding number_of
  number_kept has = rw (number_of, has) (omega arith)

  pub number_away : present c.state ≡ false → number_of c ≡ c.state % 4 + 4 * (c.size % 2 ^ 62)
  unfolding number_of
  number_away none = rw (number_of, none)

module _ (start n : ℕ) where
  pub chunk_kept : present (n % 4) ≡ true → chunk_by start n ≡ record { start = start; size = n / 2 ^ 32; state = n % 4; place = n / 4 % file_limit }
  unfolding chunk_by
  chunk_kept has = rw (chunk_by, has)

  pub chunk_away : present (n % 4) ≡ false → chunk_by start n ≡ record { start = start; size = n / 4; state = n % 4; place = 0 }
  unfolding chunk_by
  chunk_away none = rw (chunk_by, none)

module _ (c : Chunk) (narrow : Narrow c) where
  back_kept : present c.state ≡ true → chunk_by c.start (number_of c) ≡ c
  back_kept has =
      let (place_low, size_low) = narrow.kept has in
      let n : number_of c ≡ c.state + 4 * c.place + 2 ^ 32 * c.size =
      omega (arith, number_kept c has, mod-eq_of_lt narrow.state, mod-eq_of_lt place_low, mod-eq_of_lt size_low) in
      let state : number_of c % 4 ≡ c.state = omega (arith, n, narrow.state) in
      let above : number_of c / 4 ≡ c.place + file_limit * c.size = omega (arith, n, narrow.state) in
      let size : number_of c / 2 ^ 32 ≡ c.size = omega (arith, n, narrow.state) in
      let place : number_of c / 4 % file_limit ≡ c.place = ap (λ (m : ℕ). m % file_limit) above ∙ add-mul-mod_self_left c.place file_limit c.size ∙ mod-eq_of_lt place_low in
      chunk_kept c.start (number_of c) (ap present state ∙ has) ∙ (λ i. record { start = c.start; size = size i; state = state i; place = place i })

  back_away : present c.state ≡ false → chunk_by c.start (number_of c) ≡ c
  back_away none =
      let (place, size_low) = narrow.away none in
      let n : number_of c ≡ c.state + 4 * c.size = omega (arith, number_away c none, mod-eq_of_lt narrow.state, mod-eq_of_lt size_low) in
      let state : number_of c % 4 ≡ c.state = omega (arith, n, narrow.state) in
      let size : number_of c / 4 ≡ c.size = omega (arith, n, narrow.state) in
      chunk_away c.start (number_of c) (ap present state ∙ none) ∙ (λ i. record { start = c.start; size = size i; state = state i; place = sym place i })

  pub number-back : chunk_by c.start (number_of c) ≡ c
  number-back = ⊎_elim back_kept back_away (which (present c.state))
