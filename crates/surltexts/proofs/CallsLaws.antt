-- Laws of telling texts into the lent memory: what each test decides, and what is left there.
use Prim.Native.Nat.{ℕ, ◌≤◌, ◌<◌, zero-le}
use mathlib.Core.Bool.{and-false}
use mathlib.Core.List.{List, []}
use mathlib.Core.Path.{◌≡◌, refl}
use native.Mathlib.Omega.{arith}
use borrow.Author.Tests.{le-leb, lt-leb}
use lib.ListN.{length}
use Rattle.boxes.specs.Answer.{Answer, refused, given}
use Rattle.gathering.proofs.RowLaws.{put_filled}
use Rattle.partial.specs.Limits.{source_limit}
use Rattle.partial.specs.Memory.{fits, filled, after}
use Rattle.partial.specs.Reading.{reading}
use Rattle.partial.specs.Segments.{Segment}
use Rattle.partial.specs.Texts.{Surl, texts_for, lengths_for, segment_surls, texts_tabled}
use Rattle.surltexts.specs.Calls.{amounts, roomy, Tells}
use Rattle.surltexts.specs.Putting.{PutsSurls, nothing}
use Rattle.surltexts.specs.declared.answers.Texts.{Texts}
use Rattle.std.specs.Prelude.{Result, Ok, Err, IsErrAnd}
use Rattle.std.proofs.lemmas.Result.{err_from_is_err_and}
use Rattle.refusals.specs.Refusals.{refusal_no}
use Rattle.refusals.specs.declared.Refusal.{Refusal}

-- after a refusal both memories are as they were
pub tells_refused : {decided : Answer (List Surl)} {n : Refusal} (t l : List ℕ) → decided ≡ refused (refusal_no n) → Tells decided t t l l (Err n)
unfolding after
tells_refused t l e = record { answer = rw e; bytes = rw e; sizes = rw e }

pub tells_handed : {decided : Answer (List Surl)} (n : Refusal) (t l : List ℕ) {r : Result Texts Refusal} → IsErrAnd r (λ e. e ≡ n) → decided ≡ refused (refusal_no n) → Tells decided t t l l r
tells_handed n t l {r} handed e =
    let (m, is, same) = err_from_is_err_and r handed in
    rw (is, same) (tells_refused t l e)

-- what was put into memory with room for it fills that, and is told
module _ (told : List Surl) (t l : List ℕ) {t₀ t₁ l₀ l₁ : List ℕ} {amount : Texts} (counted : PutsSurls told nothing t₀ t₁ l₀ l₁ amount) where
  pub texts_short : length t < amount.bytes → roomy told t l ≡ refused 26
  unfolding roomy fits
  texts_short short = rw (lt-leb (length (texts_for told)) (length t) (omega (arith, counted.bytes.end)))

  pub lengths_short : length l < amount.lengths → roomy told t l ≡ refused 26
  unfolding roomy fits
  lengths_short short = rw (lt-leb (length (lengths_for told)) (length l) (omega (arith, counted.sizes.end)), and-false)

  module _ (texts : amount.bytes ≤ length t) (lengths : amount.lengths ≤ length l) where
    roomy_given : roomy told t l ≡ given told
    unfolding roomy fits
    roomy_given =
        rw (
          le-leb (length (texts_for told)) (length t) (omega (arith, counted.bytes.end)),
          le-leb (length (lengths_for told)) (length l) (omega (arith, counted.sizes.end)),
        )

    pub tells_given : {t' l' : List ℕ} {amount' : Texts} → PutsSurls told nothing t t' l l' amount' → Tells (roomy told t l) t t' l l' (Ok amount)
    unfolding amounts after
    tells_given put =
        let bytes : amount.bytes ≡ length (texts_for told) = omega (arith, counted.bytes.end) in
        let many : amount.lengths ≡ length (lengths_for told) = omega (arith, counted.sizes.end) in
        rw roomy_given
        (record {
          answer = λ i. given (record { bytes = bytes i; lengths = many i });
          bytes = put_filled (texts_for told) put.bytes.put (omega arith);
          sizes = put_filled (lengths_for told) put.sizes.put (omega arith);
        })

-- where there are no texts nothing is put
pub tells_none : (t l : List ℕ) {none : Texts} → (none.bytes ≡ 0) × (none.lengths ≡ 0) → Tells (roomy [] t l) t t l l (Ok none)
unfolding roomy fits texts_for lengths_for amounts after filled
tells_none t l (bytes, lengths) =
    rw (le-leb 0 (length t) zero-le, le-leb 0 (length l) zero-le)
    (record { answer = λ i. given (record { bytes = bytes i; lengths = lengths i }); bytes = refl; sizes = refl })

-- the file's refusal, then 26
module _ (f : List ℕ) (n : ℕ) (t l : List ℕ) where
  pub tabled_refused : {m : ℕ} → reading source_limit f ≡ refused m → texts_tabled source_limit f n t l ≡ refused m
  unfolding texts_tabled
  tabled_refused e = rw e

  pub tabled-roomy : {ss : List Segment} {told : List Surl} → reading source_limit f ≡ given ss → segment_surls f ss n ≡ told → texts_tabled source_limit f n t l ≡ roomy told t l
  unfolding texts_tabled roomy
  tabled-roomy read same = rw (read, ← same)
