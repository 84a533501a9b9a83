-- Laws of beginning a file: the boxes that it begins with, what each test decides, and what the call leaves.
use Prim.Native.Nat.{ℕ, ◌+◌, ◌≤◌, ◌<◌}
use mathlib.Core.Bool.{true, false, and-false}
use mathlib.Core.List.{List, ◌++◌}
use mathlib.Core.Path.{◌≡◌, refl, ap, ◌∙◌}
use native.Mathlib.Omega.{arith}
use borrow.Author.Tests.{le-leb, lt-leb}
use lib.ListN.{length, length-append}
use Rattle.std.specs.Prelude.{Ok, Err}
use Rattle.refusals.specs.Refusals.{refusal_no}
use Rattle.refusals.specs.declared.Refusal.{Refusal}
use Rattle.boxes.specs.Answer.{refused, given}
use Rattle.additions.specs.Begin.{beginning, is_text, begun}
use Rattle.partial.specs.Limits.{file_limit}
use Rattle.partial.specs.Memory.{after, filled}
use Rattle.partial.specs.declared.brand.Brand.{Brand}
use Rattle.puts.specs.Boxes.{ftyp_box, pfil_box}
use Rattle.puts.proofs.BoxLaws.{ftyp_long, pfil_long}
use Rattle.writing.specs.Begin.{Begins}

module _ (url mime : List ℕ) (brand : Brand) where
  pub beginning_boxes : beginning brand url mime ≡ ftyp_box brand ++ pfil_box url mime
  unfolding beginning
  beginning_boxes = refl

  -- as long with any brand
  pub beginning_long : length (beginning brand url mime) ≡ 54 + length url + length mime
  beginning_long = ap length beginning_boxes ∙ length-append (ftyp_box brand) (pfil_box url mime) ∙ omega (arith, ftyp_long brand, pfil_long url mime)

module _ (brand : Brand) (url mime buffer : List ℕ) where
  pub url_zero : is_text url ≡ false → begun buffer brand url mime ≡ refused 34
  unfolding begun
  url_zero zero = rw zero

  pub mime_zero : is_text mime ≡ false → begun buffer brand url mime ≡ refused 34
  unfolding begun
  mime_zero zero = rw (zero, and-false)

  module _ (plain_url : is_text url ≡ true) (plain_mime : is_text mime ≡ true) where
    pub too_long : file_limit < length (beginning brand url mime) → begun buffer brand url mime ≡ refused 1
    unfolding begun
    too_long long = rw (plain_url, plain_mime, lt-leb (length (beginning brand url mime)) file_limit long)

    module _ (small : length (beginning brand url mime) ≤ file_limit) where
      pub too_short : length buffer < length (beginning brand url mime) → begun buffer brand url mime ≡ refused 33
      unfolding begun
      too_short short =
          rw (
            plain_url,
            plain_mime,
            le-leb (length (beginning brand url mime)) file_limit small,
            lt-leb (length (beginning brand url mime)) (length buffer) short,
          )

      pub begun_given : length (beginning brand url mime) ≤ length buffer → begun buffer brand url mime ≡ given (length (beginning brand url mime))
      unfolding begun
      begun_given room =
          rw (
            plain_url,
            plain_mime,
            le-leb (length (beginning brand url mime)) file_limit small,
            le-leb (length (beginning brand url mime)) (length buffer) room,
          )

  -- after a refusal the buffer is as it was
  pub begins_refused : {n : Refusal} → begun buffer brand url mime ≡ refused (refusal_no n) → Begins brand url mime buffer buffer (Err n)
  unfolding after
  begins_refused e = record { answer = rw e; left = rw e }

  -- a file that was begun fills it
  pub begins_given : {buffer' : List ℕ} {n : ℕ} → begun buffer brand url mime ≡ given n → buffer' ≡ filled (beginning brand url mime) buffer
      → Begins brand url mime buffer buffer' (Ok n)
  unfolding after
  begins_given e full = record { answer = rw e; left = rw e full }
