-- Each public call's contract determines its answer: two that it allows of the same arguments are equal. The texts of a
-- box are determined where it lies in the file, and what is said of the `surl` boxes of a container, of the first of
-- them, or of those of two, where these lie in the file and their boxes are known.
use Prim.Native.Nat.{ℕ, ◌≤◌}
use mathlib.Core.List.{List}
use mathlib.Core.Path.{◌≡◌, sym, ◌∙◌}
use lib.ListN.{length}
use Rattle.numerals.proofs.Determined.{OneKnown}
use Rattle.boxes.specs.Answer.{given}
use Rattle.boxes.specs.Bodies.{boxes_of}
use Rattle.boxes.specs.Framing.{Box}
use Rattle.boxes.proofs.ToldLaws.{Tells}
use Rattle.surls.specs.Parts.{part_of, Within}
use Rattle.boxes.specs.declared.body.Body.{Body}
use Rattle.surls.proofs.first.first_text.Reads as first-text
use Rattle.surls.proofs.first.has_surl.Reads as has-surl
use Rattle.surls.proofs.formed.surls_formed.Reads as surls-formed
use Rattle.surls.proofs.texts.mime_of.Reads as mime-of
use Rattle.surls.proofs.texts.url_of.Reads as url-of
use Rattle.surls.proofs.urls.same_urls.Reads as same-urls

-- two parts that say the same are the same
pub part_told : Tells part_of
part_told p q e = λ i. record { place = record { 0 = (e i).place }; size = (e i).size }

url-of-result : OneKnown url-of.Post (λ κs args (_ : Unit {0}). Within (length args.0.now) args.1.0)
url-of-result κs args _ within x y after after' p q = part_told x y (p within ∙ sym (q within))

mime-of-result : OneKnown mime-of.Post (λ κs args (_ : Unit {0}). Within (length args.0.now) args.1.0)
mime-of-result κs args _ within x y after after' p q = part_told x y (p within ∙ sym (q within))

-- the container of a body lies in the file and has these boxes
abbrev Stands : List ℕ → Body → List Box → Type 0
Stands f body bs = (boxes_of f body ≡ given bs) × (body.end.0 ≤ length f)

surls_formed_result : OneKnown surls-formed.Post (λ κs args (bs : List Box). Stands args.0.now args.1.0 bs)
surls_formed_result κs args bs (known, inside) x y after after' p q = p inside bs known ∙ sym (q inside bs known)

has_surl-result : OneKnown has-surl.Post (λ κs args (bs : List Box). Stands args.0.now args.1.0 bs)
has_surl-result κs args bs (known, inside) x y after after' p q = p bs known ∙ sym (q bs known)

first_text-result : OneKnown first-text.Post (λ κs args (bs : List Box). Stands args.0.now args.1.0 bs)
first_text-result κs args bs (known, inside) x y after after' p q = part_told x y (p bs known inside ∙ sym (q bs known inside))

same_urls_result : OneKnown same-urls.Post (λ κs args ((bs, cs) : List Box × List Box). Stands args.0.now args.1.0 bs × Stands args.0.now args.1.1.0 cs)
same_urls_result κs args (bs, cs) ((known, inside), (known', inside')) x y after after' p q =
    p bs cs known known' inside inside' ∙ sym (q bs cs known known' inside inside')
