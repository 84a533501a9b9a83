-- A file just begun has a heading and no segment, so that append takes it.
use Prim.Native.Nat.{ℕ, ◌+◌, ◌-◌, ◌≤◌, ◌<◌, ◌/◌, ◌%◌, ◌^◌}
use mathlib.Core.Bool.{Bool, true, false, ◌&&◌, ◌||◌, or-false}
use mathlib.Core.List.{List, [], ◌∷◌, ◌++◌}
use mathlib.Core.Logic.{◌↔◌, inl, inr}
use mathlib.Core.Path.{◌≡◌, refl, sym, ap, ◌∙◌}
use native.Mathlib.Nat.{add_assoc, zero-add, add-zero}
use native.Mathlib.Omega.{arith}
use borrow.Author.Tests.{le-leb, leb-true, eq-eqb}
use lib.Dec.{leb, eqb, lit<, T}
use lib.ListN.{length, drop, length-append}
use lib.Seq.{take_at}
use Rattle.boxes.specs.Answer.{given}
use Rattle.numerals.specs.Numbers.{number, bytes_of}
use Rattle.boxes.specs.Framing.{Box, front_size, boxed, boxes_in, boxed_at}
use Rattle.boxes.specs.Kinds.{ftyp, pfil, pfhd, surl, right, those, pseg}
use Rattle.boxes.specs.declared.kinds.Container.TheVariants.{File, Pfil}
use Rattle.boxes.proofs.AnswerLaws.{held, given_same}
use Rattle.numerals.proofs.NumberLaws.{length-bytes_of, number_byte, bytes_of_zero}
use Rattle.boxes.proofs.BoxedLaws.{length-boxed, boxed_stand}
use Rattle.boxes.proofs.KindLaws.{right_some, one_right, is-eqb, first_is}
use Rattle.partial.specs.Limits.{file_limit}
use Rattle.partial.specs.Sequences.{some_of, all_of}
use Rattle.partial.specs.Heading.{Heading, paff, pmff, ftyp_right, brands_from, brands, branded, brand_right, pfil_right, pfhd_formed, urls_in}
use Rattle.partial.specs.Heading.{pfhd_right, url, mime, surl_right}
use Rattle.partial.specs.Reading.{earlier_segments}
use Rattle.partial.specs.Memory.{after, filled}
use Rattle.partial.specs.declared.brand.Brand.{Brand}
use Rattle.partial.specs.declared.brand.Brand.TheVariants.{Paff, Pmff}
use Rattle.additions.specs.Begin.{version_and_flags, surl_body, brand_code, beginning, is_text, begun}
use Rattle.additions.specs.Runs.{lent, file_in, size_after, begin}
use Rattle.partial.proofs.Meaning.SequenceLaws.{both, passes, which}
use Rattle.additions.proofs.StandsLaws.{Stands, stands_behind, stands_right, stands_number}
use Rattle.additions.proofs.SurlLaws.{url-back, mime-back, surl-back}
use Rattle.additions.proofs.BoxesStandLaws.{stands_two, only_second, second_box, neither, only_first, first_box}
use Rattle.partial.proofs.Reading.HeadingAppendLaws.{Headed, heading-of}
use Rattle.partial.proofs.Reading.RefusalLaws.{earlier_none}

-- a brand fits its four bytes
brand_fits : (brand : Brand) → brand_code brand < 256 ^ 4
unfolding brand_code
brand_fits Paff = lit< tt
brand_fits Pmff = lit< tt

-- whether a file begun with it is mixed
abbrev pub is_mixed : Brand → Bool
is_mixed brand = eqb pmff (brand_code brand)

-- a brand is one of the two
either_brand : (brand : Brand) → eqb paff (brand_code brand) || is_mixed brand ≡ true
unfolding brand_code
either_brand Paff = refl
either_brand Pmff = refl

-- the heading of a file just begun
module _ (brand : Brand) (u m : List ℕ) where
  abbrev brand_body : List ℕ
  brand_body = bytes_of 4 (brand_code brand) ++ (bytes_of 4 0 ++ bytes_of 4 (brand_code brand))

  abbrev file_body : List ℕ
  file_body = boxed pfhd.code version_and_flags ++ boxed surl.code (surl_body u m)

  abbrev file_place : ℕ
  file_place = 0 + (front_size + length brand_body) + front_size

  abbrev brand_box : Box
  brand_box = boxed_at 0 ftyp.code (length brand_body)

  abbrev file_box : Box
  file_box = boxed_at (0 + (front_size + length brand_body)) pfil.code (length file_body)

  abbrev plain_box : Box
  plain_box = boxed_at file_place pfhd.code (length version_and_flags)

  -- its `surl`
  abbrev pub source_box : Box
  source_box = boxed_at (file_place + (front_size + length version_and_flags)) surl.code (length (surl_body u m))

  abbrev pub begun_heading : Heading
  begun_heading = record { boxes = brand_box ∷ file_box ∷ []; inner = plain_box ∷ source_box ∷ []; urls = urls_in (beginning brand u m) (plain_box ∷ source_box ∷ []); mixed = is_mixed brand }

  stands_all : Stands (beginning brand u m) 0 (boxed ftyp.code brand_body ++ boxed pfil.code file_body)
  unfolding beginning
  stands_all = stands_behind [] (beginning brand u m)

  stands_brand : Stands (beginning brand u m) (0 + front_size) brand_body
  stands_brand = (stands_two (beginning brand u m) 0 ftyp.code pfil.code brand_body file_body stands_all).0

  stands_file : Stands (beginning brand u m) file_place file_body
  stands_file = (stands_two (beginning brand u m) 0 ftyp.code pfil.code brand_body file_body stands_all).1

  begun_boxes : length (beginning brand u m) ≤ file_limit → boxes_in File (beginning brand u m) 0 (length (beginning brand u m)) ≡ given begun_heading.boxes
  unfolding beginning
  begun_boxes small =
      rw (zero-add (length (beginning brand u m))) at
      (boxed_stand File ftyp.code pfil.code brand_body file_body (lit< tt) (lit< tt) refl refl (omega arith) (beginning brand u m) 0 stands_all)

  begun_inner : length (beginning brand u m) ≤ file_limit → boxes_in Pfil (beginning brand u m) file_box.body file_box.end ≡ given begun_heading.inner
  unfolding beginning
  begun_inner small =
      let long = length-append (boxed ftyp.code brand_body) (boxed pfil.code file_body) in
      let long-file = length-boxed pfil.code file_body in
      rw (add_assoc (0 + (front_size + length brand_body)) front_size (length file_body)) at
      (boxed_stand Pfil pfhd.code surl.code version_and_flags (surl_body u m) (lit< tt) (lit< tt) refl refl (omega arith) (beginning brand u m) file_place stands_file)

  pub source_stands : Stands (beginning brand u m) source_box.body (surl_body u m)
  source_stands = (stands_two (beginning brand u m) file_place pfhd.code surl.code version_and_flags (surl_body u m) stands_file).1

  pub source_ends : source_box.body + length (surl_body u m) ≡ source_box.end
  source_ends = add_assoc (file_place + (front_size + length version_and_flags)) front_size (length (surl_body u m))

  pub source_inside : source_box.end ≤ length (beginning brand u m)
  unfolding beginning
  source_inside = simp (length-append, length-boxed) (omega arith)

  pub only_source : those surl begun_heading.inner ≡ source_box ∷ []
  only_source = only_second surl plain_box source_box (is-eqb surl plain_box) (is-eqb surl source_box)

  begun-surl : is_text u ≡ true → is_text m ≡ true → surl_right (beginning brand u m) begun_heading.inner ≡ true
  unfolding surl_right all_of
  begun-surl plain_url plain_mime =
      rw (only_source, surl-back u m (beginning brand u m) source_box source_stands source_ends plain_url plain_mime)

  pub begun-url : is_text u ≡ true → is_text m ≡ true → url (beginning brand u m) source_box ≡ record { place = source_box.body + 4; size = length u }
  begun-url plain_url plain_mime = url-back u m (beginning brand u m) source_box source_stands source_ends plain_url plain_mime

  pub begun-mime : is_text u ≡ true → is_text m ≡ true → mime (beginning brand u m) source_box ≡ record { place = source_box.body + 4 + length u + 1; size = length m }
  begun-mime plain_url plain_mime = mime-back u m (beginning brand u m) source_box source_stands source_ends plain_url plain_mime

  brand_long : length brand_body ≡ 12
  brand_long = simp (length-append, length-bytes_of) (omega arith)

  begun-ftyp : ftyp_right begun_heading.boxes ≡ true
  unfolding ftyp_right
  begun-ftyp =
      let long = brand_long in
      let one = one_right File ftyp begun_heading.boxes refl (ap length (only_first ftyp brand_box file_box (is-eqb ftyp brand_box) (is-eqb ftyp file_box))) in
      rw (
        first_box ftyp brand_box file_box,
        is-eqb ftyp brand_box,
        le-leb (0 + front_size + 8) (0 + (front_size + length brand_body)) (omega arith),
        eq-eqb ((0 + (front_size + length brand_body) - (0 + front_size)) % 4) 0 (omega arith),
        one,
      )

  -- one brand, the one that it is begun with
  begun-branded : (other : ℕ) → branded other (beginning brand u m) begun_heading.boxes ≡ eqb other (brand_code brand)
  unfolding branded brands brands_from some_of
  begun-branded other =
      let long = brand_long in
      let many : (0 + (front_size + length brand_body) - (0 + front_size) - 8) / 4 ≡ 1 = omega arith in
      let code = bytes_of 4 (brand_code brand) in
      let minor : Stands (beginning brand u m) (0 + front_size + 4) (bytes_of 4 0 ++ code) = rw length-bytes_of at (stands_right (beginning brand u m) (0 + front_size) code (bytes_of 4 0 ++ code) stands_brand) in
      let third = rw (length-bytes_of 4 0) at (stands_right (beginning brand u m) (0 + front_size + 4) (bytes_of 4 0) code minor) in
      let eight : 0 + front_size + 4 + 4 ≡ 0 + front_size + 8 = omega arith in
      rw (first_box ftyp brand_box file_box, many)
      (rw (stands_number (beginning brand u m) (0 + front_size + 8) 4 (brand_code brand) (brand_fits brand) (rw eight at third)) (or-false (eqb other (brand_code brand))))

  begun_brand : brand_right (beginning brand u m) begun_heading.boxes ≡ true
  unfolding brand_right
  begun_brand = rw (begun-branded paff, begun-branded pmff) (either_brand brand)

  begun-pfil : pfil_right begun_heading.boxes ≡ true
  unfolding pfil_right
  begun-pfil =
      let one = one_right File pfil begun_heading.boxes refl (ap length (only_second pfil brand_box file_box (is-eqb pfil brand_box) (is-eqb pfil file_box))) in
      rw (second_box pfil brand_box file_box, is-eqb pfil file_box, one)

  begun-pfhd : pfhd_right (beginning brand u m) begun_heading.inner ≡ true
  unfolding pfhd_right pfhd_formed
  begun-pfhd =
      let one = one_right Pfil pfhd begun_heading.inner refl (ap length (only_first pfhd plain_box source_box (is-eqb pfhd plain_box) (is-eqb pfhd source_box))) in
      let first = first_is pfhd (lit< tt) begun_heading.inner (rw (first_box pfhd plain_box source_box) (is-eqb pfhd plain_box)) ∙ first_box pfhd plain_box source_box in
      let long = length-bytes_of 4 0 in
      let plain = (stands_two (beginning brand u m) file_place pfhd.code surl.code version_and_flags (surl_body u m) stands_file).0 in
      let zero-byte : number (beginning brand u m) plain_box.body 1 ≡ 0 = number_byte (beginning brand u m) plain_box.body ∙ rw add-zero at (plain 0 (rw long (omega arith))) ∙ bytes_of_zero 4 0 in
      rw (one, first, eq-eqb (file_place + front_size + 4) (file_place + (front_size + length version_and_flags)) (omega arith), zero-byte)

  pub begun_headed : length (beginning brand u m) ≤ file_limit → is_text u ≡ true → is_text m ≡ true → Headed (beginning brand u m) begun_heading
  begun_headed small plain_url plain_mime =
      record {
        small = le-leb (length (beginning brand u m)) file_limit small;
        boxes = begun_boxes small;
        ftyp = begun-ftyp;
        brand = begun_brand;
        pfil = begun-pfil;
        inner = rw (second_box pfil brand_box file_box) (begun_inner small);
        pfhd = begun-pfhd;
        surl = begun-surl plain_url plain_mime;
        urls = refl;
        mixed = sym (begun-branded pmff);
      }

  -- and no segment
  begun_none : right File pseg begun_heading.boxes ≡ false
  begun_none =
      elim (which (right File pseg begun_heading.boxes)) [
        | inl there ↦
            let none = neither pseg brand_box file_box (is-eqb pseg brand_box) (is-eqb pseg file_box) in
            absurd (omega (arith, right_some File pseg begun_heading.boxes refl there, ap length none))
        | inr lacks ↦ lacks
      ]

  pub begun_taken : (limit : ℕ) → length (beginning brand u m) ≤ file_limit → is_text u ≡ true → is_text m ≡ true → earlier_segments limit (beginning brand u m) ≡ given []
  begun_taken limit small plain_url plain_mime =
      earlier_none limit (beginning brand u m) (heading-of (beginning brand u m) begun_heading (begun_headed small plain_url plain_mime)) begun_none

-- a beginning is given a length exactly if it has two texts, within the limit and the buffer; it is its own length
pub begins : (buffer : List ℕ) (brand : Brand) (u m : List ℕ) (n : ℕ)
    → (begun buffer brand u m ≡ given n)
    ↔ (T (is_text u) × T (is_text m) × (n ≤ file_limit) × (n ≤ length buffer) × (n ≡ length (beginning brand u m)))
unfolding begun
begins buffer brand u m n = (forth, back)
  where
    whole : ℕ
    whole = length (beginning brand u m)

    forth : begun buffer brand u m ≡ given n
        → T (is_text u) × T (is_text m) × (n ≤ file_limit) × (n ≤ length buffer) × (n ≡ length (beginning brand u m))
    forth e =
        let (plain, e1) = held 34 (is_text u && is_text m) _ e in
        let (small, e2) = held 1 (leb whole file_limit) _ e1 in
        let (room, e3) = held 33 (leb whole (length buffer)) _ e2 in
        let (plain_url, plain_mime) = both (is_text u) (is_text m) plain in
        let same : whole ≡ n = given_same e3 in
        (rw plain_url tt, rw plain_mime tt, rw same at (leb-true whole file_limit small), rw same at (leb-true whole (length buffer) room), sym same)

    back : T (is_text u) × T (is_text m) × (n ≤ file_limit) × (n ≤ length buffer) × (n ≡ length (beginning brand u m)) → begun buffer brand u m ≡ given n
    back (plain_url, plain_mime, small, room, same) =
        rw (passes (is_text u) plain_url, passes (is_text m) plain_mime, ← same, le-leb n file_limit small, le-leb n (length buffer) room)

-- the file that begin leaves
module _ (buffer : List ℕ) (brand : Brand) (u m : List ℕ) where
  pub begin_given : (n : ℕ) → begun buffer brand u m ≡ given n
      → (is_text u ≡ true) × (is_text m ≡ true) × (length (beginning brand u m) ≤ file_limit) × (file_in (begin buffer brand u m) ≡ beginning brand u m)
  unfolding begin file_in size_after after filled
  begin_given n e =
      let (plain_url, plain_mime, small, room, same) = (begins buffer brand u m n).0 e in
      let rest : List ℕ = drop (length (beginning brand u m)) buffer in
      (passes _ plain_url, passes _ plain_mime, omega arith, rw (e, take_at (beginning brand u m) rest n (sym same)))

  pub begin-fits : is_text u ≡ true → is_text m ≡ true → length (beginning brand u m) ≤ file_limit → length (beginning brand u m) ≤ length buffer
      → begin buffer brand u m ≡ lent (filled (beginning brand u m) buffer) (length (beginning brand u m))
  unfolding begin size_after after
  begin-fits plain_url plain_mime small room =
      let e : begun buffer brand u m ≡ given (length (beginning brand u m)) =
      (begins buffer brand u m _).1 (rw plain_url tt, rw plain_mime tt, small, room, refl) in
      rw e

-- one just begun serves nothing and has described length 0
pub just-begun : (limit : ℕ) (buffer : List ℕ) (brand : Brand) (u m : List ℕ) (n : ℕ) → begun buffer brand u m ≡ given n → earlier_segments limit (file_in (begin buffer brand u m)) ≡ given []
just-begun limit buffer brand u m n e =
    let (plain_url, plain_mime, small, file) = begin_given buffer brand u m n e in
    rw file (begun_taken brand u m limit small plain_url plain_mime)
