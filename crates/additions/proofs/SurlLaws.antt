-- Laws of `surl` boxes as we write them: one is well-formed wherever its body stands, and its texts are read back; so
-- of a row of them, whose texts were cut by a list of lengths.
use Prim.Native.Nat.{ℕ, zero, suc, ◌+◌, ◌-◌, ◌≤◌, ◌<◌, ◌%◌, ◌^◌}
use mathlib.Core.Bool.{Bool, true, false, not, ◌&&◌}
use mathlib.Core.List.{List, [], ◌∷◌, ◌++◌, map}
use mathlib.Core.Path.{◌≡◌, refl, sym, ap, ap₂, subst, ◌∙◌}
use native.Mathlib.Nat.{add_assoc}
use native.Mathlib.Numerals.{add-one}
use native.Mathlib.Omega.{arith}
use borrow.Author.Tests.{le-leb, eq-eqb}
use lib.Dec.{eqb, lit<}
use lib.ListN.{length, get_or, take, drop, length-append, length-drop, take-append-drop}
use lib.Seq.{length-take-le}
use Rattle.boxes.specs.Framing.{Box, front_size, boxed, boxed_at}
use Rattle.boxes.specs.Kinds.{surl, those}
use Rattle.boxes.specs.declared.kinds.Container.TheVariants.{Pseg}
use Rattle.boxes.specs.declared.kinds.Kind.{Kind}
use Rattle.boxes.proofs.HeaderLaws.{moved}
use Rattle.boxes.proofs.ContainerLaws.{Filled, full, filled-appended}
use Rattle.boxes.proofs.BoxedLaws.{length-boxed, boxed_alone, moved_boxed_at}
use Rattle.boxes.proofs.KindLaws.{those-nil, those_one, those_other, is-eqb}
use Rattle.numerals.proofs.NumberLaws.{length-bytes_of}
use Rattle.partial.specs.Sequences.{all_of, sum, stretch}
use Rattle.partial.specs.Heading.{text, url, mime, surl_formed, bytes_in}
use Rattle.partial.specs.Texts.{Surl, texts_for, lengths_for}
use Rattle.partial.proofs.Meaning.SequenceLaws.{both, all_append}
use Rattle.additions.specs.Begin.{version_and_flags, surl_body, surl_box, is_text}
use Rattle.additions.specs.Addition.{surls_of}
use Rattle.additions.specs.Append.{surl_boxes, surls_at}
use Rattle.additions.proofs.StandsLaws.{Stands, stands_head, stands_tail, stands_left, stands_right, stands_number, part_stands}
use Rattle.additions.proofs.BoxesStandLaws.{stands_body}

-- a text with no zero byte ends where the first zero byte stands
text-back : (f : List ℕ) (u rest : List ℕ) (at more : ℕ) → Stands f at (u ++ (0 ∷ rest)) → is_text u ≡ true → length u < more
    → stretch (λ i. not (eqb (get_or f i 0) 0)) more at ≡ length u
unfolding stretch is_text all_of
text-back f [] rest at zero stands plain room = absurd (omega arith)
text-back f [] rest at (suc more) stands plain room = rw (stretch, stands_head f at 0 rest stands)
text-back f (b ∷ u) rest at zero stands plain room = absurd (omega arith)
text-back f (b ∷ u) rest at (suc more) stands plain room =
    let (here, there) = both (not (eqb b 0)) (is_text u) plain in
    rw (stretch, stands_head f at b (u ++ (0 ∷ rest)) stands, here) (ap suc (text-back f u rest (suc at) more (rw add-one at (stands_tail f at b (u ++ (0 ∷ rest)) stands)) there (omega arith)))

-- a `surl` as we write it is well-formed, wherever its body stands
module _ (u m : List ℕ) where
  pub surl_long : length (surl_body u m) ≡ 4 + (length u + (1 + (length m + 1)))
  surl_long = simp (length-append, length-bytes_of) (omega arith)

  module _ (f : List ℕ) (b : Box) (stands : Stands f b.body (surl_body u m)) (ends : b.body + length (surl_body u m) ≡ b.end)
      (plain_url : is_text u ≡ true) (plain_mime : is_text m ≡ true) where
    after_front : Stands f (b.body + 4) (u ++ (0 ∷ (m ++ (0 ∷ []))))
    after_front = rw (length-bytes_of 4 0) at (stands_right f b.body version_and_flags (u ++ (0 ∷ (m ++ (0 ∷ [])))) stands)

    pub url_stands : Stands f (b.body + 4) u
    url_stands = stands_left f (b.body + 4) u (0 ∷ (m ++ (0 ∷ []))) after_front

    after-url : Stands f (b.body + 4 + length u + 1) (m ++ (0 ∷ []))
    after-url = stands_tail f (b.body + 4 + length u) 0 (m ++ (0 ∷ [])) (stands_right f (b.body + 4) u (0 ∷ (m ++ (0 ∷ []))) after_front)

    pub mime_stands : Stands f (b.body + 4 + length u + 1) m
    mime_stands = stands_left f (b.body + 4 + length u + 1) m (0 ∷ []) after-url

    pub url-back : url f b ≡ record { place = b.body + 4; size = length u }
    unfolding url text
    url-back =
        let long = surl_long in
        rw (text-back f u (m ++ (0 ∷ [])) (b.body + 4) (b.end - (b.body + 4)) after_front plain_url (omega arith))

    pub mime-back : mime f b ≡ record { place = b.body + 4 + length u + 1; size = length m }
    unfolding mime text
    mime-back =
        let long = surl_long in
        let at : ℕ = b.body + 4 in
        let second : ℕ = at + length u + 1 in
        rw (url-back, text-back f m [] second (b.end - second) after-url plain_mime (omega arith))

    pub surl-back : surl_formed f b ≡ true
    unfolding surl_formed
    surl-back =
        let long = surl_long in
        rw (
          le-leb (b.body + 4) b.end (omega arith),
          stands_number f b.body 4 0 (lit< tt) (stands_left f b.body version_and_flags (u ++ (0 ∷ (m ++ (0 ∷ [])))) stands),
          mime-back,
        ) (eq-eqb (b.body + 4 + length u + 1 + length m + 1) b.end (omega arith))

    -- and its texts are read back
    module _ (inside : b.end ≤ length f) where
      url_read : bytes_in f (url f b) ≡ u
      unfolding bytes_in
      url_read =
          let long = surl_long in
          rw url-back (part_stands f (b.body + 4) u url_stands (omega arith))

      mime_read : bytes_in f (mime f b) ≡ m
      unfolding bytes_in
      mime_read =
          let long = surl_long in
          rw mime-back (part_stands f (b.body + 4 + length u + 1) m mime_stands (omega arith))

-- ---- texts that are cut by a list of lengths

-- whether the two texts of a `surl` have no zero byte
abbrev pub textual : Surl → Bool
textual s = is_text s.url && is_text s.mime

-- of a text with none, neither part has one
cut-text : (n : ℕ) (texts : List ℕ) → is_text texts ≡ true → (is_text (take n texts) ≡ true) × (is_text (drop n texts) ≡ true)
unfolding is_text
cut-text n texts plain =
    let test : ℕ → Bool = λ b. not (eqb b 0) in
    both (all_of test (take n texts)) (all_of test (drop n texts)) (sym (all_append test (take n texts) (drop n texts)) ∙ ap (all_of test) (take-append-drop n texts) ∙ plain)

pub cut_textual : (texts lengths : List ℕ) → is_text texts ≡ true → all_of textual (surls_of texts lengths) ≡ true
unfolding surls_of all_of
cut_textual texts [] plain = refl
cut_textual texts (urlLength ∷ []) plain = refl
cut_textual texts (urlLength ∷ mimeLength ∷ rest) plain =
    let (url-plain, behind-plain) = cut-text urlLength texts plain in
    let (mime-plain, rest_plain) = cut-text mimeLength (drop urlLength texts) behind-plain in
    rw (url-plain, mime-plain) (cut_textual (drop mimeLength (drop urlLength texts)) rest rest_plain)

-- the parts one behind the other are the texts, where there are as many bytes as the lengths say, and have those
-- lengths
pub cut-joined : (texts lengths : List ℕ) → length lengths % 2 ≡ 0 → length texts ≡ sum lengths
    → (texts_for (surls_of texts lengths) ≡ texts) × (lengths_for (surls_of texts lengths) ≡ lengths)
unfolding surls_of texts_for lengths_for sum
cut-joined [] [] even long = (refl, refl)
cut-joined (b ∷ texts) [] even long = absurd (omega arith)
cut-joined texts (urlLength ∷ []) even long = absurd (omega arith)
cut-joined texts (urlLength ∷ mimeLength ∷ rest) even long =
    let behind = drop urlLength texts in
    let less : length behind ≡ mimeLength + sum rest = rw length-drop (omega arith) in
    let (same, lengths) = cut-joined (drop mimeLength behind) rest (omega arith) (rw length-drop (omega arith)) in (
      rw same (ap (λ (t : List ℕ). take urlLength texts ++ t) (take-append-drop mimeLength behind) ∙ take-append-drop urlLength texts),
      rw (length-take-le urlLength texts (omega arith), length-take-le mimeLength behind (omega arith), lengths),
    )

-- ---- a row of `surl` boxes

pub surls-many : (at : ℕ) (ss : List Surl) → length (surls_at at ss) ≡ length ss
unfolding surls_at
surls-many at [] = refl
surls-many at (s ∷ ss) = ap suc (surls-many (at + (front_size + length (surl_body s.url s.mime))) ss)

pub surls_moved : (n at : ℕ) (ss : List Surl) → map (moved n) (surls_at at ss) ≡ surls_at (n + at) ss
unfolding surls_at
surls_moved n at [] = refl
surls_moved n at (s ∷ ss) =
    let size = length (surl_body s.url s.mime) in
    ap₂ (λ (b : Box) (bs : List Box). b ∷ bs) (moved_boxed_at n at surl.code size)
    (surls_moved n (at + (front_size + size)) ss ∙ ap (λ (m : ℕ). surls_at m ss) (sym (add_assoc n at (front_size + size))))

-- they are the boxes of their own bytes
pub surls-filled : (ss : List Surl) → length (surl_boxes ss) < 2 ^ 32 → Filled Pseg (surl_boxes ss) (length (surl_boxes ss)) 0 (surls_at 0 ss)
unfolding surl_boxes surls_at
surls-filled [] fits = full {at = 0} (omega arith)
surls-filled (s ∷ ss) fits =
    let body = surl_body s.url s.mime in
    let long = length-append (boxed surl.code body) (surl_boxes ss) in
    let front = length-boxed surl.code body in
    let all = filled-appended (boxed_alone {c = Pseg} surl.code body (lit< tt) refl (omega arith)) (surls-filled ss (omega arith)) in
    let place : length (boxed surl.code body) + 0 ≡ 0 + (front_size + length body) = omega arith in
    subst (λ (bs : List Box). Filled Pseg (surl_box s.url s.mime ++ surl_boxes ss) (length (surl_box s.url s.mime ++ surl_boxes ss)) 0 (boxed_at 0 surl.code (length body) ∷ bs))
    (surls_moved (length (boxed surl.code body)) 0 ss ∙ ap (λ (m : ℕ). surls_at m ss) place) all

-- and of no other kind
pub those-surls : (at : ℕ) (ss : List Surl) → those surl (surls_at at ss) ≡ surls_at at ss
unfolding surls_at
those-surls at [] = those-nil surl
those-surls at (s ∷ ss) =
    let b = boxed_at at surl.code (length (surl_body s.url s.mime)) in
    those_one surl b _ (is-eqb surl b) ∙ ap (λ (bs : List Box). b ∷ bs) (those-surls (at + (front_size + length (surl_body s.url s.mime))) ss)

pub those_but_surls : (k : Kind) → eqb surl.code k.code ≡ false → (at : ℕ) (ss : List Surl) → those k (surls_at at ss) ≡ []
unfolding surls_at
those_but_surls k other at [] = those-nil k
those_but_surls k other at (s ∷ ss) =
    let b = boxed_at at surl.code (length (surl_body s.url s.mime)) in
    those_other k b _ (is-eqb k b ∙ other) ∙ those_but_surls k other (at + (front_size + length (surl_body s.url s.mime))) ss

-- where they stand in a file each is well-formed, and their texts are read back
module _ (g : List ℕ) where
  abbrev Row : ℕ → List Surl → Type 0
  Row at ss = Stands g at (surl_boxes ss)

  row_first : (at : ℕ) (s : Surl) (ss : List Surl) → Row at (s ∷ ss) → Stands g (at + front_size) (surl_body s.url s.mime)
  unfolding surl_boxes
  row_first at s ss stands =
      let body = surl_body s.url s.mime in
      stands_body g at surl.code body (stands_left g at (boxed surl.code body) (surl_boxes ss) stands)

  row_rest : (at : ℕ) (s : Surl) (ss : List Surl) → Row at (s ∷ ss) → Row (at + (front_size + length (surl_body s.url s.mime))) ss
  unfolding surl_boxes
  row_rest at s ss stands =
      let body = surl_body s.url s.mime in
      rw (length-boxed surl.code body) at (stands_right g at (boxed surl.code body) (surl_boxes ss) stands)

  pub surls-formed : (at : ℕ) (ss : List Surl) → all_of textual ss ≡ true → Row at ss → all_of (surl_formed g) (surls_at at ss) ≡ true
  unfolding surls_at all_of
  surls-formed at [] plain stands = refl
  surls-formed at (s ∷ ss) plain stands =
      let body = surl_body s.url s.mime in
      let (here, others) = both (textual s) (all_of textual ss) plain in
      let (url-plain, mime-plain) = both (is_text s.url) (is_text s.mime) here in
      let b = boxed_at at surl.code (length body) in
      rw (surl-back s.url s.mime g b (row_first at s ss stands) (add_assoc at front_size (length body)) url-plain mime-plain)
      (surls-formed (at + (front_size + length body)) ss others (row_rest at s ss stands))

  pub surls_read : (at : ℕ) (ss : List Surl) → all_of textual ss ≡ true → Row at ss → at + length (surl_boxes ss) ≤ length g
      → map (λ b. record { url = bytes_in g (url g b); mime = bytes_in g (mime g b) }) (surls_at at ss) ≡ ss
  unfolding surls_at surl_boxes all_of
  surls_read at [] plain stands inside = refl
  surls_read at (s ∷ ss) plain stands inside =
      let body = surl_body s.url s.mime in
      let (here, others) = both (textual s) (all_of textual ss) plain in
      let (url-plain, mime-plain) = both (is_text s.url) (is_text s.mime) here in
      let b = boxed_at at surl.code (length body) in
      let first = row_first at s ss stands in
      let ends = add_assoc at front_size (length body) in
      let long = length-append (boxed surl.code body) (surl_boxes ss) in
      let front = length-boxed surl.code body in
      let rest = surls_read (at + (front_size + length body)) ss others (row_rest at s ss stands) (omega arith) in
      rw (url_read s.url s.mime g b first ends url-plain mime-plain (omega arith), mime_read s.url s.mime g b first ends url-plain mime-plain (omega arith), rest)
