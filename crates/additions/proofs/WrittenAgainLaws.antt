-- Demand 2: writing again what was read from our writer's file gives that file.
use Prim.Native.Nat.{ℕ, ◌+◌, ◌^◌, ◌≤◌, ◌<◌, zero-le}
use mathlib.Core.Bool.{true, false}
use mathlib.Core.List.{List, [], ◌∷◌, ◌++◌}
use mathlib.Core.Path.{◌≡◌, refl, sym, ap, subst, ◌∙◌}
use native.Mathlib.Omega.{arith}
use borrow.Author.Tests.{le-leb}
use lib.ListN.{length, take, drop, length-append}
use Rattle.boxes.specs.Answer.{Answer, refused, given}
use Rattle.boxes.specs.Framing.{Box}
use Rattle.boxes.specs.Kinds.{is, box_at, ftyp, no_box}
use Rattle.boxes.specs.declared.kinds.Container.TheVariants.{File}
use Rattle.boxes.proofs.AnswerLaws.{not_both, given_same}
use Rattle.boxes.proofs.KindLaws.{box_at_get_d, is-eqb}
use Rattle.boxes.proofs.ContainerLaws.{boxes_none}
use Rattle.partial.specs.Limits.{file_limit}
use Rattle.partial.specs.Segments.{Segment}
use Rattle.partial.specs.Heading.{Part, Heading, heading, ftyp_right, url, mime, file_boxes, judged, bytes_in}
use Rattle.partial.specs.Reading.{reading}
use Rattle.partial.specs.Memory.{after, filled}
use Rattle.partial.specs.Tables.{first_text, text_of}
use Rattle.partial.specs.declared.brand.Brand.{Brand}
use Rattle.partial.specs.declared.brand.Brand.TheVariants.{Paff, Pmff}
use Rattle.additions.specs.Begin.{brand_for, brand_code, beginning, is_text, begun}
use Rattle.additions.specs.Addition.{Addition}
use Rattle.additions.specs.Append.{appended}
use Rattle.additions.specs.Runs.{Lent, lent, file_in, size_after, begin, append, append_all}
use Rattle.additions.specs.Again.{write_again}
use Rattle.partial.proofs.Reading.ReadingLaws.{reading_headless}
use Rattle.partial.proofs.Reading.RefusalLaws.{takes}
use Rattle.partial.proofs.Reading.HeadingAppendLaws.{heading-of, url_kept, mime_kept}
use Rattle.additions.proofs.BegunLaws.{is_mixed, begun_heading, source_box, begun-url, begun-mime, begun_headed, begun_taken}
use Rattle.additions.proofs.BegunLaws.{only_source, source_inside, source_stands, source_ends}
use Rattle.additions.proofs.BegunLaws.{begin_given, begin-fits}
use Rattle.additions.proofs.SurlLaws.{surl_long, url_stands, mime_stands}
use Rattle.additions.proofs.RunAgainLaws.{Rewrites, rewrites, filled-take, filled_long}
use Rattle.additions.proofs.StandsLaws.{Stands, part_stands, stands_longer}

-- ---- the two texts and the brand stand in the file

-- they are handed back from a file that goes on from one just begun
module _ (limit : ℕ) (brand : Brand) (u m more : List ℕ) (plain_url : is_text u ≡ true) (plain_mime : is_text m ≡ true) (h : Heading) (ss : List Segment)
    (read : reading limit (beginning brand u m ++ more) ≡ given ss) (head : heading (beginning brand u m ++ more) ≡ given h)
    (inner : h.inner ≡ (begun_heading brand u m).inner) where
  text_from : (pick : List ℕ → Box → Part) → text_of pick limit (beginning brand u m ++ more) ≡ pick (beginning brand u m ++ more) (source_box brand u m)
  unfolding text_of first_text
  text_from pick = rw (text_of, read, head) (rw (first_text, inner, only_source brand u m))

  -- a part of the file just begun is that part of the longer file
  part_again : (at : ℕ) (s : List ℕ) → Stands (beginning brand u m) at s → at + length s ≤ length (beginning brand u m)
      → take (length s) (drop at (beginning brand u m ++ more)) ≡ s
  part_again at s stands inside =
      part_stands (beginning brand u m ++ more) at s (stands_longer (beginning brand u m) more at s stands inside) (rw length-append (omega arith))

  url-again : bytes_in (beginning brand u m ++ more) (text_of url limit (beginning brand u m ++ more)) ≡ u
  unfolding bytes_in
  url-again =
      let b = source_box brand u m in
      let part = url_kept (beginning brand u m) more b (source_inside brand u m) ∙ begun-url brand u m plain_url plain_mime in
      let stands = url_stands u m (beginning brand u m) b (source_stands brand u m) (source_ends brand u m) plain_url plain_mime in
      rw (text_from url, part) (part_again (b.body + 4) u stands (omega (arith, source_inside brand u m, source_ends brand u m, surl_long u m)))

  mime-again : bytes_in (beginning brand u m ++ more) (text_of mime limit (beginning brand u m ++ more)) ≡ m
  unfolding bytes_in
  mime-again =
      let b = source_box brand u m in
      let part = mime_kept (beginning brand u m) more b (source_inside brand u m) ∙ begun-mime brand u m plain_url plain_mime in
      let stands = mime_stands u m (beginning brand u m) b (source_stands brand u m) (source_ends brand u m) plain_url plain_mime in
      rw (text_from mime, part) (part_again (b.body + 4 + length u + 1) m stands (omega (arith, source_inside brand u m, source_ends brand u m, surl_long u m)))

-- and so is the brand
brand_again : (brand : Brand) → brand_for (is_mixed brand) ≡ brand
unfolding brand_code
brand_again Paff = refl
brand_again Pmff = refl

-- ---- no file

none_begun : (buffer : List ℕ) (brand : Brand) (u m : List ℕ) (k : ℕ) → begun buffer brand u m ≡ refused k → begin buffer brand u m ≡ lent buffer 0
unfolding begin after size_after
none_begun buffer brand u m k e = rw e

nothing_headed : heading [] ≡ refused 7
unfolding heading file_boxes judged ftyp_right
nothing_headed =
    let no-box : is ftyp (box_at 0 []) ≡ false = rw (box_at_get_d 0 []) (is-eqb ftyp no_box) in
    rw (boxes_none File [] 0 0 zero-le, no-box)

-- to no file nothing is added
nothing-added : (limit : ℕ) (buffer : List ℕ) (additions : List Addition) → file_in (append_all limit (lent buffer 0) additions) ≡ []
unfolding append_all append appended file_in after size_after
nothing-added limit buffer [] = refl
nothing-added limit buffer (a ∷ more) = rw (le-leb 0 (length buffer) zero-le, nothing_headed) (nothing-added limit buffer more)

nothing_read : (limit : ℕ) → reading limit [] ≡ refused 7
nothing_read limit = reading_headless limit [] nothing_headed

-- ---- the whole

module _ (limit : ℕ) (brand : Brand) (u m : List ℕ) (plain_url : is_text u ≡ true) (plain_mime : is_text m ≡ true) (small : length (beginning brand u m) ≤ file_limit) where
  -- a file that goes on from one just begun
  on_again : (whole : List ℕ) (h : Heading) (ss : List Segment) → Rewrites limit (beginning brand u m) (begun_heading brand u m) [] whole → heading whole ≡ given h
      → reading limit whole ≡ given ss
      → (other : List ℕ) → length whole ≤ length other
      → file_in (write_again limit other whole h ss) ≡ whole
  unfolding write_again
  on_again whole h ss r known read other room =
      let b = beginning brand u m in
      let same : ss ≡ r.added' = given_same (sym ((takes limit whole).acceptable ss read) ∙ r.read) in
      let same_head : h ≡ r.heading' = given_same (sym known ∙ r.headed) in
      let there = rw r.longer at read in
      let head = rw r.longer at r.headed in
      let url-same : bytes_in whole (text_of url limit whole) ≡ u = rw r.longer (url-again limit brand u m r.more plain_url plain_mime r.heading' ss there head r.inner) in
      let mime-same : bytes_in whole (text_of mime limit whole) ≡ m = rw r.longer (mime-again limit brand u m r.more plain_url plain_mime r.heading' ss there head r.inner) in
      let long : length whole ≡ length b + length r.more = ap length r.longer ∙ length-append b r.more in
      let brand-same : brand_for r.heading'.mixed ≡ brand = ap brand_for r.mixed ∙ brand_again brand in
      rw (same_head, brand-same, url-same, mime-same, begin-fits other brand u m plain_url plain_mime small (omega arith), same)
      (r.rewritten (filled b other) (filled-take b other) (rw (filled_long b other (omega arith)) room))

-- of a file that begin and append alone made, written into any buffer that it fits
pub written-again : (limit : ℕ) → limit < 2 ^ 64 → (buffer : List ℕ) (brand : Brand) (u m : List ℕ) (additions : List Addition) (other : List ℕ)
    (h : Heading) (ss : List Segment)
    → let f = file_in (append_all limit (begin buffer brand u m) additions) in
    heading f ≡ given h
    → reading limit f ≡ given ss
    → length f ≤ length other
    → file_in (write_again limit other f h ss) ≡ f
written-again limit below buffer brand u m additions other h ss known read room = go (begun buffer brand u m) refl
  where
    f : List ℕ
    f = file_in (append_all limit (begin buffer brand u m) additions)

    go : (answer : Answer ℕ) → begun buffer brand u m ≡ answer → file_in (write_again limit other f h ss) ≡ f
    go (refused k) e =
        let none : f ≡ [] = ap (λ (l : Lent). file_in (append_all limit l additions)) (none_begun buffer brand u m k e) ∙ nothing-added limit buffer additions in
        absurd (not_both (sym (nothing_read limit) ∙ rw none at read))
    go (given n) e =
        let (plain_url, plain_mime, small, file) = begin_given buffer brand u m n e in
        let head = heading-of (beginning brand u m) (begun_heading brand u m) (begun_headed brand u m small plain_url plain_mime) in
        let r = rewrites limit below additions (begin buffer brand u m) (begun_heading brand u m) [] (rw file head) (rw file (begun_taken brand u m limit small plain_url plain_mime)) in
        on_again limit brand u m plain_url plain_mime small f h ss (subst (λ (g : List ℕ). Rewrites limit g (begun_heading brand u m) [] f) file r) known read other room
