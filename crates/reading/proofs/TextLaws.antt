-- Laws of the two texts of a file and of those of a source: they lie in it, and which part each is.
use Prim.Native.Nat.{ℕ, ◌+◌, ◌≤◌, ◌<◌}
use mathlib.Core.Bool.{true, ◌&&◌}
use mathlib.Core.List.{List, [], ◌∷◌, ◌++◌, Memᴰ}
use mathlib.Core.Path.{◌≡◌, refl, sym, ap, subst, ◌∙◌}
use native.Mathlib.Omega.{arith}
use borrow.Author.Tests.{eqb-true}
use lib.Dec.{leb, eqb, lit<}
use lib.ListN.{length}
use Rattle.boxes.specs.Answer.{Answer, refused, given, ◌>>=◌}
use Rattle.boxes.specs.Framing.{Box}
use Rattle.boxes.specs.Kinds.{pfil, pseg, surl, is, right, those, box_at}
use Rattle.numerals.specs.Numbers.{number}
use Rattle.boxes.specs.declared.kinds.Container.TheVariants.{File, Pfil}
use Rattle.boxes.proofs.KindLaws.{is_there}
use Rattle.boxes.proofs.AnswerLaws.{both_given, given_same}
use Rattle.partial.specs.Heading.{Part, Heading, heading, pfil_right, surl_right, surl_formed, text, url, mime}
use Rattle.partial.specs.Limits.{source_limit}
use Rattle.partial.specs.Reading.{segment, segments_from, reading}
use Rattle.partial.specs.Segments.{Segment}
use Rattle.partial.specs.Sequences.{all_of}
use Rattle.partial.specs.Sources.{source_count, of_source}
use Rattle.partial.specs.Tables.{first_text, text_of, nowhere}
use Rattle.partial.specs.Texts.{list_boxes, source_text, source_text_of}
use Rattle.partial.proofs.Meaning.SequenceLaws.{both, all_append, member_passes}
use Rattle.partial.proofs.Meaning.SourceLaws.{member_of, of_none}
use Rattle.partial.proofs.Reading.HeadingAppendLaws.{lies, lies_ends, boxes_lie, all_box_at, those_all, further_lie, headed}
use Rattle.partial.proofs.Reading.KeptLaws.{stepped, segmented, inside_file, segments_inside}
use Rattle.partial.proofs.Reading.PartLaws.{headed_read}
use Rattle.partial.proofs.Reading.ReadingLaws.{reading-segments}
use Rattle.heading.specs.Facts.{facts_of}
use Rattle.reading.specs.Judged.{Judged}
use Rattle.reading.specs.Parts.{handed}
use Rattle.surls.specs.First.{text_in}
use Rattle.boxes.specs.declared.body.Body.{Body}
use Rattle.surls.specs.declared.first.Text.{Text}
use Rattle.surls.specs.declared.first.Text.TheVariants.{Url, Mime}
use Rattle.sources.specs.Held.{ListHeld}
use Rattle.reading.specs.Texts.{text_located, part_given}
use Rattle.reading.proofs.JudgedLaws.{Accepted, read_given}
use Rattle.reading.proofs.PartLaws.{handed_whole}

-- both texts of a `surl` that is well-formed end before it does
formed_inside : (f : List ℕ) (b : Box) → surl_formed f b ≡ true → ((url f b).place + (url f b).size < b.end) × ((mime f b).place + (mime f b).size < b.end)
unfolding surl_formed mime text
formed_inside f b formed =
    let (_, whole) = both (leb (b.body + 4) b.end && eqb (number f b.body 4) 0) (eqb ((mime f b).place + (mime f b).size + 1) b.end) formed in
    let ends = eqb-true ((mime f b).place + (mime f b).size + 1) b.end whole in
    (omega arith, omega arith)

-- a text of the first of `surl` boxes that are well-formed and lie in the file lies there too
first_inside : (which : Text) (f : List ℕ) (bs : List Box) → surl_right f bs ≡ true → all_of (lies (length f)) bs ≡ true
    → (first_text (text_in which) f bs).place + (first_text (text_in which) f bs).size ≤ length f
unfolding first_text text_in nowhere surl_right all_of
first_inside which f bs formed lie = go which (those surl bs) refl
  where
    here : (c : Box) (cs : List Box) → those surl bs ≡ c ∷ cs → (surl_formed f c ≡ true) × (c.end ≤ length f)
    here c cs e =
        let all : all_of (surl_formed f) (c ∷ cs) ≡ true = rw e at formed in
        let inside : all_of (lies (length f)) (c ∷ cs) ≡ true = rw e at (those_all surl (lies (length f)) bs lie) in (
          (both (surl_formed f c) (all_of (surl_formed f) cs) all).0,
          lies_ends (length f) c (both (lies (length f) c) (all_of (lies (length f)) cs) inside).0,
        )

    go : (which : Text) (cs : List Box) → those surl bs ≡ cs → (first_text (text_in which) f bs).place + (first_text (text_in which) f bs).size ≤ length f
    go which [] e = rw (first_text, e) (omega arith)
    go Url (c ∷ cs) e =
        let (one, ends) = here c cs e in
        rw (first_text, e) (omega (arith, (formed_inside f c one).0, ends))
    go Mime (c ∷ cs) e =
        let (one, ends) = here c cs e in
        rw (first_text, e) (omega (arith, (formed_inside f c one).1, ends))

-- the boxes of `pfil` lie in the file
pfil_lies : (f : List ℕ) {h : Heading} → heading f ≡ given h → all_of (lies (length f)) h.inner ≡ true
unfolding pfil_right
pfil_lies f {h} known =
    let t = headed f h known in
    let bs = h.boxes in
    let (kind, _) = both (is pfil (box_at 1 bs)) (right File pfil bs) t.pfil in
    let second = is_there pfil (lit< tt) 1 bs kind in
    let ends = lies_ends (length f) (box_at 1 bs) (all_box_at (lies (length f)) bs 1 second (boxes_lie File f 0 (length f) bs t.boxes)) in
    further_lie (box_at 1 bs).end (length f) ends h.inner (boxes_lie Pfil f (box_at 1 bs).body (box_at 1 bs).end h.inner t.inner)

-- a text of a refused file is empty
text_none : (which : List ℕ → Box → Part) (f : List ℕ) {n : ℕ} → reading source_limit f ≡ refused n → text_of which source_limit f ≡ nowhere
unfolding text_of
text_none which f e = rw (e, text_of)

-- of an accepted one it is that of the first `surl` in `pfil`
text_first : (which : List ℕ → Box → Part) (f : List ℕ) {h : Heading} {ss : List Segment} → reading source_limit f ≡ given ss → heading f ≡ given h
    → text_of which source_limit f ≡ first_text which f h.inner
unfolding text_of
text_first which f read head = rw (read, text_of, head)

-- and lies in the file
text_inside : (which : Text) (f : List ℕ) {ss : List Segment} → reading source_limit f ≡ given ss
    → (text_of (text_in which) source_limit f).place + (text_of (text_in which) source_limit f).size ≤ length f
text_inside which f read =
    let (h, head) = headed_read source_limit f read in
    rw (text_first (text_in which) f read head) (first_inside which f h.inner (headed f h head).surl (pfil_lies f head))

-- so it is handed back whole
pub text-handed : (which : Text) (f : List ℕ) → handed f (text_located which f) ≡ text_of (text_in which) source_limit f
unfolding handed
text-handed which f = go (reading source_limit f) refl
  where
    go : (x : Answer (List Segment)) → reading source_limit f ≡ x → handed f (x >>= λ ss. given (text_of (text_in which) source_limit f)) ≡ text_of (text_in which) source_limit f
    go (refused n) e = sym (text_none (text_in which) f e)
    go (given ss) e = handed_whole f (text_of (text_in which) source_limit f) (text_inside which f e)

-- where it is said to lie: nowhere where the file is refused, and else where it is
pub text_refused : (which : Text) (f : List ℕ) {n : ℕ} → reading source_limit f ≡ refused n → refused n ≡ text_located which f
text_refused which f e = rw e

pub text_given : (which : Text) (f : List ℕ) {j : Judged} → Accepted f j → {part : Part} → text_of (text_in which) source_limit f ≡ part → given part ≡ text_located which f
text_given which f a there = rw (read_given f a) (ap given (sym there))

-- what the heading tells of an accepted file is that
module _ (f : List ℕ) {j : Judged} (a : Accepted f j) where
  pub url_there : text_of (text_in Url) source_limit f ≡ j.facts.url
  unfolding facts_of text_in
  url_there = text_first url f (read_given f a) a.head ∙ ap (λ x. x.url) a.facts

  pub mime_there : text_of (text_in Mime) source_limit f ≡ j.facts.mime
  unfolding facts_of text_in
  mime_there = text_first mime f (read_given f a) a.head ∙ ap (λ x. x.mime) a.facts

-- ---- the texts of a source

-- the `surl` boxes of each segment that was read are well-formed
segments_formed : (limit : ℕ) (f : List ℕ) (h : Heading) (bs : List Box) (before : List Segment) {ss : List Segment} → all_of (λ s. surl_right f s.inner) before ≡ true
    → segments_from limit f h before bs ≡ given ss
    → all_of (λ s. surl_right f s.inner) ss ≡ true
unfolding segments_from all_of
segments_formed limit f h [] before all e = subst (λ (ss : List Segment). all_of (λ s. surl_right f s.inner) ss ≡ true) (given_same e) all
segments_formed limit f h (b ∷ bs) before all e =
    let (s, read, e1) = both_given (segment limit f h before b) _ e in
    let (inner, l, cs, t, same) = stepped limit f h before b read in
    let one : surl_right f s.inner ≡ true = subst (λ (s : Segment). surl_right f s.inner ≡ true) same t.formed in
    segments_formed limit f h bs (before ++ (s ∷ [])) (rw (all_append, all, one)) e1

module _ (f : List ℕ) {h : Heading} {ss : List Segment} (head : heading f ≡ given h) (read : reading source_limit f ≡ given ss) where
  segments_read : segments_from source_limit f h [] (those pseg h.boxes) ≡ given ss
  segments_read = (segmented source_limit f h (reading-segments source_limit f head read)).read

  -- where the list of URLs of a segment stands its boxes are well-formed and lie in the file
  list_right_lem : (s : Segment) → Memᴰ s ss → (surl_right f (list_boxes h s) ≡ true) × (all_of (lies (length f)) (list_boxes h s) ≡ true)
  unfolding list_boxes all_of
  list_right_lem s there =
      let t = headed f h head in
      let psegs = those_all pseg (lies (length f)) h.boxes (boxes_lie File f 0 (length f) h.boxes t.boxes) in
      let formed = member_passes (λ s. surl_right f s.inner) ss (segments_formed source_limit f h (those pseg h.boxes) [] refl segments_read) s there in
      let inside = member_passes (inside_file source_limit f h) ss (segments_inside source_limit f h (those pseg h.boxes) [] psegs refl segments_read) s there in
      go (those surl s.inner) refl formed inside
    where
      go : (bs : List Box) → those surl s.inner ≡ bs → surl_right f s.inner ≡ true → all_of (lies (length f)) s.inner ≡ true
          → (surl_right f (list_boxes h s) ≡ true) × (all_of (lies (length f)) (list_boxes h s) ≡ true)
      go [] e formed inside = rw (list_boxes, e) ((headed f h head).surl, pfil_lies f head)
      go (b ∷ bs) e formed inside = rw (list_boxes, e) (formed, inside)

  pub source_inside : (which : Text) (n : ℕ) → (source_text (text_in which) f h ss n).place + (source_text (text_in which) f h ss n).size ≤ length f
  unfolding source_text nowhere
  source_inside which n = go (of_source n ss) refl
    where
      go : (ts : List Segment) → of_source n ss ≡ ts → (source_text (text_in which) f h ss n).place + (source_text (text_in which) f h ss n).size ≤ length f
      go [] e = rw (source_text, e) (omega arith)
      go (s ∷ ts) e =
          let (there, _) = member_of n ss s (rw e (Memᴰ.head refl)) in
          let (formed, lie) = list_right_lem s there in
          rw (source_text, e) (first_inside which f (list_boxes h s) formed lie)

  pub source_given : (which : List ℕ → Box → Part) (n : ℕ) → source_text_of which source_limit f n ≡ given (source_text which f h ss n)
  unfolding source_text_of
  source_given which n = rw (read, head)

-- that of a source that is not there
pub source_absent : (which : List ℕ → Box → Part) (f : List ℕ) (h : Heading) (ss : List Segment) (n : ℕ) → source_count ss ≤ n → source_text which f h ss n ≡ nowhere
unfolding source_text
source_absent which f h ss n past = rw (source_text, of_none n ss past)

-- that of one whose list stands in a container
pub source_first : (which : List ℕ → Box → Part) (f : List ℕ) (h : Heading) (ss : List Segment) (n : ℕ) {list : Body} (held : ListHeld f h ss n list)
    → source_text which f h ss n ≡ first_text which f (list_boxes h held.first)
unfolding source_text
source_first which f h ss n held = rw (source_text, held.leads)

pub source_refused : (which : List ℕ → Box → Part) (f : List ℕ) (n : ℕ) {k : ℕ} → reading source_limit f ≡ refused k → source_text_of which source_limit f n ≡ refused k
unfolding source_text_of
source_refused which f n e = rw e

-- it is handed back whole
pub source_handed : (which : Text) (f : List ℕ) (n : ℕ) → handed f (source_text_of (text_in which) source_limit f n) ≡ part_given (source_text_of (text_in which) source_limit f n)
unfolding handed part_given
source_handed which f n = go (reading source_limit f) refl
  where
    go : (x : Answer (List Segment)) → reading source_limit f ≡ x → handed f (source_text_of (text_in which) source_limit f n) ≡ part_given (source_text_of (text_in which) source_limit f n)
    go (refused k) e = rw (source_refused (text_in which) f n e)
    go (given ss) e =
        let (h, head) = headed_read source_limit f e in
        rw (source_given f head e (text_in which) n) (handed_whole f (source_text (text_in which) f h ss n) (source_inside f head e which n))
