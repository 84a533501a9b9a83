-- The lists of URLs of a file's segments: each has its own or that in `pfil`, so a file whose segments have none of their
-- own has one source, number 0; and none is empty, which is 41.
use Prim.Native.Nat.{ℕ, ◌≤◌, ◌<◌}
use mathlib.Core.List.{List, [], ◌∷◌, ◌++◌, Memᴰ}
use mathlib.Core.Path.{◌≡◌, refl, sym, subst, ◌∙◌}
use native.Mathlib.Decide.{dec_le}
use native.Mathlib.Omega.{arith}
use borrow.Author.Tests.{ltb-true}
use lib.ListN.{length}
use Rattle.boxes.specs.Answer.{given}
use Rattle.boxes.specs.Framing.{Box}
use Rattle.boxes.specs.Kinds.{pseg, surl, those}
use Rattle.boxes.specs.declared.kinds.Container.TheVariants.{File}
use Rattle.boxes.proofs.AnswerLaws.{both_given, given_same}
use Rattle.boxes.proofs.KindLaws.{right_some}
use Rattle.partial.specs.Sequences.{largest}
use Rattle.partial.specs.Segments.{Segment}
use Rattle.partial.specs.Heading.{Heading, heading, urls_in}
use Rattle.partial.specs.Sources.{urls_for, source_count, of_source}
use Rattle.partial.specs.Reading.{segment, segments_from, reading}
use Rattle.partial.specs.ReadingDemands.{Numbered, ListedBy}
use Rattle.partial.proofs.Meaning.SequenceLaws.{Each, each_append, each_member}
use Rattle.partial.proofs.Meaning.SourceLaws.{of_one}
use Rattle.partial.proofs.Reading.HeadingAppendLaws.{headed}
use Rattle.partial.proofs.Reading.KeptLaws.{stepped, segmented}
use Rattle.partial.proofs.Reading.LimitLaws.{segments-many}
use Rattle.partial.proofs.Reading.NumberedLaws.{reading_numbered}
use Rattle.partial.proofs.Reading.ReadingLaws.{reading_read, reading_known}

-- a list that is one's own, or that of `pfil`
pub urls_own : (f : List ℕ) (bs : List Box) (us : List (List ℕ)) → 0 < length (those surl bs) → urls_for (urls_in f bs) us ≡ urls_in f bs
unfolding urls_in urls_for
urls_own f bs us some = go (those surl bs) refl
  where
    go : (cs : List Box) → those surl bs ≡ cs → urls_for (urls_in f bs) us ≡ urls_in f bs
    go [] e = absurd (let none : length (those surl bs) ≡ 0 = rw e in omega arith)
    go (c ∷ cs) e = rw (urls_in, e)

pub urls_pfil : (f : List ℕ) (bs : List Box) (us : List (List ℕ)) → those surl bs ≡ [] → urls_for (urls_in f bs) us ≡ us
unfolding urls_in urls_for
urls_pfil f bs us none = rw (urls_in, none)

module _ (limit : ℕ) (f : List ℕ) (h : Heading) (told : h.urls ≡ urls_in f h.inner) where
  segment-listed : (before : List Segment) (b : Box) {s : Segment} → segment limit f h before b ≡ given s → ListedBy f h s
  segment-listed before b e =
      let (inner, l, cs, t, same) = stepped limit f h before b e in
      subst (ListedBy f h) same
      (record {
        own = urls_own f inner h.urls;
        in_pfil = λ none. urls_pfil f inner h.urls none ∙ told;
        some = ltb-true 0 (length (urls_for (urls_in f inner) h.urls)) t.listed;
      })

  segments-listed : (bs : List Box) (before : List Segment) {ss : List Segment} → Each (ListedBy f h) before → segments_from limit f h before bs ≡ given ss
      → Each (ListedBy f h) ss
  unfolding segments_from
  segments-listed [] before all e = subst (Each (ListedBy f h)) (given_same e) all
  segments-listed (b ∷ bs) before all e =
      let (s, read, e1) = both_given (segment limit f h before b) _ e in
      segments-listed bs (before ++ (s ∷ [])) (each_append (ListedBy f h) before (s ∷ []) all (segment-listed before b read, tt)) e1

module _ (limit : ℕ) (f : List ℕ) {h : Heading} {ss : List Segment} (head : heading f ≡ given h) (e : reading limit f ≡ given ss) where
  pub listed : (s : Segment) → Memᴰ s ss → ListedBy f h s
  listed =
      let (is, r) = reading_known limit f head e in
      each_member (ListedBy f h) ss (segments-listed limit f h (headed f h head).urls (those pseg h.boxes) [] tt (segmented limit f h r.segmented).read)

  -- there are some segments
  some_read : 0 < length ss
  some_read =
      let (is, r) = reading_known limit f head e in
      omega (
        arith,
        right_some File pseg h.boxes refl r.there,
        segments-many limit f h (those pseg h.boxes) [] (segmented limit f h r.segmented).read,
      )

-- segments with one list, of which there are some, are of one source, number 0
one_list : (us : List (List ℕ)) (ss : List Segment) → Numbered ss → 0 < length ss → ((s : Segment) → Memᴰ s ss → s.urls ≡ us)
    → (of_source 0 ss ≡ ss) × (source_count ss ≡ 1)
unfolding source_count largest
one_list us [] numbered some same = absurd (omega arith)
one_list us (s ∷ ss) numbered some same =
    let here = Memᴰ.head {xs = ss} (refl {a = s}) in
    let first : s.source ≡ 0 = omega (arith, numbered.in_turn [] ss s refl) in
    let each : (t : Segment) → Memᴰ t (s ∷ ss) → t.source ≡ 0 =
    λ t there. (numbered.same_number t s there here).1 (same t there ∙ sym (same s here)) ∙ first in
    let most : source_count (s ∷ ss) ≤ 1 =
    elim (dec_le (source_count (s ∷ ss)) 1) [
      | yes few ↦ few
      | no many ↦ let (t, there, is) = numbered.used 1 (omega arith) in absurd (omega (arith, each t there))
    ] in
    (of_one 0 (s ∷ ss) each, omega (arith, most, numbered.below s here))

pub one-source : (limit : ℕ) (f : List ℕ) {ss : List Segment} → reading limit f ≡ given ss → ((s : Segment) → Memᴰ s ss → those surl s.inner ≡ [])
    → (of_source 0 ss ≡ ss) × (source_count ss ≡ 1)
one-source limit f {ss} e none =
    let (h, is, r) = reading_read limit f e in
    one_list (urls_in f h.inner) ss (reading_numbered limit f e) (some_read limit f r.headed e)
    (λ s there. (listed limit f r.headed e s there).in_pfil (none s there))
