-- Laws of tables that hold the sources of segments: the source of a list by those that are held, and what is held with
-- one segment more.
use Prim.Native.Nat.{ℕ, suc, ◌+◌, ◌≤◌, ◌<◌, min}
use mathlib.Core.Bool.{Bool, true, false, ◌&&◌, true≢false}
use mathlib.Core.List.Memᴰ
use mathlib.Core.List.{List, [], ◌∷◌, ◌++◌, map, Memᴰ}
use mathlib.Core.Path.{◌≡◌, refl, sym, ap, ap₂, subst, ◌∙◌}
use native.Mathlib.Decide.{dec_le, ℕ_discrete}
use native.Mathlib.Omega.{arith}
use borrow.Author.Rules.{rules}
use borrow.Author.Tests.{eqb-true}
use denote.Enum.Bare.{sameb, same_true}
use lib.Dec.{eqb}
use Rattle.boxes.specs.contracts.kinds.Container.{the_type}
use Rattle.partial.proofs.Meaning.SequenceLaws.{both}
use lib.ListN.{length, take, set, length-append, length-set, length-replicate}
use lib.Seq.{take-suc-set}
use Rattle.boxes.specs.Framing.{Box}
use Rattle.boxes.specs.Kinds.{surl, those}
use Rattle.boxes.proofs.AnswerLaws.{given_same}
use Rattle.boxes.proofs.ContainerLaws.{boxes_none}
use Rattle.partial.specs.Heading.{Heading, urls_in}
use Rattle.partial.specs.Limits.{file_limit, segment_limit}
use Rattle.partial.specs.ReadingDemands.{Numbered}
use Rattle.partial.specs.Segments.{Segment}
use Rattle.partial.specs.Sequences.{largest}
use Rattle.partial.specs.Sources.{urls_for, same_urls, source_count, source_beside, of_source, of_urls}
use Rattle.partial.proofs.Meaning.SameLaws.{urls_equal, urls_same}
use Rattle.partial.proofs.Meaning.SourceLaws.{of-append, member_of, of_one, of_none, source_count_more, beside_most, beside_there, of_urls_member, count_most}
use Rattle.partial.specs.Texts.{list_boxes}
use Rattle.partial.proofs.Reading.OneSourceLaws.{urls_own, urls_pfil}
use Rattle.boxes.specs.declared.body.Body.{Body}
use Rattle.sources.specs.Held.{Stands, PfilList, SourcesHeld, ListHeld, ListsHeld, Sourced, Joins}
use Rattle.sources.specs.Lists.{kept_list, list_in, ListPut, Unlisted}
use Rattle.sources.specs.Numbers.{source_put, no_sources}
use Rattle.sources.proofs.NumberLaws.{put_there}

-- two containers that are held to be one are one
pub same_body : (a b : Body) → (sameb the_type a.container b.container && (eqb a.start.0 b.start.0 && eqb a.end.0 b.end.0)) ≡ true → a ≡ b
same_body a b same =
    let (container, places) = both (sameb the_type a.container b.container) (eqb a.start.0 b.start.0 && eqb a.end.0 b.end.0) same in
    let (start, end) = both (eqb a.start.0 b.start.0) (eqb a.end.0 b.end.0) places in
    let container : a.container ≡ b.container = same_true the_type (search rules) a.container b.container container in
    let start = eqb-true a.start.0 b.start.0 start in
    let end = eqb-true a.end.0 b.end.0 end in
    λ i. record { container = container i; start = record { 0 = start i }; end = record { 0 = end i } }

-- and have one list
pub one_list : (f : List ℕ) {a b : Body} (bs cs : List Box) → a ≡ b → Stands f a bs → Stands f b cs → true ≡ same_urls (urls_in f bs) (urls_in f cs)
one_list f {b = b} bs cs same one other =
    let here = subst (λ (a : Body). Stands f a bs) same one in
    sym (urls_same (urls_in f bs) (urls_in f cs) (ap (urls_in f) (given_same (sym here.boxes ∙ other.boxes))))

-- the source of a list of URLs by what is told of it and the list of a source
module _ (f : List ℕ) (h : Heading) (ss : List Segment) (numbered : Numbered ss) (bs : List Box) {n : ℕ} {list : Body} (held : ListHeld f h ss n list) {one other : Body} {r : Bool}
    (is : one ≡ list) (stands : Stands f other bs) (told : (bs cs : List Box) → Stands f one bs → Stands f other cs → r ≡ same_urls (urls_in f bs) (urls_in f cs)) where
  said : r ≡ same_urls (urls_in f (list_boxes h held.first)) (urls_in f bs)
  said = told _ bs (subst (λ (b : Body). Stands f b (list_boxes h held.first)) (sym is) held.stands) stands

  -- the first segment of a source is one of its segments
  first_there : Memᴰ held.first (of_source n ss)
  first_there = rw held.leads (Memᴰ.head refl)

  -- a source with the same list is that of the list
  pub list_same : r ≡ true → n ≡ source_beside ss (urls_in f bs)
  list_same same =
      let (there, number) = member_of n ss held.first first_there in
      let urls : held.first.urls ≡ urls_in f bs = sym held.urls ∙ urls_equal _ _ (sym said ∙ same) in
      sym number ∙ sym (beside_there ss numbered held.first there) ∙ ap (source_beside ss) urls

  -- one with another is not
  pub list_other : r ≡ false → source_beside ss (urls_in f bs) ≡ n → ⊥
  unfolding of_urls
  list_other differs here =
      let (_, urls) = (of_urls_member ss numbered (urls_in f bs) held.first).0 (rw here first_there) in
      true≢false (sym (urls_same _ _ (held.urls ∙ urls)) ∙ sym said ∙ differs)

pub further : {n m : ℕ} → n ≤ m → (m ≡ n → ⊥) → n + 1 ≤ m
further {n} {m} most other = elim (ℕ_discrete m n) [ yes same ↦ absurd (other same) | no apart ↦ omega arith ]

-- a segment without a `surl` has the list in `pfil`
module _ (f : List ℕ) (h : Heading) {list : Body} (pfil : PfilList f h list) (s : Segment) (none : those surl s.inner ≡ []) where
  list-boxes : list_boxes h s ≡ h.inner
  unfolding list_boxes
  list-boxes = rw (list_boxes, none)

  pub pfil_stands : Stands f list (list_boxes h s)
  pfil_stands = subst (Stands f list) (sym list-boxes) pfil.stands

  pub pfil_urls : s.urls ≡ urls_for (urls_in f s.inner) h.urls → urls_in f (list_boxes h s) ≡ s.urls
  pfil_urls urls = ap (urls_in f) list-boxes ∙ sym pfil.urls ∙ sym (urls ∙ urls_pfil f s.inner h.urls none)

-- one with a `surl` has its own
module _ (f : List ℕ) (h : Heading) (s : Segment) (own : 0 < length (those surl s.inner)) where
  own_boxes : list_boxes h s ≡ s.inner
  unfolding list_boxes
  own_boxes = go (those surl s.inner) refl
    where
      go : (bs : List Box) → those surl s.inner ≡ bs → list_boxes h s ≡ s.inner
      go [] e = absurd (omega (arith, ap length e))
      go (b ∷ bs) e = rw (list_boxes, e)

  pub own_stands : {list : Body} → Stands f list s.inner → Stands f list (list_boxes h s)
  own_stands {list} = subst (Stands f list) (sym own_boxes)

  pub own_urls : s.urls ≡ urls_for (urls_in f s.inner) h.urls → urls_in f (list_boxes h s) ≡ s.urls
  own_urls urls = ap (urls_in f) own_boxes ∙ sym (urls ∙ urls_own f s.inner h.urls own)

-- a container stands in a file of no more bytes than it may have also as a table keeps it
stands_kept : {f : List ℕ} {list : Body} {bs : List Box} → length f ≤ file_limit → Stands f list bs → Stands f (kept_list list) bs
stands_kept {f} {list} {bs} within stands =
    let inside = stands.inside in
    let end : min list.end.0 file_limit ≡ list.end.0 = omega arith in
    record {
      boxes =
          elim (dec_le list.start.0 file_limit) [
            | yes low ↦
                let start : min list.start.0 file_limit ≡ list.start.0 = omega arith in
                rw (start, end) stands.boxes
            | no past ↦
                boxes_none list.container f (min list.start.0 file_limit) (min list.end.0 file_limit) (omega arith)
                ∙ sym (boxes_none list.container f list.start.0 list.end.0 (omega arith))
                ∙ stands.boxes
          ];
      inside = omega arith;
    }

-- ---- with one segment more

module _ (f : List ℕ) (h : Heading) (ss : List Segment) (s : Segment) where
  -- its number behind those before it
  numbers_last : (ss : List Segment) → map (λ s. s.source) (ss ++ (s ∷ [])) ≡ map (λ s. s.source) ss ++ (s.source ∷ [])
  numbers_last [] = refl
  numbers_last (t ∷ ss) = ap (λ (ns : List ℕ). t.source ∷ ns) (numbers_last ss)

  pub sources_more : {t : List ℕ} {k source : ℕ} → SourcesHeld t ss → k ≡ length ss → length ss < segment_limit → source ≡ s.source → SourcesHeld (source_put t k source) (ss ++ (s ∷ []))
  sources_more {t} {k} {source} held at few number =
      let put : source_put t k source ≡ set t (length ss) s.source = ap₂ (source_put t) at number ∙ put_there t (length ss) s.source few in
      let long : length (ss ++ (s ∷ [])) ≡ suc (length ss) = omega (arith, length-append ss (s ∷ [])) in
      rw put
      (record {
        long = simp length-set held.long;
        numbers =
            ap (λ (n : ℕ). take n (set t (length ss) s.source)) long
            ∙ take-suc-set t (length ss) s.source (omega (arith, held.long))
            ∙ ap (λ (ns : List ℕ). ns ++ (s.source ∷ [])) held.numbers
            ∙ sym (numbers_last ss);
      })

  -- a source before it leads as it did
  held_on : {n : ℕ} {list : Body} → ListHeld f h ss n list → ListHeld f h (ss ++ (s ∷ [])) n list
  held_on {n} held =
      record {
        first = held.first;
        others = held.others ++ of_source n (s ∷ []);
        leads = of-append n ss (s ∷ []) ∙ ap (λ (ts : List Segment). ts ++ of_source n (s ∷ [])) held.leads;
        stands = held.stands;
        urls = held.urls;
      }

  -- of a source that there was
  pub lists_same : {u : List ℕ} → ListsHeld f h u ss → s.source < source_count ss → ListsHeld f h u (ss ++ (s ∷ []))
  lists_same held old = record { long = held.long; each = λ n low. held_on (held.each n (omega (arith, source_count_more ss s))) }

  -- of a new one
  pub lists_new : {u u' : List ℕ} {list : Body} → length f ≤ file_limit → ListsHeld f h u ss → s.source ≡ source_count ss → source_count ss < segment_limit
      → Stands f list (list_boxes h s)
      → urls_in f (list_boxes h s) ≡ s.urls
      → ListPut u s.source list u'
      → ListsHeld f h u' (ss ++ (s ∷ []))
  lists_new {u} {u'} {list} within held new few stands urls put =
      record {
        long = put.long ∙ held.long;
        each = λ n low.
            elim (dec_le (source_count ss) n) [
              | no old ↦ subst (ListHeld f h (ss ++ (s ∷ [])) n) (sym (put.others n (λ e. omega arith))) (held_on (held.each n (omega arith)))
              | yes past ↦
                  let here : s.source ≡ n = omega (arith, source_count_more ss s) in
                  subst (λ (n : ℕ). ListHeld f h (ss ++ (s ∷ [])) n (list_in u' n)) here
                  (record {
                    first = s;
                    others = [];
                    leads =
                        of-append s.source ss (s ∷ [])
                        ∙ ap₂ ◌++◌ (of_none s.source ss (omega arith)) (of_one s.source (s ∷ []) (λ t there. ap (λ (x : Segment). x.source) (Memᴰ.eq_of_singleton there)));
                    stands = subst (λ (b : Body). Stands f b (list_boxes h s)) (sym (put.here (omega arith) held.long)) (stands_kept within stands);
                    urls = urls;
                  })
            ];
      }

-- what is held of no segment
pub sourced_none : (f : List ℕ) (h : Heading) {t u : List ℕ} → t ≡ no_sources → Unlisted u → Sourced f h t u []
unfolding source_count largest
sourced_none f h {t} sources lists =
    record {
      sources = record { long = ap length sources ∙ length-replicate {A = ℕ} segment_limit 0; numbers = refl };
      lists = record { long = lists.long; each = λ n low. absurd (omega arith) };
    }

-- one segment more, whose list stands in that container, beside segments of so many sources
pub record Next (f : List ℕ) (h : Heading) (ss : List Segment) (segment many : ℕ) (list : Body) (s : Segment) : Type 0 where
  pub within : length f ≤ file_limit
  pub segments : segment ≡ length ss
  pub few : length ss < segment_limit
  pub sources : many ≡ source_count ss
  pub numbered : Numbered ss
  pub stands : Stands f list (list_boxes h s)
  pub urls : urls_in f (list_boxes h s) ≡ s.urls
  pub number : s.source ≡ source_beside ss s.urls

-- what is held with it, after it was put to its source
module _ {f : List ℕ} {h : Heading} {ss : List Segment} {segment many r : ℕ} {list : Body} {s : Segment} {t t' u u' : List ℕ} (next : Next f h ss segment many list s) (held : Sourced f h t u ss)
    (joins : Joins f list segment many t u r t' u') where
  pub joined_number : r ≡ s.source
  joined_number = joins.found h ss (list_boxes h s) next.sources next.numbered held.lists next.stands ∙ ap (source_beside ss) next.urls ∙ sym next.number

  lists_on : ListsHeld f h u' (ss ++ (s ∷ []))
  lists_on =
      elim (ℕ_discrete r many) [
        | yes new ↦
            let first : s.source ≡ source_count ss = sym joined_number ∙ new ∙ next.sources in
            let few : source_count ss < segment_limit = omega (arith, next.few, count_most ss next.numbered) in
            lists_new f h ss s next.within held.lists first few next.stands next.urls (subst (λ (n : ℕ). ListPut u n list u') joined_number (joins.new new))
        | no old ↦ rw (joins.old old) (lists_same f h ss s held.lists (omega (arith, joined_number, next.sources, next.number, beside_most ss s.urls)))
      ]

  pub joined : Sourced f h t' u' (ss ++ (s ∷ []))
  joined =
      record {
        sources = rw joins.numbers (sources_more f h ss s held.sources next.segments next.few joined_number);
        lists = lists_on;
      }
