-- What an addition makes of a file: in its source every byte served before keeps its value, one that was not is served
-- exactly if the addition carries it as good, and the described length never shrinks; other sources are as they were.
use Prim.Native.Nat.{ℕ, ◌+◌, ◌-◌, ◌<◌}
use mathlib.Core.Bool.{Bool, true, ◌&&◌}
use mathlib.Core.List.Memᴰ
use mathlib.Core.List.{List, [], ◌∷◌, ◌++◌, append-nil, Memᴰ}
use mathlib.Core.Logic.{inl, inr}
use Rattle.std.specs.Prelude.{Some}
use mathlib.Core.Path.{◌≡◌, refl, sym, ap, subst, ◌∙◌}
use native.Mathlib.Omega.{arith}
use lib.Dec.{eqb}
use lib.ListN.{length, drop, get_or-append}
use Rattle.partial.specs.Sequences.{within}
use Rattle.partial.specs.Segments.{Segment, good, present, chunks_of}
use Rattle.partial.specs.Heading.{Heading}
use Rattle.partial.specs.Meaning.{agree, covers, supplied, place_of_byte, served}
use Rattle.partial.specs.Sources.{source_beside, of_source, of_urls, agreed}
use Rattle.partial.specs.ReadingDemands.{Numbered}
use Rattle.additions.specs.Addition.{Item, items, Addition, size_of, data_size, data_right, goes_out}
use Rattle.additions.specs.Append.{stored, back, placed_with, placed, new_chunks, new_urls, new_segment, added, pseg_place}
use Rattle.additions.specs.Carried.{carried_by, carried}
use Rattle.additions.specs.Demands.{Grown, Untouched, Extended}
use Rattle.partial.proofs.Meaning.SequenceLaws.{which, both, within_true}
use Rattle.partial.proofs.Meaning.SupplyLaws.{byte_from, served_from, served-append}
use Rattle.partial.proofs.Meaning.DescribedLaws.{never_shorter}
use Rattle.partial.proofs.Meaning.MappedLaws.{Accepted, place_inside}
use Rattle.partial.proofs.Meaning.SourceLaws.{agreed-of, beside_there, numbered_more, of_urls_own, of_urls_other}
use Rattle.additions.proofs.NewSegmentLaws.{urls_new, source_new}
use Rattle.additions.proofs.PlacedLaws.{place_present}
use Rattle.additions.proofs.StoredLaws.{Stored, stored-within, stored_byte, stored_rest, stored-added}

good-present : (state : ℕ) → eqb state good ≡ true → present state ≡ true
unfolding present
good-present state e = rw e

module _ (g : List ℕ) (at p : ℕ) (o : Bool) (out : ℕ) where
  -- where the data of items is stored, their chunks supply what they carry
  carried_byte : (start : ℕ) (is : List Item) (bytes : List ℕ) → Stored g at o out is bytes
      → byte_from g (new_chunks at start (placed_with o out is)) p ≡ carried_by start is bytes p
  unfolding new_chunks placed_with carried_by byte_from covers
  carried_byte start [] bytes s = refl
  carried_byte start (i ∷ is) bytes s =
      elim (which (eqb i.state good && within start i.size p)) [
        | inl e ↦
            let (is-good, covered) = both (eqb i.state good) (within start i.size p) e in
            let there = good-present i.state is-good in
            let (from, to) = within_true _ _ _ covered in
            rw (byte_from, carried_by, e) (rw (place_present at i (back o out i is) there (stored-within g at o out i is bytes s) (omega arith))
            (ap Some (stored_byte g at o out i is bytes s there (p - start) (omega arith))))
        | inr e ↦ rw (byte_from, carried_by, e) (carried_byte (start + i.size) is (drop (data_size (i ∷ [])) bytes) (stored_rest g at o out i is bytes s))
      ]

-- the new segment supplies what the addition carries
new_served : (h : Heading) (ss : List Segment) (a : Addition) → data_right a ≡ true → (f rest : List ℕ) (p : ℕ)
    → served (f ++ (stored a ++ rest)) (new_segment h ss (pseg_place (length f) a) a ∷ []) p ≡ carried a p
unfolding chunks_of new_segment placed carried
new_served h ss a right f rest p =
    let is = items a.list in
    served_from _ _ p
    ∙ rw append-nil (carried_byte _ _ p a.outside (size_of (goes_out a.outside) is) a.source_offset is a.bytes (stored-added f rest a right))

-- what is appended to a file changes no byte that was served out of it
served_kept : (f more : List ℕ) (ss : List Segment) (p : ℕ) → (supplied ss p ≡ true → place_of_byte ss p < length f) → served (f ++ more) ss p ≡ served f ss p
unfolding served
served_kept f more ss p inside =
    elim (which (supplied ss p)) [
      | inl e ↦ rw (served, e) (ap Some (get_or-append f more 0 (place_of_byte ss p) (inside e)))
      | inr e ↦ rw (served, e)
    ]

-- a source that an addition goes to; the new segment is numbered beside all segments
grown : (f : List ℕ) (h : Heading) (us ss : List Segment) (a : Addition) → Accepted f h ss → data_right a ≡ true
    → agree (ss ++ (new_segment h us (pseg_place (length f) a) a ∷ [])) ≡ true
    → Grown f (f ++ added a) ss (ss ++ (new_segment h us (pseg_place (length f) a) a ∷ [])) a
unfolding added
grown f h us ss a ok right agreed =
    record {
      kept = λ p.
          served-append _ ss (new_segment h us (pseg_place (length f) a) a ∷ []) p
          ∙ rw (served_kept f (added a) ss p (place_inside f h ss ok p), new_served h us a right f);
      no_shorter = never_shorter ss (new_segment h us (pseg_place (length f) a) a ∷ []) agreed;
    }

-- after an addition to a file each of whose sources is accepted
pub extended : (f : List ℕ) (h : Heading) (ss : List Segment) (a : Addition) → ((n : ℕ) → Accepted f h (of_source n ss)) → Numbered ss → data_right a ≡ true
    → agreed (ss ++ (new_segment h ss (pseg_place (length f) a) a ∷ [])) ≡ true
    → Extended f (f ++ added a) h ss (ss ++ (new_segment h ss (pseg_place (length f) a) a ∷ [])) a
unfolding of_urls
extended f h ss a ok numbered right sizes = record { grown = its; untouched = others; numbered = numbered_more ss numbered new next; numbers = numbers }
  where
    new : Segment
    new = new_segment h ss (pseg_place (length f) a) a

    us : List (List ℕ)
    us = new_urls h a

    urls : new.urls ≡ us
    urls = urls_new h ss (pseg_place (length f) a) a

    next : new.source ≡ source_beside ss new.urls
    next = source_new h ss (pseg_place (length f) a) a ∙ ap (source_beside ss) (sym urls)

    its : Grown f (f ++ added a) (of_urls us ss) (of_urls us (ss ++ (new ∷ []))) a
    its =
        let own = subst (λ (vs : List (List ℕ)). of_urls vs (ss ++ (new ∷ [])) ≡ of_urls vs ss ++ (new ∷ [])) urls (of_urls_own ss numbered new next) in
        rw own (grown f h ss (of_urls us ss) a (ok (source_beside ss us)) right (ap agree (sym own) ∙ agreed-of (ss ++ (new ∷ [])) sizes _))

    others : (vs : List (List ℕ)) → (us ≡ vs → ⊥) → Untouched f (f ++ added a) (of_urls vs ss) (of_urls vs (ss ++ (new ∷ [])))
    others vs other =
        let same = of_urls_other ss numbered new next vs (λ e. other (sym urls ∙ e)) in
        record {
          segments = same;
          kept = λ p. ap (λ (ts : List Segment). served (f ++ added a) ts p) same ∙ served_kept f (added a) (of_urls vs ss) p (place_inside f h (of_urls vs ss) (ok (source_beside ss vs)) p);
        }

    numbers : (s : Segment) → Memᴰ s ss → source_beside (ss ++ (new ∷ [])) s.urls ≡ s.source
    numbers s there = beside_there (ss ++ (new ∷ [])) (numbered_more ss numbered new next) s (Memᴰ.append_left (new ∷ []) there)
