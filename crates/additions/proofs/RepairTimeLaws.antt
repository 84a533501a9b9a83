-- Of a repair time as many bits are written as `pshd` has, and no test reads it: an addition stands for the one with
-- that much of it.
use Prim.Native.Nat.{ℕ, ◌%◌, ◌^◌, ◌+◌}
use mathlib.Core.Bool.{Bool, true, false, not, ◌&&◌, ◌||◌}
use mathlib.Core.List.{List, [], ◌∷◌, ◌++◌}
use mathlib.Core.Logic.{inl, inr}
use Rattle.std.specs.Prelude.{Option, None, Some}
use mathlib.Core.Path.{◌≡◌, refl, sym, ap, ap₂, ◌∙◌}
use lib.Dec.{leb, ltb, eqb}
use lib.ListN.{length}
use Rattle.numerals.specs.Numbers.{bytes_of}
use Rattle.boxes.specs.Framing.{boxed, box_limit}
use Rattle.boxes.specs.Kinds.{pseg, pshd, ploc}
use Rattle.boxes.specs.Answer.{Answer, ◌>>=◌, hold, given}
use Rattle.numerals.proofs.NumberLaws.{bytes_of_mod}
use Rattle.partial.specs.Limits.{file_limit, segment_limit, chunk_limit, layer_limit}
use Rattle.partial.specs.Sequences.{all_of}
use Rattle.partial.specs.Segments.{Segment, is_open, end_of, chunks_of}
use Rattle.partial.specs.Heading.{Heading}
use Rattle.partial.specs.Meaning.{gives_size, known_size, agree}
use Rattle.partial.specs.Sources.{source_count, source_beside, of_source, of_urls, agreed}
use Rattle.partial.specs.Index.{size_for, indexed}
use Rattle.partial.specs.Reading.{offset_width_of}
use Rattle.additions.specs.Append.{admitted}
use Rattle.additions.specs.Addition.{items, Addition, flags_for, data_right, texts_right, surls, outside_right}
use Rattle.additions.specs.Append.{inside_data, outside_data, any_inside, data_box, stored, added_boxes, placed, ploc_body, version_for}
use Rattle.additions.specs.Append.{pshd_body, surl_boxes, pseg_body, inner_boxes, added, pseg_place, new_urls, new_segment, admission}
use Rattle.partial.proofs.Meaning.SequenceLaws.{which, all_append, all_same}
use Rattle.partial.proofs.Meaning.SourceLaws.{of-append, beside_last, source_count_more}
use Rattle.partial.proofs.Reading.IndexedLaws.{indexed_alike}
use Rattle.additions.proofs.NewSegmentLaws.{no_index_new}
use Rattle.additions.proofs.ReadsBackLaws.{Offered, Taken, Admits, admission-of, admits}

-- what is tested of each segment where a size is known
abbrev fits : ℕ → Segment → Bool
fits n s = leb (end_of s) n && (not (gives_size s) || eqb (end_of s) n)

-- sizes agree by the source of a last segment, what it ends at and whether it gives a size
module _ (s t : Segment) (source : s.source ≡ t.source) (ends : end_of s ≡ end_of t) (gives : gives_size s ≡ gives_size t) where
  known_same : (ss : List Segment) → known_size (ss ++ (s ∷ [])) ≡ known_size (ss ++ (t ∷ []))
  unfolding known_size
  known_same [] = ap₂ (λ (given-there : Bool) (end : ℕ). elim given-there as (λ _. Option ℕ) [ true ↦ Some end | false ↦ None ]) gives ends
  known_same (x ∷ ss) =
      elim (which (gives_size x)) [
        | inl e ↦ rw (known_size, e)
        | inr e ↦ rw (known_size, e) (known_same ss)
      ]

  agree_same : (ss : List Segment) → agree (ss ++ (s ∷ [])) ≡ agree (ss ++ (t ∷ []))
  unfolding agree all_of
  agree_same ss = rw (agree, known_same ss) (go (known_size (ss ++ (t ∷ []))))
    where
      go : (known : Option ℕ)
          → ◌≡◌ {A = Bool} (elim known [ Some n ↦ all_of (fits n) (ss ++ (s ∷ [])) | None ↦ true ]) (elim known [ Some n ↦ all_of (fits n) (ss ++ (t ∷ [])) | None ↦ true ])
      go None = refl
      go (Some n) = rw (all_append (fits n) ss (s ∷ []), all_append (fits n) ss (t ∷ []), ends, gives)

  -- what does not tell them apart at the end of segments does not at the end of those of a source
  of_last : {A : Type 0} (said : List Segment → A) → ((ss : List Segment) → said (ss ++ (s ∷ [])) ≡ said (ss ++ (t ∷ [])))
      → (ss : List Segment) (n : ℕ) → said (of_source n (ss ++ (s ∷ []))) ≡ said (of_source n (ss ++ (t ∷ [])))
  unfolding of_source
  of_last said same ss n =
      rw (of-append n ss (s ∷ []), of-append n ss (t ∷ []))
      (elim (which (eqb t.source n)) [
        | inl e ↦ rw (of_source, source, e) (same (of_source n ss))
        | inr e ↦ rw (of_source, source, e)
      ])

  of_same : (ss : List Segment) (n : ℕ) → agree (of_source n (ss ++ (s ∷ []))) ≡ agree (of_source n (ss ++ (t ∷ [])))
  of_same = of_last agree agree_same

  -- and where each source ends
  sizes_same : s.urls ≡ t.urls → (ss : List Segment) → size_for (ss ++ (s ∷ [])) ≡ size_for (ss ++ (t ∷ []))
  unfolding size_for of_urls
  sizes_same urls ss = λ i us. (ap (λ (n : ℕ). known_size (of_source n (ss ++ (s ∷ [])))) (beside_last ss s t urls source us) ∙ known_of (source_beside (ss ++ (t ∷ [])) us)) i
    where
      known_of : (n : ℕ) → known_size (of_source n (ss ++ (s ∷ []))) ≡ known_size (of_source n (ss ++ (t ∷ [])))
      known_of n = of_last known_size known_same ss n

  agreed_same : (ss : List Segment) → agreed (ss ++ (s ∷ [])) ≡ agreed (ss ++ (t ∷ []))
  unfolding agreed all_of
  agreed_same ss =
      let test : Segment → Bool = λ x. agree (of_source x.source (ss ++ (s ∷ []))) in
      let other : Segment → Bool = λ x. agree (of_source x.source (ss ++ (t ∷ []))) in
      all_append test ss (s ∷ [])
      ∙ ap₂ (λ (b c : Bool). b && (c && true)) (all_same test other (λ x. of_same ss x.source) ss) (of_same ss s.source ∙ ap (λ (n : ℕ). agree (of_source n (ss ++ (t ∷ [])))) source)
      ∙ sym (all_append other ss (t ∷ []))

-- an addition with as much of its repair time as is written
abbrev pub cut : Addition → Addition
cut a =
    record {
      source_offset = a.source_offset;
      repair_time = a.repair_time % 2 ^ 64;
      last = a.last;
      outside = a.outside;
      list = a.list;
      bytes = a.bytes;
      texts = a.texts;
      lengths = a.lengths;
    }

pub added-cut : (a : Addition) → added (cut a) ≡ added a
unfolding added pseg_body pshd_body stored data_box any_inside inside_data outside_data surls
added-cut a =
    ap (λ (time : List ℕ). stored a ++ boxed pseg.code
    (boxed pshd.code (version_for a.source_offset ∷ (bytes_of 3 (flags_for a.last) ++ (bytes_of (offset_width_of (version_for a.source_offset)) a.source_offset ++ time)))
    ++ (boxed ploc.code (ploc_body (placed a.outside (items a.list))) ++ surl_boxes (surls a)))) (bytes_of_mod 8 a.repair_time)

-- what append tests of an addition is the same of that one
module _ (a : Addition) where
  pub place_cut : (n : ℕ) → pseg_place n (cut a) ≡ pseg_place n a
  unfolding pseg_place stored data_box any_inside inside_data outside_data
  place_cut n = refl

  boxes_cut : added_boxes (cut a) ≡ added_boxes a
  unfolding added_boxes any_inside outside_data
  boxes_cut = refl

  pub inner_cut : inner_boxes (cut a) ≡ inner_boxes a
  unfolding inner_boxes surls
  inner_cut = refl

  agreed-cut : (h : Heading) (ss : List Segment) (at : ℕ) → agreed (ss ++ (new_segment h ss at (cut a) ∷ [])) ≡ agreed (ss ++ (new_segment h ss at a ∷ []))
  unfolding new_segment new_urls surls end_of gives_size is_open
  agreed-cut h ss at = agreed_same (new_segment h ss at (cut a)) (new_segment h ss at a) refl refl refl ss

  urls_cut : (h : Heading) → new_urls h (cut a) ≡ new_urls h a
  unfolding new_urls surls
  urls_cut h = refl

  layers-cut : (h : Heading) (ss : List Segment) (at : ℕ) → source_count (ss ++ (new_segment h ss at (cut a) ∷ [])) ≡ source_count (ss ++ (new_segment h ss at a ∷ []))
  unfolding new_segment new_urls surls
  layers-cut h ss at = source_count_more ss (new_segment h ss at (cut a)) ∙ sym (source_count_more ss (new_segment h ss at a))

  -- nor does the index, for which each source ends where it did
  pub index-cut : (limit : ℕ) (f : List ℕ) (h : Heading) (ss : List Segment) (at : ℕ)
      → indexed limit f h (ss ++ (new_segment h ss at (cut a) ∷ [])) ≡ indexed limit f h (ss ++ (new_segment h ss at a ∷ []))
  unfolding new_segment new_urls surls end_of gives_size is_open
  index-cut limit f h ss at =
      indexed_alike limit f h ss (new_segment h ss at (cut a)) (new_segment h ss at a) (no_index_new h ss at (cut a)) (no_index_new h ss at a)
      (sizes_same (new_segment h ss at (cut a)) (new_segment h ss at a) refl refl refl refl ss)

module _ (limit : ℕ) (h : Heading) (ss : List Segment) (n : ℕ) (a : Addition) where
  -- the same refusals, and whatever follows that tells the two segments not apart
  pub admission-cut : {C : Type 0} (rest : List Segment → Answer C)
      → rest (ss ++ (new_segment h ss (pseg_place n a) (cut a) ∷ [])) ≡ rest (ss ++ (new_segment h ss (pseg_place n a) a ∷ []))
      → (admission limit h ss n (cut a) >>= rest) ≡ (admission limit h ss n a >>= rest)
  unfolding admission admitted new_segment new_urls surls end_of
  admission-cut rest same =
      let at = pseg_place n a in
      rw (added-cut a, boxes_cut a, inner_cut a, place_cut a n, agreed-cut a h ss at, layers-cut a h ss at)
      (go (leb (n + length (added a)) file_limit) (leb (length h.boxes + added_boxes a) box_limit && leb (inner_boxes a) box_limit) (leb (length ss + 1) segment_limit)
      (ltb 0 (length (new_urls h a))) (leb (length (chunks_of ss) + length (new_segment h ss at a).chunks) chunk_limit) (leb (end_of (new_segment h ss at a)) limit) (agreed (ss ++ (new_segment h ss at a ∷ [])))
      (leb (source_count (ss ++ (new_segment h ss at a ∷ []))) layer_limit))
    where
      tests : (t1 t6 t13 t41 t22 t23 t25 t40 : Bool) → List Segment → Answer (List Segment)
      tests t1 t6 t13 t41 t22 t23 t25 t40 ts =
          hold 1 t1 >>= λ _. hold 6 t6 >>= λ _. hold 13 t13 >>= λ _. hold 41 t41 >>= λ _. hold 22 t22 >>= λ _. hold 23 t23 >>= λ _. hold 25 t25 >>= λ _. hold 40 t40 >>= λ _. given ts

      go : (t1 t6 t13 t41 t22 t23 t25 t40 : Bool)
          → (tests t1 t6 t13 t41 t22 t23 t25 t40 (ss ++ (new_segment h ss (pseg_place n a) (cut a) ∷ [])) >>= rest)
          ≡ (tests t1 t6 t13 t41 t22 t23 t25 t40 (ss ++ (new_segment h ss (pseg_place n a) a ∷ [])) >>= rest)
      go true true true true true true true true = same
      go true true true true true true true false = refl
      go true true true true true true false t40 = refl
      go true true true true true false t25 t40 = refl
      go true true true true false t23 t25 t40 = refl
      go true true true false t22 t23 t25 t40 = refl
      go true true false t41 t22 t23 t25 t40 = refl
      go true false t13 t41 t22 t23 t25 t40 = refl
      go false t6 t13 t41 t22 t23 t25 t40 = refl

  admits_cut : Admits limit h ss n a → Admits limit h ss n (cut a)
  admits_cut t =
      record {
        small = rw added-cut t.small;
        boxes = rw boxes_cut t.boxes;
        inner = rw inner_cut t.inner;
        few = t.few;
        listed = rw urls_cut t.listed;
        chunks = t.chunks;
        low = t.low;
        agreed = rw place_cut (agreed-cut a h ss (pseg_place n a) ∙ t.agreed);
        layers = rw (place_cut, layers-cut) t.layers;
      }

module _ (limit : ℕ) (f : List ℕ) (h : Heading) (ss : List Segment) (a : Addition) where
  pub offered_cut : Offered limit f h ss a → Offered limit f h ss (cut a)
  unfolding data_right texts_right outside_right
  offered_cut t = record { headed = t.headed; before = t.before; list = t.list; lengths = t.lengths; carried = t.carried; texts = t.texts; outside = t.outside; text = t.text }

  pub taken_cut : Taken limit f h ss a → Taken limit f h ss (cut a)
  taken_cut t =
      record {
        offered = offered_cut t.offered;
        admits = admission-of limit h ss (length f) (cut a) (admits_cut limit h ss (length f) a (admits limit h ss (length f) a t.admits).0);
        index = (t.index.0, rw place_cut (index-cut a limit f h ss (pseg_place (length f) a) ∙ t.index.1));
      }
