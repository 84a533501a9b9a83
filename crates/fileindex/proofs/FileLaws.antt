-- Laws of the index of a file: by its containers in file order; and for those who ask for it of a file that was read,
-- or of one that was only begun and gets its first segment.
use Prim.Native.Nat.{ℕ, ◌≤◌}
use mathlib.Core.Bool.{false}
use mathlib.Core.List.{List, [], ◌∷◌, map, Memᴰ}
use Rattle.std.specs.Prelude.{Option, None, Some, Result, option_map}
use Rattle.refusals.specs.declared.Refusal.{Refusal}
use mathlib.Core.Path.{◌≡◌, refl, sym, ap, ap₂, subst, ◌∙◌}
use native.Mathlib.Omega.{arith}
use Rattle.boxes.specs.Answer.{Answer, given}
use Rattle.boxes.specs.Kinds.{pseg, fidx, right, those}
use Rattle.boxes.specs.declared.kinds.Container.TheVariants.{File, Pseg}
use Rattle.boxes.proofs.KindLaws.{few_right}
use Rattle.partial.specs.Heading.{Heading, heading}
use Rattle.partial.specs.Index.{SourceBox, belonging, size_for, index_for, index_of_segments, index_of}
use Rattle.partial.specs.Limits.{segment_limit, source_limit}
use Rattle.partial.specs.Meaning.{known_size}
use Rattle.partial.specs.Reading.{segments}
use Rattle.partial.specs.Segments.{Segment}
use Rattle.partial.specs.Sequences.{largest}
use Rattle.partial.specs.Sources.{source_count, source_beside, of_source, of_urls}
use Rattle.partial.proofs.Meaning.SourceLaws.{beside_most, count_most, beside_there}
use Rattle.partial.proofs.Reading.IndexedLaws.{index_none}
use Rattle.partial.proofs.Reading.LimitLaws.{segments_limited}
use Rattle.partial.proofs.Reading.NumberedLaws.{segments_numbered}
use Rattle.partial.proofs.Reading.RefusalLaws.{no_segments}
use Rattle.ends.specs.Sizes.{sizes_of}
use Rattle.ends.specs.Table.{sizes_in, Holds}
use Rattle.ends.specs.declared.sizes.Sizes.{Sizes}
use Rattle.sources.specs.Held.{SourcesHeld}
use Rattle.indexing.specs.Ends.{end_of}
use Rattle.fileindex.specs.File.{index_by, end_in, NumberedBy, Tells}
use Rattle.fileindex.specs.Parts.{index_of_parts}
use Rattle.indexing.specs.declared.marks.Marks.{Marks}
use Rattle.fileindex.proofs.PartLaws.{parts_of, parts_segments}

module _ (f : List ℕ) (h : Heading) (size : List (List ℕ) → Option ℕ) where
  -- its containers in file order
  pub by_parts : (ss : List Segment) → index_of_parts f size (parts_of h ss) ≡ index_by f h size ss
  unfolding index_by index_of_parts
  by_parts ss = rw (parts_segments f size ss)

  pub tells_file : (number : List (List ℕ) → ℕ) (ss : List Segment) (t₀ t : List ℕ) (r : Result Marks Refusal) → Tells number (index_of_parts f size (parts_of h ss)) t₀ t r → Tells number (index_by f h size ss) t₀ t r
  tells_file number ss t₀ t r told = subst (λ (x : Answer (List SourceBox)). Tells number x t₀ t r) (by_parts ss) told

  -- where each source ends as the segments say it
  pub by_segments : (ss : List Segment) → size ≡ size_for ss → index_by f h size ss ≡ index_of source_limit f h ss
  unfolding index_by index_of
  by_segments ss same = rw same

  -- a first segment without an index adds nothing
  pub by_first : (s : Segment) → those fidx s.inner ≡ [] → index_by f h size [] ≡ index_by f h size (s ∷ [])
  unfolding index_by index_of_segments index_for belonging
  by_first s lacks =
      rw (index_none source_limit f s.inner lacks Pseg (size s.urls) s.source_offset (few_right Pseg fidx s.inner refl (rw lacks (omega arith))))

-- where a source ends, as a table of sizes says it
pub end_said : (sizes : List ℕ) (source : ℕ) {said : Sizes} → said ≡ sizes_in sizes source → end_of said.size ≡ end_in sizes source
unfolding end_in
end_said sizes source e = ap (λ (x : Sizes). end_of x.size) e

-- a table of sizes says where each source ends, by its number and so by its URLs
module _ (sizes : List ℕ) (ss : List Segment) (held : Holds sizes ss) where
  end_held : (source : ℕ) → end_in sizes source ≡ known_size (of_source source ss)
  unfolding end_in sizes_of
  end_held source = ap (λ (x : Sizes). end_of x.size) (held.said source) ∙ go (known_size (of_source source ss))
    where
      go : (known : Option ℕ) → end_of (option_map (λ n. record { 0 = n }) known) ≡ known
      go None = refl
      go (Some n) = refl

  pub ends_held : (λ us. end_in sizes (source_beside ss us)) ≡ size_for ss
  unfolding size_for of_urls
  ends_held = λ i us. end_held (source_beside ss us) i

-- two that say the same of each of a list
map_each : (p q : Segment → ℕ) (ss : List Segment) → ((s : Segment) → Memᴰ s ss → p s ≡ q s) → map p ss ≡ map q ss
map_each p q [] same = refl
map_each p q (s ∷ ss) same = ap₂ ◌∷◌ (same s (Memᴰ.head refl)) (map_each p q ss (λ t there. same t (Memᴰ.tail there)))

-- what the answer says to those who ask
module _ (f sizes sources : List ℕ) (in_pfil : ℕ) (t₀ t : List ℕ) (r : Result Marks Refusal) (h : Heading) (head : heading f ≡ given h)
    (promise : (h : Heading) (ss : List Segment) (number : List (List ℕ) → ℕ) → heading f ≡ given h → segments source_limit f h ≡ given ss → NumberedBy number h ss sources in_pfil
    → Tells number (index_by f h (λ us. end_in sizes (number us)) ss) t₀ t r) where
  -- of a file whose segments were read
  pub told_read : (ss : List Segment) → segments source_limit f h ≡ given ss → Holds sizes ss → SourcesHeld sources ss → in_pfil ≡ source_beside ss h.urls
      → Tells (source_beside ss) (index_of source_limit f h ss) t₀ t r
  told_read ss read ends held first =
      let numbered = segments_numbered source_limit f h read in
      let numbers = map_each (λ s. s.source) (λ s. source_beside ss s.urls) ss (λ s there. sym (beside_there ss numbered s there)) in
      let small : (us : List (List ℕ)) → source_beside ss us ≤ segment_limit =
      λ us. omega (arith, beside_most ss us, count_most ss numbered, segments_limited source_limit f h read) in
      subst (λ (x : Answer (List SourceBox)). Tells (source_beside ss) x t₀ t r) (by_segments f h _ ss (ends_held sizes ss ends))
      (promise h ss (source_beside ss) head read (record { small = small; pfil = first; segments = held.numbers ∙ numbers }))

  -- of a file that was only begun, to which a segment without an index is added
  pub told-begun : (s : Segment) → right File pseg h.boxes ≡ false → those fidx s.inner ≡ [] → Holds sizes (s ∷ []) → s.source ≡ 0 → in_pfil ≡ source_beside (s ∷ []) h.urls
      → Tells (source_beside (s ∷ [])) (index_of source_limit f h (s ∷ [])) t₀ t r
  unfolding source_count largest
  told-begun s begun lacks ends zero first =
      let small : (us : List (List ℕ)) → source_beside (s ∷ []) us ≤ segment_limit = λ us. omega (arith, beside_most (s ∷ []) us, zero) in
      let by = by_first f h _ s lacks ∙ by_segments f h _ (s ∷ []) (ends_held sizes (s ∷ []) ends) in
      subst (λ (x : Answer (List SourceBox)). Tells (source_beside (s ∷ [])) x t₀ t r) by
      (promise h [] (source_beside (s ∷ [])) head (no_segments source_limit f h begun) (record { small = small; pfil = first; segments = refl }))
