-- Document 02, [9]: salvage keeps what it promises.
use Prim.Native.Nat.{ℕ, ◌+◌, ◌^◌, ◌<◌, ◌≤◌}
use mathlib.Core.Bool.{true}
use mathlib.Core.List.{List, [], ◌∷◌, map-map}
use mathlib.Core.Logic.{◌↔◌, inl, inr, ⊎_elim}
use Rattle.std.specs.Prelude.{Some}
use mathlib.Core.Path.{◌≡◌, refl, sym, ap, subst, ◌∙◌}
use native.Mathlib.Omega.{arith}
use borrow.Author.Tests.{le-leb, lt-leb, ltb-true, lt-ltb}
use lib.Dec.{T, leb}
use lib.ListN.{length}
use Rattle.boxes.specs.Answer.{Answer, refused, given, ◌>>=◌}
use Rattle.boxes.specs.Framing.{Box, boxes_in}
use Rattle.boxes.specs.Kinds.{box_at}
use Rattle.boxes.specs.declared.kinds.Container.{Container}
use Rattle.boxes.specs.declared.kinds.Container.TheVariants.{File, Pfil}
use Rattle.boxes.proofs.AnswerLaws.{not_both, refused_same, given_same, Only, only_given, only_then, only_held}
use Rattle.boxes.proofs.ContainerLaws.{boxes_numbers, boxes_standing}
use Rattle.partial.specs.Heading.{Heading, heading, ftyp_right, brand_right, pfil_right, pfhd_right, surl_right, file_boxes, judged}
use Rattle.partial.specs.Limits.{file_limit}
use Rattle.partial.specs.Map.{refused_line}
use Rattle.partial.specs.Meaning.{chunk_for, covers, supplier, supplied, place_of_byte, served}
use Rattle.partial.specs.Memory.{fits}
use Rattle.partial.specs.Reading.{earlier_segments}
use Rattle.partial.specs.Segments.{Chunk, Segment, no_chunk, present, has_place, chunks_of}
use Rattle.partial.specs.Sequences.{all_of, within}
use Rattle.partial.specs.Sources.{of_source}
use Rattle.partial.proofs.Meaning.MappedLaws.{lies, may_be}
use Rattle.partial.proofs.Meaning.SequenceLaws.{which, inside, within_true, all_at}
use Rattle.partial.proofs.Meaning.SourceLaws.{chunks-of}
use Rattle.partial.proofs.Meaning.SupplyLaws.{supplier-good, supplier-covers}
use Rattle.partial.proofs.Reading.RefusalLaws.{earlier_read, takes}
use Rattle.rescue.specs.Kept.{walk_of, framed, first_two, opening, fates}
use Rattle.rescue.specs.Copy.{copied, salvage, salvaged}
use Rattle.rescue.specs.Lines.{salvage_text}
use Rattle.rescue.specs.Demands.{Bytes, rescued_of, SameSegments, Rescued, Salvage}
use Rattle.rescue.proofs.Shapes.{chunk_anew}
use Rattle.rescue.proofs.FateLaws.{kept_all}
use Rattle.rescue.proofs.FramedLaws.{framed_shorter, framed_at, framed_bytes, framed_boxes, framed_opens}
use Rattle.rescue.proofs.HeadingLaws.{opened}
use Rattle.rescue.proofs.WholeLaws.{fates_boxed, copy_shorter, heading_back, heading-copied}
use Rattle.rescue.proofs.LineLaws.{text_named, ascending}
use Rattle.rescue.proofs.ReadingLaws.{Anew, none_anew, one_anew, anew_fates, segments_back, reads-back, only_12, served-back}
use Rattle.rescue.proofs.AcceptedLaws.{accepted_opens, accepted_framed, accepted_kept, accepted_same, accepted_silent}
use Rattle.rescue.proofs.JudgedLaws.{walk_fault, walk_faultless, cut_two, cut_fewer, opened_two, kept_lying, kept_alone, heads_stay, judged_beside}
use Rattle.rescue.proofs.StandingLaws.{bare_back, boxes_stand, carried-back}
use Rattle.rescue.proofs.MadeLaws.{salvage_made}
use Rattle.rescue.proofs.TwiceLaws.{salvage_twice, lines_twice}

-- ---- the segments of the copy are those that are kept

anew_same : {new : ℕ → ℕ} {ss ts : List Segment} → Anew new ss ts → SameSegments ss ts
anew_same none_anew = tt
anew_same {new} (one_anew b s rest) = (
  record {
    urls = refl;
    source = refl;
    source_offset = refl;
    flags = refl;
    repair_time = refl;
    starts = map-map (λ c. c.start) (chunk_anew new) s.chunks;
    sizes = map-map (λ c. c.size) (chunk_anew new) s.chunks;
    states = map-map (λ c. c.state) (chunk_anew new) s.chunks;
  },
  anew_same rest,
)

none_same : (ts : List Segment) → SameSegments [] ts → [] ≡ ts
none_same [] same = refl
none_same (t ∷ ts) same = absurd same

-- ---- they supply what the file supplies

-- a byte that chunks supply stands in the boxes that they lie in
place_below : (g : List ℕ) (h : Heading) (ss : List Segment) → boxes_in File g 0 (length g) ≡ given h.boxes → all_of (lies h) (chunks_of ss) ≡ true
    → (p : ℕ) → supplied ss p ≡ true → place_of_byte ss p < length g
unfolding place_of_byte covers lies
place_below g h ss boxes lie p e =
    let c : Chunk = chunk_for ss p in
    let (low, high) = within_true c.start c.size p (supplier-covers ss p e) in
    let here = all_at (lies h) no_chunk (chunks_of ss) lie (supplier (chunks_of ss) p) (ltb-true _ _ (unfold supplied in e)) in
    let placed : has_place c.state c.size ≡ true = unfold has_place present in rw (supplier-good ss p e, lt-ltb 0 c.size (omega arith)) in
    let ends = boxes_standing File g 0 (length g) boxes in
    ⊎_elim (λ d. omega (arith, (ends d.number d.there).inside.ends, d.to))
    (λ w. omega (arith, (ends (w.first + w.more) w.there).inside.ends, w.ends))
    (may_be h c (rw placed at here))

module _ (limit : ℕ) (f : List ℕ) (h : Heading) (bytes : Bytes f) (opens : opening f ≡ given h) where
  abbrev kept : List Segment
  kept = rescued_of limit f h

  abbrev copy : List ℕ
  copy = copied (framed f) (fates limit (framed f) h)

  opens_framed : opening (framed f) ≡ given h
  opens_framed = framed_opens f h opens

  bytes_framed : Bytes (framed f)
  bytes_framed = framed_bytes f bytes

  boxes_framed : boxes_in File (framed f) 0 (length (framed f)) ≡ given h.boxes
  boxes_framed = framed_boxes f ∙ ap given (sym (opened f h opens).boxes)

  served-framed : (source p : ℕ) → served (framed f) (of_source source kept) p ≡ served f (of_source source kept) p
  unfolding served
  served-framed source p =
      let ss : List Segment = of_source source kept in
      elim (which (supplied ss p)) [
        | inl e ↦
            let lie = chunks-of source (lies h) kept (kept_lying limit (framed f) h) in
            rw (served, e) (ap Some (framed_at f (place_of_byte ss p) (place_below (framed f) h ss boxes_framed lie p e)))
        | inr e ↦ rw (served, e)
      ]

  -- the segments of the copy
  abbrev back : List Segment
  back = segments_back limit (framed f) h opens_framed bytes_framed

  kept_same : SameSegments kept back
  kept_same = rw (kept_all limit (framed f) h) (anew_same (anew_fates _ (fates limit (framed f) h)))

  read_back : earlier_segments limit copy ≡ given back
  read_back = go kept refl kept_same
    where
      go : (ss : List Segment) → kept ≡ ss → SameSegments ss back → earlier_segments limit copy ≡ given back
      go [] e same = (takes limit copy).only_twelve (only_12 limit (framed f) h opens_framed bytes_framed e) ∙ ap given (none_same back same)
      go (s ∷ ss) e same = (takes limit copy).acceptable back (reads-back limit (framed f) h opens_framed bytes_framed (rw e (omega arith)))

  rescued : Rescued limit f h copy
  rescued =
      record {
        segments = back;
        read = read_back;
        head = heading_back limit (framed f) h opens_framed bytes_framed;
        headed = heading-copied limit (framed f) h opens_framed bytes_framed;
        bare = bare_back limit (framed f) h opens_framed bytes_framed;
        boxes = boxes_stand limit (framed f) h opens_framed bytes_framed f (framed_shorter f) (framed_at f);
        same = kept_same;
        carried = carried-back limit (framed f) h opens_framed bytes_framed boxes_framed f (framed_shorter f) (framed_at f);
        served = λ source p. served-back limit (framed f) h opens_framed bytes_framed source p ∙ served-framed source p;
        shorter = omega (arith, copy_shorter limit (framed f) h opens_framed bytes_framed, framed_shorter f);
      }

-- ---- refusals

-- those of the first two boxes are 1 to 11
heading-numbers : (f : List ℕ) → Only (λ n. T (within 1 11 n)) (heading f)
unfolding heading file_boxes judged within
heading-numbers f =
    let P : ℕ → Type 0 = λ n. T (within 1 11 n) in
    let framing : (c : Container) (start end : ℕ) → Only P (boxes_in c f start end) = λ c start end n e.
    let (low, high) = boxes_numbers c f start end n e in
    rw (inside 1 11 n (omega arith) (omega arith)) tt in
    only_then P (file_boxes f) _ (only_held P 1 (leb (length f) file_limit) _ tt (framing File 0 (length f)))
    (λ boxes.
    only_held P 7 (ftyp_right boxes) _ tt
    (only_held P 8 (brand_right f boxes) _ tt
    (only_held P 9 (pfil_right boxes) _ tt
    (only_then P (boxes_in Pfil f (box_at 1 boxes).body (box_at 1 boxes).end) _ (framing Pfil (box_at 1 boxes).body (box_at 1 boxes).end)
    (λ inner. only_held P 10 (pfhd_right f inner) _ tt (only_held P 11 (surl_right f inner) _ tt (only_given P _)))))))

-- what only changes a value refuses as what it has it from
then-refuses : {A B : Type 0} (change : A → B) (x : Answer A) (n : ℕ) → ((x >>= λ a. given (change a)) ≡ refused n) ↔ (x ≡ refused n)
then-refuses change (refused m) n = (λ e. ap refused (refused_same e), λ e. ap refused (refused_same e))
then-refuses change (given a) n = (λ e. absurd (not_both (sym e)), λ e. absurd (not_both (sym e)))

module _ (limit : ℕ) (f : List ℕ) where
  salvage_opened : (h : Heading) → opening f ≡ given h → salvage limit f ≡ given (copied (framed f) (fates limit (framed f) h))
  unfolding salvage
  salvage_opened h opens = rw opens

  salvage_refuses : (n : ℕ) → (salvage limit f ≡ refused n) ↔ (opening f ≡ refused n)
  unfolding salvage
  salvage_refuses = then-refuses (λ h. copied (framed f) (fates limit (framed f) h)) (opening f)

  opening_numbers : Only (λ n. T (within 1 11 n)) (opening f)
  unfolding opening within
  opening_numbers =
      let P : ℕ → Type 0 = λ n. T (within 1 11 n) in
      only_held P 1 (leb (length f) file_limit) _ tt (only_then P (heading (first_two f (walk_of f).boxes)) _ (heading-numbers (first_two f (walk_of f).boxes)) (λ h. only_given P _))

  opening_long : file_limit < length f → opening f ≡ refused 1
  unfolding opening
  opening_long over = rw (lt-leb (length f) file_limit over)

  two_refuse : (n : ℕ) → length f ≤ file_limit → (opening f ≡ refused n) ↔ (heading (first_two f (walk_of f).boxes) ≡ refused n)
  unfolding opening
  two_refuse n small =
      let bs : List Box = (walk_of f).boxes in
      rw (le-leb (length f) file_limit small) (then-refuses (λ h. record { boxes = bs; inner = h.inner; urls = h.urls; mixed = h.mixed }) (heading (first_two f bs)) n)

  two_refuses : (n : ℕ) → length f ≤ file_limit → (salvage limit f ≡ refused n) ↔ (heading (first_two f (walk_of f).boxes) ≡ refused n)
  two_refuses n small = (λ e. (two_refuse n small).0 ((salvage_refuses n).0 e), λ e. (salvage_refuses n).1 ((two_refuse n small).1 e))

  text_long : (most : ℕ) → most < length f → salvage_text limit most f ≡ refused_line 27
  unfolding salvage_text
  text_long most over = rw (salvage_text, lt-leb (length f) most over)

  text_refused : (most n : ℕ) → length f ≤ most → opening f ≡ refused n → salvage_text limit most f ≡ refused_line n
  unfolding salvage_text
  text_refused most n small e = rw (salvage_text, le-leb (length f) most small, e)

  handed-on : (buffer : List ℕ) (n : ℕ) → salvage limit f ≡ refused n → salvaged limit f buffer ≡ refused n
  unfolding salvaged
  handed-on buffer n e = rw e

  module _ (buffer g : List ℕ) (e : salvage limit f ≡ given g) where
    enough : length g ≤ length buffer → salvaged limit f buffer ≡ given g
    unfolding salvaged fits
    enough fit = rw (e, le-leb (length g) (length buffer) fit)

    short : length buffer < length g → salvaged limit f buffer ≡ refused 33
    unfolding salvaged fits
    short over = rw (e, lt-leb (length g) (length buffer) over)

pub salvage_demands : (limit : ℕ) → limit < 2 ^ 64 → Salvage limit
salvage_demands limit low =
    record {
      rescued = λ f h g bytes opens e. subst (Rescued limit f h) (given_same (sym (salvage_opened limit f h opens) ∙ e)) (rescued limit f h bytes opens);
      opens = λ f h opens. (copied (framed f) (fates limit (framed f) h), salvage_opened limit f h opens);
      refuses = salvage_refuses limit;
      numbers = λ f n e. opening_numbers limit f n ((salvage_refuses limit f n).0 e);
      over_limit = λ f over. (salvage_refuses limit f 1).1 (opening_long limit f over);
      of_two = λ f a b n small follow. rw (cut_two f a b follow) at (two_refuses limit f n small);
      of_fewer = λ f n small fewer. rw (cut_fewer f (walk_of f).boxes fewer) at (two_refuses limit f n small);
      fault = walk_fault;
      no_fault = walk_faultless;
      opened = opened_two;
      all = λ f h opens. fates_boxed limit (framed f) h (framed_opens f h opens);
      heads = λ f h x opens. heads_stay limit (framed f) h x;
      judged = λ f h before behind x opens. judged_beside limit (framed f) h (framed_opens f h opens) (framed_boxes f ∙ ap given (sym (opened f h opens).boxes)) behind x before;
      kept = λ f h opens. kept_alone limit (framed f) h (framed_opens f h opens);
      keeps = λ f h ss head read. (accepted_opens f h head, accepted_framed f h head, rw (accepted_framed f h head) (accepted_kept limit f h ss head read));
      unchanged = λ f h ss bytes head read bare. accepted_same limit f h ss head (earlier_read limit f head read) bytes bare;
      nothing_dropped = λ f h ss most bytes head read only few. accepted_silent limit f h ss head (earlier_read limit f head read) bytes only most few;
      made = salvage_made limit low;
      twice = salvage_twice limit;
      no_line = λ f g most bytes once few. lines_twice limit f g bytes once most few;
      over_long = λ most input over. text_long limit input most over;
      refusal = λ most input n small e. text_refused limit input most n small e;
      lines = λ most input h small opens. text_named limit input h opens most small;
      ascending = λ input h opens. ascending limit input h opens;
      handed_on = handed-on limit;
      room = λ f buffer g e fit. enough limit f buffer g e fit;
      no_room = λ f buffer g e over. short limit f buffer g e over;
    }
