-- Laws of a chunk's place: what an offset reaches, and what decides the place of an entry's chunk.
use Prim.Native.Nat.{ℕ, ◌+◌, ◌-◌, ◌^◌, ◌≤◌, ◌<◌}
use mathlib.Core.Bool.{Bool, true, false, ◌&&◌, ◌||◌, and-false, false≢true}
use mathlib.Core.List.{List}
use Rattle.std.specs.Prelude.{Option, None, Some, Result, Ok, Err}
use Rattle.refusals.specs.declared.Refusal.TheVariants.{OutsideData}
use Rattle.refusals.specs.declared.Refusal.{Refusal}
use Rattle.boxes.proofs.AnswerLaws.{not_both}
use mathlib.Core.Path.{◌≡◌, refl, sym, ap, subst, ◌∙◌}
use native.Mathlib.Omega.{arith}
use borrow.Author.Tests.{ltb-true, lt-ltb, le-leb, lt-leb}
use lib.Dec.{ltb, eqb}
use lib.ListN.{length}
use Rattle.boxes.specs.Answer.{refused, given}
use Rattle.boxes.specs.Framing.{Box, boxes_in}
use Rattle.boxes.specs.declared.framing.Framed.{Framed}
use Rattle.boxes.specs.declared.kinds.Container.TheVariants.{File}
use Rattle.numerals.specs.declared.numbers.Offset.{Offset}
use Rattle.numerals.specs.declared.numbers.Offset.TheVariants.{Ahead, Back}
use Rattle.numerals.specs.declared.place.Place.{Place}
use Rattle.partial.specs.Entries.{Entry, in_data, may_lie, offset_place, place_of}
use Rattle.partial.specs.Heading.{Heading}
use Rattle.partial.specs.Mixed.{whole_boxes}
use Rattle.partial.specs.Segments.{good, present, has_place}
use Rattle.partial.proofs.Meaning.SequenceLaws.{both}
use Rattle.segment.specs.Data.{Searched, found, Finds, Onward}
use Rattle.segment.specs.Placed.{Ready, Reaches, lies_whole, ToldWhole, place_answer, Places}
use Rattle.segment.specs.Tops.{Tops}
use Rattle.segment.proofs.DataLaws.{none_past}
use Rattle.segment.proofs.WholeLaws.{whole_past}

-- what an offset reaches
module _ (pseg : ℕ) {z : Offset} where
  pub reaches_at : {place : Place} → offset_place pseg z ≡ Some place.0 → Reaches pseg z (Some place)
  reaches_at {place} at =
      record {
        at = λ {place = place'} e.
            let same : place ≡ place' = cc in
            subst (λ (p : Place). offset_place pseg z ≡ Some p.0) same at;
        past = λ e n h.
            let z : ◌≡◌ {A = ℕ} 0 1 = cc in
            absurd (omega arith);
      }

  reaches_none : ((n : ℕ) → offset_place pseg z ≡ Some n → 2 ^ 64 ≤ n) → Reaches pseg z None
  reaches_none past = record { at = λ e. cc; past = λ e. past }

  module _ {n : ℕ} (ahead : z ≡ Ahead n) where
    pub ahead_at : offset_place pseg z ≡ Some (pseg + n)
    unfolding offset_place
    ahead_at = ap (offset_place pseg) ahead

    pub ahead_past : 2 ^ 64 ≤ pseg + n → Reaches pseg z None
    ahead_past far =
        reaches_none
        (λ m h.
        let same : pseg + n ≡ m = cc ahead_at in
        omega arith)

  module _ {n : ℕ} (back : z ≡ Back n) where
    pub back_at : n ≤ pseg → offset_place pseg z ≡ Some (pseg - n)
    unfolding offset_place
    back_at low = ap (offset_place pseg) back ∙ rw (le-leb n pseg low, offset_place)

    back_none : pseg < n → offset_place pseg z ≡ None
    unfolding offset_place
    back_none before = ap (offset_place pseg) back ∙ rw (lt-leb n pseg before, offset_place)

    pub back_past : pseg < n → Reaches pseg z None
    back_past before =
        reaches_none
        (λ m h.
        let z : ◌≡◌ {A = ℕ} 0 1 = cc (back_none before) in
        absurd (omega arith))

-- which chunks have a place
module _ (state size : ℕ) where
  pub absent : present state ≡ false → has_place state size ≡ false
  unfolding has_place
  absent h = rw h

  pub empty : present state ≡ true → size ≡ 0 → has_place state size ≡ false
  unfolding has_place
  empty here no_bytes = rw (here, no_bytes)

  pub has-place : present state ≡ true → (size ≡ 0 → ⊥) → has_place state size ≡ true
  unfolding has_place
  has-place here bytes = rw here (lt-ltb 0 size (omega arith))

  some_bytes : has_place state size ≡ true → 0 < size
  unfolding has_place
  some_bytes has = ltb-true 0 size (both (present state) (ltb 0 size) has).1

-- ---- a chunk outside `pdat`

-- where a chunk may lie
may-lie : (h : Heading) (state place size : ℕ) → may_lie h state place size ≡ (in_data h.boxes place size || lies_whole h.mixed h.boxes state place size)
unfolding may_lie lies_whole
may-lie h state place size = refl

-- what decides whether it may lie outside
module _ (mixed : Bool) (bs : List Box) (state place size : ℕ) where
  pub whole_plain : mixed ≡ false → lies_whole mixed bs state place size ≡ false
  unfolding lies_whole
  whole_plain plain = rw plain

  pub whole_far : (f : List ℕ) → boxes_in File f 0 (length f) ≡ given bs → length f < place + size → lies_whole mixed bs state place size ≡ false
  unfolding lies_whole
  whole_far f known far = rw (whole_past f known place (place + size) far) (and-false (mixed && eqb state good))

  module _ (mix : mixed ≡ true) where
    pub whole_worse : eqb state good ≡ false → lies_whole mixed bs state place size ≡ false
    unfolding lies_whole
    whole_worse other = rw (mix, other)

    pub whole_good : eqb state good ≡ true → lies_whole mixed bs state place size ≡ whole_boxes bs place (place + size)
    unfolding lies_whole
    whole_good same = rw (mix, same)

-- what a search that found no data box leaves
module _ (h : Heading) {f tops : List ℕ} {last : Framed} {place size : ℕ} {r : Option Framed} (finds : Finds f tops last place size r) (nowhere : r ≡ None) (p : Searched f last h.boxes) (t : Tops h.boxes tops) where
  outside : in_data h.boxes place size ≡ false
  unfolding found
  outside = sym (finds.answer h.boxes p t) ∙ ap found nowhere

  lies_outside : (state : ℕ) {mixed w : Bool} → mixed ≡ h.mixed → ToldWhole f tops mixed state place size w → may_lie h state place size ≡ w
  lies_outside state mix whole =
      may-lie h state place size
      ∙ rw outside (sym (whole h.boxes p.boxes t ∙ ap (λ (m : Bool). lies_whole m h.boxes state place size) mix))

-- the place of an entry's chunk
module _ {f tops : List ℕ} {mixed : Bool} {last : Framed} {pseg : ℕ} {e : Entry} where
  places_refused : {r : Result (Place × Framed) Refusal} {n : ℕ} → place_answer r ≡ refused n
      → ((h : Heading) → Ready f tops mixed last h → place_of h pseg e ≡ refused n)
      → Places f tops mixed last pseg e r
  places_refused told fault =
      record {
        answer = λ h ready. told ∙ sym (fault h ready);
        onward = λ h ready e. absurd (not_both (sym told ∙ ap place_answer e));
      }

  places-box : {place : Place} {next : Framed} → ((h : Heading) → Ready f tops mixed last h → place_of h pseg e ≡ given place.0)
      → ((h : Heading) → Ready f tops mixed last h → Onward f last h.boxes (has_place e.state e.size) place.0 e.size next)
      → Places f tops mixed last pseg e (Ok (place, next))
  places-box {place} {next} at onward =
      record {
        answer = λ h ready. sym (at h ready);
        onward = λ h ready {place = place'} {next = next'} s.
            let both : ◌≡◌ {A = Place × Framed} (place, next) (place', next') = cc in
            let there : place ≡ place' = ap (λ p. p.0) both in
            let same : next ≡ next' = ap (λ p. p.1) both in
            subst (λ (q : Place). Onward f last h.boxes (has_place e.state e.size) q.0 e.size next') there
            (subst (Onward f last h.boxes (has_place e.state e.size) place.0 e.size) same (onward h ready));
      }

  -- a chunk with no place
  pub places_none : has_place e.state e.size ≡ false → Places f tops mixed last pseg e (Ok (record { 0 = 0 }, last))
  unfolding place_of
  places_none placeless = places-box (λ h ready. simp (place_of, placeless))
      (λ h ready. record {
        known = ready.known;
        holds = λ has. absurd (false≢true (sym (rw placeless) ∙ has));
        kept = λ _. refl;
      })

  module _ (has : has_place e.state e.size ≡ true) where
    -- a chunk past every place
    pub places_past : {r : Option Place} → Reaches pseg e.offset r → r ≡ None → length f < 2 ^ 64 → Places f tops mixed last pseg e (Err OutsideData)
    unfolding place_of
    places_past reaches nowhere short = places_refused refl (λ h ready. go h ready.known (offset_place pseg e.offset) refl)
      where
        go : (h : Heading) → Searched f last h.boxes → (x : Option ℕ) → offset_place pseg e.offset ≡ x → place_of h pseg e ≡ refused 24
        go h p None q = simp (place_of, has, q)
        go h p (Some n) q =
            let far : length f < n + e.size = omega (arith, reaches.past nowhere n q, some_bytes e.state e.size has) in
            let lies : may_lie h e.state n e.size ≡ false = may-lie h e.state n e.size ∙ rw (none_past f p.boxes n e.size far, whole_far h.mixed h.boxes e.state n e.size f p.boxes far) in
            simp (place_of, has, q, lies)

    -- a chunk at a place that was searched
    module _ {n : ℕ} (at : offset_place pseg e.offset ≡ Some n) {r : Option Framed} (finds : Finds f tops last n e.size r) where
      pub places-in : {place : Place} {b : Framed} → n ≡ place.0 → r ≡ Some b → Places f tops mixed last pseg e (Ok (place, b))
      unfolding place_of found
      places-in same held =
          places-box
          (λ h ready.
          let inside : in_data h.boxes n e.size ≡ true = sym (finds.answer h.boxes ready.known ready.listed) ∙ ap found held in
          let lies : may_lie h e.state n e.size ≡ true = may-lie h e.state n e.size ∙ rw inside in
          let here : place_of h pseg e ≡ given n = simp (place_of, has, at, lies) in
          here ∙ ap given same)
          (λ h ready.
          let inside : in_data h.boxes n e.size ≡ true = sym (finds.answer h.boxes ready.known ready.listed) ∙ ap found held in
          record {
            known = finds.onward h.boxes ready.known ready.listed held;
            holds = λ _. rw (← same) (finds.holds held);
            kept = λ out. absurd (false≢true (sym out ∙ rw (has, ← same, inside)));
          })

      -- outside `pdat` it lies as whole boxes, or nowhere
      module _ (nowhere : r ≡ None) {w : Bool} (whole : ToldWhole f tops mixed e.state n e.size w) where
        pub places-nowhere : w ≡ false → Places f tops mixed last pseg e (Err OutsideData)
        unfolding place_of
        places-nowhere out =
            places_refused refl
            (λ h ready.
            let lies = lies_outside h finds nowhere ready.known ready.listed e.state ready.mix whole ∙ out in
            simp (place_of, has, at, lies))

        pub places_whole : {place : Place} → n ≡ place.0 → w ≡ true → Places f tops mixed last pseg e (Ok (place, last))
        unfolding place_of
        places_whole same stands =
            places-box
            (λ h ready.
            let lies = lies_outside h finds nowhere ready.known ready.listed e.state ready.mix whole ∙ stands in
            let here : place_of h pseg e ≡ given n = simp (place_of, has, at, lies) in
            here ∙ ap given same)
            (λ h ready. record {
              known = ready.known;
              holds = λ held. absurd (false≢true (sym (rw (has, ← same, outside h finds nowhere ready.known ready.listed)) ∙ held));
              kept = λ _. refl;
            })
