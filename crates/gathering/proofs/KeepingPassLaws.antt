-- Laws of salvage's pass over a file: the segments kept so far, the fates of the boxes passed, and the boxes that are left,
-- which decide.
use Prim.Native.Nat.{ℕ, zero, suc, ◌+◌, ◌≤◌, ◌<◌}
use mathlib.Core.Bool.{Bool, true, false, true≢false}
use mathlib.Core.List.{List, [], ◌∷◌, ◌++◌, map}
use Rattle.std.specs.Prelude.{Option, None, Some, Ok, Err}
use mathlib.Core.Path.{◌≡◌, refl, sym, ap, subst, ◌∙◌}
use native.Mathlib.Decide.{ℕ_discrete}
use native.Mathlib.Nat.{add-zero}
use native.Mathlib.Omega.{arith}
use borrow.Author.Tests.{eqb-true}
use lib.Dec.{eqb}
use lib.ListN.{length, take, drop, get_or, set, length-drop}
use lib.Seq.{get_or-drop, drop-drop, get_or-set_same, get_or-set_other}
use Rattle.boxes.specs.Answer.{refused, given}
use Rattle.boxes.specs.Framing.{Box}
use Rattle.boxes.specs.Kinds.{ftyp, pfil, pseg, is, no_box, box_at}
use Rattle.boxes.specs.Walk.{stepped}
use Rattle.boxes.specs.declared.framing.Framed.{Framed}
use Rattle.boxes.specs.declared.kinds.Kind.{Kind}
use Rattle.boxes.specs.declared.walk.Walk.{Walk}
use Rattle.boxes.proofs.KindLaws.{is-eqb}
use Rattle.boxes.proofs.WalkLaws.{ahead, known_next, known_end, known_sound}
use Rattle.partial.specs.Heading.{Heading}
use Rattle.partial.specs.Limits.{source_limit}
use Rattle.partial.specs.Segments.{Segment, chunks_of}
use Rattle.refusals.specs.declared.Refusal.{Refusal}
use Rattle.rescue.specs.Kept.{beside, kept_with, kept_from, kept_of, fate_of, fates_from, fates}
use Rattle.segment.specs.Data.{Searched}
use Rattle.segment.proofs.TopsLaws.{none_left}
use Rattle.boxes.specs.declared.body.Body.{Body}
use Rattle.gathering.specs.Gathered.{gathered_of}
use Rattle.gathering.specs.Numbers.{numbers_of}
use Rattle.rescue.specs.Table.{code_of, code_for, code_told, told_at}
use Rattle.rescue.specs.declared.table.Fate.{Fate}
use Rattle.rescue.specs.declared.table.Fate.TheVariants.{Stays, Dropped}
use Rattle.gathering.specs.Keeping.{SoFar, Tried, Boxed, Keeps}
use Rattle.gathering.specs.declared.tables.SourceTables.{SourceTables}
use Rattle.gathering.specs.declared.gathered.Gathered.{Gathered}

other_kind : (k j : Kind) (b : Box) → is k b ≡ true → eqb k.code j.code ≡ false → is j b ≡ false
other_kind k j b kind apart =
    is-eqb j b ∙ ap (λ (n : ℕ). eqb n j.code) (eqb-true b.kind k.code (sym (is-eqb k b) ∙ kind)) ∙ apart

module _ (f : List ℕ) (h : Heading) where
  -- what the table tells of some boxes, beside the segments kept before them
  abbrev codes_from : List Segment → List Box → List (Option ℕ)
  codes_from kept bs = map (λ x. code_of x.fate) (fates_from source_limit f h kept bs)

  -- the segments kept so far with a box
  module _ (kept : List Segment) (b : Box) where
    with_other : is pseg b ≡ false → kept_with source_limit f h kept b ≡ kept
    unfolding kept_with
    with_other other = rw (kept_with, other)

    module _ (kind : is pseg b ≡ true) where
      with_refused : {m : ℕ} → beside source_limit f h kept b ≡ refused m → (kept_with source_limit f h kept b ≡ kept) × (code_of (fate_of source_limit f h kept b) ≡ Some m)
      unfolding kept_with fate_of code_of
      with_refused cut = (rw (kept_with, kind, cut), rw (fate_of, kind, cut))

      with_kept : {s : Segment} → beside source_limit f h kept b ≡ given s
          → (kept_with source_limit f h kept b ≡ kept ++ (s ∷ [])) × (code_of (fate_of source_limit f h kept b) ≡ None)
      unfolding kept_with fate_of code_of
      with_kept passed = (rw (kept_with, kind, passed), rw (fate_of, kind, passed))

  -- two first boxes that are no `pseg` keep nothing
  module _ (a b : Box) (bs : List Box) (first : is pseg a ≡ false) (second : is pseg b ≡ false) where
    two_none : kept_with source_limit f h (kept_with source_limit f h [] a) b ≡ []
    two_none = rw (with_other [] a first) (with_other [] b second)

    behind_two : kept_from source_limit f h [] (a ∷ b ∷ bs) ≡ kept_from source_limit f h [] bs
    unfolding kept_from
    behind_two = ap (λ (kept : List Segment). kept_from source_limit f h kept bs) two_none

    codes-behind : (first_code second-code : Option ℕ) (j : ℕ) → is pseg (box_at j (a ∷ b ∷ bs)) ≡ true
        → get_or (first_code ∷ second-code ∷ codes_from [] bs) j (Some 0) ≡ get_or (codes_from [] (a ∷ b ∷ bs)) j (Some 0)
    unfolding box_at fates_from
    codes-behind x y zero kind = absurd (true≢false (sym kind ∙ first))
    codes-behind x y (suc zero) kind = absurd (true≢false (sym kind ∙ second))
    codes-behind x y (suc (suc j)) kind = ap (λ (kept : List Segment). get_or (codes_from kept bs) j (Some 0)) (sym two_none)

  -- the boxes passed have their fates in the table, and those ahead decide
  pub record Midway (t : List Fate) (u : List ℕ) (n : SourceTables) (w : Walk) (g : Gathered) (last : Framed) (k : ℕ) : Type 0 where
    pub kept : List Segment
    pub rest : List Box
    pub left : ahead f w ≡ given rest
    pub behind : drop k h.boxes ≡ rest
    pub decide : kept_of source_limit f h ≡ kept_from source_limit f h kept rest
    pub coming : (j : ℕ) → is pseg (box_at j rest) ≡ true → code_for f h (k + j) ≡ get_or (codes_from kept rest) j (Some 0)
    pub passed : (j : ℕ) → j < k → is pseg (box_at j h.boxes) ≡ true → told_at t j ≡ code_for f h j
    pub so : SoFar f h g u n kept
    pub known : Searched f last h.boxes

  pub midway_none : {t : List Fate} {u : List ℕ} {n : SourceTables} {w : Walk} {g : Gathered} {last : Framed} {mixed : Bool} {list : Body} → Boxed f mixed list h → ahead f w ≡ given h.boxes → SoFar f h g u n []
      → Searched f last h.boxes
      → Midway t u n w g last 0
  unfolding kept_of fates fates_from code_of box_at
  midway_none {t} {u} {n} {w} {g} {last} boxed all so known = go h.boxes refl boxed.two boxed.first boxed.second
    where
      go : (bs : List Box) → h.boxes ≡ bs → 2 ≤ length bs → is ftyp (box_at 0 bs) ≡ true → is pfil (box_at 1 bs) ≡ true → Midway t u n w g last 0
      go [] e two first second = absurd (omega arith)
      go (a ∷ []) e two first second = absurd (omega arith)
      go (a ∷ b ∷ bs) e two first second =
          let no-first = other_kind ftyp pseg a first refl in
          let no_second = other_kind pfil pseg b second refl in
          let same : drop 2 h.boxes ≡ bs = ap (drop 2) e in
          record {
            kept = [];
            rest = a ∷ b ∷ bs;
            left = all ∙ ap given e;
            behind = e;
            decide = ap (kept_from source_limit f h []) same ∙ sym (behind_two a b bs no-first no_second);
            coming = λ j kind.
                let index : 0 + j ≡ j = omega arith in
                ap (λ (i : ℕ). code_for f h i) index ∙ ap (λ (bs : List Box). get_or (None ∷ None ∷ codes_from [] bs) j (Some 0)) same ∙ codes-behind a b bs no-first no_second None None j kind;
            passed = λ j less. absurd (omega arith);
            so = so;
            known = known;
          }

  module _ {t : List Fate} {u : List ℕ} {n : SourceTables} {w : Walk} {g : Gathered} {last : Framed} {k : ℕ} (m : Midway t u n w g last k) where
    module _ {b : Box} {w' : Walk} (step : stepped f w ≡ given (Some (b, w'))) where
      more : (rest : List Box) × (ahead f w' ≡ given rest) × (m.rest ≡ b ∷ rest)
      more = known_next f w m.left step

      here : box_at k h.boxes ≡ b
      unfolding box_at
      here = ap (λ (i : ℕ). get_or h.boxes i no_box) (sym (add-zero k)) ∙ sym (get_or-drop k h.boxes 0 no_box) ∙ ap (λ (bs : List Box). get_or bs 0 no_box) (m.behind ∙ more.2)

      -- with the box the segments kept are these, and where it is a `pseg` the table has its fate
      on : {t' : List Fate} {u' : List ℕ} {n' : SourceTables} {g' : Gathered} {last' : Framed} (kept' : List Segment) → kept_with source_limit f h m.kept b ≡ kept'
          → ((j : ℕ) → j < k → told_at t' j ≡ told_at t j)
          → (is pseg b ≡ true → told_at t' k ≡ code_of (fate_of source_limit f h m.kept b))
          → SoFar f h g' u' n' kept'
          → Searched f last' h.boxes
          → Midway t' u' n' w' g' last' (k + 1)
      unfolding kept_from fates_from box_at
      on {t'} kept' with stays put so known =
          let (rest, after, split) = more in
          let coming : (j : ℕ) → is pseg (box_at j (b ∷ rest)) ≡ true → code_for f h (k + j) ≡ get_or (codes_from m.kept (b ∷ rest)) j (Some 0) = subst (λ (bs : List Box). (j : ℕ) → is pseg (box_at j bs) ≡ true → code_for f h (k + j) ≡ get_or (codes_from m.kept bs) j (Some 0)) split m.coming in
          record {
            kept = kept';
            rest = rest;
            left = after;
            behind = sym (drop-drop 1 k h.boxes) ∙ ap (drop 1) (m.behind ∙ split);
            decide = m.decide ∙ ap (kept_from source_limit f h m.kept) split ∙ ap (λ (kept : List Segment). kept_from source_limit f h kept rest) with;
            coming = λ j kind.
                let index : (k + 1) + j ≡ k + suc j = omega arith in
                ap (λ (i : ℕ). code_for f h i) index ∙ coming (suc j) kind ∙ ap (λ (kept : List Segment). get_or (codes_from kept rest) j (Some 0)) with;
            passed = λ j less kind.
                elim (ℕ_discrete j k) [
                  | no other ↦ stays j (omega arith) ∙ m.passed j (omega arith) kind
                  | yes same ↦
                      let is-here : is pseg b ≡ true = ap (is pseg) (sym here) ∙ subst (λ (i : ℕ). is pseg (box_at i h.boxes) ≡ true) same kind in
                      let code = coming 0 is-here in
                      rw same (put is-here ∙ sym (ap (λ (i : ℕ). code_for f h i) (sym (add-zero k)) ∙ code))
                ];
            so = so;
            known = known;
          }

      pub midway_other : is pseg b ≡ false → Midway t u n w' g last (k + 1)
      midway_other other = on m.kept (with_other m.kept b other) (λ j less. refl) (λ kind. absurd (true≢false (sym kind ∙ other))) m.so m.known

      module _ (kind : is pseg b ≡ true) (room : k < length t) where
        -- the fate goes to its number
        stays : (fate : Fate) (j : ℕ) → j < k → told_at (set t k fate) j ≡ told_at t j
        stays fate j less = ap code_told (get_or-set_other t k j fate Stays (λ e. omega arith))

        put : (fate : Fate) → told_at (set t k fate) k ≡ code_told fate
        put fate = ap code_told (get_or-set_same t k fate Stays room)

        pub midway_refused : (e : Refusal) {u' : List ℕ} {n' : SourceTables} → Tried f h m.kept b g u' n' (Err e) → Midway (set t k (Dropped (Some e))) u' n' w' g last (k + 1)
        unfolding Tried
        midway_refused e (cut, so) =
            let (same, fate) = with_refused m.kept b kind cut in
            on m.kept same (stays (Dropped (Some e))) (λ _. put (Dropped (Some e)) ∙ sym fate) so m.known

        pub midway_kept : {u' : List ℕ} {n' : SourceTables} {g' : Gathered} {last' : Framed} → Tried f h m.kept b g u' n' (Ok (g', last')) → Midway (set t k Stays) u' n' w' g' last' (k + 1)
        unfolding Tried
        midway_kept (s, passed, so, known) =
            let (with, fate) = with_kept m.kept b kind passed in
            on (m.kept ++ (s ∷ [])) with (stays Stays) (λ _. put Stays ∙ sym fate) so known

    -- at the file's end none are left, nor behind as many as a file may have
    pub left-none : stepped f w ≡ given None → m.rest ≡ []
    left-none step = known_end f w m.left step

    pub left-over : w.left ≡ 0 → m.rest ≡ []
    left-over none = none_left f w none m.left

    pub midway_end : m.rest ≡ [] → length t ≡ 512 → Keeps f h t u g
    unfolding kept_from
    midway_end over long =
        let all : kept_of source_limit f h ≡ m.kept = m.decide ∙ ap (kept_from source_limit f h m.kept) over in
        record {
          gathered = m.so.gathered ∙ ap gathered_of (sym all);
          numbers = subst (λ (kept : List Segment). take (length (chunks_of kept)) u ≡ numbers_of kept) (sym all) m.so.numbers;
          long = long;
          psegs = λ j less kind. m.passed j (omega (arith, length-drop k h.boxes, ap length (m.behind ∙ over))) kind;
        }

    pub midway_sound : {x : ℕ} → stepped f w ≡ refused x → ⊥
    midway_sound step = known_sound f w m.left step
