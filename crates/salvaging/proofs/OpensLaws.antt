-- Laws of what is told of a file before its segments: where its first two boxes end, and where its whole boxes do.
use Prim.Native.Nat.{ℕ, ◌≤◌, ◌<◌}
use mathlib.Core.List.{List, [], ◌∷◌}
use mathlib.Core.Logic.{inl, inr}
use Rattle.std.specs.Prelude.{Option, None, Some, Result, Ok, Err, IsErrAnd}
use Rattle.std.specs.Result.{result_unwrap_or}
use mathlib.Core.Path.{◌≡◌, sym, ap, subst, ◌∙◌}
use Rattle.std.proofs.lemmas.Result.{err_from_is_err_and}
use native.Mathlib.Decide.{dec_le}
use native.Mathlib.Nat.{le_refl}
use native.Mathlib.Omega.{arith}
use borrow.Author.Tests.{le-leb, lt-leb}
use lib.ListN.{length, take}
use lib.Seq.{take-length, length-take-le}
use Rattle.boxes.specs.Answer.{Answer, refused, given, ◌>>=◌}
use Rattle.boxes.specs.Framing.{Box, header, walked_in, box_of, box_limit}
use Rattle.boxes.specs.Kinds.{box_at}
use Rattle.boxes.specs.Walk.{walk_over, stepped, step_answer}
use Rattle.boxes.specs.declared.kinds.Container.TheVariants.{File, Pfil}
use Rattle.boxes.specs.declared.walk.Walk.{Walk}
use Rattle.boxes.specs.declared.framing.Framed.{Framed}
use Rattle.boxes.proofs.AnswerLaws.{not_both, both_given, given_same}
use Rattle.boxes.proofs.ContainerLaws.{filled_boxes, boxes_standing}
use Rattle.boxes.proofs.ToldLaws.{told-ok, told-err}
use Rattle.boxes.proofs.WalkLaws.{onward, stepping, onward_steps, met, step_over, step_header, no_more, a_fault}
use Rattle.refusals.specs.Refusals.{refusal_no}
use Rattle.refusals.specs.declared.Refusal.{Refusal}
use Rattle.numerals.specs.declared.place.Place.{Place}
use Rattle.partial.specs.Limits.{file_limit}
use Rattle.partial.specs.Heading.{Heading, heading}
use Rattle.partial.proofs.Reading.HeadingAppendLaws.{headed}
use Rattle.heading.specs.Facts.{facts_of, told, facts_by, headed_answer}
use Rattle.heading.specs.declared.answers.Head.{Head}
use Rattle.rescue.specs.Kept.{walk_of, framed, first_two, opening}
use Rattle.rescue.proofs.HeadingLaws.{opened, cut-filled}
use Rattle.salvaging.specs.Opens.{Whole, Opens}
use Rattle.surls.proofs.WithinLaws.{was_last}

-- what holds of a refusal holds of a result that hands it on
pub handed : {T : Type 0} (P : Result T Refusal → Type 0) (r : Result T Refusal) {n : Refusal} → IsErrAnd r (λ e. e ≡ n) → P (Err n) → P r
handed P r on holds =
    let (e, is, same) = err_from_is_err_and r on in
    subst P (sym (is ∙ ap Err same)) holds

-- the walk over a file is what one from its start has before it
walk-of : (f : List ℕ) {end : Place} {w : Walk} → w ≡ walk_over File (record { 0 = 0 }) end → end.0 ≡ length f → walk_of f ≡ onward f w
unfolding walk_of walked_in
walk-of f new file = rw (new, file)

-- a walk that meets no box next has none before it
abbrev pub Stepped : Type 0
Stepped = Result (Option (Framed × Walk)) Refusal

no-box : (f : List ℕ) (w : Walk) (r : Stepped) {o : Option (Framed × Walk)} → step_answer r ≡ stepped f w → o ≡ result_unwrap_or r None → o ≡ None → (onward f w).boxes ≡ []
no-box f w r answer left none =
    elim (was_last left none) [
      | inl last ↦ rw (onward_steps f w, no_more answer last)
      | inr (n, fault) ↦ rw (onward_steps f w, a_fault answer fault)
    ]

-- a box that it meets is the first, and those behind it follow
one_box : (f : List ℕ) (w : Walk) {b : Box} {w' : Walk} → stepped f w ≡ given (Some (b, w')) → (onward f w).boxes ≡ b ∷ (onward f w').boxes
one_box f w step = rw (onward_steps f w, step)

-- it ends where its container does
step_done : (f : List ℕ) (w : Walk) → stepped f w ≡ given None → w.end.0 ≤ w.at.0
step_done f w step =
    elim (dec_le w.end.0 w.at.0) [
      | yes done ↦ done
      | no short ↦
          elim (dec_le w.left 0) [
            | yes last ↦ absurd (not_both (sym (step_over f w (omega arith) (omega arith)) ∙ step))
            | no more ↦
                let (b, read, other) = both_given (header w.container f w.at.0 w.end.0) _ (sym (step_header f w (omega arith) (λ last. omega arith)) ∙ step) in
                let z : ◌≡◌ {A = ℕ} 0 1 = cc in
                absurd (omega arith)
          ]
    ]

-- a file of fewer than two whole boxes is cut nowhere, one of more behind the second
two_few : (f : List ℕ) (bs : List Box) → length bs < 2 → take (length f) f ≡ first_two f bs
unfolding first_two
two_few f bs few = rw (lt-leb 2 (length bs) few, first_two) (take-length f)

two_many : (f : List ℕ) (a b : Box) (bs : List Box) → take b.end f ≡ first_two f (a ∷ b ∷ bs)
unfolding first_two box_at
two_many f a b bs = rw (le-leb 2 (length (a ∷ b ∷ bs)) (omega arith), first_two)

-- so says a walk from its start after two steps
module _ (f : List ℕ) {end : Place} {w : Walk} (new : w ≡ walk_over File (record { 0 = 0 }) end) (file : end.0 ≡ length f) where
  abbrev CutAt : ℕ → Type 0
  CutAt at = (at ≤ length f) × (take at f ≡ first_two f (walk_of f).boxes)

  boxes-of : (walk_of f).boxes ≡ (onward f w).boxes
  boxes-of = ap (λ x. x.boxes) (walk-of f new file)

  cut_few : length (walk_of f).boxes < 2 → CutAt end.0
  cut_few few = rw file (le_refl (length f), two_few f (walk_of f).boxes few)

  pub cut_none : (r : Stepped) {o : Option (Framed × Walk)} → step_answer r ≡ stepped f w → o ≡ result_unwrap_or r None → o ≡ None → CutAt end.0
  cut_none r answer left none = cut_few (omega (arith, ap length (boxes-of ∙ no-box f w r answer left none)))

  module _ {a : Box} {w' : Walk} (first : stepped f w ≡ given (Some (a, w'))) where
    pub cut_one : (r : Stepped) {o : Option (Framed × Walk)} → step_answer r ≡ stepped f w' → o ≡ result_unwrap_or r None → o ≡ None → CutAt end.0
    cut_one r answer left none = cut_few (omega (arith, ap length (boxes-of ∙ one_box f w first), ap length (no-box f w' r answer left none)))

    pub cut_two : (b : Framed) {w'' : Walk} → stepped f w' ≡ given (Some (box_of b, w'')) → CutAt b.end.0
    unfolding box_of
    cut_two b second =
        let lies = (met f w' second).inside in (
          omega (arith, ap (λ w. w.end.0) (met f w first).onward, ap (λ w. w.end.0) new),
          rw (boxes-of, one_box f w first, one_box f w' second) (two_many f _ _ _),
        )

-- a walk over a file up to its first framing error
pub record Along (f : List ℕ) (w : Walk) : Type 0 where
  pub rest : (walk_of f).fault ≡ (onward f w).fault
  pub file : w.end.0 ≡ length f
  pub inside : w.at.0 ≤ length f

pub along_none : (f : List ℕ) {end : Place} {w : Walk} → w ≡ walk_over File (record { 0 = 0 }) end → end.0 ≡ length f → Along f w
along_none f new file =
    record { rest = ap (λ w. w.fault) (walk-of f new file); file = rw new file; inside = omega (arith, ap (λ w. w.at.0) new) }

module _ {f : List ℕ} {w : Walk} (a : Along f w) where
  -- the walk's step says what comes next
  goes_on : (walk_of f).fault ≡ (stepping f w (stepped f w)).fault
  goes_on = a.rest ∙ ap (λ x. x.fault) (onward_steps f w)

  pub along_more : {b : Box} {w' : Walk} → stepped f w ≡ given (Some (b, w')) → Along f w'
  along_more {b} {w'} step =
      let on = met f w step in
      let lies = on.inside in
      record {
        rest = goes_on ∙ rw step;
        file = ap (λ w. w.end.0) on.onward ∙ a.file;
        inside = omega (arith, ap (λ w. w.at.0) on.onward, a.file);
      }

  -- at the end of the file there is none
  pub along_end : stepped f w ≡ given None → Whole f w.at.0 None
  unfolding framed
  along_end step =
      let no-fault : (walk_of f).fault ≡ None = goes_on ∙ rw step in
      let all : w.at.0 ≡ length f = omega (arith, a.file, a.inside, step_done f w step) in
      let same : framed f ≡ f = rw (no-fault, framed) in
      record { cut = rw (same, all) (take-length f); end = rw same all; error = no-fault }

  pub along_fault : {e : Refusal} → stepped f w ≡ refused (refusal_no e) → Whole f w.at.0 (Some e)
  unfolding framed
  along_fault {e} step =
      let fault : (walk_of f).fault ≡ Some (record { at = w.at.0; number = refusal_no e }) = goes_on ∙ rw step in
      let same : framed f ≡ take w.at.0 f = rw (fault, framed) in
      record { cut = sym same; end = rw same (sym (length-take-le w.at.0 f a.inside)); error = fault }

-- ---- the opening

-- the boxes of the file cut behind its second box
two_boxes : (f : List ℕ) (h : Heading) → opening f ≡ given h → (k : Heading) → heading (first_two f h.boxes) ≡ given k → box_at 1 k.boxes ≡ box_at 1 h.boxes
unfolding first_two box_at box_limit
two_boxes f h opens k known =
    let o = opened f h opens in
    let bs : List Box = h.boxes in
    let m : ℕ = (box_at 1 bs).end in
    let second = (boxes_standing File f 0 o.end (filled_boxes File o.filled o.few) 1 o.two).inside in
    let long = length-take-le m f (omega (arith, second.ends, o.inside)) in
    let t = headed (take m f) k (rw (le-leb 2 (length bs) o.two, first_two) at known) in
    let boxes : k.boxes ≡ box_at 0 bs ∷ box_at 1 bs ∷ [] = given_same (sym t.boxes ∙ rw long (filled_boxes File (cut-filled f o.filled o.inside o.two) (omega arith))) in
    ap (box_at 1) boxes

module _ (f : List ℕ) where
  pub open_long : file_limit < length f → opening f ≡ refused 1
  unfolding opening
  open_long long = rw (lt-leb (length f) file_limit long)

  -- what the file cut there says
  module _ (small : length f ≤ file_limit) {g : List ℕ} (cut : g ≡ first_two f (walk_of f).boxes) (r : Result Head Refusal) (answer : headed_answer r ≡ told g (heading g)) where
    abbrev with_all : Heading → Heading
    with_all k = record { boxes = (walk_of f).boxes; inner = k.inner; urls = k.urls; mixed = k.mixed }

    opening_of : opening f ≡ (heading g >>= λ k. given (with_all k))
    unfolding opening
    opening_of = rw (le-leb (length f) file_limit small, cut)

    pub open_refused : {n : Refusal} → r ≡ Err n → opening f ≡ refused (refusal_no n)
    open_refused {n} e = opening_of ∙ go (heading g) (told-err facts_by answer e)
      where
        go : (x : Answer Heading) → told g x ≡ refused (refusal_no n) → (x >>= λ k. given (with_all k)) ≡ refused (refusal_no n)
        go (refused m) e = cc
        go (given k) e = absurd (not_both (sym e))

    pub open_found : {head : Head} → r ≡ Ok head → {end : Place} {fault : Option Refusal} → Whole f end.0 fault
        → Opens f (Ok (record { mixed = head.mixed; list = head.list; end = end; fault = fault }))
    unfolding Opens facts_of
    open_found {head} e whole =
        let (k, known, same) = both_given (heading g) _ (told-ok facts_by answer e) in
        let facts = given_same same in
        let opens : opening f ≡ given (with_all k) = opening_of ∙ ap (λ x. x >>= λ k. given (with_all k)) known in
        let second = two_boxes f (with_all k) opens k (ap heading (sym cut) ∙ known) in (
          with_all k,
          opens,
          record {
            mix = sym (ap (λ x. x.mixed) facts);
            list = sym (ap (λ x. x.list) facts) ∙ ap (λ b. record { container = Pfil; start = record { 0 = b.body }; end = record { 0 = b.end } }) second;
            whole = whole;
          },
        )
