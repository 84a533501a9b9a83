-- Laws of the index in a container: which `fidx` it is, where its list lies, and what is told of it.
use Prim.Native.Nat.{ℕ, ◌≤◌, ◌<◌}
use mathlib.Core.Bool.{true, false}
use mathlib.Core.List.{List, [], ◌∷◌}
use Rattle.std.specs.Prelude.{Option, None, Some, Result, Ok, Err, IsErrAnd}
use Rattle.std.proofs.lemmas.Option.{none-some, same_Some}
use Rattle.std.proofs.lemmas.Result.{err_from_is_err_and}
use Rattle.refusals.specs.Refusals.{refusal_no}
use Rattle.refusals.specs.declared.Refusal.{Refusal}
use Rattle.tallying.specs.Found.{first_in}
use Rattle.tallying.specs.Rules.{tallied, tally_of}
use Rattle.tallying.specs.declared.tally.Tally.{Tally}
use Rattle.tallying.proofs.RuleLaws.{tally_sound, tally_fault}
use mathlib.Core.Path.{◌≡◌, refl, sym, ap, subst, ◌∙◌}
use native.Mathlib.Omega.{arith}
use borrow.Author.Tests.{lt-ltb}
use lib.ListN.{length}
use Rattle.boxes.specs.Answer.{Answer, refused, given, ◌>>=◌, told_as}
use Rattle.boxes.specs.Bodies.{body_of}
use Rattle.boxes.specs.Framing.{Box, boxes_in, box_of}
use Rattle.boxes.specs.Kinds.{fidx, bidx, right, those, first_of, box_at}
use Rattle.boxes.specs.declared.body.Body.{Body}
use Rattle.boxes.specs.declared.framing.Framed.{Framed}
use Rattle.boxes.specs.declared.kinds.Container.{Container}
use Rattle.boxes.specs.declared.kinds.Container.TheVariants.{Fidx}
use Rattle.boxes.proofs.AnswerLaws.{then-then, given_same, not_both}
use Rattle.boxes.proofs.ContainerLaws.{Standing, boxes_standing}
use Rattle.boxes.proofs.KindLaws.{first_of-those, those_nth}
use Rattle.partial.specs.Index.{Indexed, Told, list_framed, index_in, has_index}
use Rattle.partial.specs.Limits.{source_limit}
use Rattle.indexing.specs.Index.{list_in, Bounded, Contained, Indexes, CountedIn}
use Rattle.indexing.specs.Lists.{list_on, ListReady, Read, Listed}
use Rattle.indexing.specs.Marks.{Marked}
use Rattle.indexing.specs.declared.marks.Marks.{Marks}
use Rattle.indexing.proofs.MarksLaws.{marked_none}

-- the list of a `fidx`
module _ (f : List ℕ) (b : Box) (size : Option ℕ) (place : ℕ) where
  pub list-fault : {n : ℕ} → boxes_in Fidx f b.body b.end ≡ refused n → list_in f b size place ≡ refused 36
  unfolding list_in list_framed
  list-fault h = rw (list_in, h)

  list_known : {inner : List Box} → boxes_in Fidx f b.body b.end ≡ given inner → list_in f b size place ≡ list_on f 1 size place (those bidx inner)
  unfolding list_in list_framed
  list_known h = rw (list_in, h)

  pub listed_first : {inner : List Box} → boxes_in Fidx f b.body b.end ≡ given inner → (before : Marks) (t₀ t : List ℕ) (r : Read)
      → Listed (list_on f 1 size place (those bidx inner)) before t₀ t r
      → Listed (list_in f b size place) before t₀ t r
  listed_first h before t₀ t r told = subst (λ (x : Answer Told). Listed x before t₀ t r) (sym (list_known h)) told

-- what is known where it is read
pub first_ready : (f : List ℕ) (b : Framed) {place count many : ℕ} → Bounded b place count → {inner : List Box} → boxes_in Fidx f b.body.0 b.end.0 ≡ given inner
    → many ≡ length (those bidx inner)
    → ListReady f (body_of Fidx b) many 1 place count
first_ready f b bounds {inner} known many =
    record {
      deepest = omega arith;
      ordered = bounds.ordered;
      short = bounds.short;
      placed = omega (arith, bounds.placed);
      rows = bounds.rows;
      framed = (inner, known, many);
    }

module _ (f : List ℕ) (c : Container) (bs : List Box) (size : Option ℕ) (place : ℕ) where
  pub index_second : right c fidx bs ≡ false → index_in source_limit f c bs size place ≡ refused 36
  unfolding index_in
  index_second h = rw (index_in, h)

  module _ (single : right c fidx bs ≡ true) where
    index_none : those fidx bs ≡ [] → index_in source_limit f c bs size place ≡ given []
    unfolding index_in
    index_none none-there = rw (index_in, single, none-there)

    index_some : {b : Box} {more : List Box} → those fidx bs ≡ b ∷ more → index_in source_limit f c bs size place ≡ (list_in f b size place >>= λ told. given told.boxes)
    unfolding index_in list_in
    index_some {b} some_there =
        rw (index_in, single, some_there) (sym (then-then (list_framed (boxes_in Fidx f b.body b.end)) (λ inner. list_on f 1 size place (those bidx inner)) (λ told. given told.boxes)))

    index_first : 0 < length (those fidx bs) → index_in source_limit f c bs size place ≡ (list_in f (first_of fidx bs) size place >>= λ told. given told.boxes)
    unfolding box_at
    index_first there = go (those fidx bs) refl there
      where
        go : (ts : List Box) → those fidx bs ≡ ts → 0 < length ts → index_in source_limit f c bs size place ≡ (list_in f (first_of fidx bs) size place >>= λ told. given told.boxes)
        go [] e h = absurd (omega arith)
        go (b ∷ more) e h = index_some e ∙ ap (λ (b : Box). list_in f b size place >>= λ told. given told.boxes) (sym (first_of-those fidx bs ∙ ap (box_at 0) e))

    -- what an answer says of it
    pub indexes_none : (before : Marks) (t : List ℕ) → length (those fidx bs) ≡ 0 → Indexes f c bs size place before t t (Ok None)
    unfolding Indexes has_index
    indexes_none before t none-there = go (those fidx bs) refl none-there
      where
        go : (ts : List Box) → those fidx bs ≡ ts → length ts ≡ 0 → (is : List Indexed) × (index_in source_limit f c bs size place ≡ given is) × (false ≡ has_index bs) × Marked before t is before t
        go [] e h = ([], index_none e, rw e, marked_none before t)
        go (b ∷ more) e h = absurd (omega arith)

    module _ (there : 0 < length (those fidx bs)) {b : Box} (first : b ≡ first_of fidx bs) where
      listed : list_in f (first_of fidx bs) size place ≡ list_in f b size place
      listed = ap (λ (b : Box). list_in f b size place) (sym first)

      pub indexes_wrong : {n : ℕ} → list_in f b size place ≡ refused n → index_in source_limit f c bs size place ≡ refused n
      indexes_wrong h = index_first there ∙ rw (listed ∙ h)

      pub indexes-told : {told : Told} {before m : Marks} {t₀ t : List ℕ} → list_in f b size place ≡ given told → Marked before t₀ told.boxes m t → Indexes f c bs size place before t₀ t (Ok (Some m))
      unfolding Indexes has_index
      indexes-told {told} h marked = (told.boxes, index_first there ∙ rw (listed ∙ h), sym (lt-ltb 0 (length (those fidx bs)) there), marked)

-- what is told of a container whose boxes are known is what is told of these
pub known_tally : {r : Result Tally Refusal} {x : Answer (List Box)} {t : Tally} {bs : List Box} → told_as (λ t. t) r ≡ tallied x → r ≡ Ok t → x ≡ given bs → t ≡ tally_of bs
known_tally {x = x} {t} {bs} answer ok known =
    let (cs, same, is) = tally_sound answer ok in
    is ∙ ap tally_of (given_same (sym same ∙ known))

-- and they were counted
pub known_sound : {r : Result Tally Refusal} {x : Answer (List Box)} {e : Refusal} {bs : List Box} → told_as (λ t. t) r ≡ tallied x → r ≡ Err e → x ≡ given bs → ⊥
known_sound answer err known = not_both (sym (tally_fault answer err) ∙ known)

-- a `fidx` that was found is the first
pub a_found : (bs : List Box) {b : Box} → Some b ≡ first_in (those fidx bs) → (0 < length (those fidx bs)) × (b ≡ first_of fidx bs)
unfolding box_at
a_found bs {b} found =
    let (there, same) = go (those fidx bs) found in
    (there, same ∙ sym (first_of-those fidx bs))
  where
    go : (ts : List Box) → Some b ≡ first_in ts → (0 < length ts) × (b ≡ box_at 0 ts)
    go [] e = absurd (none-some b (sym e))
    go (t ∷ ts) e = (omega arith, same_Some b t e)

pub no_found : (bs : List Box) → None ≡ first_in (those fidx bs) → length (those fidx bs) ≡ 0
no_found bs found = go (those fidx bs) found
  where
    go : (ts : List Box) → None ≡ first_in ts → length ts ≡ 0
    go [] e = refl
    go (t ∷ ts) e = absurd (none-some t e)

-- a container's `fidx` lies in it
pub first_bounded : {f : List ℕ} {body : Body} {place count : ℕ} {bs : List Box} (b : Framed) → Contained f body place count bs → 0 < length (those fidx bs)
    → box_of b ≡ first_of fidx bs
    → Bounded b place count × (b.end.0 ≤ body.end.0)
unfolding box_of
first_bounded {f} {body} {bs = bs} b contained there first =
    let (m, nth) = those_nth fidx bs 0 there in
    let same : box_at m bs ≡ box_of b = sym (first ∙ first_of-those fidx bs ∙ nth.same) in
    let stands = subst (Standing body.container f body.start.0 body.end.0) same (boxes_standing body.container f body.start.0 body.end.0 contained.framed m nth.there) in
    let inside = stands.inside in (
      record {
        ordered = inside.whole;
        short = omega (arith, inside.ends, contained.short);
        placed = contained.placed;
        rows = omega (arith, contained.rows, stands.low, inside.front, inside.typed);
      },
      inside.ends,
    )

-- a refusal that is handed on says the same
pub handed_index : (f : List ℕ) (c : Container) (bs : List Box) (size : Option ℕ) (place : ℕ) (r : Result (Option Marks) Refusal) (end : ℕ) (before : Marks) (t₀ t : List ℕ) (n : Refusal)
    → IsErrAnd r (λ e. e ≡ n)
    → index_in source_limit f c bs size place ≡ refused (refusal_no n)
    → Indexes f c bs size place before t₀ t r × CountedIn end before r
unfolding Indexes CountedIn
handed_index f c bs size place r end before t₀ t n handed fault =
    let (e, is, same) = err_from_is_err_and r handed in
    rw is (fault ∙ ap (λ n. refused (refusal_no n)) (sym same), tt)
