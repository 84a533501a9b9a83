-- Laws of two walks over `surl` boxes in step: what their next URLs say of the two lists.
use Prim.Native.Nat.{ℕ}
use mathlib.Core.Bool.{Bool, true, false}
use mathlib.Core.List.{List}
use mathlib.Core.Path.{◌≡◌, refl, sym, subst, ◌∙◌}
use Rattle.boxes.specs.Answer.{given}
use Rattle.boxes.specs.Framing.{Box, boxes_in, box_of}
use Rattle.boxes.specs.Walk.{walk_over}
use Rattle.boxes.specs.declared.framing.Framed.{Framed}
use Rattle.boxes.specs.declared.kinds.Container.{Container}
use Rattle.boxes.specs.declared.walk.Walk.{Walk}
use Rattle.boxes.proofs.WalkLaws.{walk_boxes}
use Rattle.numerals.specs.declared.place.Place.{Place}
use Rattle.partial.specs.Heading.{url}
use Rattle.partial.specs.Heading.{bytes_in}
use Rattle.surls.specs.Next.{Meets, Spent, Decides, Leaves, Follows, Compares}
use Rattle.partial.specs.Heading.{urls_in}
use Rattle.partial.specs.Sources.{same_text, same_urls}
use Rattle.surls.specs.declared.urls.Both.{Both}
use Rattle.surls.specs.declared.urls.Both.TheVariants.{Equal, Ended, Differ}
use Rattle.surls.proofs.UrlLaws.{both_none, first_none, second_none, first_differs, first_same}

module _ {f : List ℕ} {v w : Walk} where
  module _ {a b : Framed} {v' w' : Walk} (one : Meets f v a v') (other : Meets f w b w') where
    pub urls_differ : same_text (bytes_in f (url f (box_of a))) (bytes_in f (url f (box_of b))) ≡ false → Decides f v w false
    urls_differ differs =
        record {
          says = λ bs cs known known'.
              let (bs', _, split) = one.first bs known in
              let (cs', _, split') = other.first cs known' in
              first_differs f bs cs bs' cs' split split' differs;
        }

    pub urls_follow : same_text (bytes_in f (url f (box_of a))) (bytes_in f (url f (box_of b))) ≡ true → Follows f v w v' w'
    urls_follow same =
        record {
          one = one.onward;
          other = other.onward;
          leaves = record {
            same = λ bs cs known known'.
                let (bs', ahead, split) = one.first bs known in
                let (cs', ahead', split') = other.first cs known' in
                (bs', cs', ahead, ahead', first_same f bs cs bs' cs' split split' same);
          };
        }

  -- a list that ends before the other is not equal to it
  pub first_longer : {a : Framed} {v' : Walk} → Meets f v a v' → Spent f w → Decides f v w false
  first_longer one spent =
      record {
        says = λ bs cs known known'.
            let (_, _, split) = one.first bs known in
            second_none f bs cs split (spent.none cs known');
      }

  pub second_longer : {b : Framed} {w' : Walk} → Spent f v → Meets f w b w' → Decides f v w false
  second_longer spent other =
      record {
        says = λ bs cs known known'.
            let (_, _, split) = other.first cs known' in
            first_none f bs cs (spent.none bs known) split;
      }

  pub both_spent : Spent f v → Spent f w → Decides f v w true
  both_spent one other = record { says = λ bs cs known known'. both_none f bs cs (one.none bs known) (other.none cs known') }

-- ---- two walks that began as v₀ and w₀ and stand at v and w, each in its container
pub record InStep (f : List ℕ) (v₀ w₀ v w : Walk) : Type 0 where
  pub one : v.end ≡ v₀.end
  pub other : w.end ≡ w₀.end
  pub leaves : Leaves f v₀ w₀ v w

pub step_none : (f : List ℕ) (v w : Walk) → InStep f v w v w
step_none f v w = record { one = refl; other = refl; leaves = record { same = λ bs cs known known'. (bs, cs, known, known', refl) } }

pub step_more : {f : List ℕ} {v₀ w₀ v w v' w' : Walk} → InStep f v₀ w₀ v w → Follows f v w v' w' → InStep f v₀ w₀ v' w'
step_more s t =
    record {
      one = t.one.ends ∙ s.one;
      other = t.other.ends ∙ s.other;
      leaves = record {
        same = λ bs cs known known'.
            let (bs', cs', ahead, ahead', e) = s.leaves.same bs cs known known' in
            let (bs'', cs'', behind, behind', e') = t.leaves.same bs' cs' ahead ahead' in
            (bs'', cs'', behind, behind', e ∙ e');
      };
    }

-- what was decided is so of the two containers that they began in
module _ {f : List ℕ} {v₀ w₀ v w : Walk} (s : InStep f v₀ w₀ v w) {c d : Container} {start end start' end' : Place} (new : v₀ ≡ walk_over c start end) (new' : w₀ ≡ walk_over d start' end') where
  pub step_decided : {equal : Bool} → Decides f v w equal → (bs cs : List Box) → boxes_in c f start.0 end.0 ≡ given bs → boxes_in d f start'.0 end'.0 ≡ given cs
      → same_urls (urls_in f bs) (urls_in f cs) ≡ equal
  step_decided decides bs cs known known' =
      let (bs', cs', ahead, ahead', e) = s.leaves.same bs cs (sym (walk_boxes f new) ∙ known) (sym (walk_boxes f new') ∙ known') in
      e ∙ decides.says bs' cs' ahead ahead'

-- what each answer about both next URLs says
module _ (f : List ℕ) (v w : Walk) (r : Both) (compares : Compares f v w r) where
  pub both_followed : {v' w' : Walk} → r ≡ Equal v' w' → Follows f v w v' w'
  both_followed e = subst (Compares f v w) e compares

  pub both_ended : r ≡ Ended → Decides f v w true
  both_ended e = subst (Compares f v w) e compares

  pub both_differ : r ≡ Differ → Decides f v w false
  both_differ e = subst (Compares f v w) e compares
