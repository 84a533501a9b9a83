-- Laws of a walk from one `surl` to the next: other boxes are passed.
use Prim.Native.Nat.{ℕ, ◌≤◌}
use mathlib.Core.Bool.{true, false}
use mathlib.Core.List.{List}
use Rattle.std.specs.Prelude.{Option, None, Some, Result, Ok, IsErrAnd}
use Rattle.std.proofs.lemmas.Result.{err_from_is_err_and}
use Rattle.refusals.specs.declared.Refusal.{Refusal}
use mathlib.Core.Path.{◌≡◌, refl, ap, subst, ◌∙◌}
use native.Mathlib.Omega.{arith}
use Rattle.boxes.specs.Answer.{refused, given}
use Rattle.boxes.specs.Framing.{box_of}
use Rattle.boxes.specs.Kinds.{surl, is, those}
use Rattle.boxes.specs.Walk.{stepped}
use Rattle.boxes.specs.declared.framing.Framed.{Framed}
use Rattle.boxes.specs.declared.walk.Walk.{Walk}
use Rattle.boxes.proofs.KindLaws.{those-nil, those_one, those_other}
use Rattle.boxes.proofs.WalkLaws.{fewer, known_next, known_end, known_sound}
use Rattle.tallying.proofs.FoundLaws.{Asked, asked_none, asked_more}
use Rattle.surls.specs.Next.{Meets, Spent, Broken, Goes}
use Rattle.surls.proofs.WithinLaws.{met_within, further_within, end_kept}

-- a walk that began as w₀ has passed no `surl` and stands at w
pub record Since (f : List ℕ) (w₀ w : Walk) : Type 0 where
  pub asked : Asked f (those surl) w₀ (those surl) w
  pub ends : w.end ≡ w₀.end
  pub few : w.left ≤ w₀.left

pub since_none : (f : List ℕ) (w : Walk) → Since f w w
since_none f w = record { asked = asked_none f (those surl) w; ends = refl; few = omega arith }

module _ {f : List ℕ} {w₀ w : Walk} (s : Since f w₀ w) where
  module _ (b : Framed) {next : Walk} (step : stepped f w ≡ given (Some (box_of b, next))) where
    pub since_more : is surl (box_of b) ≡ false → Since f w₀ next
    since_more other =
        record {
          asked = asked_more (those surl) s.asked step (λ rest. those_other surl (box_of b) rest other);
          ends = end_kept f w b step ∙ s.ends;
          few = omega (arith, s.few, fewer f w step);
        }

    pub since_meets : is surl (box_of b) ≡ true → Meets f w₀ b next
    since_meets one =
        record {
          onward = record { ends = end_kept f w b step ∙ s.ends; fewer = omega (arith, s.few, fewer f w step) };
          within = further_within (omega (arith, ap (λ p. p.0) s.ends)) (met_within f w b step);
          first = λ bs known.
              let (rest, before, same) = s.asked.same bs known in
              let (more, after, split) = known_next f w before step in
              (more, after, same ∙ ap (those surl) split ∙ those_one surl (box_of b) more one);
        }

  pub since_end : stepped f w ≡ given None → Spent f w₀
  since_end step =
      record {
        none = λ bs known.
            let (rest, before, same) = s.asked.same bs known in
            same ∙ ap (those surl) (known_end f w before step) ∙ those-nil surl;
      }

  pub since_broken : {n : ℕ} → stepped f w ≡ refused n → Broken f w₀
  since_broken step =
      record {
        unknown = λ bs known.
            let (rest, before, same) = s.asked.same bs known in
            known_sound f w before step;
      }

-- what each answer about the next `surl` says
module _ (f : List ℕ) (w : Walk) (r : Result (Option (Framed × Walk)) Refusal) (goes : Goes f w r) where
  pub surl_met : {b : Framed} {next : Walk} → r ≡ Ok (Some (b, next)) → Meets f w b next
  surl_met e = subst (Goes f w) e goes

  pub surl_none : r ≡ Ok None → Spent f w
  surl_none e = subst (Goes f w) e goes

-- a fault that is handed on
pub goes_broken : (f : List ℕ) (w : Walk) (r : Result (Option (Framed × Walk)) Refusal) (P : Refusal → Type 0) → IsErrAnd r P → Broken f w → Goes f w r
goes_broken f w r P handed broken =
    let (e, is, same) = err_from_is_err_and r handed in
    rw is broken
