-- Laws of a container's first fault: whether a walk met one, where it stands, and what comes before it.
use Prim.Native.Nat.{ℕ, zero, suc, ◌<◌}
use mathlib.Core.List.{List, []}
use mathlib.Core.Logic.{inl, inr, ⊎_elim}
use Rattle.std.specs.Prelude.{Option, None, Some}
use mathlib.Core.Path.{◌≡◌, refl, sym, ap, subst}
use native.Mathlib.Decide.{dec_le}
use native.Mathlib.Omega.{arith}
use Rattle.boxes.specs.Answer.{Answer, refused, given}
use Rattle.boxes.specs.Faults.{FirstFault}
use Rattle.boxes.specs.Framing.{Box, Fault, Walked, header, ended, broken, followed, walked, faultless, walked_in, box_limit}
use Rattle.boxes.specs.declared.kinds.Container.{Container}
use Rattle.boxes.proofs.AnswerLaws.{not_both, refused_same, given_same}
use Rattle.boxes.proofs.ContainerLaws.{walked_end, walked_over, walked_next}

-- a walk whose boxes are given met no fault, and one that is refused met one of that number
module _ (w : Walked) where
  pub no-fault : {bs : List Box} → faultless w ≡ given bs → w ≡ record { boxes = bs; fault = None }
  unfolding faultless
  no-fault {bs} = go w.fault
    where
      go : (x : Option Fault) → faultless (record { boxes = w.boxes; fault = x }) ≡ given bs → ◌≡◌ {A = Walked} (record { boxes = w.boxes; fault = x }) (record { boxes = bs; fault = None })
      go None e = ap (λ bs. record { boxes = bs; fault = None }) (given_same e)
      go (Some x) e = absurd (not_both e)

  pub fault_met : {n : ℕ} → faultless w ≡ refused n → (at : ℕ) × (w ≡ record { boxes = w.boxes; fault = Some (record { at = at; number = n }) })
  unfolding faultless
  fault_met {n} = go w.fault
    where
      go : (x : Option Fault) → faultless (record { boxes = w.boxes; fault = x }) ≡ refused n
          → (at : ℕ) × (◌≡◌ {A = Walked} (record { boxes = w.boxes; fault = x }) (record { boxes = w.boxes; fault = Some (record { at = at; number = n }) }))
      go None e = absurd (not_both (sym e))
      go (Some x) e = (x.at, ap (λ n. record { boxes = w.boxes; fault = Some (record { at = x.at; number = n }) }) (refused_same e))

-- the fault of a walk is the container's first
module _ (c : Container) (s : List ℕ) (end : ℕ) where
  abbrev Stands : ℕ → ℕ → Walked → Type 0
  Stands more at w = (x : Fault) → w.fault ≡ Some x → FirstFault c s at end more w.boxes x

  no_stand : (more at : ℕ) → Stands more at ended
  no_stand more at x e = let z : ◌≡◌ {A = ℕ} 0 1 = cc in absurd (omega arith)

  stands_here : (more at n : ℕ) → FirstFault c s at end more [] (record { at = at; number = n }) → Stands more at (broken at n)
  stands_here more at n f x e = subst (FirstFault c s at end more []) (cc) f

  stands_behind : (more at : ℕ) {b : Box} (w : Walked) → at < end → header c s at end ≡ given b → Stands more b.end w → Stands (suc more) at (followed b w)
  stands_behind more at w short read f x e =
      let rest = f x e in
      record {
        before = (short, read, rest.before);
        short = rest.short;
        wrong = ⊎_elim (λ (few, refusal). inl (omega arith, refusal)) (λ (many, six). inr (ap suc many, six)) rest.wrong;
      }

  stands : (more at : ℕ) → Stands more at (walked c s end more at)
  stands zero at =
      elim (dec_le end at) [
        | yes e ↦ rw (walked_end c s end at zero e) (no_stand zero at)
        | no short ↦ rw (walked_over c s end at (omega arith)) (stands_here zero at 6 (record { before = refl; short = omega arith; wrong = inr (refl, refl) }))
      ]
  stands (suc more) at =
      elim (dec_le end at) [
        | yes e ↦ rw (walked_end c s end at (suc more) e) (no_stand (suc more) at)
        | no short ↦ rw (walked_next c s end at (omega arith) more) (go (stands more) (header c s at end) refl (omega arith))
      ]
    where
      go : ((at : ℕ) → Stands more at (walked c s end more at)) → (x : Answer Box) → header c s at end ≡ x → at < end
          → Stands (suc more) at (elim x [ refused n ↦ broken at n | given b ↦ followed b (walked c s end more b.end) ])
      go rest (refused n) e short = stands_here (suc more) at n (record { before = refl; short = short; wrong = inl (omega arith, e) })
      go rest (given b) e short = stands_behind more at (walked c s end more b.end) short e (rest b.end)

pub fault_stands : (c : Container) (s : List ℕ) (start end : ℕ) (x : Fault) → (walked_in c s start end).fault ≡ Some x
    → FirstFault c s start end box_limit (walked_in c s start end).boxes x
unfolding walked_in
fault_stands c s start end = stands c s end box_limit start
