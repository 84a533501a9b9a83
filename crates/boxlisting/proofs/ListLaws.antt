-- Laws of the list's lines: one for each box of the walk over the file, and behind them that of a fault.
use Prim.Native.Nat.{ℕ, ◌+◌, ◌*◌, ◌≤◌}
use mathlib.Core.List.{List, [], ◌++◌, append-nil, append_assoc}
use Rattle.std.specs.Prelude.{None, Some}
use mathlib.Core.Path.{◌≡◌, refl, sym, ap, ◌∙◌}
use native.Mathlib.Omega.{arith}
use lib.ListN.{length}
use Rattle.boxes.specs.Answer.{refused, given}
use Rattle.boxes.specs.Framing.{Box, box_limit, header, walked_in, box_of}
use Rattle.boxes.specs.Walk.{walk_over, stepped}
use Rattle.boxes.specs.declared.framing.Framed.{Framed}
use Rattle.boxes.specs.declared.kinds.Container.TheVariants.{File}
use Rattle.boxes.specs.declared.walk.Walk.{Walk}
use Rattle.boxes.proofs.WalkLaws.{onward, stepping, onward_steps, met}
use Rattle.filling.specs.Rows.{Puts}
use Rattle.filling.proofs.RowLaws.{put_none}
use Rattle.filling.proofs.PutsLaws.{puts_same, puts_more}
use Rattle.numerals.specs.declared.place.Place.{Place}
use Rattle.partial.specs.BoxList.{each, box_line, fault_line, walk_lines}
use Rattle.partial.proofs.Reading.BoxListLaws.{lines-followed}

-- the lines of the walk over a file
abbrev lines_of : List ℕ → List ℕ
lines_of f = walk_lines f (walked_in File f 0 (length f))

-- the lines so far are put, and those of what a walk has before it are left; a line has at most 200 bytes
pub record Midway (f s t : List ℕ) (next : ℕ) (w : Walk) : Type 0 where
  pub done : List ℕ
  pub put : Puts s 0 done t next
  pub rest : lines_of f ≡ done ++ walk_lines f (onward f w)
  pub over : w.container ≡ File
  pub file : w.end.0 ≡ length f
  pub low : next + 200 * w.left ≤ 102_400

pub midway_none : (f s : List ℕ) {end : Place} {w : Walk} → w ≡ walk_over File (record { 0 = 0 }) end → end.0 ≡ length f → Midway f s s 0 w
unfolding walked_in box_limit
midway_none f s new file =
    record {
      done = [];
      put = record { put = put_none s 0; end = refl };
      rest = rw (new, file);
      over = ap (λ w. w.container) new;
      file = rw new file;
      low = omega (arith, ap (λ w. w.left) new);
    }

module _ {f s t : List ℕ} {next : ℕ} {w : Walk} (m : Midway f s t next w) where
  -- the walk's step says what comes next
  goes_on : lines_of f ≡ m.done ++ walk_lines f (stepping f w (stepped f w))
  goes_on = m.rest ∙ ap (λ x. m.done ++ walk_lines f x) (onward_steps f w)

  pub midway_more : {b : Box} {w' : Walk} → stepped f w ≡ given (Some (b, w')) → {t' : List ℕ} {next' : ℕ} → Puts t next (box_line f b) t' next' → next' ≤ next + 200
      → Midway f s t' next' w'
  midway_more {b} {w'} step puts few =
      let on = met f w step in
      record {
        done = m.done ++ box_line f b;
        put = puts_more m.put puts;
        rest = goes_on ∙ rw (step, lines-followed) (sym (append_assoc m.done (box_line f b) (walk_lines f (onward f w'))));
        over = ap (λ w. w.container) on.onward ∙ m.over;
        file = ap (λ w. w.end.0) on.onward ∙ m.file;
        low = omega (arith, m.low, on.allowed, ap (λ w. w.left) on.onward);
      }

  -- a box that the walk meets is read at its own place
  pub framed_read : (b : Framed) {w' : Walk} → stepped f w ≡ given (Some (box_of b, w')) → header File f b.at.0 (length f) ≡ given (box_of b)
  unfolding box_of
  framed_read b step =
      let on = met f w step in
      (λ i. header (sym m.over i) f (on.inside.starts i) (sym m.file i)) ∙ on.read

  pub midway_end : stepped f w ≡ given None → Puts s 0 (lines_of f) t next
  unfolding walk_lines each
  midway_end step = puts_same (sym (goes_on ∙ rw step (append-nil m.done))) m.put

  pub midway_fault : {n : ℕ} → stepped f w ≡ refused n → {t' : List ℕ} {next' : ℕ} → Puts t next (fault_line (record { at = w.at.0; number = n })) t' next'
      → Puts s 0 (lines_of f) t' next'
  unfolding walk_lines each
  midway_fault step puts = puts_same (sym (goes_on ∙ rw step)) (puts_more m.put puts)
