-- Laws of the calls of salvage: the file cut behind its whole boxes, the copy in the buffer, and what is told of a file.
use Prim.Native.Nat.{ℕ, ◌≤◌, ◌<◌}
use mathlib.Core.Bool.{Bool, true, false}
use mathlib.Core.List.{List, map}
use Rattle.std.specs.Prelude.{Result, Ok, Err}
use mathlib.Core.Path.{◌≡◌, refl, sym, ap, subst, ◌∙◌}
use native.Mathlib.Omega.{arith}
use borrow.Author.Tests.{le-leb, lt-leb}
use lib.Dec.{leb}
use lib.ListN.{length, get_or, take}
use lib.Seq.{take-length}
use Rattle.boxes.specs.Answer.{refused, given, ◌>>=◌, hold}
use Rattle.refusals.specs.Refusals.{refusal_no}
use Rattle.refusals.specs.declared.Refusal.{Refusal}
use Rattle.refusals.specs.declared.Refusal.TheVariants.{InputTooLong, BufferTooShort}
use Rattle.rescue.specs.declared.table.Fate.{Fate}
use Rattle.boxes.proofs.AnswerLaws.{held}
use Rattle.partial.specs.Map.{refused_line}
use Rattle.partial.specs.Heading.{Heading}
use Rattle.partial.specs.Limits.{source_limit}
use Rattle.partial.specs.Memory.{fits, after, text_written}
use Rattle.partial.specs.Sequences.{sum}
use Rattle.puts.specs.Pieces.{PutsPieces}
use Rattle.texts.specs.Writes.{Writes}
use Rattle.texts.proofs.WritesLaws.{writes_short, writes_given}
use Rattle.gathering.specs.Keeping.{Boxed}
use Rattle.rescue.specs.Kept.{Fated, walk_of, framed, opening}
use Rattle.rescue.specs.Copy.{copy_size, copied, salvage, salvaged}
use Rattle.rescue.specs.Lines.{dropped_lines, salvage_text}
use Rattle.rescue.proofs.CopyLaws.{pieces_long}
use Rattle.rescue.proofs.FramedLaws.{framed_opens, framed_boxes, framed_shorter}
use Rattle.rescue.proofs.HeadingLaws.{opened, said}
use Rattle.rescue.proofs.WholeLaws.{fates_ready, copy_shorter}
use Rattle.salvaging.specs.Fault.{fault_at}
use Rattle.salvaging.specs.Opens.{Told, Opens}
use Rattle.salvaging.specs.Tables.{fates_in, start_of, new_in, FatesHeld, Sound}
use Rattle.salvaging.specs.Told.{Tells}
use Rattle.salvaging.specs.Wrote.{Salvages}
use Rattle.salvaging.specs.declared.opening.OpenFile.{OpenFile}
use Rattle.salvaging.proofs.SoundLaws.{fates_long}
use Rattle.salvaging.proofs.TableLaws.{box_stands}

-- ---- the copy in the buffer

module _ (f : List ℕ) (h : Heading) (sound : Sound f h) (bytes : (k : ℕ) → get_or f k 0 < 256) {size : ℕ} (all : size ≡ start_of f h (length h.boxes)) where
  -- it is as long as the places say
  size_copied : size ≡ length (copied f (fates_in f h))
  unfolding copied
  size_copied =
      all
      ∙ ap (start_of f h) (sym (fates_long f h sound))
      ∙ ap (λ (xs : List Fated). sum (map copy_size xs)) (take-length (fates_in f h))
      ∙ sym (pieces_long f (new_in f h) (fates_in f h) (fates_ready source_limit f h sound.opens bytes (new_in f h)))

  pub copy_short : {buffer : List ℕ} → length buffer < size → Writes (copied f (fates_in f h)) buffer buffer (Err BufferTooShort)
  copy_short short = writes_short _ _ (omega (arith, size_copied))

  pub copy_put : {buffer buffer' : List ℕ} {n : ℕ} → size ≤ length buffer → PutsPieces buffer 0 (copied f (fates_in f h)) buffer' n
      → Writes (copied f (fates_in f h)) buffer buffer' (Ok size)
  copy_put room pieces =
      let small = (opened f h sound.opens).small in
      writes_given _ _ size_copied (omega (arith, size_copied)) (pieces.puts (omega (arith, copy_shorter source_limit f h sound.opens bytes)))

-- ---- the answer of an opened file

-- what is found of it
pub found : {f : List ℕ} {r : Result OpenFile Refusal} → Opens f r → {o : OpenFile} → r ≡ Ok o → (h : Heading) × (opening f ≡ given h) × Told f h o
unfolding Opens
found {f} opens e = subst (Opens f) e opens

pub not_opened : (f : List ℕ) {r : Result OpenFile Refusal} → Opens f r → {n : Refusal} → r ≡ Err n → opening f ≡ refused (refusal_no n)
unfolding Opens
not_opened f opens e = subst (Opens f) e opens

-- its whole boxes end in it
pub told_inside : {f : List ℕ} {h : Heading} {o : OpenFile} → Told f h o → o.end.0 ≤ length f
told_inside {f} told = omega (arith, told.whole.end, framed_shorter f)

-- these alone are a file that can be salvaged
module _ (f : List ℕ) {h : Heading} (opens : opening f ≡ given h) {o : OpenFile} (told : Told f h o) where
  whole_sound : Sound (framed f) h
  whole_sound = record { opens = framed_opens f h opens; boxes = framed_boxes f ∙ ap given (sym (opened f h opens).boxes) }

  whole_boxed : Boxed (framed f) o.mixed o.list h
  whole_boxed =
      let says = said (framed f) h whole_sound.opens in
      let known = opened (framed f) h whole_sound.opens in
      record {
        boxes = whole_sound.boxes;
        mix = told.mix;
        in_pfil =
            record {
              within = known.small;
              stands = rw told.list (record { boxes = says.inner; inside = (box_stands (framed f) h whole_sound 1 known.two).ends });
              urls = says.urls;
            };
        two = known.two;
        first = known.first;
        second = known.second;
      }

  pub cut_sound : Sound (take o.end.0 f) h
  cut_sound = rw told.whole.cut whole_sound

  pub cut-boxed : Boxed (take o.end.0 f) o.mixed o.list h
  cut-boxed = rw told.whole.cut whole_boxed

-- ---- the copy of a spoiled file

module _ (copy buffer : List ℕ) where
  copy_answer : (b : Bool) → (hold 33 b >>= λ _. given (length copy)) ≡ ((hold 33 b >>= λ _. given copy) >>= λ c. given (length c))
  copy_answer true = refl
  copy_answer false = refl

  copy_left : (b : Bool) → after (λ (_ : ℕ). copy) (hold 33 b >>= λ _. given (length copy)) buffer ≡ after (λ (c : List ℕ). c) (hold 33 b >>= λ _. given copy) buffer
  unfolding after
  copy_left true = refl
  copy_left false = refl

module _ (f : List ℕ) {buffer : List ℕ} where
  pub salvages_refused : {n : Refusal} → opening f ≡ refused (refusal_no n) → Salvages f buffer buffer (Err n)
  unfolding salvaged salvage after
  salvages_refused e = record { answer = rw e; left = rw e }

  pub salvages_given : {h : Heading} → opening f ≡ given h → {g : List ℕ} → g ≡ framed f → {buffer' : List ℕ} {r : Result ℕ Refusal}
      → Writes (copied g (fates_in g h)) buffer buffer' r → Salvages f buffer buffer' r
  unfolding salvaged salvage text_written
  salvages_given {h} opens {g} cut w =
      let copy : List ℕ = copied g (fates_in g h) in
      record {
        answer = rw (opens, ← cut) (w.answer ∙ copy_answer copy buffer (fits copy buffer));
        left = rw (opens, ← cut) (w.left ∙ copy_left copy buffer (fits copy buffer));
      }

-- ---- what is told of a file

module _ (f : List ℕ) (t : List Fate) {most : ℕ} where
  pub tells_long : most < length f → Tells f most t (Err InputTooLong)
  unfolding Tells
  tells_long long = rw (lt-leb (length f) most long)

  module _ (short : length f ≤ most) where
    pub tells_refused : (n : Refusal) → opening f ≡ refused (refusal_no n) → Tells f most t (Err n)
    unfolding Tells
    tells_refused n e = rw (le-leb (length f) most short) e

    pub tells-found : {h : Heading} {o : OpenFile} → opening f ≡ given h → Told f h o → FatesHeld (take o.end.0 f) h t → Tells f most t (Ok o)
    unfolding Tells
    tells-found {h} opens told held = (h, rw (le-leb (length f) most short) opens, told, rw told.whole.cut at held)

-- ---- the text

-- the lines are those of the file cut behind its whole boxes
pub record Lined (f : List ℕ) (most : ℕ) (t : List Fate) (o : OpenFile) : Type 0 where
  pub head : Heading
  pub inside : o.end.0 ≤ length f
  pub sound : Sound (take o.end.0 f) head
  pub fates : FatesHeld (take o.end.0 f) head t
  pub text : dropped_lines (fates_in (take o.end.0 f) head) (fault_at (length (take o.end.0 f)) o.fault) ≡ salvage_text source_limit most f

cut_lined : (f : List ℕ) (most : ℕ) (t : List Fate) (h : Heading) {o : OpenFile} → (hold 27 (leb (length f) most) >>= λ _. opening f) ≡ given h → Told f h o
    → FatesHeld (framed f) h t → Lined f most t o
unfolding salvage_text
cut_lined f most t h {o} answer told table =
    let opens = (held 27 (leb (length f) most) _ answer).1 in
    let lines : dropped_lines (fates_in (framed f) h) (walk_of f).fault ≡ salvage_text source_limit most f = rw (salvage_text, answer) in
    record {
      head = h;
      inside = told_inside told;
      sound = cut_sound f opens told;
      fates = rw told.whole.cut table;
      text = rw told.whole.cut (ap (dropped_lines (fates_in (framed f) h)) (ap (λ (n : ℕ). fault_at n o.fault) (sym told.whole.end) ∙ sym told.whole.error) ∙ lines);
    }

module _ (f : List ℕ) (most : ℕ) (t : List Fate) {r : Result OpenFile Refusal} (tells : Tells f most t r) where
  pub text_refused : {n : Refusal} → r ≡ Err n → refused_line (refusal_no n) ≡ salvage_text source_limit most f
  unfolding Tells salvage_text
  text_refused {n} e =
      let answer : (hold 27 (leb (length f) most) >>= λ _. opening f) ≡ refused (refusal_no n) = subst (Tells f most t) e tells in
      rw (salvage_text, answer)

  pub lined : {o : OpenFile} → r ≡ Ok o → Lined f most t o
  unfolding Tells
  lined e = let (h, answer, told, table) = subst (Tells f most t) e tells in cut_lined f most t h answer told table
