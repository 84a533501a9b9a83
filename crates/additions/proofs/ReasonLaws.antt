-- Demand 3, the reasons for which an addition is refused before its result is looked at: 30, the file's own, 31, 32, 35
-- and 34, in that order.
use Prim.Native.Nat.{ℕ, ◌≤◌, ◌<◌}
use mathlib.Core.Bool.{true, false}
use mathlib.Core.List.{List}
use mathlib.Core.Path.{◌≡◌, refl, sym, ap, ◌∙◌}
use borrow.Author.Tests.{le-leb, lt-leb}
use lib.ListN.{length, take}
use Rattle.boxes.specs.Answer.{Answer, refused, given}
use Rattle.boxes.proofs.AnswerLaws.{refused_same}
use Rattle.partial.specs.Segments.{Segment}
use Rattle.partial.specs.Heading.{Heading, heading}
use Rattle.partial.specs.Reading.{earlier_segments}
use Rattle.additions.specs.Begin.{is_text}
use Rattle.additions.specs.Addition.{Addition, lists_right, bytes_right, outside_right}
use Rattle.additions.specs.Append.{appended}
use Rattle.partial.proofs.Reading.RefusalLaws.{earlier_headless}

module _ (limit : ℕ) (buffer : List ℕ) (n : ℕ) (a : Addition) where
  pub length_over : length buffer < n → appended limit buffer n a ≡ refused 30
  unfolding appended
  length_over h = rw (lt-leb n (length buffer) h)

  module _ (fits : n ≤ length buffer) where
    pub file-refused : {k : ℕ} → earlier_segments limit (take n buffer) ≡ refused k → appended limit buffer n a ≡ refused k
    unfolding appended
    file-refused {k} e = go (heading (take n buffer)) refl
      where
        go : (x : Answer Heading) → heading (take n buffer) ≡ x → appended limit buffer n a ≡ refused k
        go (refused m) head = rw (le-leb n (length buffer) fits, head) (ap refused (refused_same (sym (earlier_headless limit (take n buffer) head) ∙ e)))
        go (given h) head = rw (le-leb n (length buffer) fits, head, e)

    module _ {h : Heading} {ss : List Segment} (head : heading (take n buffer) ≡ given h) (stands : earlier_segments limit (take n buffer) ≡ given ss) where
      pub lists-wrong : lists_right a ≡ false → appended limit buffer n a ≡ refused 31
      unfolding appended
      lists-wrong wrong = rw (le-leb n (length buffer) fits, head, stands, wrong)

      module _ (lists : lists_right a ≡ true) where
        pub bytes-wrong : bytes_right a ≡ false → appended limit buffer n a ≡ refused 32
        unfolding appended
        bytes-wrong wrong = rw (le-leb n (length buffer) fits, head, stands, lists, wrong)

        module _ (bytes : bytes_right a ≡ true) where
          pub outside-wrong : outside_right h a ≡ false → appended limit buffer n a ≡ refused 35
          unfolding appended
          outside-wrong wrong = rw (le-leb n (length buffer) fits, head, stands, lists, bytes, wrong)

          pub texts-wrong : outside_right h a ≡ true → is_text a.texts ≡ false → appended limit buffer n a ≡ refused 34
          unfolding appended
          texts-wrong outer wrong = rw (le-leb n (length buffer) fits, head, stands, lists, bytes, outer, wrong)
