-- Laws of the end of an indexed box and of its fields beside it: what the tests decide.
use Prim.Native.Nat.{ℕ, ◌+◌, ◌≤◌, ◌<◌}
use mathlib.Core.Bool.{Bool, true, false, ◌||◌, and-false}
use mathlib.Core.List.{List}
use Rattle.std.specs.Prelude.{Option, None, Some, is_some}
use mathlib.Core.Path.{◌≡◌, refl}
use borrow.Author.Tests.{le-leb, lt-leb}
use Rattle.boxes.specs.Answer.{refused, given}
use Rattle.boxes.specs.Framing.{Box}
use Rattle.partial.specs.Index.{IndexFields, index_fields, end_from, wherever, end_right, last_or_sized}
use Rattle.partial.specs.Limits.{source_limit}
use Rattle.indexing.specs.Head.{judged_end, head_in}
use Rattle.indexing.proofs.KnownLaws.{known_some}

module _ (enclosing : Option ℕ) (place : ℕ) (x : IndexFields) where
  pub from_size : {size : ℕ} → x.size ≡ Some size → end_from enclosing place x ≡ Some (place + size)
  unfolding end_from
  from_size h = rw (end_from, h)

  pub from_enclosing : x.size ≡ None → end_from enclosing place x ≡ enclosing
  unfolding end_from
  from_enclosing h = rw (end_from, h)

  module _ {end : ℕ} (ends : end_from enclosing place x ≡ Some end) where
    pub end_under : end < place + x.front → judged_end enclosing place x ≡ refused 36
    unfolding judged_end end_right wherever
    end_under h = simp (judged_end, ends, end_right, wherever, lt-leb (place + x.front) end h)

    pub end_far : source_limit < end → judged_end enclosing place x ≡ refused 36
    unfolding judged_end end_right wherever
    end_far h = simp (judged_end, ends, end_right, wherever, lt-leb end source_limit h, and-false)

    pub end-right : place + x.front ≤ end → end ≤ source_limit → judged_end enclosing place x ≡ given (Some end)
    unfolding judged_end end_right wherever
    end-right low high = simp (judged_end, ends, end_right, wherever, le-leb (place + x.front) end low, le-leb end source_limit high)

  pub end_unjudged : end_from enclosing place x ≡ None → judged_end enclosing place x ≡ given None
  unfolding judged_end end_right wherever
  end_unjudged ends = simp (judged_end, ends, end_right, wherever)

-- whether a size of 0 is last, by the two tests
module _ (last : Bool) (x : IndexFields) where
  pub not_last : last ≡ false → is_some x.size ≡ false → last_or_sized last x ≡ false
  unfolding last_or_sized
  not_last h none = rw (last_or_sized, known_some x.size, none, h)

  pub a_last : last ≡ true → last_or_sized last x ≡ true
  unfolding last_or_sized
  a_last h = rw (last_or_sized, h)

  pub a_sized : is_some x.size ≡ true → last_or_sized last x ≡ true
  unfolding last_or_sized
  a_sized some_size = rw (last_or_sized, known_some x.size, some_size) (go last)
    where
      go : (t : Bool) → (t || true) ≡ true
      go true = refl
      go false = refl

module _ (f : List ℕ) (b : Box) (enclosing : Option ℕ) (last : Bool) (place : ℕ) where
  pub head_cut : {n : ℕ} → index_fields f b ≡ refused n → head_in f b enclosing last place ≡ refused n
  unfolding head_in
  head_cut h = rw (head_in, h)

  module _ {x : IndexFields} (read : index_fields f b ≡ given x) where
    pub head_not_last : last_or_sized last x ≡ false → head_in f b enclosing last place ≡ refused 36
    unfolding head_in
    head_not_last h = rw (head_in, read, h)

    module _ (sized : last_or_sized last x ≡ true) where
      pub head_end_wrong : {n : ℕ} → judged_end enclosing place x ≡ refused n → head_in f b enclosing last place ≡ refused n
      unfolding head_in
      head_end_wrong h = rw (head_in, read, sized, h)

      pub head_whole : {end : Option ℕ} → judged_end enclosing place x ≡ given end → head_in f b enclosing last place ≡ given (x, end)
      unfolding head_in
      head_whole h = rw (head_in, read, sized, h)
