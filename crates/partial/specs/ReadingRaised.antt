-- Document 02, [5]: "Prove that old files keep their maps", of any two source limits of which the one is not below the
-- other.
use Rattle.std.specs.Prelude.{ℕ, Bool, ◌||◌, List, ◌⊎◌, ◌≡◌, T, eqb}
use Rattle.boxes.specs.Answer.{Answer, refused, given}
use Rattle.boxes.specs.Framing.{Box}
use Rattle.partial.specs.Segments.{Segment}
use Rattle.partial.specs.Heading.{Part}
use Rattle.partial.specs.Reading.{reading}
use Rattle.partial.specs.Tables.{tabled, listed, index_tabled, served_part, asked, text_of}
use Rattle.partial.specs.Texts.{source_text_of, texts_tabled}
use Rattle.partial.specs.Map.{refused_line, text_for}

-- the numbers of refusals that judge the limit
abbrev pub judges_limit : ℕ → Bool
judges_limit n = eqb n 23 || eqb n 36

-- an answer under the lower limit, and the answer under the higher one
pub record Kept {A : Type 0} (low high : Answer A) : Type 0 where
  -- what was given is given
  pub accepted : (a : A) → low ≡ given a → high ≡ given a
  -- what is not the same was refused for the limit
  pub else_over : (high ≡ low) ⊎ ((n : ℕ) × T (judges_limit n) × (low ≡ refused n))

-- what a source limit leaves of reading as it was under a lower one
pub record RaisedReading (low high : ℕ) : Type 0 where
  -- an accepted file has the same segments, and so the same rows in the tables and in the lists
  pub reads : (f : List ℕ) → Kept (reading low f) (reading high f)
  pub tables : (f a b : List ℕ) → Kept (tabled low f a b) (tabled high f a b)
  pub lists : (f a b h m : List ℕ) (source : ℕ) → Kept (listed low f source a b h m) (listed high f source a b h m)
  -- its index is the same
  pub indexes : (f table : List ℕ) → Kept (index_tabled low f table) (index_tabled high f table)
  -- asking of a position has the same answer
  pub asks : (f a b : List ℕ) (source p : ℕ) → Kept (asked (tabled low f a b) source p) (asked (tabled high f a b) source p)
  -- serving hands back the same part of an accepted file, and its URL and MIME text are the same parts
  pub serves :
      (f a b : List ℕ) (source p : ℕ) (ss : List Segment)
      → tabled low f a b ≡ given ss
      → served_part (tabled high f a b) source p ≡ served_part (tabled low f a b) source p
  pub texts :
      (which : List ℕ → Box → Part) (f : List ℕ) (ss : List Segment)
      → reading low f ≡ given ss
      → text_of which high f ≡ text_of which low f
  pub source_texts :
      (which : List ℕ → Box → Part) (f : List ℕ) (source : ℕ)
      → Kept (source_text_of which low f source) (source_text_of which high f source)
  pub segment_texts : (f t u : List ℕ) (k : ℕ) → Kept (texts_tabled low f k t u) (texts_tabled high f k t u)
  -- "old files keep their maps", whatever a program prints of an accepted file and the most is that it takes; of any
  -- input, a text that is not the same was the line of a refusal for the limit
  pub maps :
      (of : List Segment → List ℕ) (most : ℕ) (input : List ℕ) (ss : List Segment)
      → reading low input ≡ given ss
      → text_for of high most input ≡ text_for of low most input
  pub map_else_over :
      (of : List Segment → List ℕ) (most : ℕ) (input : List ℕ)
      → (text_for of high most input ≡ text_for of low most input)
      ⊎ ((n : ℕ) × T (judges_limit n) × (text_for of low most input ≡ refused_line n))
