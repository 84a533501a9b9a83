-- Document 02, [8]: what is counted of the texts of an addition, and what it tells of the addition.
use Rattle.std.specs.Prelude.{ℕ, true, List, ◌≡◌, eqb, length}
use Rattle.additions.specs.Addition.{Addition, lengths_right, texts_right, surls_of}
use Rattle.additions.specs.Begin.{is_text}
use Rattle.partial.specs.Sequences.{sum}
use Rattle.adding.specs.declared.texts.Texts.{Texts}

-- whether the list of lengths is even and their sum, which no limit cuts, is the number of the bytes; whether no byte
-- is zero; how many `surl` boxes there are, and how many bytes
unfoldable pub texts_of : List ℕ → List ℕ → Texts
texts_of texts lengths =
    record {
      even = lengths_right lengths;
      whole = eqb (length texts) (sum lengths);
      plain = is_text texts;
      surls = length (surls_of texts lengths);
      bytes = length texts;
    }

-- the texts of an addition, whose lengths and bytes are right
pub record Texted (a : Addition) (t : Texts) : Type 0 where
  pub counts : t ≡ texts_of a.texts a.lengths
  pub lengths : lengths_right a.lengths ≡ true
  pub bytes : texts_right a ≡ true
