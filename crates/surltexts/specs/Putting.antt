-- Document 02, [8]: the texts of `surl` boxes, put into lent memory one behind the other.
use Rattle.std.specs.Prelude.{ℕ, ◌+◌, ◌≤◌, List}
use Rattle.boxes.specs.Framing.{Box}
use Rattle.filling.specs.Rows.{Puts}
use Rattle.partial.specs.Heading.{bytes_in, url, mime}
use Rattle.partial.specs.Texts.{Surl, texts_for, lengths_for}
use Rattle.surltexts.specs.declared.answers.Texts.{Texts}

-- the two texts of a `surl`
abbrev pub surl_of : List ℕ → Box → Surl
surl_of f b = record { url = bytes_in f (url f b); mime = bytes_in f (mime f b) }

-- the texts of `surl` boxes are put behind so many bytes, and their lengths behind so many others
pub record PutsSurls (told : List Surl) (before : Texts) (texts texts' lengths lengths' : List ℕ) (after : Texts) : Type 0 where
  pub bytes : Puts texts before.bytes (texts_for told) texts' after.bytes
  pub sizes : Puts lengths before.lengths (lengths_for told) lengths' after.lengths

-- nothing was put
abbrev pub nothing : Texts
nothing = record { bytes = 0; lengths = 0 }

-- no more was put than there are bytes before a place where the body of a box starts, less the eight of its header, so that
-- 64 bits hold what will be put
pub record Behind (place : ℕ) (before : Texts) : Type 0 where
  pub bytes : before.bytes + 8 ≤ place
  pub lengths : before.lengths + 8 ≤ place
