-- Document 01, "Begin" and "Append", one after the other: a lent buffer with a file in it, and any run of additions to
-- it.
use Rattle.std.specs.Prelude.{ℕ, List, [], ◌∷◌, take}
use Rattle.boxes.specs.Answer.{Answer, refused, given}
use Rattle.partial.specs.Memory.{written}
use Rattle.additions.specs.Begin.{beginning, begun}
use Rattle.partial.specs.declared.brand.Brand.{Brand}
use Rattle.additions.specs.Addition.{Addition}
use Rattle.additions.specs.Append.{appended, result}

-- a lent buffer and the length of the file in it
pub data Lent : Type 0 where
  lent : List ℕ → ℕ → Lent

-- the buffer
unfoldable pub buffer_in : Lent → List ℕ
buffer_in (lent buffer size) = buffer

-- the file
unfoldable pub file_in : Lent → List ℕ
file_in (lent buffer size) = take size buffer

-- the length of a file after a call that writes it; after a refusal as it was
unfoldable pub size_after : Answer ℕ → ℕ → ℕ
size_after (refused n) size = size
size_after (given n) size = n

-- what begin leaves: the file just begun, or after a refusal no file
unfoldable pub begin : List ℕ → Brand → List ℕ → List ℕ → Lent
begin buffer brand urlText mimeText =
    let answer = begun buffer brand urlText mimeText in
    lent (written (beginning brand urlText mimeText) answer buffer) (size_after answer 0)

-- what append leaves: the result, or after a refusal the file as it was
unfoldable pub append : ℕ → Lent → Addition → Lent
append limit (lent buffer size) a =
    let answer = appended limit buffer size a in
    lent (written (result buffer size a) answer buffer) (size_after answer size)

-- what a run of additions leaves
unfoldable pub append_all : ℕ → Lent → List Addition → Lent
append_all limit l [] = l
append_all limit l (a ∷ more) = append_all limit (append limit l a) more
