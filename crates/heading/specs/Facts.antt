-- What the heading of a file tells the layers above, and what an answer of the call says of it.
use Rattle.std.specs.Prelude.{ℕ, Bool, List, length, Result}
use Rattle.refusals.specs.declared.Refusal.{Refusal}
use Rattle.boxes.specs.Answer.{Answer, given, ◌>>=◌, told_as}
use Rattle.boxes.specs.Framing.{Box}
use Rattle.boxes.specs.Kinds.{pseg, those, box_at}
use Rattle.boxes.specs.declared.kinds.Container.TheVariants.{Pfil}
use Rattle.partial.specs.Heading.{Part, Heading, url, mime}
use Rattle.partial.specs.Index.{has_index}
use Rattle.partial.specs.Tables.{first_text}
use Rattle.surls.specs.Parts.{part_of}
use Rattle.boxes.specs.declared.body.Body.{Body}
use Rattle.heading.specs.declared.answers.Head.{Head}

-- how many boxes the file has, how many of them are `pseg`, whether it is mixed, whether its `pfil` has an index, where
-- the list of URLs in `pfil` stands, and the URL and the MIME text of the first `surl` there
pub record Facts : Type 0 where
  pub boxes : ℕ
  pub segments : ℕ
  pub mixed : Bool
  pub indexed : Bool
  pub list : Body
  pub url : Part
  pub mime : Part

-- the body of `pfil`, the second of a file's boxes
abbrev pub pfil_body : List Box → Body
pfil_body bs = record { container = Pfil; start = record { 0 = (box_at 1 bs).body }; end = record { 0 = (box_at 1 bs).end } }

unfoldable pub facts_of : List ℕ → Heading → Facts
facts_of f h =
    record {
      boxes = length h.boxes;
      segments = length (those pseg h.boxes);
      mixed = h.mixed;
      indexed = has_index h.inner;
      list = pfil_body h.boxes;
      url = first_text url f h.inner;
      mime = first_text mime f h.inner;
    }

-- what is told of a heading, or its refusal
abbrev pub told : List ℕ → Answer Heading → Answer Facts
told f answer = answer >>= λ h. given (facts_of f h)

-- what a head that was found says
abbrev pub facts_by : Head → Facts
facts_by h = record { boxes = h.boxes; segments = h.segments; mixed = h.mixed; indexed = h.indexed; list = h.list; url = part_of h.url; mime = part_of h.mime }

-- what an answer about a heading says
abbrev pub headed_answer : Result Head Refusal → Answer Facts
headed_answer = told_as facts_by
