-- Which part of a `surl` each of its two texts is.
use Rattle.std.specs.Prelude.{ℕ, List}
use Rattle.boxes.specs.Framing.{Box}
use Rattle.partial.specs.Heading.{Part, url, mime}
use Rattle.surls.specs.declared.first.Text.{Text}
use Rattle.surls.specs.declared.first.Text.TheVariants.{Url, Mime}

unfoldable pub text_in : Text → List ℕ → Box → Part
text_in Url = url
text_in Mime = mime
