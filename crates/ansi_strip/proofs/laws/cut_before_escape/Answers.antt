-- The calls of the whole are those of both parts, and what is left of them is joined.
use Rattle.std.proofs.Common.{◌∷◌, ◌++◌, ap, ◌∙◌}
use Rattle.std.proofs.lemmas.Grind.{flat_map-append}
use Rattle.anstyle_parse.specs.Stream.Bytes.{escape_byte}
use Rattle.anstyle_parse.proofs.Headline.{AreCalls-forgotten}
use Rattle.ansi_strip.specs.Strip.{stripped_call, stripped}
use Rattle.ansi_strip.proofs.laws.cut_before_escape.Goals as goal

pub returns : goal.returns
returns c = λ before bytes first rest whole are follow together.
    ap stripped (c.calls_of_bytes.ensures.only (before ++ escape_byte ∷ bytes) (first ++ rest) whole (AreCalls-forgotten before bytes first rest are follow) together)
    ∙ flat_map-append stripped_call first rest
