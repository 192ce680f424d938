-- The calls of the whole are those of both parts, and what is left of them is joined.
use Rattle.std.proofs.Common.{◌∷◌, ◌++◌, ap, ◌∙◌}
use Rattle.anstyle_parse.specs.Stream.Bytes.{escape_byte}
use Rattle.anstyle_parse.proofs.Headline.{AreCalls-forgotten}
use Rattle.ansi_strip.specs.Inert.{inert_text}
use Rattle.ansi_strip.proofs.InertLemmas.{inert_text-append}
use Rattle.ansi_strip.proofs.laws.inert_cut_before_escape.Goals as goal

pub returns : goal.returns
returns c = λ before bytes first rest whole are follow together.
    ap inert_text (c.calls_of_bytes.ensures.only (before ++ escape_byte ∷ bytes) (first ++ rest) whole (AreCalls-forgotten before bytes first rest are follow) together)
    ∙ inert_text-append first rest
