-- The plain style is selected, and a line feed written.
use Rattle.std.proofs.Common.{◌∙◌, ap₂, subst, arith}
use Rattle.anstyle_parse.specs.Io.Output.{Adds}
use Rattle.anstyle_parse.proofs.Characters.Encoding.{encode_one}
use Rattle.ansi_html.specs.Html.{element, change, escaped_text}
use Rattle.ansi_html.specs.Styled.{output_of, styling_of, shown_in}
use Rattle.ansi_html.proofs.StyledWriterLemmas.{WritesStyled-text}
use Rattle.screen_html.specs.Shown.{line_feed}
use Rattle.screen_html.proofs.rows.put_line_feed.Goals as goal

pub returns : goal.returns
returns g c =
    let old = c.args.writer.now in
    let plain_is = c.default.ensures in
    WritesStyled-text g.W.Sink old c.select.new.self c.put_char.new.self line_feed (omega arith)
    c.select.ensures.styling
    (c.select.ensures.shown ∙ ap₂ element plain_is c.none.ensures)
    (subst (λ it. Adds g.W.Sink (change (styling_of old) (shown_in old) it) (output_of old) (output_of c.select.new.self)) (ap₂ element plain_is c.none.ensures) c.select.ensures.added)
    c.put_char.ensures.styling c.put_char.ensures.shown
    (subst (λ t. Adds g.W.Sink (escaped_text t) (output_of c.select.new.self) (output_of c.put_char.new.self)) (encode_one 0x0A (omega arith)) c.put_char.ensures.added)
