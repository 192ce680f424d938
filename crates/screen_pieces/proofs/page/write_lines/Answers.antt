-- Rows are written from a new writer on.
use Rattle.std.proofs.Common.{[], false, ap, ◌∙◌}
use Rattle.ansi_html.specs.Html.{no_element}
use Rattle.screen_html.specs.Links.{Table}
use Rattle.screen_html.specs.Shown.{linked}
use Rattle.screen_html.proofs.PageLemmas.{adds-lines}
use Rattle.screen_html.proofs.ShownLemmas.{between}
use Rattle.screen_pieces.specs.Rows.{rows_numbered}
use Rattle.screen_pieces.specs.Terminal.{table_of}
use Rattle.screen_pieces.proofs.page.write_lines.Goals as goal

pub returns : goal.returns
returns g c =
    adds-lines g.W.Sink c.args.styling (table_of c.args.terminal.now) (rows_numbered c.args.which c.args.terminal.now)
    c.new-rows.result c.hand_on.new.taker c.args.output c.into_output.result c.new-rows.ensures.output
    (c.new-rows.ensures.new ∙ ap (λ (links : Table). between c.args.styling no_element (linked [] links) false) c.links.ensures)
    c.hand_on.ensures c.into_output.ensures
