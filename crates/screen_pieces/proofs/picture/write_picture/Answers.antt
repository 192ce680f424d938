-- The drawing that is told, in the fonts that are wanted.
use Rattle.std.proofs.Common.{ℕ, List, ap, ◌∙◌, subst}
use Rattle.anstyle_parse.specs.Io.Output.{Adds}
use Rattle.ansi_style.specs.Bytes.{is_set}
use Rattle.screen_svg.specs.declared.drawing.Drawing.{Drawing}
use Rattle.screen_svg.specs.Picture.{svg}
use Rattle.screen_pieces.specs.Picture.{drawing_told, rows_wanted, rows_drawn}
use Rattle.screen_pieces.specs.Terminal.{screen_of, table_of}
use Rattle.screen_pieces.proofs.picture.write_picture.Goals as goal

pub returns : goal.returns
returns g c =
    let how = c.args.how in
    let title = c.args.title.now in
    let it = c.args.terminal.now in
    subst (λ (text : List ℕ). Adds g.W.Sink text c.args.output c.write_drawn.result)
    (ap (λ (d : Drawing). svg d title c.wanted_font-wanted.result.now (table_of it) (rows_wanted (is_set how.shown) d.cursor it) (screen_of it)) c.drawing-drawing.ensures
    ∙ ap (λ (font : List ℕ). svg (drawing_told how) title font (table_of it) (rows_drawn how it) (screen_of it)) c.wanted_font-wanted.ensures)
    c.write_drawn.ensures
