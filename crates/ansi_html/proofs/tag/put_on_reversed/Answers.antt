use Rattle.std.proofs.Common.{◌++◌, codes}
use Rattle.anstyle_parse.proofs.Written.Output.{Adds-append}
use Rattle.ansi_html.specs.Palette.{shades_of}
use Rattle.ansi_html.specs.Css.{light_text, dark_text, reversed_text, reversed_ground}
use Rattle.ansi_html.proofs.tag.put_on_reversed.Goals as goal

pub returns : goal.returns
returns g c =
    let scheme = c.args.scheme in
    let shades = shades_of c.args.text in
    Adds-append g.W.Sink (codes "<span style=\"" ++ reversed_text scheme c.args.dim c.args.text) (reversed_ground scheme)
    c.args.output.now c.put_themed.new.output c.put_reversed_ground.new.output
    (c.put_themed.ensures (dark_text c.args.dim shades) (light_text c.args.dim shades) c.page_digits-colors.ensures.dark c.page_digits-colors.ensures.light)
    c.put_reversed_ground.ensures
