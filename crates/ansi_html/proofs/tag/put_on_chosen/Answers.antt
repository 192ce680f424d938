use Rattle.std.proofs.Common.{ap, ◌∙◌}
use Rattle.ansi_html.specs.Css.{text_on}
use Rattle.ansi_html.specs.Tags.{digits}
use Rattle.ansi_html.proofs.tag.put_on_chosen.Goals as goal

pub returns : goal.returns
returns g c =
    c.put_with_ground.ensures (text_on c.args.dim c.args.text c.args.behind) c.args.behind (c.digits-color.ensures ∙ ap digits c.text_on.ensures) c.digits.ensures
