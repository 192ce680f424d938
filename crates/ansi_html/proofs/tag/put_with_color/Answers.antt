-- The digits stand in their places.
use Rattle.std.proofs.Common.{◌++◌, List, ℕ, codes, ◌∙◌, subst}
use Rattle.anstyle_parse.specs.Io.Output.{Adds}
use Rattle.ansi_html.proofs.tag.put_with_color.Goals as goal

pub returns : goal.returns
returns g c = λ one is.
    subst (λ (color : List ℕ). Adds g.W.Sink (codes "<span style=\"color:#" ++ (color ++ codes ";")) c.args.output.now c.put.new.self)
    (c.copy_from_slice.ensures.after ∙ is) c.put.ensures
