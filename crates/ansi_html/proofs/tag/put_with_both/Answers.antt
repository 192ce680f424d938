-- The digits stand in their places.
use Rattle.std.proofs.Common.{◌++◌, List, ℕ, codes, ◌∙◌, subst}
use Rattle.anstyle_parse.specs.Io.Output.{Adds}
use Rattle.ansi_html.specs.Tags.{digits}
use Rattle.ansi_html.proofs.tag.put_with_both.Goals as goal

pub returns : goal.returns
returns g c = λ one other is_light is_dark.
    let added = λ (first second third : List ℕ). Adds g.W.Sink
    (codes "<span style=\"color:#" ++ (first ++ (codes ";color:light-dark(#" ++ (second ++ (codes ",#" ++ (third ++ codes ");"))))))
    c.args.output.now c.put.new.self in
    let light = digits one in
    let dark = c.copy_from_slice.new.self in
    subst (λ (third : List ℕ). added light light third) (c.copy_from_slice.ensures.after ∙ is_dark)
    (subst (λ (second : List ℕ). added light second dark) (c.copy_from_slice-2.ensures.after ∙ is_light)
    (subst (λ (first : List ℕ). added first c.copy_from_slice-2.new.self dark) (c.copy_from_slice-3.ensures.after ∙ is_light) c.put.ensures))
