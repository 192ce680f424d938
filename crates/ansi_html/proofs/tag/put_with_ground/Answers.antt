-- The digits stand in their places.
use Rattle.std.proofs.Common.{◌++◌, List, ℕ, codes, ◌∙◌, subst}
use Rattle.anstyle_parse.specs.Io.Output.{Adds}
use Rattle.ansi_html.specs.Tags.{digits}
use Rattle.ansi_html.proofs.tag.put_with_ground.Goals as goal

pub returns : goal.returns
returns g c = λ one other is is_behind.
    let added = Adds g.W.Sink in
    let start = c.args.output.now in
    let end = c.put.new.self in
    let ground = c.copy_from_slice.new.self in
    subst (λ (behind : List ℕ). added (codes "<span style=\"color:#" ++ (digits one ++ (codes ";background-color:#" ++ (behind ++ codes ";")))) start end)
    (c.copy_from_slice.ensures.after ∙ is_behind)
    (subst (λ (text : List ℕ). added (codes "<span style=\"color:#" ++ (text ++ (codes ";background-color:#" ++ (ground ++ codes ";")))) start end)
    (c.copy_from_slice-2.ensures.after ∙ is) c.put.ensures)
