use Rattle.std.proofs.Common.{codes}
use Rattle.screen_svg.specs.Runs.{run_of, run_text}
use Rattle.screen_svg.specs.Picture.{element, shape_element, text_attributes}
use Rattle.screen_svg.proofs.AddsLemmas.{Adds-xml}
use Rattle.screen_svg.proofs.runs.put_text_element.Goals as goal

pub returns : goal.returns
returns g c =
    let run = run_of c.args.column c.args.first.now c.args.others.now in
    let text = element (codes "text") (text_attributes c.args.scheme c.args.row run) (run_text run) in
    Adds-xml g.W.Sink (shape_element c.args.scheme c.args.row run) text c.args.output.now c.put_shape.new.output c.put_text.new.output
    c.put_shape.ensures c.put_text.ensures
