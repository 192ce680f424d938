use Rattle.screen_svg.proofs.AddsLemmas.{Adds-end}
use Rattle.screen_svg.proofs.tags.put_end.Goals as goal

pub returns : goal.returns
returns g c =
    Adds-end g.W.Sink c.args.name.now c.args.output.now c.put.new.self c.put-2.new.self c.put-3.new.self c.put.ensures c.put-2.ensures c.put-3.ensures
