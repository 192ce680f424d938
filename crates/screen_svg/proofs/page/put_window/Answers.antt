use Rattle.std.proofs.Common.{List, [], ◌++◌, codes, subst}
use Rattle.anstyle_parse.specs.Io.Output.{Adds}
use Rattle.screen_svg.specs.Xml.{Event, xml}
use Rattle.screen_svg.specs.Picture.{circle, dots, bar, name}
use Rattle.screen_svg.proofs.AddsLemmas.{Adds-xml}
use Rattle.screen_svg.proofs.ChoiceLemmas.{chosen}
use Rattle.screen_svg.proofs.page.put_window.Goals as goal

pub returns-then-wanted : goal.returns-then-wanted
returns-then-wanted g c =
    let title = c.args.title.now in
    let width = c.args.width in
    let start = c.args.output.now in
    let barred = c.put_bar.new.output in
    let first = c.put.new.self in
    let second = c.put-then-wanted.new.self in
    let third = c.put-then-wanted-2.new.self in
    let end = c.put_name.new.output in
    let written : List Event = bar width ++ (dots ++ name title width) in
    subst (λ (events : List Event). Adds g.W.Sink (xml events) start end) (chosen written [] c.args.wanted c.if-wanted.true)
    (Adds-xml g.W.Sink (bar width) (dots ++ name title width) start barred end c.put_bar.ensures
    (Adds-xml g.W.Sink dots (name title width) barred third end
    (Adds-xml g.W.Sink (circle (codes "20")) (circle (codes "40") ++ circle (codes "60")) barred first third c.put.ensures
    (Adds-xml g.W.Sink (circle (codes "40")) (circle (codes "60")) first second third c.put-then-wanted.ensures c.put-then-wanted-2.ensures))
    c.put_name.ensures))
