use Rattle.std.proofs.Common.{◌≡◌, false, List, [], ◌∷◌, ◌++◌, codes, sym, ◌∙◌, subst}
use Rattle.anstyle_parse.specs.Io.Output.{Adds}
use Rattle.ansi_html.specs.Links.{is_none}
use Rattle.screen_svg.specs.Xml.{Event, end, xml}
use Rattle.screen_svg.specs.Runs.{run_of}
use Rattle.screen_svg.specs.Picture.{link_begin, text_element}
use Rattle.screen_svg.proofs.AddsLemmas.{Adds-xml}
use Rattle.screen_svg.proofs.ChoiceLemmas.{unchosen}
use Rattle.screen_svg.proofs.runs.put_linked.Goals as goal

pub returns-else-is_empty : goal.returns-else-is_empty
returns-else-is_empty g c =
    let uri = c.args.uri.now in
    let some : is_none uri ≡ false = sym c.is_empty.ensures ∙ c.if-is_empty.false in
    let events : List Event = text_element c.args.scheme c.args.row (run_of c.args.column c.args.first.now c.args.others.now) in
    let last : List Event = end (codes "a") ∷ [] in
    let start = c.args.output.now in
    let begun = c.put_link_begin.new.output in
    let texted = c.put_text_element-else-is_empty.new.output in
    let ended = c.put_end.new.output in
    subst (λ (it : List Event). Adds g.W.Sink (xml it) start ended) (unchosen events (link_begin uri ++ (events ++ last)) (is_none uri) some)
    (Adds-xml g.W.Sink (link_begin uri) (events ++ last) start begun ended c.put_link_begin.ensures
    (Adds-xml g.W.Sink events last begun texted ended c.put_text_element-else-is_empty.ensures c.put_end.ensures))
