use Rattle.std.proofs.Common.{true, ◌++◌, codes}
use Rattle.anstyle_parse.proofs.Written.Output.{Adds-append}
use Rattle.ansi_style.specs.Style.{plain}
use Rattle.ansi_html.specs.Html.{escaped_text, value_of, attribute_text}
use Rattle.ansi_html.proofs.performer.put_link.Goals as goal

pub returns : goal.returns
returns g c =
    let add = Adds-append g.W.Sink in
    let end = c.put_link_style.new.output in
    let behind = codes "\"" ++ attribute_text c.args.styling (value_of c.args.styling true plain) in
    add (codes "<a rel=\"nofollow noreferrer\" href=\"") (escaped_text c.args.link.now ++ behind) c.args.output.now c.put.new.self end c.put.ensures
    (add (escaped_text c.args.link.now) behind c.put.new.self c.put_in_parts.new.output end c.put_in_parts.ensures c.put_link_style.ensures)
