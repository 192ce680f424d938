-- The parts of the head, one after another.
use Rattle.std.proofs.Common.{◌++◌}
use Rattle.anstyle_parse.proofs.Written.Output.{Adds-append}
use Rattle.ansi_html.specs.Html.{escaped_text}
use Rattle.ansi2html.specs.Page.{before_language, before_title, after_title, page_looks, after_head}
use Rattle.ansi2html.proofs.form.put_head.Goals as goal

pub returns : goal.returns
returns g c =
    let said = c.args.said in
    let language = escaped_text said.language.now in
    let title = escaped_text said.title.now in
    let looks = page_looks c.args.styling c.args.scheme said in
    let end = c.put-4.new.self in
    let add = Adds-append g.W.Sink in
    add before_language (language ++ (before_title ++ (title ++ (after_title ++ (looks ++ after_head))))) c.args.output.now c.put.new.self end c.put.ensures
    (add language (before_title ++ (title ++ (after_title ++ (looks ++ after_head)))) c.put.new.self c.put_value.new.output end c.put_value.ensures.added
    (add before_title (title ++ (after_title ++ (looks ++ after_head))) c.put_value.new.output c.put-2.new.self end c.put-2.ensures
    (add title (after_title ++ (looks ++ after_head)) c.put-2.new.self c.put_text.new.output end c.put_text.ensures.added
    (add after_title (looks ++ after_head) c.put_text.new.output c.put-3.new.self end c.put-3.ensures
    (add looks after_head c.put-3.new.self c.put_looks.new.output end c.put_looks.ensures c.put-4.ensures)))))
