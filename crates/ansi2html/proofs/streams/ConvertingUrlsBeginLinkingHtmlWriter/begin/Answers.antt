-- What a new writer writes.
use Rattle.std.proofs.Common.{sym, subst}
use Rattle.ansi_html.specs.Writer.{IsNew}
use Rattle.html_urls.proofs.HtmlLemmas.{text-new, ending-new}
use Rattle.ansi2html.specs.Streams.{urls_said_as}
use Rattle.ansi2html.proofs.streams.ConvertingUrlsBeginLinkingHtmlWriter.begin.Goals as goal

pub returns-clause-text : goal.returns-clause-text
returns-clause-text g c = λ given _.
    let styling = urls_said_as c.args.self.now in
    text-new styling c.new-2.result c.new-2.ensures.standing (subst (IsNew styling) (sym c.new-2.ensures.performer) c.new.ensures.new) given.calls

pub returns-clause-ending : goal.returns-clause-ending
returns-clause-ending g c = λ given _.
    let styling = urls_said_as c.args.self.now in
    ending-new styling c.new-2.result c.new-2.ensures.standing (subst (IsNew styling) (sym c.new-2.ensures.performer) c.new.ensures.new) given.calls
