-- What a new writer writes.
use Rattle.std.proofs.Common.{sym, subst}
use Rattle.ansi_html.specs.Liner.{IsNew}
use Rattle.html_urls.proofs.HtmlLemmas.{lined_text-new, lined_ending-new}
use Rattle.ansi2html.specs.Streams.{urls_lined_as}
use Rattle.ansi2html.proofs.streams.LiningUrlsBeginLinkingLinesWriter.begin.Goals as goal

pub returns-clause-text : goal.returns-clause-text
returns-clause-text g c = λ given _.
    let styling = urls_lined_as c.args.self.now in
    lined_text-new styling c.new-2.result c.new-2.ensures.standing (subst (IsNew styling) (sym c.new-2.ensures.performer) c.new.ensures.new) given.calls

pub returns-clause-ending : goal.returns-clause-ending
returns-clause-ending g c = λ given _.
    let styling = urls_lined_as c.args.self.now in
    lined_ending-new styling c.new-2.result c.new-2.ensures.standing (subst (IsNew styling) (sym c.new-2.ensures.performer) c.new.ensures.new) given.calls
