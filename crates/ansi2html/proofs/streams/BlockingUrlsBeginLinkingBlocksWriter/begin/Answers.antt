-- What a new writer writes.
use Rattle.std.proofs.Common.{sym, subst}
use Rattle.ansi_html.specs.Blocker.{IsNew}
use Rattle.html_urls.proofs.HtmlLemmas.{blocked_text-new, blocked_ending-new}
use Rattle.ansi2html.specs.Streams.{urls_blocked_as, urls_have_numbers}
use Rattle.ansi2html.proofs.streams.BlockingUrlsBeginLinkingBlocksWriter.begin.Goals as goal

pub returns-clause-text : goal.returns-clause-text
returns-clause-text g c = λ given _.
    let styling = urls_blocked_as c.args.self.now in
    let numbered = urls_have_numbers c.args.self.now in
    blocked_text-new styling numbered c.new.result c.new.ensures.standing
    (subst (IsNew styling numbered) (sym c.new.ensures.performer) c.new-blocks.ensures.new) given.calls

pub returns-clause-ending : goal.returns-clause-ending
returns-clause-ending g c = λ given _.
    let styling = urls_blocked_as c.args.self.now in
    let numbered = urls_have_numbers c.args.self.now in
    blocked_ending-new styling numbered c.new.result c.new.ensures.standing
    (subst (IsNew styling numbered) (sym c.new.ensures.performer) c.new-blocks.ensures.new) given.calls
