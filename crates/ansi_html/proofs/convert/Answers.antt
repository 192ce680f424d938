use Rattle.std.proofs.Common.{◌++◌, false, List, ℕ, ap, sym, subst}
use Rattle.ansi_html.proofs.ColorLemmas.{AreReadable-css}
use Rattle.ansi_html.proofs.ReadLemmas.{read-html, text-html}
use Rattle.ansi_html.proofs.DrawnLemmas.{drawn-html}
use Rattle.anstyle_parse.proofs.Lawful.Calls.{lawful}
use Rattle.ansi_strip.proofs.Showable.{AreShowable-lawful}
use Rattle.ansi_html.proofs.GrammarLemmas.{IsFragment-html}
use Rattle.ansi_html.proofs.TextLemmas.{IsUtf8-html}
use Rattle.ansi_html.proofs.ShownLemmas.{AreLinks-html}
use Rattle.ansi_html.proofs.WholeLemmas.{says_link}
use Rattle.ansi_html.proofs.BoundLemmas.{length-html}
use Rattle.anstyle_parse.specs.Stream.Call.{Call}
use Rattle.anstyle_parse.specs.Io.Output.{Adds}
use Rattle.anstyle_parse.specs.Io.Run.{RunsToEnding}
use Rattle.anstyle_parse.proofs.Written.Run.{Runs-same}
use Rattle.ansi_html.specs.Html.{html_text, html_ending}
use Rattle.ansi_html.specs.Writer.{text_from, ending_from}
use Rattle.ansi_html.proofs.WriterLemmas.{text_from-new, ending_from-new}
use Rattle.ansi_html.proofs.convert.Goals as goal

-- what a new writer writes
pub returns-clause-runs : goal.returns-clause-runs
returns-clause-runs g c =
    let R = g.row.R.Denot in
    let W = g.row.W.Denot in
    let styling = c.args.styling in
    let head = c.args.head.now in
    let tail = c.args.tail.now in
    let start = c.new-output.result in
    let performer = c.new.result in
    let is = c.new.ensures.new in
    let text : List Call → List ℕ = λ calls. head ++ html_text styling calls in
    let ending : List Call → List ℕ = λ calls. html_ending calls ++ tail in
    let its_text : List Call → List ℕ = λ calls. head ++ text_from performer calls in
    let its_ending : List Call → List ℕ = λ calls. ending_from performer calls ++ tail in
    let Ran : W → Type 0 = λ w. RunsToEnding {R = R} {W = W} {T = Unit {0}} g.R.Source g.W.Sink text ending
    c.args.reader.now c.write_calls_by.new.reader w c.write_calls_by.result in
    subst Ran c.new-output.ensures.writer
    (Runs-same R W (Unit {0}) g.R.Source g.W.Sink its_text its_ending text ending
    c.args.reader.now c.write_calls_by.new.reader start.writer c.write_calls_by.result
    (λ calls. ap (λ t. head ++ t) (text_from-new styling performer is calls)) (λ calls. ap (λ t. t ++ tail) (ending_from-new styling performer is calls))
    (c.write_calls_by.ensures.runs start head c.new-output.ensures.no_fault
    (subst (λ output. Adds g.W.Sink head start output) (sym c.new.ensures.output) c.put.ensures)))

pub returns-clause-read_back : goal.returns-clause-read_back
returns-clause-read_back g c = read-html c.args.styling

pub returns-clause-text : goal.returns-clause-text
returns-clause-text g c = text-html c.args.styling

pub returns-clause-lines : goal.returns-clause-lines
returns-clause-lines g c = λ bytes calls are. drawn-html c.args.styling calls (AreShowable-lawful false calls (lawful bytes calls are))

pub returns-clause-contrast : goal.returns-clause-contrast
returns-clause-contrast g c = AreReadable-css

pub returns-clause-links : goal.returns-clause-links
returns-clause-links g c = AreLinks-html c.args.styling

pub returns-clause-whole_links : goal.returns-clause-whole_links
returns-clause-whole_links g c = says_link

pub returns-clause-grammar : goal.returns-clause-grammar
returns-clause-grammar g c = λ bytes calls are. IsFragment-html c.args.styling calls (AreShowable-lawful false calls (lawful bytes calls are))

pub returns-clause-utf8 : goal.returns-clause-utf8
returns-clause-utf8 g c = λ bytes calls are. IsUtf8-html c.args.styling calls (AreShowable-lawful false calls (lawful bytes calls are))

pub returns-clause-bound : goal.returns-clause-bound
returns-clause-bound g c = length-html c.args.styling
