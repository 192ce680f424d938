use Rattle.std.proofs.Common.{◌++◌, false, List, ℕ, ap, sym, subst}
use Rattle.anstyle_parse.proofs.Lawful.Calls.{lawful}
use Rattle.anstyle_parse.specs.Stream.Call.{Call}
use Rattle.anstyle_parse.specs.Io.Output.{Adds}
use Rattle.anstyle_parse.specs.Io.Run.{RunsToEnding}
use Rattle.anstyle_parse.proofs.Written.Run.{Runs-same}
use Rattle.ansi_strip.proofs.Showable.{AreShowable-lawful}
use Rattle.ansi_html.specs.Lines.{lined_text, lined_ending}
use Rattle.ansi_html.specs.Liner.{text_from, ending_from}
use Rattle.ansi_html.proofs.AffordableLemmas.{same-affordable}
use Rattle.ansi_html.proofs.WriterLemmas.{lined_text_from-new, lined_ending_from-new}
use Rattle.ansi_html.proofs.LineLemmas.{seen-lined_html, read-lined_html, text-lined_html, IsUtf8-lined_html}
use Rattle.ansi_html.proofs.NumberLemmas.{AreLines-html}
use Rattle.ansi_html.proofs.LineBoundLemmas.{length-lined_html}
use Rattle.ansi_html.proofs.convert_lines.Goals as goal

-- what a new writer writes
pub returns-clause-runs : goal.returns-clause-runs
returns-clause-runs g c =
    let R = g.row.R.Denot in
    let W = g.row.W.Denot in
    let styling = c.args.styling in
    let head = c.args.head.now in
    let tail = c.args.tail.now in
    let start = c.new-output.result in
    let performer = c.new.result in
    let is = c.new.ensures.new in
    let text : List Call → List ℕ = λ calls. head ++ lined_text styling calls in
    let ending : List Call → List ℕ = λ calls. lined_ending calls ++ tail in
    let its_text : List Call → List ℕ = λ calls. head ++ text_from performer calls in
    let its_ending : List Call → List ℕ = λ calls. ending_from performer calls ++ tail in
    let Ran : W → Type 0 = λ w. RunsToEnding {R = R} {W = W} {T = Unit {0}} g.R.Source g.W.Sink text ending
    c.args.reader.now c.write_calls_by.new.reader w c.write_calls_by.result in
    subst Ran c.new-output.ensures.writer
    (Runs-same R W (Unit {0}) g.R.Source g.W.Sink its_text its_ending text ending
    c.args.reader.now c.write_calls_by.new.reader start.writer c.write_calls_by.result
    (λ calls. ap (λ t. head ++ t) (lined_text_from-new styling performer is calls)) (λ calls. ap (λ t. t ++ tail) (lined_ending_from-new styling performer is calls))
    (c.write_calls_by.ensures.runs start head c.new-output.ensures.no_fault
    (subst (λ output. Adds g.W.Sink head start output) (sym c.new.ensures.output) c.put.ensures)))

pub returns-clause-same : goal.returns-clause-same
returns-clause-same g c = seen-lined_html c.args.styling

pub returns-clause-short_links : goal.returns-clause-short_links
returns-clause-short_links g c = same-affordable

pub returns-clause-read_back : goal.returns-clause-read_back
returns-clause-read_back g c = read-lined_html c.args.styling

pub returns-clause-text : goal.returns-clause-text
returns-clause-text g c = text-lined_html c.args.styling

pub returns-clause-numbered : goal.returns-clause-numbered
returns-clause-numbered g c = λ bytes calls are. AreLines-html c.args.styling calls (AreShowable-lawful false calls (lawful bytes calls are))

pub returns-clause-utf8 : goal.returns-clause-utf8
returns-clause-utf8 g c = λ bytes calls are. IsUtf8-lined_html c.args.styling calls (AreShowable-lawful false calls (lawful bytes calls are))

pub returns-clause-bound : goal.returns-clause-bound
returns-clause-bound g c = length-lined_html c.args.styling
