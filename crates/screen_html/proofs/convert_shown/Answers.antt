-- What a new writer writes, and the theorems.
use Rattle.std.proofs.Common.{◌++◌, ℕ, List, sym, subst, ap, ◌∙◌}
use Rattle.anstyle_parse.specs.Stream.Call.{Call}
use Rattle.anstyle_parse.specs.Io.Output.{Adds}
use Rattle.anstyle_parse.specs.Io.Run.{RunsToEnding}
use Rattle.anstyle_parse.proofs.Written.Run.{Runs-same}
use Rattle.screen_text.specs.Writer.{text_from, ending_from}
use Rattle.ansi_html.proofs.WholeLemmas.{says_link}
use Rattle.ansi_html.proofs.ColorLemmas.{AreReadable-css}
use Rattle.screen_html.specs.Shown.{left_html, ending_html}
use Rattle.screen_html.specs.Writer.{output_of, standing_of, row_html, after_row, after_command, closing_html}
use Rattle.screen_html.proofs.PaidBoundLemmas.{length-paid}
use Rattle.screen_html.proofs.ShownLemmas.{left-new, ending-new}
use Rattle.screen_html.proofs.WholeLemmas.{links-shown-html, read-shown, text-shown, drawn-shown, IsFragment-shown, IsUtf8-shown, length-shown}
use Rattle.screen_html.proofs.convert_shown.Goals as goal

pub returns-clause-runs : goal.returns-clause-runs
returns-clause-runs g c =
    let R = g.row.R.Denot in
    let W = g.row.W.Denot in
    let start = c.new-output.result in
    let performer = c.new.result in
    let screen = c.args.screen in
    let styling = c.args.styling in
    let head = c.args.head.now in
    let tail = c.args.tail.now in
    let text : List Call → List ℕ = λ calls. head ++ left_html styling screen calls in
    let ending : List Call → List ℕ = λ calls. ending_html styling screen calls ++ tail in
    let its_text : List Call → List ℕ = λ calls. head ++ text_from standing_of row_html after_row after_command performer calls in
    let its_ending : List Call → List ℕ = λ calls. ending_from standing_of row_html after_row after_command closing_html performer calls ++ tail in
    let new = ap standing_of c.new.ensures.rows ∙ c.new-rows.ensures.new in
    let output_is = ap output_of c.new.ensures.rows ∙ c.new-rows.ensures.output in
    let Ran : W → Type 0 = λ w. RunsToEnding {R = R} {W = W} {T = Unit {0}} g.R.Source g.W.Sink text ending
    c.args.reader.now c.write_calls_by.new.reader w c.write_calls_by.result in
    subst Ran c.new-output.ensures.writer
    (Runs-same R W (Unit {0}) g.R.Source g.W.Sink its_text its_ending text ending
    c.args.reader.now c.write_calls_by.new.reader start.writer c.write_calls_by.result
    (λ calls. ap (λ t. head ++ t) (left-new styling standing_of screen performer c.new.ensures.screen new calls))
    (λ calls. ap (λ t. t ++ tail) (ending-new styling standing_of screen performer c.new.ensures.screen new calls))
    (c.write_calls_by.ensures.runs start head c.new-output.ensures.no_fault
    (subst (λ output. Adds g.W.Sink head start output) (sym output_is) c.put.ensures)))

pub returns-clause-read_back : goal.returns-clause-read_back
returns-clause-read_back g c = read-shown c.args.styling c.args.screen

pub returns-clause-text : goal.returns-clause-text
returns-clause-text g c = text-shown c.args.styling c.args.screen

pub returns-clause-lines : goal.returns-clause-lines
returns-clause-lines g c = drawn-shown c.args.styling

pub returns-clause-contrast : goal.returns-clause-contrast
returns-clause-contrast g c = AreReadable-css

pub returns-clause-links : goal.returns-clause-links
returns-clause-links g c = links-shown-html c.args.styling c.args.screen

pub returns-clause-whole_links : goal.returns-clause-whole_links
returns-clause-whole_links g c = says_link

pub returns-clause-grammar : goal.returns-clause-grammar
returns-clause-grammar g c = IsFragment-shown c.args.styling

pub returns-clause-utf8 : goal.returns-clause-utf8
returns-clause-utf8 g c = IsUtf8-shown c.args.styling

pub returns-clause-bound : goal.returns-clause-bound
returns-clause-bound g c = length-paid c.args.styling c.args.screen

pub returns-clause-text_bound : goal.returns-clause-text_bound
returns-clause-text_bound g c = length-shown c.args.styling c.args.screen
