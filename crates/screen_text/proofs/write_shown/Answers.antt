-- What a new writer writes.
use Rattle.std.proofs.Common.{◌++◌, [], ℕ, List, sym, subst, ap, ◌∙◌}
use Rattle.anstyle_parse.specs.Stream.Call.{Call}
use Rattle.anstyle_parse.specs.Io.Output.{Adds}
use Rattle.anstyle_parse.specs.Io.Run.{RunsToEnding}
use Rattle.anstyle_parse.specs.Io.AddingProof.{Adds-nil}
use Rattle.anstyle_parse.proofs.Written.Run.{Runs-same}
use Rattle.screen_text.specs.Lines.{output_of, is_open, row_text_at, after_row, after_command, closing}
use Rattle.screen_text.specs.Shown.{left_text, ending_text}
use Rattle.screen_text.specs.Writer.{text_from, ending_from}
use Rattle.screen_text.proofs.ShownLemmas.{text_from-new, ending_from-new}
use Rattle.screen_text.proofs.write_shown.Goals as goal

pub returns-clause-runs : goal.returns-clause-runs
returns-clause-runs g c =
    let R = g.row.R.Denot in
    let W = g.row.W.Denot in
    let start = c.new.result in
    let performer = c.new-2.result in
    let screen = c.args.screen in
    let its_text : List Call → List ℕ = λ calls. [] ++ text_from is_open row_text_at after_row after_command performer calls in
    let its_ending : List Call → List ℕ = λ calls. ending_from is_open row_text_at after_row after_command closing performer calls ++ [] in
    let closed = ap is_open c.new-2.ensures.rows ∙ c.new-rows.ensures.closed in
    let output_is = ap output_of c.new-2.ensures.rows ∙ c.new-rows.ensures.output in
    let Ran : W → Type 0 = λ w. RunsToEnding {R = R} {W = W} {T = Unit {0}} g.R.Source g.W.Sink (left_text screen) (ending_text screen)
    c.args.reader.now c.write_calls_by.new.reader w c.write_calls_by.result in
    subst Ran c.new.ensures.writer
    (Runs-same R W (Unit {0}) g.R.Source g.W.Sink its_text its_ending (left_text screen) (ending_text screen)
    c.args.reader.now c.write_calls_by.new.reader start.writer c.write_calls_by.result
    (text_from-new is_open screen performer c.new-2.ensures.screen closed) (ending_from-new is_open screen performer c.new-2.ensures.screen closed)
    (c.write_calls_by.ensures.runs start [] c.new.ensures.no_fault
    (subst (λ output. Adds g.W.Sink [] start output) (sym output_is) (Adds-nil g.W.Sink start))))
