-- What a new writer writes.
use Rattle.std.proofs.Common.{◌++◌, [], ℕ, List, sym, subst, ap, ◌∙◌, append-nil}
use Rattle.anstyle_parse.specs.Stream.Call.{Call}
use Rattle.anstyle_parse.specs.Io.Output.{Adds}
use Rattle.anstyle_parse.specs.Io.Run.{RunsToEnding}
use Rattle.anstyle_parse.specs.Io.AddingProof.{Adds-nil}
use Rattle.anstyle_parse.proofs.Written.Run.{Runs-same}
use Rattle.screen_text.specs.Writer.{text_from, ending_from}
use Rattle.screen_safe.specs.Shown.{safe_left, safe_ending}
use Rattle.screen_safe.specs.Writer.{output_of, standing_of, row_safe, after_row, after_command, closing_safe}
use Rattle.screen_safe.proofs.RowLemmas.{left-new, ending-new}
use Rattle.screen_safe.proofs.write_safe_shown.Goals as goal

pub returns-clause-runs : goal.returns-clause-runs
returns-clause-runs g c =
    let R = g.row.R.Denot in
    let W = g.row.W.Denot in
    let start = c.new.result in
    let performer = c.new-2.result in
    let screen = c.args.screen in
    let its_text : List Call → List ℕ = λ calls. [] ++ text_from standing_of row_safe after_row after_command performer calls in
    let its_ending : List Call → List ℕ = λ calls. ending_from standing_of row_safe after_row after_command closing_safe performer calls ++ [] in
    let new = ap standing_of c.new-2.ensures.rows ∙ c.new-rows.ensures.new in
    let output_is = ap output_of c.new-2.ensures.rows ∙ c.new-rows.ensures.output in
    let Ran : W → Type 0 = λ w. RunsToEnding {R = R} {W = W} {T = Unit {0}} g.R.Source g.W.Sink (safe_left screen) (safe_ending screen)
    c.args.reader.now c.write_calls_by.new.reader w c.write_calls_by.result in
    subst Ran c.new.ensures.writer
    (Runs-same R W (Unit {0}) g.R.Source g.W.Sink its_text its_ending (safe_left screen) (safe_ending screen)
    c.args.reader.now c.write_calls_by.new.reader start.writer c.write_calls_by.result
    (left-new standing_of screen performer c.new-2.ensures.screen new)
    (λ calls. append-nil (ending_from standing_of row_safe after_row after_command closing_safe performer calls)
    ∙ ending-new standing_of screen performer c.new-2.ensures.screen new calls)
    (c.write_calls_by.ensures.runs start [] c.new.ensures.no_fault
    (subst (λ output. Adds g.W.Sink [] start output) (sym output_is) (Adds-nil g.W.Sink start))))
