-- The head, the texts of the sources, and the tail.
use Rattle.std.proofs.Common.{◌++◌, ℕ, List, sym, ◌∙◌, subst}
use Rattle.std.specs.List.{flat_map}
use Rattle.std.specs.Io.KnownBytes.{Appends}
use Rattle.anstyle_parse.specs.Io.Output.{writer_in}
use Rattle.anstyle_parse.proofs.Written.Run.{Adds-no_fault}
use Rattle.anstyle_parse.proofs.Written.Output.{Adds-append, Writes-finish, Causes-finish}
use Rattle.each_source.specs.Each.{Given, WritesEach, stopped_by}
use Rattle.each_source.specs.declared.Stopped.{Stopped}
use Rattle.std.specs.Prelude.{Result}
use Rattle.each_source.proofs.EachLemmas.{AreRead-known, whole_unless_fault, written_whole, clear_or_written, WritesEach-from, WritesEach-stopped, reached_all, whole_unless_stopped}
use Rattle.each_source.proofs.write_each.Goals as goal

pub returns-then-is_err-clause-joined : goal.returns-then-is_err-clause-joined
returns-then-is_err-clause-joined g c =
    let sink = g.W.Sink in
    let d = c.add_each-output.ensures in
    let text : Given → List ℕ = λ given. g.B.Begin.text c.args.begin.now given ++ g.B.Begin.ending c.args.begin.now given in
    let texts = flat_map text d.given in
    let head = c.args.head.now in
    let start = c.new-output.result in
    let first = c.put.new.self in
    let middle = c.add_each-output.result.0 in
    let both = Adds-append sink head texts start first middle c.put.ensures d.added in
    WritesEach-stopped sink g.R.Source text head c.args.tail.now c.args.readers.now c.add_each-output.new.readers c.args.writer c.finish-writer.result.0 first middle
    c.add_each-output.result.1 (sym c.is_err.ensures.value ∙ c.if-is_err.true) d
    (λ none. subst (λ w. Appends (sink.contents w) (sink.contents (writer_in first)) head) c.new-output.ensures.writer
    (whole_unless_fault sink head start first (Adds-no_fault g.row.R.Denot g.row.W.Denot (Unit {0}) g.R.Source sink texts first middle d.added none) c.put.ensures))
    (λ none. subst (λ w. Appends (sink.contents w) (sink.contents c.finish-writer.result.0) (head ++ texts)) c.new-output.ensures.writer
    (written_whole sink (head ++ texts) start middle c.finish-writer.result.0 c.finish-writer.result.1 c.new-output.ensures.no_fault none both c.finish-writer.ensures.finishes))

pub returns-clause-joined : goal.returns-clause-joined
returns-clause-joined g c =
    let R = g.row.R.Denot in
    let W = g.row.W.Denot in
    let sink = g.W.Sink in
    let d = c.add_each-output.ensures in
    let text : Given → List ℕ = λ given. g.B.Begin.text c.args.begin.now given ++ g.B.Begin.ending c.args.begin.now given in
    let texts = flat_map text d.given in
    let head = c.args.head.now in
    let tail = c.args.tail.now in
    let start = c.new-output.result in
    let first = c.put.new.self in
    let middle = c.add_each-output.result.0 in
    let final = c.put-2.new.self in
    let new = c.finish-writer-2.result.0 in
    let answer = c.finish-writer-2.result.1 in
    let none = c.new-output.ensures.no_fault in
    let finishes = c.finish-writer-2.ensures.finishes in
    let added = Adds-append sink head (texts ++ tail) start first final c.put.ensures (Adds-append sink texts tail first middle final d.added c.put-2.ensures) in
    let reached = reached_all c.add_each-output.result.1 _ _ _ (sym c.is_err.ensures.value ∙ c.if-is_err.false) d.reaches in
    let Ran : W → Result (Unit {0}) Stopped → Type 0 = λ w a. WritesEach g.R.Source sink text (head, tail) c.args.readers.now c.add_each-output.new.readers w (new, a) in
    let ran = WritesEach-from sink g.R.Source text head tail c.args.readers.now c.add_each-output.new.readers start.writer new middle final answer d.given
    (Adds-no_fault R W (Unit {0}) g.R.Source sink tail middle final c.put-2.ensures) (AreRead-known g.R.Source c.add_each-output.result.1 c.args.readers.now c.add_each-output.new.readers d.given (sym c.is_err.ensures.value ∙ c.if-is_err.false) (λ none. (whole_unless_stopped c.add_each-output.result.1 (sym c.is_err.ensures.value ∙ c.if-is_err.false), none)) d.are_read) reached
    (clear_or_written sink (head ++ (texts ++ tail)) start final new answer none added finishes)
    (Writes-finish sink (head ++ (texts ++ tail)) start final new answer none added finishes)
    (Causes-finish sink (head ++ (texts ++ tail)) start final new answer none added finishes) in
    subst (λ a. Ran c.args.writer a) (sym c.stopped_by.ensures) (subst (λ w. Ran w (stopped_by answer)) c.new-output.ensures.writer ran)
