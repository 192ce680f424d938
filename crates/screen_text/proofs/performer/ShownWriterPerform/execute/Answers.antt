-- The screen has received it, and before a line feed a carriage return.
use Rattle.std.proofs.Common.{subst}
use Rattle.anstyle_parse.specs.Stream.Call.{execute}
use Rattle.ansi_screen.specs.Leaving.{Scrolls}
use Rattle.screen_text.specs.declared.performer.ShownWriter.{ShownWriter}
use Rattle.screen_text.proofs.ShownLemmas.{shows-feed, shows-control}
use Rattle.screen_text.proofs.performer.ShownWriterPerform.execute.Goals as goal
use Rattle.screen_text.proofs.performer.ShownWriterPerform.execute.Goals.{then-byte-eq10, else-byte-eq10}

pub returns : goal.returns
returns g c =
    let new : ShownWriter g.row.R.Denot = record { scrolling = c.execute-2.new.self } in
    let Received : ShownWriter g.row.R.Denot → Type 0 = λ before. Scrolls g.R.TakeRow.takes before.scrolling (execute c.args.byte) new.scrolling in
    elim c.if-byte-eq10.branch [
      | then-byte-eq10 w ↦
          shows-feed g.R.TakeRow.takes g.R.TakeCommand.takes_command g.R.TakeRow.passes_on c.args.byte c.args.self.now (record { scrolling = w.execute.new.self }) new
          w.if-byte-eq10.true w.execute.ensures (subst Received w.self-is c.execute-2.ensures)
      | else-byte-eq10 w ↦
          shows-control g.R.TakeRow.takes g.R.TakeCommand.takes_command g.R.TakeRow.passes_on c.args.byte c.args.self.now new w.if-byte-eq10.false (subst Received w.self-is c.execute-2.ensures)
    ]
