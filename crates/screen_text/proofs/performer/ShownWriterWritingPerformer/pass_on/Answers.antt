-- No row has left.
use Rattle.screen_text.proofs.ShownLemmas.{shows-passed}
use Rattle.screen_text.proofs.performer.ShownWriterWritingPerformer.pass_on.Goals as goal

pub returns : goal.returns
returns g c =
    shows-passed g.R.TakeRow.takes g.R.TakeCommand.takes_command g.R.TakeRow.passes_on c.args.self.now (record { scrolling = c.pass_on.new.self })
    c.pass_on.ensures.screen c.pass_on.ensures.taker
