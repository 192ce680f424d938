-- The screen has received it, and what takes the rows is told of it.
use Rattle.screen_text.proofs.ShownLemmas.{tells-shows}
use Rattle.screen_text.proofs.performer.ShownWriterPerform.osc_dispatch.Goals as goal

pub returns : goal.returns
returns g c =
    tells-shows g.R.TakeRow.takes g.R.TakeCommand.takes_command g.R.TakeRow.passes_on _ c.args.bell_terminated c.args.self.now
    (record { scrolling = c.osc_dispatch.new.self }) (record { scrolling = c.tell.new.self }) c.osc_dispatch.ensures c.tell.ensures.screen c.tell.ensures.taker
