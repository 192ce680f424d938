-- The screen has received it.
use Rattle.std.proofs.Common.{refl}
use Rattle.screen_text.proofs.ShownLemmas.{scrolls-shows}
use Rattle.screen_text.proofs.performer.ShownWriterPerform.print.Goals as goal

pub returns : goal.returns
returns g c = scrolls-shows g.R.TakeRow.takes g.R.TakeCommand.takes_command g.R.TakeRow.passes_on _ c.args.self.now (record { scrolling = c.print.new.self }) refl c.print.ensures
