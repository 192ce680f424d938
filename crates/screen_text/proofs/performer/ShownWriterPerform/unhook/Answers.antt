-- The screen has received it.
use Rattle.std.proofs.Common.{refl}
use Rattle.screen_text.proofs.ShownLemmas.{scrolls-shows}
use Rattle.screen_text.proofs.performer.ShownWriterPerform.unhook.Goals as goal

pub returns : goal.returns
returns g c = scrolls-shows g.R.TakeRow.takes g.R.TakeCommand.takes_command g.R.TakeRow.passes_on _ c.args.self.now (record { scrolling = c.unhook.new.self }) refl c.unhook.ensures
