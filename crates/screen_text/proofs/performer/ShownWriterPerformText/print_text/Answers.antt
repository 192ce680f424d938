-- The screen has received it.
use Rattle.std.specs.Str.{chars}
use Rattle.screen_text.proofs.ShownLemmas.{text-shows}
use Rattle.screen_text.proofs.performer.ShownWriterPerformText.print_text.Goals as goal

pub returns : goal.returns
returns g c = text-shows g.R.TakeRow.takes g.R.TakeCommand.takes_command g.R.TakeRow.passes_on (chars c.args.text.now) c.args.self.now (record { scrolling = c.print_text.new.self }) c.print_text.ensures
