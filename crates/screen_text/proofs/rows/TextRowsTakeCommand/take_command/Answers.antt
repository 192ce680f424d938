-- Nothing is added.
use Rattle.std.proofs.Common.{refl}
use Rattle.anstyle_parse.specs.Io.AddingProof.{Adds-nil}
use Rattle.screen_text.proofs.rows.TextRowsTakeCommand.take_command.Goals as goal

pub returns : goal.returns
returns g c = record { added = Adds-nil g.W.Sink c.args.self.now.output; standing = refl }
