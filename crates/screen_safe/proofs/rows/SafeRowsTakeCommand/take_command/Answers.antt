-- Nothing is added.
use Rattle.std.proofs.Common.{refl}
use Rattle.anstyle_parse.specs.Io.AddingProof.{Adds-nil}
use Rattle.screen_safe.specs.Writer.{output_of}
use Rattle.screen_safe.proofs.rows.SafeRowsTakeCommand.take_command.Goals as goal

pub returns : goal.returns
returns g c = record { added = Adds-nil g.W.Sink (output_of c.args.self.now); standing = refl }
