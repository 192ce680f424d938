use Rattle.anstyle_parse.proofs.Written.Output.{Adds-append}
use Rattle.parselog.specs.Log.{output_of}
use Rattle.parselog.proofs.log.LogWriterPerform.execute.Goals as goal

pub returns : goal.returns
returns g c =
    Adds-append g.W.Sink _ _ (output_of c.args.self.now) c.put.new.self c.put_last_byte.new.output c.put.ensures c.put_last_byte.ensures
