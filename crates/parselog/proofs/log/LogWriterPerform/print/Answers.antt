use Rattle.anstyle_parse.proofs.Written.Output.{Adds-append}
use Rattle.parselog.specs.Log.{output_of}
use Rattle.parselog.proofs.log.LogWriterPerform.print.Goals as goal

pub returns : goal.returns
returns g c =
    Adds-append g.W.Sink _ _ (output_of c.args.self.now) c.put.new.self c.put_number.new.output c.put.ensures c.put_number.ensures
