-- The text is the parser's checkpoint.
use Rattle.std.proofs.Common.{subst}
use Rattle.anstyle_parse.specs.Views.Accumulator.{front_of}
use Rattle.anstyle_parse.specs.Laws.Checkpoint.{checkpoint_text}
use Rattle.anstyle_parse.specs.Io.Output.{Writes, Causes}
use Rattle.anstyle_parse.specs.Views.Parser.{machine_of}
use Rattle.anstyle_parse.specs.Machine.Stands.{seen}
use Rattle.anstyle_parse.proofs.Resume.Whole.{checkpoint_stands, length-checkpoint}
use Rattle.anstyle_parse.proofs.Written.Output.{Writes-finish, Causes-finish}
use Rattle.anstyle_parse.proofs.canon.checkpoints.checkpoint.Goals as goal

pub returns-clause-written : goal.returns-clause-written
returns-clause-written g c =
    let m = seen front_of (machine_of c.args.parser.now) in (
      checkpoint_text m,
      checkpoint_stands c.requires.0 m c.requires.1,
      length-checkpoint c.requires.0 m c.requires.1,
      subst (λ w. Writes (checkpoint_text m) (g.W.Sink.contents w) (g.W.Sink.contents c.finish.result.0) c.finish.result.1) c.new-output.ensures.writer
          (Writes-finish {W = g.row.W.Denot} g.W.Sink (checkpoint_text m) c.new-output.result c.put_checkpoint.new.output c.finish.result.0 c.finish.result.1
          c.new-output.ensures.no_fault c.put_checkpoint.ensures c.finish.ensures.finishes),
    )

pub returns-clause-causes : goal.returns-clause-causes
returns-clause-causes g c =
    let m = seen front_of (machine_of c.args.parser.now) in
    subst (λ w. Causes (g.W.Sink.has_failed w) (g.W.Sink.has_failed c.finish.result.0) c.finish.result.1) c.new-output.ensures.writer
    (Causes-finish {W = g.row.W.Denot} g.W.Sink (checkpoint_text m) c.new-output.result c.put_checkpoint.new.output c.finish.result.0 c.finish.result.1
    c.new-output.ensures.no_fault c.put_checkpoint.ensures c.finish.ensures.finishes)
