use Rattle.anstyle_parse.proofs.Machine.Runs.{KeepsTo-printed}
use Rattle.anstyle_parse.proofs.parser.Parser.take_in_ground.Goals as goal

pub take_run-requires-clause-keeps : goal.take_run-requires-clause-keeps
take_run-requires-clause-keeps g c = KeepsTo-printed c.args.self.now.state c.requires.ground
