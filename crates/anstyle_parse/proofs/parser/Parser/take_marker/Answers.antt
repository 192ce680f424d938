use Rattle.std.proofs.Common.{◌∙◌, sym}
use Rattle.anstyle_parse.proofs.Machine.Runs.{change_at-marker, Takes-byte}
use Rattle.anstyle_parse.proofs.parser.Parser.take_marker.Goals as goal

pub step_by_answer-requires-clause-known : goal.step_by_answer-requires-clause-known
step_by_answer-requires-clause-known g c =
    change_at-marker c.args.self.now.state c.args.first c.in-CsiEntry.is (sym c.is_marker.ensures ∙ c.if-is_marker.true)

pub returns-in-CsiEntry : goal.returns-in-CsiEntry
returns-in-CsiEntry g c =
    Takes-byte g.C.CharAccumulator.takes g.C.CharAccumulator.taken g.P.Perform.means c.args.self.now c.step_by_answer.new.self c.args.performer.now c.step_by_answer.new.performer
    c.args.first c.args.behind.now c.requires.can c.step_by_answer.ensures

pub returns-in_default : goal.returns-in_default
returns-in_default g c =
    Takes-byte g.C.CharAccumulator.takes g.C.CharAccumulator.taken g.P.Perform.means c.args.self.now c.step_in_header.new.self c.args.performer.now c.step_in_header.new.performer
    c.args.first c.args.behind.now c.requires.can c.step_in_header.ensures
