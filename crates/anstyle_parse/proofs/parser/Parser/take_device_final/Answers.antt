use Rattle.std.proofs.Common.{◌∙◌, sym}
use Rattle.anstyle_parse.proofs.Machine.Runs.{change_at-device_final, Takes-byte}
use Rattle.anstyle_parse.proofs.parser.Parser.take_device_final.Goals as goal

pub step_by_answer-requires-clause-known : goal.step_by_answer-requires-clause-known
step_by_answer-requires-clause-known g c =
    change_at-device_final c.args.self.now.state c.args.first c.requires.entry (sym c.is_final_byte.ensures ∙ c.if-is_final_byte.true)

pub returns-then-is_final_byte : goal.returns-then-is_final_byte
returns-then-is_final_byte g c =
    Takes-byte g.C.CharAccumulator.takes g.C.CharAccumulator.taken g.P.Perform.means c.args.self.now c.step_by_answer.new.self c.args.performer.now c.step_by_answer.new.performer
    c.args.first c.args.behind.now c.requires.can c.step_by_answer.ensures
