use Rattle.std.proofs.Common.{refl}
use Rattle.anstyle_parse.specs.declared.state.definitions.State.TheVariants.{Escape}
use Rattle.anstyle_parse.proofs.Machine.AsReadTo.{read_one-in, LeadsAsReadTo-byte}
use Rattle.anstyle_parse.proofs.parser.log.Parser+Utf8Parser.take_read_after_escape.Goals as goal

pub returns-clause-leads : goal.returns-clause-leads
returns-clause-leads g c =
    LeadsAsReadTo-byte g.P.Perform.means g.P.PerformText.receives g.met.P.PerformText.follows c.args.self.now c.step_after_escape.new.self c.args.performer.now c.step_after_escape.new.performer
    c.args.first c.args.behind.now (read_one-in c.args.self.now Escape c.args.first c.requires refl refl refl) c.step_after_escape.ensures.machine c.step_after_escape.ensures.calls
