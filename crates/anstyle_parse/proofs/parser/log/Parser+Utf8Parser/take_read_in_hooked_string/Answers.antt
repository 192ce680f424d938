use Rattle.std.proofs.Common.{[], ◌∷◌, ap, sym, ◌∙◌}
use Rattle.anstyle_parse.proofs.Machine.AsReadTo.{read_one-hooked, LeadsAsReadTo-other}
use Rattle.anstyle_parse.proofs.Machine.Runs.{KeepsTo-hooked}
use Rattle.anstyle_parse.proofs.parser.log.Parser+Utf8Parser.take_read_in_hooked_string.Goals as goal

pub returns-then-not-has-clause-leads : goal.returns-then-not-has-clause-leads
returns-then-not-has-clause-leads g c =
    LeadsAsReadTo-other g.P.Perform.means g.P.PerformText.receives g.met.P.PerformText.follows c.args.self.now c.step_after_puts.new.self c.args.performer.now c.step_after_puts.new.performer
    c.args.first c.heard.result c.args.behind.now (read_one-hooked c.args.self.now c.args.first c.requires ∙ ap (λ n. n ∷ []) (sym c.heard.ensures))
    c.step_after_puts.ensures.machine c.step_after_puts.ensures.calls

pub take_whole_read_run-requires-clause-keeps : goal.take_whole_read_run-requires-clause-keeps
take_whole_read_run-requires-clause-keeps g c = KeepsTo-hooked c.args.self.now.state c.requires

pub take_whole_read_run-requires-clause-first : goal.take_whole_read_run-requires-clause-first
take_whole_read_run-requires-clause-first g c = sym c.has.ensures ∙ c.if-not-has.false
