-- Where it has ended, all that came is shown.
use Rattle.std.proofs.Common.{refl, sym, ◌∙◌}
use Rattle.shown_pieces.proofs.LogLemmas.{ended-by}
use Rattle.shown_pieces.proofs.log.ShownLog.end.Goals as goal

pub returns-clause-ended : goal.returns-clause-ended
returns-clause-ended c =
    ended-by _ c.args.self.now (record c.args.self.now { stage = c.at_end.result; can_be = c.self-1.given.0 }) c.replace-stage.result c.has_text.result
    c.replace-stage.ensures.value (refl, refl) c.at_end.ensures.ended (λ has. c.at_end.ensures.shown (sym c.has_text.ensures ∙ has))
