-- Where it goes on, the bytes have come.
use Rattle.std.proofs.Common.{refl, sym, ◌∙◌}
use Rattle.shown_pieces.proofs.LogLemmas.{fed-by}
use Rattle.shown_pieces.proofs.log.ShownLog.feed.Goals as goal

pub returns-clause-fed : goal.returns-clause-fed
returns-clause-fed c =
    fed-by _ c.args.piece.now c.args.self.now (record c.args.self.now { stage = c.fed.result; can_be = c.self-1.given.0 }) c.replace-stage.result c.is_over-2.result
    c.replace-stage.ensures.value (refl, refl) (λ going. c.fed.ensures.come (sym c.is_over-2.ensures ∙ going)) refl refl
