-- The text of a private mode.
use Rattle.std.proofs.Common.{arith, ◌∷◌, [], subst}
use Rattle.anstyle_parse.specs.Io.Output.{Adds}
use Rattle.screen_draw.proofs.DrawLemmas.{draws-private}
use Rattle.screen_draw.proofs.calls.put_private_mode.Goals as goal

pub returns : goal.returns
returns g c =
    draws-private g.W.Sink c.args.mode c.args.on _ _ _ _ (omega arith) c.put.ensures c.put_decimal.ensures
    (subst (λ b. Adds g.W.Sink (b ∷ []) c.put_decimal.new.self c.put_byte.new.self) c.set_or_reset.ensures.byte c.put_byte.ensures)
