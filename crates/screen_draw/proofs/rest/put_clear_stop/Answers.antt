-- CHA, and then TBC.
use Rattle.std.proofs.Common.{[], ◌∷◌, ◌+◌}
use Rattle.screen_draw.specs.Draw.{sequence}
use Rattle.screen_draw.proofs.DrawLemmas.{draws-append}
use Rattle.screen_draw.proofs.rest.put_clear_stop.Goals as goal

pub returns : goal.returns
returns g c =
    draws-append g.W.Sink (sequence ((c.args.column + 1) ∷ []) 0x47 ∷ []) (sequence (0 ∷ []) 0x67 ∷ []) _ _ _
    c.put_number.ensures c.put_number-2.ensures
