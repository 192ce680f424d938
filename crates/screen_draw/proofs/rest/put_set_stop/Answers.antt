-- CHA, and then HTS.
use Rattle.std.proofs.Common.{[], ◌∷◌, ◌+◌}
use Rattle.screen_draw.specs.Draw.{sequence, escape}
use Rattle.screen_draw.proofs.DrawLemmas.{draws-append}
use Rattle.screen_draw.proofs.rest.put_set_stop.Goals as goal

pub returns : goal.returns
returns g c =
    draws-append g.W.Sink (sequence ((c.args.column + 1) ∷ []) 0x47 ∷ []) (escape 0x48 ∷ []) _ _ _
    c.put_number.ensures c.put_escape.ensures
