-- They are lawful, and so replayed.
use Rattle.anstyle_parse.proofs.Canonical.Replay.{replay}
use Rattle.screen_draw.specs.Update.{update_calls}
use Rattle.screen_draw.proofs.BoundLemmas.{update-bound}
use Rattle.screen_draw.proofs.DrawLemmas.{drawing-lawful}
use Rattle.screen_draw.proofs.NoResetLemmas.{no-reset}
use Rattle.screen_draw.proofs.UpdatedLemmas.{updated-shows}
use Rattle.screen_draw.proofs.update.Goals as goal

pub put_update-requires : goal.put_update-requires
put_update-requires g c = record { width = c.requires.columns; height = c.requires.rows; noted = λ is. cc is }

pub returns-clause-made : goal.returns-clause-made
returns-clause-made g c =
    let calls = update_calls c.args.shown.now.display c.args.wanted.now.display in
    replay calls (drawing-lawful calls c.put_update.ensures.drawing)

pub returns-clause-lawful : goal.returns-clause-lawful
returns-clause-lawful g c = drawing-lawful (update_calls c.args.shown.now.display c.args.wanted.now.display) c.put_update.ensures.drawing

pub returns-clause-no_reset : goal.returns-clause-no_reset
returns-clause-no_reset g c = no-reset c.args.shown.now.display c.args.wanted.now.display

pub returns-clause-updated : goal.returns-clause-updated
returns-clause-updated g c = λ old new from has to gets is shows.
    updated-shows c.args.shown.now.display c.args.wanted.now.display old new c.put_update.ensures.drawing c.requires.columns c.requires.rows from has to gets is shows

pub returns-clause-bound : goal.returns-clause-bound
returns-clause-bound g c = λ sized. update-bound c.args.shown.now.display c.args.wanted.now.display sized c.put_update.ensures.drawing
