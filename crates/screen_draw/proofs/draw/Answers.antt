-- They are lawful, and so replayed.
use Rattle.anstyle_parse.proofs.Canonical.Replay.{replay}
use Rattle.std.proofs.Common.{ap, refl, ◌∙◌}
use Rattle.anstyle_parse.specs.Stream.Canon.{canon}
use Rattle.ansi_screen.specs.After.{after_all}
use Rattle.ansi_screen.specs.Leaving.{unkept}
use Rattle.ansi_screen.proofs.LawLemmas.{Shows-only}
use Rattle.screen_draw.specs.Draw.{drawn_calls}
use Rattle.screen_draw.proofs.AnywhereLemmas.{drawn-anywhere}
use Rattle.screen_draw.proofs.RedrawnLemmas.{redrawn-is}
use Rattle.screen_draw.proofs.BoundLemmas.{drawn-bound}
use Rattle.screen_draw.proofs.DrawLemmas.{drawing-lawful}
use Rattle.screen_draw.proofs.draw.Goals as goal

pub returns-clause-made : goal.returns-clause-made
returns-clause-made g c = replay (drawn_calls c.args.screen.now.display) (drawing-lawful (drawn_calls c.args.screen.now.display) c.put_all.ensures.drawing)

pub returns-clause-lawful : goal.returns-clause-lawful
returns-clause-lawful g c = drawing-lawful (drawn_calls c.args.screen.now.display) c.put_all.ensures.drawing

pub returns-clause-redrawn : goal.returns-clause-redrawn
returns-clause-redrawn g c = λ old new is holds width height shows.
    let d = c.args.screen.now.display in
    ap unkept
    (Shows-only (canon (drawn_calls d)) old new (after_all (drawn_calls d) old) shows
    (drawn_calls d, replay (drawn_calls d) (drawing-lawful (drawn_calls d) c.put_all.ensures.drawing), refl))
    ∙ redrawn-is d old is holds width height

pub returns-clause-anywhere : goal.returns-clause-anywhere
returns-clause-anywhere g c = λ before old new is holds old_is width height shows.
    let d = c.args.screen.now.display in
    drawn-anywhere d before old new (replay (drawn_calls d) (drawing-lawful (drawn_calls d) c.put_all.ensures.drawing)) is holds old_is width height shows

pub returns-clause-bound : goal.returns-clause-bound
returns-clause-bound g c = drawn-bound c.args.screen.now.display c.put_all.ensures.drawing
