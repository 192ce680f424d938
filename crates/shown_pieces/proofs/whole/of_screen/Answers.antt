-- A new one writes what its performer writes of what was shown.
use Rattle.shown_pieces.proofs.SaysLemmas.{if-some, shown-text}
use Rattle.shown_pieces.proofs.whole.of_screen.Goals as goal

pub returns-in-Ok : goal.returns-in-Ok
returns-in-Ok g c = λ text says.
    let m = g.met.P in
    if-some _ _ c.of_stream.result (λ written. shown-text m.Resumable.goes_on m.PerformText.follows.none c.new-shown.result c.new-rows.result c.args.performer
    c.args.screen c.new-shown.ensures.rows c.new-rows.ensures.performer c.new-rows.ensures.hand c.new-shown.ensures.screen text says c.args.log.now written.items)
    c.of_stream.ensures
