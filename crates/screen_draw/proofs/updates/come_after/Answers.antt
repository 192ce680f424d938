-- What is copied, and what the piece leads to, look alike.
use Rattle.screen_draw.proofs.UpdatesLemmas.{comes-too, comes-copied}
use Rattle.screen_draw.proofs.updates.come_after.Goals as goal

pub returns-in-Ok-clause-screen : goal.returns-in-Ok-clause-screen
returns-in-Ok-clause-screen c = λ first last next before stands shows same more looks.
    comes-copied next c.args.wanted.now c.args.shown.now c.catch_up.new.self looks c.catch_up.ensures

pub returns-clause-screen : goal.returns-clause-screen
returns-clause-screen c = λ first last next before stands shows same more looks.
    comes-too first last next c.args.shown.now c.advance_texts.new.performer before c.args.piece.now _ shows
    (c.advance_texts.ensures.stream before stands) same c.advance_texts.ensures.calls more
