-- What the front says the whole stream says.
use Rattle.std.proofs.Common.{◌++◌, sym, ap, ◌∙◌}
use Rattle.screen_text.proofs.RecordingLemmas.{recorded-stays, given-stays}
use Rattle.screen_text.proofs.recording.recorded.Goals as goal

pub returns-in-None-clause-size : goal.returns-in-None-clause-size
returns-in-None-clause-size c = λ rest enough. recorded-stays c.args.front.now rest enough ∙ (sym c.recorded_size.ensures.said ∙ c.in-None.is)

pub returns-in-None-clause-given : goal.returns-in-None-clause-given
returns-in-None-clause-given c = λ rest enough. given-stays c.args.front.now rest _ (sym c.recorded_size.ensures.said ∙ c.in-None.is) enough

pub returns-in-Some-clause-size : goal.returns-in-Some-clause-size
returns-in-Some-clause-size c = λ rest enough. recorded-stays c.args.front.now rest enough ∙ (sym c.recorded_size.ensures.said ∙ c.in-Some.is)

pub returns-in-Some-clause-given : goal.returns-in-Some-clause-given
returns-in-Some-clause-given c = λ rest enough.
    given-stays c.args.front.now rest _ (sym c.recorded_size.ensures.said ∙ c.in-Some.is) enough ∙ ap (λ l. l ++ rest) (sym c.after_line.ensures)
