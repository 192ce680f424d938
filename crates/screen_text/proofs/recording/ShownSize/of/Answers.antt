-- The size stays, whatever comes after what decides it.
use Rattle.std.proofs.Common.{sym, ap, ◌∙◌}
use Rattle.std.specs.Option.{unwrap_or}
use Rattle.screen_text.specs.Recording.{of_a_log, size_for}
use Rattle.screen_text.proofs.RecordingLemmas.{size-stays}
use Rattle.screen_text.proofs.recording.ShownSize.of.Goals as goal

pub returns-in-Some-clause-stays : goal.returns-in-Some-clause-stays
returns-in-Some-clause-stays c = λ rest enough.
    let front = c.args.front.now in
    size-stays c.args.self front rest enough
    ∙ (ap (λ shown. size_for shown front) c.in-Recorded.is ∙ ap (λ said. unwrap_or said of_a_log) (sym c.in-Some.ensures.said))

pub returns-in-None-clause-stays : goal.returns-in-None-clause-stays
returns-in-None-clause-stays c = λ rest enough.
    let front = c.args.front.now in
    size-stays c.args.self front rest enough
    ∙ (ap (λ shown. size_for shown front) c.in-Recorded.is
    ∙ (ap (λ said. unwrap_or said of_a_log) (sym c.in-None.ensures.said) ∙ sym c.of_a_log.ensures))
