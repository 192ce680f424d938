-- The first line is looked at.
use Rattle.std.proofs.Common.{take, ap, ◌∙◌}
use Rattle.screen_text.specs.Recording.{most_front, first_line, size_of_line}
use Rattle.screen_text.proofs.RecordingLemmas.{take-min}
use Rattle.screen_text.proofs.recording.recorded_size.Goals as goal

pub returns-clause-said : goal.returns-clause-said
returns-clause-said c =
    let front = c.args.front.now in
    c.size_of_line.ensures.said
    ∙ ap size_of_line (c.line_end.ensures.line ∙ ap first_line (ap (λ n. take n front) c.min.ensures ∙ take-min most_front front))
