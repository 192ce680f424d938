-- A byte that is no space is passed over.
use Rattle.std.proofs.Common.{ap, ◌∙◌}
use Rattle.screen_text.specs.Recording.{size_of_line}
use Rattle.screen_text.proofs.RecordingLemmas.{passed-over}
use Rattle.screen_text.proofs.recording.size_of_line.Goals as goal

pub rest-preserved : goal.rest-preserved
rest-preserved c =
    c.rest.invariant
    ∙ (ap size_of_line c.in-Some.ensures.cases.0 ∙ passed-over c.in-Some.first.now c.in-Some.further.now c.if-first-eq32.false)
