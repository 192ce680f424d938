-- The answers so far are put.
use Rattle.std.proofs.Common.{◌≡◌, List, ◌++◌, length}
use Rattle.std.specs.List.{flat_map}
use Rattle.ansi_answers.specs.declared.answer.Answer.{Answer}
use Rattle.ansi_answers.specs.Text.{answer_text}
use Rattle.screen_pieces.specs.Text.{Puts}
use Rattle.screen_pieces.proofs.text.TextWriter.put_answers.Given as goal

abbrev pub invariant-rest : goal.invariant-rest
invariant-rest l = (passed : List Answer) × (l.answers ≡ passed ++ l.rest) × Puts (flat_map answer_text passed) l.initial.self l.self

abbrev pub decreases-rest : goal.decreases-rest
decreases-rest l = length l.rest
