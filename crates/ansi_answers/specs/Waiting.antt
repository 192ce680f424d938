-- Answers that were not taken yet.
use Rattle.std.specs.Prelude.{ℕ, Bool, true, false, ◌==◌, Option, None, Some, List, [], ◌∷◌, ◌++◌, length, drop, if◌then◌else◌}
use Rattle.ansi_answers.specs.declared.answer.Answer.{Answer}
use Rattle.ansi_answers.specs.declared.answer.Answer.TheVariants.{AllIsWell}

-- the answers, the oldest first, and whether one was lost
pub record Queue : Type 0 where
  pub answers : List Answer
  pub has_lost : Bool

abbrev pub nothing_waits : Queue
nothing_waits = record { answers = []; has_lost = false }

abbrev pub max_waiting : ℕ
max_waiting = 64

-- where as many wait as can, the oldest is lost
abbrev pub with_answer : Option Answer → Queue → Queue
with_answer None q = q
with_answer (Some answer) q = record {
  answers = (if length q.answers == max_waiting then drop 1 q.answers else q.answers) ++ answer ∷ [];
  has_lost = if length q.answers == max_waiting then true else q.has_lost;
}

abbrev pub first_of : List Answer → Option Answer
first_of [] = None
first_of (answer ∷ answers) = Some answer

abbrev pub first_waiting : Queue → Option Answer
first_waiting q = first_of q.answers

abbrev pub without_first : Queue → Queue
without_first q = record q { answers = drop 1 q.answers }

-- what stands where an answer has left
abbrev pub default_answer : Answer
default_answer = AllIsWell
