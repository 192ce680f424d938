-- A screen that answers, by one call after another.
use Rattle.std.specs.Prelude.{ℕ, Bool, true, List, [], ◌∷◌}
use Rattle.anstyle_parse.specs.Stream.Call.{Call}
use Rattle.ansi_screen.specs.After.{State}
use Rattle.ansi_modes.specs.Asked.{nothing_asked, asked_after}
use Rattle.ansi_answers.specs.declared.color.Theme.{Theme}
use Rattle.ansi_answers.specs.declared.request.Request.TheVariants.{Nothing}
use Rattle.ansi_answers.specs.Waiting.{nothing_waits, with_answer}
use Rattle.ansi_answers.specs.Laws.{answer_to, request_after}
use Rattle.ansi_answers.specs.Sequences.{answer_to_sequence}
use Rattle.ansi_answers.specs.Commands.{answer_to_command}
use Rattle.ansi_answers.specs.Settings.{setting_answer}
use Rattle.screen_html.specs.Links.{Table}
use Rattle.screen_html.specs.Page.{links_by}
use Rattle.screen_answers.specs.declared.answering.Answering.{Answering}
use Rattle.screen_answers.specs.Facts.{facts_of}
use Rattle.screen_answers.specs.Kept.{screen_after}

-- a screen of which nothing was asked yet, and which keeps all rows that leave it
abbrev pub new_answering : State → Table → Theme → Answering
new_answering s links t = record {
  screen = s;
  links = links;
  asked = nothing_asked;
  theme = t;
  request = Nothing;
  waiting = nothing_waits;
  keeps_erased = true;
}

-- a control sequence, a command, and the end of a string are answered
abbrev pub with_sequence : List (List ℕ) → List ℕ → (ignore : Bool) → ℕ → Answering → Answering
with_sequence groups marks ignore final t = record t {
  waiting = with_answer (answer_to_sequence groups marks ignore final (facts_of t.screen) t.asked) t.waiting;
}

abbrev pub with_command : List (List ℕ) → (bell : Bool) → Answering → Answering
with_command parts bell t = record t { waiting = with_answer (answer_to_command parts bell t.asked t.theme) t.waiting }

abbrev pub with_setting : Answering → Answering
with_setting t = record t {
  request = Nothing;
  waiting = with_answer (setting_answer t.request (facts_of t.screen) t.asked) t.waiting;
}

-- its screen after a call
abbrev pub shown_after : Call → Answering → State
shown_after call t = screen_after t.keeps_erased call t.screen

-- After a call. A link that begins is kept by the number then in force; and the call is answered by the screen, and by
-- what is asked for, after it.
abbrev pub answering_after : Call → Answering → Answering
answering_after call t = record {
  screen = shown_after call t;
  links = links_by call (shown_after call t) t.links;
  asked = asked_after call t.asked;
  theme = t.theme;
  request = request_after call t.request;
  waiting = with_answer
      (answer_to call t.request (facts_of (shown_after call t)) (asked_after call t.asked) t.theme) t.waiting;
  keeps_erased = t.keeps_erased;
}

-- after a list of calls
abbrev pub answering_after_all : List Call → Answering → Answering
answering_after_all [] t = t
answering_after_all (call ∷ calls) t = answering_after_all calls (answering_after call t)
