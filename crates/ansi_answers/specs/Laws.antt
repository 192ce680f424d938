-- The answer to a call, whole.
use Rattle.std.specs.Prelude.{◌≡◌, Option, None, List, [], ◌∷◌}
use Rattle.anstyle_parse.specs.Stream.Call.{Call, hook, put, unhook, osc_dispatch, csi_dispatch}
use Rattle.ansi_modes.specs.declared.asked.Asked.{Asked}
use Rattle.ansi_answers.specs.declared.facts.Facts.{Facts}
use Rattle.ansi_answers.specs.declared.color.Theme.{Theme}
use Rattle.ansi_answers.specs.declared.request.Request.{Request}
use Rattle.ansi_answers.specs.declared.request.Request.TheVariants.{Nothing}
use Rattle.ansi_answers.specs.declared.answer.Answer.{Answer}
use Rattle.ansi_answers.specs.Sequences.{answer_to_sequence}
use Rattle.ansi_answers.specs.Settings.{hooked, with_byte, setting_answer}
use Rattle.ansi_answers.specs.Commands.{answer_to_command}

-- by the setting that is being asked for, by the screen, and by what is asked for after the call
abbrev pub answer_to : Call → Request → Facts → Asked → Theme → Option Answer
answer_to (csi_dispatch groups marks ignore final) r f a t = answer_to_sequence groups marks ignore final f a
answer_to (osc_dispatch parts bell) r f a t = answer_to_command parts bell a t
answer_to unhook r f a t = setting_answer r f a
answer_to call r f a t = None

-- the setting that is asked for after a call
abbrev pub request_after : Call → Request → Request
request_after (hook groups marks ignore final) r = hooked marks ignore final
request_after (put byte) r = with_byte byte r
request_after unhook r = Nothing
request_after call r = r

-- and after a list of calls
abbrev pub request_after_all : List Call → Request → Request
request_after_all [] r = r
request_after_all (call ∷ calls) r = request_after_all calls (request_after call r)

-- what an answer can go by is the same of both
pub record HasSameNumbers (a b : Asked) : Type 0 where
  pub modes : a.modes ≡ b.modes
  pub shape : a.shape ≡ b.shape
  pub main_flags : a.main_flags ≡ b.main_flags
  pub alternate_flags : a.alternate_flags ≡ b.alternate_flags
  pub colors : a.colors ≡ b.colors
