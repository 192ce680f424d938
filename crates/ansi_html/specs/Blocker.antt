-- What a writer of HTML in blocks shows, and what a call does to it.
use Rattle.std.specs.Prelude.{◌≡◌, ℕ, Bool, List}
use Rattle.anstyle_parse.specs.declared.io.devices.Sink.{Ghosts as SinkOf}
use Rattle.anstyle_parse.specs.declared.io.output.Output.{Output}
use Rattle.anstyle_parse.specs.Stream.Call.{Call}
use Rattle.anstyle_parse.specs.Io.Output.{Adds}
use Rattle.ansi_html.specs.declared.scheme.Styling.{Styling}
use Rattle.ansi_html.specs.declared.blocks.BlocksWriter.{BlocksWriter}
use Rattle.ansi_html.specs.Blocks.{Blocked, blocked, blocked_at_start, blocked_call, blocked_after, blocked_from, blocked_at_end, blocked_end}
use Rattle.ansi_html.specs.Inside as inside

-- the output that it writes to; how it says a style; whether it writes numbered lines; where it stands
abbrev pub output_of : {W : Type 0} → BlocksWriter W → Output W
output_of performer = inside.output_of performer.inside

abbrev pub styling_of : {W : Type 0} → BlocksWriter W → Styling
styling_of performer = inside.styling_of performer.inside

abbrev pub numbered_of : {W : Type 0} → BlocksWriter W → Bool
numbered_of performer = inside.numbered_of performer.inside

abbrev pub blocked_of : {W : Type 0} → BlocksWriter W → Blocked
blocked_of performer = blocked (inside.lined_of performer.inside) performer.left

-- at the start, in this styling, with numbers or without
pub record IsNew {W : Type 0} (wanted : Styling) (has_numbers : Bool) (performer : BlocksWriter W) : Type 0 where
  pub numbered : numbered_of performer ≡ has_numbers
  pub styling : styling_of performer ≡ wanted
  pub standing : blocked_of performer ≡ blocked_at_start

-- what it writes by a list of calls, as it stands; and what ends the elements that are then open
abbrev pub text_from : {W : Type 0} → BlocksWriter W → List Call → List ℕ
text_from performer calls = blocked_from (numbered_of performer) (styling_of performer) (blocked_of performer) calls

abbrev pub ending_from : {W : Type 0} → BlocksWriter W → List Call → List ℕ
ending_from performer calls =
    blocked_end (numbered_of performer) (blocked_at_end (numbered_of performer) (blocked_of performer) calls)

-- A call selects a style or a link, or its text is written.
pub record TakesCall {W : Type 0} (sink : SinkOf W)
    (old : BlocksWriter W) (call : Call) (new : BlocksWriter W) : Type 0 where
  pub numbered : numbered_of new ≡ numbered_of old
  pub styling : styling_of new ≡ styling_of old
  pub standing : blocked_of new ≡ blocked_after (numbered_of old) call (blocked_of old)
  pub added : Adds sink (blocked_call (numbered_of old) (styling_of old) (blocked_of old) call)
      (output_of old) (output_of new)

-- The calls, one after another.
pub record TakesCalls {W : Type 0} (sink : SinkOf W)
    (old : BlocksWriter W) (calls : List Call) (new : BlocksWriter W) : Type 0 where
  pub numbered : numbered_of new ≡ numbered_of old
  pub styling : styling_of new ≡ styling_of old
  pub standing : blocked_of new ≡ blocked_at_end (numbered_of old) (blocked_of old) calls
  pub added : Adds sink (text_from old calls) (output_of old) (output_of new)
