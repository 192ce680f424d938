-- What the writer of text or of numbered lines inside of blocks shows, and what calls do to it.
use Rattle.std.specs.Prelude.{◌≡◌, ℕ, Bool, List, [], ◌∷◌, ◌++◌}
use Rattle.anstyle_parse.specs.declared.io.devices.Sink.{Ghosts as SinkOf}
use Rattle.anstyle_parse.specs.declared.io.output.Output.{Output}
use Rattle.anstyle_parse.specs.Stream.Call.{Call}
use Rattle.anstyle_parse.specs.Io.Output.{Adds}
use Rattle.ansi_html.specs.declared.scheme.Styling.{Styling}
use Rattle.ansi_html.specs.declared.inside.Inside.{Inside}
use Rattle.ansi_html.specs.Lines.{Lined, lined_at_start}
use Rattle.ansi_html.specs.Blocks.{inside_call, inside_after}
use Rattle.ansi_html.specs.Liner as liner

-- the output that it writes to; how it says a style; whether it writes numbered lines; where it stands
abbrev pub output_of : {W : Type 0} → Inside W → Output W
output_of inside = liner.output_of inside.lines

abbrev pub styling_of : {W : Type 0} → Inside W → Styling
styling_of inside = liner.styling_of inside.lines

abbrev pub numbered_of : {W : Type 0} → Inside W → Bool
numbered_of inside = inside.has_numbers

abbrev pub lined_of : {W : Type 0} → Inside W → Lined
lined_of inside = liner.lined_of inside.lines

-- at the start, in this styling, with numbers or without
pub record IsNew {W : Type 0} (wanted : Styling) (has_numbers : Bool) (inside : Inside W) : Type 0 where
  pub numbered : numbered_of inside ≡ has_numbers
  pub styling : styling_of inside ≡ wanted
  pub standing : lined_of inside ≡ lined_at_start

-- calls, one after another: what they write, and where they lead
abbrev pub inside_from : (numbered : Bool) → Styling → Lined → List Call → List ℕ
inside_from numbered styling it [] = []
inside_from numbered styling it (call ∷ calls) =
    inside_call numbered styling it call ++ inside_from numbered styling (inside_after numbered call it) calls

abbrev pub inside_at_end : (numbered : Bool) → Lined → List Call → Lined
inside_at_end numbered it [] = it
inside_at_end numbered it (call ∷ calls) = inside_at_end numbered (inside_after numbered call it) calls

-- A call selects a style or a link, or its text is written.
pub record TakesCall {W : Type 0} (sink : SinkOf W) (old : Inside W) (call : Call) (new : Inside W) : Type 0 where
  pub numbered : numbered_of new ≡ numbered_of old
  pub styling : styling_of new ≡ styling_of old
  pub standing : lined_of new ≡ inside_after (numbered_of old) call (lined_of old)
  pub added : Adds sink (inside_call (numbered_of old) (styling_of old) (lined_of old) call)
      (output_of old) (output_of new)

-- The calls, one after another.
pub record TakesCalls {W : Type 0} (sink : SinkOf W)
    (old : Inside W) (calls : List Call) (new : Inside W) : Type 0 where
  pub numbered : numbered_of new ≡ numbered_of old
  pub styling : styling_of new ≡ styling_of old
  pub standing : lined_of new ≡ inside_at_end (numbered_of old) (lined_of old) calls
  pub added : Adds sink (inside_from (numbered_of old) (styling_of old) (lined_of old) calls)
      (output_of old) (output_of new)
