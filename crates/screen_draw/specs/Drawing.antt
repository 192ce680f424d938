-- What drawing adds to an output.
use Rattle.std.specs.Prelude.{◌≡◌, ◌⊎◌, Bool, false, ◌&&◌, ◌==◌, List, [], ◌∷◌, IsTrue}
use Rattle.std.specs.List.{AllByRecursion}
use Rattle.anstyle_parse.specs.declared.io.devices.Sink.{Ghosts as SinkOf}
use Rattle.anstyle_parse.specs.declared.io.output.Output.{Output}
use Rattle.anstyle_parse.specs.Io.Output.{Adds}
use Rattle.anstyle_parse.specs.Stream.Call.{Call, print, execute, csi_dispatch, esc_dispatch}
use Rattle.anstyle_parse.specs.Stream.Canon.{canon}
use Rattle.anstyle_parse.specs.Laws.Lawful.{is_character, IsHeaderCall, IsEscapeCall}
use Rattle.ansi_screen.specs.Widths.{is_shown}

-- A character that is shown, SO or SI, a control sequence or an escape sequence: no other control, no string.
abbrev pub IsDrawing : Call → Type 0
IsDrawing (print c) = IsTrue (is_character c) × IsTrue (is_shown c)
IsDrawing (execute byte) = (byte ≡ 0x0E) ⊎ (byte ≡ 0x0F)
IsDrawing (csi_dispatch groups intermediates ignore final) =
    IsHeaderCall groups intermediates ignore final × (ignore ≡ false)
IsDrawing (esc_dispatch intermediates ignore final) = IsEscapeCall intermediates ignore final × (ignore ≡ false)
IsDrawing call = ⊥

-- RIS and DECSTR
abbrev pub is_reset : Call → Bool
is_reset (esc_dispatch [] ignore final) = final == 0x63
is_reset (csi_dispatch groups (mark ∷ []) ignore final) = mark == 0x21 && final == 0x70
is_reset call = false

abbrev pub HaveNoReset : List Call → Type 0
HaveNoReset calls = AllByRecursion (λ call. is_reset call ≡ false) calls

-- The canonical text of calls is added, and they are such calls alone.
pub record Draws {W : Type 0} (sink : SinkOf W) (calls : List Call) (old new : Output W) : Type 0 where
  pub added : Adds sink (canon calls) old new
  pub drawing : AllByRecursion IsDrawing calls
