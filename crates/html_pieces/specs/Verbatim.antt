-- Where verbatim text is written as it is.
use Rattle.std.specs.Prelude.{◌≡◌, false, []}
use Rattle.stream_state.specs.State.{pending_of}
use Rattle.html_pieces.specs.declared.state.HtmlState.{HtmlState}
use Rattle.html_pieces.specs.State.{held_element}
use Rattle.ansi_style.specs.Bytes.{is_set}

-- In the midst of text: no sequence and no character is begun, what is selected is what the last text stands in,
-- and that was not 0D.
pub record IsInText (state : HtmlState) : Type 0 where
  pub nothing_pending : pending_of state.stream ≡ []
  pub same_element : held_element state.shown ≡ held_element state.selected
  pub not_returned : is_set state.returned ≡ false
