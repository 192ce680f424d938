-- What an update compares of two screens: all, or what the wanted one has noted.
use Rattle.std.specs.Prelude.{◌≡◌}
use Rattle.ansi_screen.specs.Display.{Display}
use Rattle.ansi_screen.specs.State.{State}
use Rattle.ansi_screen.specs.Following.{IsShownOf}
use Rattle.screen_draw.specs.declared.changed.Compared.{Compared}
use Rattle.screen_draw.specs.declared.changed.Compared.TheVariants.{Noted}

-- Both have one size; and where only what the wanted one has noted is compared, that is all in which they differ.
pub record AreCompared (compared : Compared) (shown wanted : State) : Type 0 where
  pub width : shown.display.width ≡ wanted.display.width
  pub height : shown.display.height ≡ wanted.display.height
  pub noted : compared ≡ Noted → IsShownOf wanted shown

-- The frame of `Alike`: the same alternate screen or main one, what it covers, what is saved, tabs.
pub record KeepsFrame (old new : Display) : Type 0 where
  pub alternate : new.is_alternate ≡ old.is_alternate
  pub hidden : new.hidden ≡ old.hidden
  pub saved : new.saved ≡ old.saved
  pub hidden_saved : new.hidden_saved ≡ old.hidden_saved
  pub tabs : new.tabs ≡ old.tabs
