-- What laws speak of.
use Rattle.std.specs.Prelude.{◌≡◌, ℕ, List}
use Rattle.anstyle_parse.specs.Stream.Call.{Call}
use Rattle.anstyle_parse.specs.Stream.Calls.{AreCalls}
use Rattle.ansi_screen.specs.After.{after_all}
use Rattle.ansi_screen.specs.History.{with_left}
use Rattle.ansi_screen.specs.Leaving.{with_kept}
use Rattle.ansi_modes.specs.Asked.{asked_after_all}
use Rattle.ansi_answers.specs.Laws.{request_after_all}
use Rattle.screen_html.specs.Page.{all_links}
use Rattle.screen_answers.specs.declared.answering.Answering.{Answering}
use Rattle.screen_answers.specs.Answering.{answering_after_all}
use Rattle.screen_answers.specs.Kept.{all_kept}

-- from what it was, bytes lead by their calls to what it is
abbrev pub Answers : Answering → List ℕ → Answering → Type 0
Answers old bytes new = (calls : List Call) × AreCalls bytes calls × (new ≡ answering_after_all calls old)

-- Each part goes by the calls as it does by itself, but that a screen keeps the last of the rows that are kept; and the
-- terminal's own colours stay.
pub record GoByThemselves (calls : List Call) (old new : Answering) : Type 0 where
  pub screen : new.screen ≡ with_kept
      (with_left (all_kept old.keeps_erased calls old.screen) old.screen.history) (after_all calls old.screen)
  pub links : new.links ≡ all_links calls old.screen old.links
  pub asked : new.asked ≡ asked_after_all calls old.asked
  pub request : new.request ≡ request_after_all calls old.request
  pub theme : new.theme ≡ old.theme
  pub keeps_erased : new.keeps_erased ≡ old.keeps_erased
