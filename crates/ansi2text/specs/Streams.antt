-- What a maker of performers shows, and what is written of what a screen showed without hidden text.
use Rattle.std.specs.Prelude.{ℕ, Bool, List, if◌then◌else◌}
use Rattle.ansi_strip.specs.Inert.{inert_text}
use Rattle.ansi_style.specs.Style.{plain}
use Rattle.anstyle_parse.specs.Stream.Call.{Call}
use Rattle.each_source.specs.Each.{Given}
use Rattle.safe_text.specs.Marks.{safe_marked}
use Rattle.screen_calls.specs.Calls.{shown_calls}
use Rattle.screen_text.specs.declared.recording.ShownSize.{ShownSize}
use Rattle.screen_text.specs.Recording.{screen_for}
use Rattle.without_hidden.specs.Hidden.{without_hidden}
use Rattle.ansi2text.specs.declared.streams.Showing.{Showing}

-- which size its screens have
abbrev pub size_of : Showing → ShownSize
size_of showing = showing.size

-- the calls of what was shown of a source, without those that print hidden text
abbrev pub visible_calls : ShownSize → Given → List Call
visible_calls size given = without_hidden plain (shown_calls (screen_for size given.read) given.calls)

-- their text, and their safe text
abbrev pub visible_text : ShownSize → Given → List ℕ
visible_text size given = inert_text (visible_calls size given)

abbrev pub visible_safe : ShownSize → Given → List ℕ
visible_safe size given = safe_marked (visible_calls size given)

abbrev pub visible : (safe : Bool) → ShownSize → Given → List ℕ
visible safe size given = if safe then visible_safe size given else visible_text size given
