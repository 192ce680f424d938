-- What a performer that leaves hidden text out shows, and what calls do to it.
use Rattle.std.specs.Prelude.{◌≡◌, Bool, true, false, List}
use Rattle.anstyle_parse.specs.Stream.Call.{Call}
use Rattle.ansi_style.specs.declared.style.Style.{Style}
use Rattle.ansi_style.specs.Style.{plain}
use Rattle.ansi_style.specs.Rendition.{style_after}
use Rattle.without_hidden.specs.declared.performer.WithoutHidden.{WithoutHidden}
use Rattle.without_hidden.specs.Hidden.{stays, without_hidden, style_from}

-- the performer that it hands on to, and the style of the text that comes next
abbrev pub performer_in : {P : Type 0} → WithoutHidden P → P
performer_in it = it.performer

abbrev pub style_in : {P : Type 0} → WithoutHidden P → Style
style_in it = it.style

-- a call is handed on, or nothing changes
abbrev pub HandsOnWhere : {P : Type 0} → Bool → (means : P → Call → P → Type 0) → P → Call → P → Type 0
HandsOnWhere true means old call new = means old call new
HandsOnWhere false means old call new = new ≡ old

-- a call comes
pub record HandsOn {P : Type 0} (means : P → Call → P → Type 0) (old : WithoutHidden P) (call : Call)
    (new : WithoutHidden P) : Type 0 where
  pub performer : HandsOnWhere (stays (style_in old) call) means (performer_in old) call (performer_in new)
  pub style : style_in new ≡ style_after call (style_in old)

-- of a list of calls it receives those that stay
pub record ReceivesShown {P : Type 0} (receives : P → List Call → P → Type 0) (old : WithoutHidden P)
    (calls : List Call) (new : WithoutHidden P) : Type 0 where
  pub performer : receives (performer_in old) (without_hidden (style_in old) calls) (performer_in new)
  pub style : style_in new ≡ style_from (style_in old) calls

-- it stands at the start of a stream
pub record IsNewShown {P : Type 0} (is_new : P → Type 0) (it : WithoutHidden P) : Type 0 where
  pub performer : is_new (performer_in it)
  pub style : style_in it ≡ plain
