-- The screen that shows a stream is that of the whole stream, once bytes at its front decide the size.
use Rattle.std.proofs.Common.{◌≡◌, true, ℕ, List, [], ◌++◌, ap, sym, ◌∙◌}
use Rattle.std.specs.Prelude.{◌⊎◌}
use Rattle.ansi_screen.specs.After.{State}
use Rattle.each_source.specs.Each.{Given, BeginsWith}
use Rattle.screen_text.specs.declared.recording.ShownSize.{ShownSize}
use Rattle.screen_text.specs.Recording.{is_decided, screen_for}

pub screen-read : (shown : ShownSize) (front : List ℕ) (screen : State) (given : Given) → BeginsWith (is_decided shown) front given
    → ((rest : List ℕ) → (is_decided shown front ≡ true) ⊎ (rest ≡ []) → screen ≡ screen_for shown (front ++ rest))
    → screen ≡ screen_for shown given.read
screen-read shown front screen given begins stays =
    let (rest, read, enough) = begins in
    stays rest enough ∙ ap (λ bytes. screen_for shown bytes) (sym read)
