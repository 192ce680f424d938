-- What the laws speak of.
use Rattle.std.specs.Prelude.{◌≡◌}
use Rattle.ansi_screen.specs.Display.{Display}

-- DECAWM, IRM and DECTCEM are those of another display.
abbrev pub HasModes : Display → Display → Type 0
HasModes drawn d = (d.wraps ≡ drawn.wraps) × (d.inserts ≡ drawn.inserts) × (d.is_visible ≡ drawn.is_visible)
